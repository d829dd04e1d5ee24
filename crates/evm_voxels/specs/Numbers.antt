-- Numbers as far as 32 bits go, which is what the code keeps of a number with digits of any length.
use Rattle.std.specs.Prelude.{ℕ, min, List}
use Rattle.evm_formats.specs.Header.{Fields}

-- the greatest number of 32 bits
abbrev pub word_max : ℕ
word_max = 4294967295

-- greater numbers are kept as the greatest: they are refused alike
abbrev pub capped : ℕ → ℕ
capped n = min n word_max

abbrev pub capped_number : ℕ × List ℕ → ℕ × List ℕ
capped_number r = (capped r.0, r.1)

abbrev pub capped_fields : Fields → Fields
capped_fields f = record { width = capped f.width; height = capped f.height; maxval = capped f.maxval; rest = f.rest }
