-- The script that a seed and a number of edits make.
use Rattle.std.specs.Prelude.{ℕ, zero, suc, ◌+◌, ◌*◌, ◌%◌, nat_eq, if◌then◌else◌, ℤ, pos, List, [], ◌∷◌, ◌++◌, codes}
use Rattle.evm_text.specs.Lines.{text_of}
use Rattle.evm_text.specs.Spaced.{behind_spaces}

-- the number that a seed gives
abbrev pub first_number : ℕ → ℕ
first_number seed = 1 + seed % 2147483646

-- the number behind a number
abbrev pub next_number : ℕ → ℕ
next_number x = (16807 * x) % 2147483647

-- the number so many places behind a number
abbrev pub number_behind : ℕ → ℕ → ℕ
number_behind zero x = x
number_behind (suc k) x = number_behind k (next_number x)

-- the draw so many places behind a number: one of 0 to most - 1
abbrev pub drawn : ℕ → ℕ → ℕ → ℕ
drawn k most x = number_behind k x % most

-- the name for a draw
abbrev pub name_word : ℕ → List ℕ
name_word n = if nat_eq n 0 then codes "a" else if nat_eq n 1 then codes "b" else codes "c"

-- the command for a draw
abbrev pub command_word : ℕ → List ℕ
command_word n = if nat_eq n 0 then codes "toggle" else if nat_eq n 1 then codes "add" else codes "cut"

-- the ends of an edit's box along the axis whose first draw is the k-th behind a number
abbrev pub low : ℕ → ℕ → ℕ
low k x = drawn k 60 x

abbrev pub high : ℕ → ℕ → ℕ
high k x = low k x + 1 + drawn (suc k) 4 x

-- the lower and then the upper corner of an edit's box
abbrev pub corners : ℕ → List ℤ
corners x =
    pos (low 3 x) ∷ pos (low 5 x) ∷ pos (low 7 x) ∷ pos (high 3 x) ∷ pos (high 5 x) ∷ pos (high 7 x) ∷ []

-- the edit whose draws are the eight behind a number: its name, its command, and two draws for each axis
abbrev pub edit_line : ℕ → List ℕ
edit_line x =
    command_word (drawn 2 3 x) ++ 32 ∷ name_word (drawn 1 3 x) ++ behind_spaces (corners x)

-- so many edits, each from where the one before stopped
abbrev pub edit_lines : ℕ → ℕ → List (List ℕ)
edit_lines zero x = []
edit_lines (suc n) x = edit_line x ∷ edit_lines n (number_behind 8 x)

-- the lines before the edits
abbrev pub first_lines : List (List ℕ)
first_lines =
    codes "input a 3" ∷ codes "input b 3" ∷ codes "input c 3" ∷ codes "def u or a b" ∷ codes "def v sub u c"
    ∷ codes "def p proj v 3" ∷ codes "def s shift v 1 2 3" ∷ codes "def w xor u s" ∷ []

-- the lines behind them
abbrev pub last_lines : List (List ℕ)
last_lines =
    codes "content u" ∷ codes "boundary u" ∷ codes "content p" ∷ codes "boundary p" ∷ codes "content w" ∷ codes "boundary w" ∷ []

-- all lines of the script
abbrev pub generated_lines : ℕ → ℕ → List (List ℕ)
generated_lines seed edits = first_lines ++ edit_lines edits (first_number seed) ++ last_lines

-- the script as a text
abbrev pub generated_script : ℕ → ℕ → List ℕ
generated_script seed edits = text_of (generated_lines seed edits)
