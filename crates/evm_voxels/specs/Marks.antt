-- Filled samples as bits of words, image after image.
use Rattle.std.specs.Prelude.{◌≡◌, ℕ, ◌+◌, ◌*◌, ◌/◌, ◌%◌, ◌<◌, ◌==◌, Bool, List, length, take, slice_index}
use Rattle.std.specs.Int.{bit_at}

-- bit k of a word
abbrev pub bit_on : ℕ → ℕ → Bool
bit_on k word = bit_at word k == 1

-- bit i of words of 32 bits
unfoldable pub is_marked : List ℕ → ℕ → Bool
is_marked marks i = bit_on (i % 32) (slice_index marks (i / 32))

-- the mark of place (x, y, z), where images begin `pitch` bits apart
unfoldable pub marked_at : List ℕ → ℕ → ℕ → ℕ → ℕ → ℕ → Bool
marked_at marks pitch width x y z = is_marked marks (z * pitch + (y * width + x))

-- the new words are the old ones and then the least number of words that holds `count` marks: mark i of these is test i
pub record HasMarks (old new : List ℕ) (count : ℕ) (test : ℕ → Bool) : Type 0 where
  pub old_stay : take (length old) new ≡ old
  pub size : length new ≡ length old + (count + 31) / 32
  pub marks : (i : ℕ) → i < count → is_marked new (32 * length old + i) ≡ test i
