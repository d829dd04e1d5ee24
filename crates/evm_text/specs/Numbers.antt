-- Numbers in plain decimal, each a word.
use Rattle.std.specs.Prelude.{ℕ, ◌+◌, ◌-◌, ◌*◌, ◌^◌, Bool, ◌&&◌, nat_eq, nat_le, if◌then◌else◌, List, [], ◌∷◌, length, drop, slice_index, Option, None, Some, ℤ, pos, neg_ℤ, int_le, option_map}
use Rattle.std.specs.List.{list_all}

-- the most digits of a number
abbrev pub digits_max : ℕ
digits_max = 10

-- 0 to 9
abbrev pub is_digit : ℕ → Bool
is_digit b = nat_le 48 b && nat_le b 57

-- the value of digits, the first of which counts most
abbrev pub digits_value : List ℕ → ℕ
digits_value [] = 0
digits_value (d ∷ ds) = (d - 48) * 10 ^ length ds + digits_value ds

-- one to ten digits
abbrev pub is_digits : List ℕ → Bool
is_digits ds = list_all is_digit ds && nat_le 1 (length ds) && nat_le (length ds) digits_max

-- the number that digits alone stand for; zeros before them count for nothing
abbrev pub digits : List ℕ → Option ℤ
digits ds = if is_digits ds then Some (pos (digits_value ds)) else None

-- a number: digits, with a minus sign before them or without
unfoldable pub number : List ℕ → Option ℤ
number word = if nat_eq (slice_index word 0) 45 then option_map neg_ℤ (digits (drop 1 word)) else digits word

-- one number before others, where all are numbers
abbrev pub cons_number : Option ℤ → Option (List ℤ) → Option (List ℤ)
cons_number None rest = None
cons_number (Some n) None = None
cons_number (Some n) (Some ns) = Some (n ∷ ns)

-- words as numbers, if each is one
abbrev pub numbers : List (List ℕ) → Option (List ℤ)
numbers [] = Some []
numbers (word ∷ rest) = cons_number (number word) (numbers rest)

-- the greatest number, of ten digits
abbrev pub num_max : ℕ
num_max = 9999999999

-- the numbers that ten digits state, with either sign
abbrev pub in_number_range : ℤ → Bool
in_number_range n = int_le (neg_ℤ (pos num_max)) n && int_le n (pos num_max)
