-- White space, comments and numbers of a PGM header.
use Rattle.std.specs.Prelude.{ℕ, ◌==◌, nat_le, Bool, true, false, not, cond, ◌&&◌, ◌||◌, List, [], ◌∷◌, Option, Some, None, option_and_then}
use Rattle.evm_text.specs.Numbers.{is_digit, digits_value}

-- space, TAB, LF, VT, FF, CR
abbrev pub is_white : ℕ → Bool
is_white b = (b == 32) || (nat_le 9 b && nat_le b 13)

-- LF and CR end a comment
abbrev pub is_end : ℕ → Bool
is_end b = (b == 10) || (b == 13)

-- white space, or the # that begins a comment
abbrev pub is_blank : ℕ → Bool
is_blank b = is_white b || (b == 35)

-- what follows the white space and the comments in front; where `inside` a comment, what follows its end and those
unfoldable pub after_blank : Bool → List ℕ → List ℕ
after_blank inside [] = []
after_blank true (b ∷ bs) = after_blank (not (is_end b)) bs
after_blank false (b ∷ bs) = cond (is_white b) (after_blank false bs) (cond (b == 35) (after_blank true bs) (b ∷ bs))

-- the digits in front, and what follows them
unfoldable pub digits : List ℕ → List ℕ
digits [] = []
digits (b ∷ bs) = cond (is_digit b) (b ∷ digits bs) []

unfoldable pub after_digits : List ℕ → List ℕ
after_digits [] = []
after_digits (b ∷ bs) = cond (is_digit b) (after_digits bs) (b ∷ bs)

-- the first byte passes the test
abbrev pub begins : (ℕ → Bool) → List ℕ → Bool
begins test [] = false
begins test (b ∷ bs) = test b

-- a separator, which is one or more white space bytes and comments, and then a number, whose digits are as many as stand
-- there: its value, and what follows it
unfoldable pub spaced_number : List ℕ → Option (ℕ × List ℕ)
spaced_number bs =
    let found = after_blank false bs in
    cond (begins is_blank bs && begins is_digit found) (Some (digits_value (digits found), after_digits found)) None

-- the numbers of a header, and what follows it
pub record Fields : Type 0 where
  pub width : ℕ
  pub height : ℕ
  pub maxval : ℕ
  pub rest : List ℕ

-- the single white space byte after the numbers
unfoldable pub ended : ℕ → ℕ → ℕ → List ℕ → Option Fields
ended width height maxval [] = None
ended width height maxval (b ∷ bs) =
    cond (is_white b) (Some (record { width = width; height = height; maxval = maxval; rest = bs })) None

abbrev pub maxval_and_end : ℕ → ℕ → List ℕ → Option Fields
maxval_and_end width height bs = option_and_then (λ (m : ℕ × List ℕ). ended width height m.0 m.1) (spaced_number bs)

abbrev pub height_on : ℕ → List ℕ → Option Fields
height_on width bs = option_and_then (λ (h : ℕ × List ℕ). maxval_and_end width h.0 h.1) (spaced_number bs)

-- the three numbers after the magic, and what follows the single white space byte
unfoldable pub fields : List ℕ → Option Fields
fields bs = option_and_then (λ (w : ℕ × List ℕ). height_on w.0 w.1) (spaced_number bs)
