-- Texts of digits.
use Rattle.std.proofs.Common.{◌≡◌, ℕ, Bool, true, false, List, [], ◌∷◌, refl, length, Some, None, ◌&&◌, cond, nat_lt, lt-ltb, ltb-true}
use Rattle.std.specs.List.{list_all}
use Rattle.std.specs.Char.{digit_value}
use Rattle.std.specs.Str.Parse.{AllDigits, IsNumeral, digits_value, without_leading_plus}
use Rattle.evm_words.specs.Words.{Text, number_of}

abbrev all_are : List ℕ → Bool
all_are ds = list_all (λ d. nat_lt (digit_value d) 10) ds

all_digits : (ds : List ℕ) → AllDigits 10 ds → all_are ds ≡ true
all_digits [] h = refl
all_digits (d ∷ ds) h = let first : nat_lt (digit_value d) 10 ≡ true = lt-ltb _ _ h.0 in rw first (all_digits ds h.1)

digits_all : (ds : List ℕ) → all_are ds ≡ true → AllDigits 10 ds
digits_all [] h = tt
digits_all (d ∷ ds) h = by_first (nat_lt (digit_value d) 10) refl h (digits_all ds)
  where
    by_first : (t : Bool) → nat_lt (digit_value d) 10 ≡ t → (t && all_are ds) ≡ true → (all_are ds ≡ true → AllDigits 10 ds) → AllDigits 10 (d ∷ ds)
    by_first true e h rest = (ltb-true _ _ e, rest h)
    by_first false e h rest = absurd (cc h)

pub number_is : (v : Text) → IsNumeral 10 (without_leading_plus v) → number_of v ≡ Some (digits_value 10 (without_leading_plus v))
number_is v h =
    let each : all_are (without_leading_plus v) ≡ true = all_digits (without_leading_plus v) h.1 in
    let some : nat_lt 0 (length (without_leading_plus v)) ≡ true = lt-ltb _ _ h.0 in
    rw (each, some) refl

pub record Numeral (v : Text) (n : ℕ) : Type 0 where
  pub is : IsNumeral 10 (without_leading_plus v)
  pub value : digits_value 10 (without_leading_plus v) ≡ n

pub numeral_of : (v : Text) (n : ℕ) → number_of v ≡ Some n → Numeral v n
numeral_of v n e = by_tests (all_are (without_leading_plus v)) (nat_lt 0 (length (without_leading_plus v))) refl refl e
  where
    by_tests : (s t : Bool) → all_are (without_leading_plus v) ≡ s → nat_lt 0 (length (without_leading_plus v)) ≡ t
        → cond (s && t) (Some (digits_value 10 (without_leading_plus v))) None ≡ Some n → Numeral v n
    by_tests true true p q e = record { is = (ltb-true _ _ q, digits_all _ p); value = cc }
    by_tests true false p q e = absurd (cc e)
    by_tests false t p q e = absurd (cc e)
