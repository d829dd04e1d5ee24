-- Numbers in plain decimal, read again.
use Rattle.std.proofs.Common.{◌≡◌, ℕ, suc, ◌+◌, ◌/◌, ◌%◌, ◌^◌, ◌<◌, ◌≤◌, Bool, true, false, ◌&&◌, List, [], ◌∷◌, ◌++◌, length, get_or, map, drop, refl, ◌∙◌, ap, arith, nat_eq, nat_lt, nat_le, ℤ, pos, negsuc, neg_ℤ, Option, Some, None, if◌then◌else◌}
use Rattle.std.specs.Prelude.{slice_index, option_map}
use Rattle.std.specs.Fmt.{decimal, signed_decimal}
use Rattle.std.specs.List.{list_all}
use Rattle.std.proofs.lemmas.Fmt.{decimal_by_steps, decimal_nonempty, length-decimal-le}
use Rattle.std.proofs.lemmas.List.Folds.{list_all-append}
use Rattle.std.proofs.lemmas.List.Sums.{AllPass-from_list_all}
use Rattle.std.proofs.lemmas.Bool.{and_parts, and_from, leb-true, le-leb}
use Rattle.std.proofs.lemmas.Bool.Decides.{nat_tests}
use Rattle.evm_text.specs.Numbers.{is_digit, is_digits, digits, digits_value, number, in_number_range, digits_max, numbers, cons_number}
use Rattle.evm_text.proofs.Digits.{value_more}
use Rattle.evm_text.proofs.Spaced.{is_plain}

-- digits that have this value
pub record HasValue (n : ℕ) (ds : List ℕ) : Type 0 where
  pub each : list_all is_digit ds ≡ true
  pub value : digits_value ds ≡ n

one_digit : (n : ℕ) → n < 10 → HasValue n ((48 + n) ∷ [])
one_digit n h = record { each = grind (arith, nat_tests); value = omega arith }

digit_more : (n : ℕ) (ds : List ℕ) → 10 ≤ n → HasValue (n / 10) ds → HasValue n (ds ++ (48 + n % 10) ∷ [])
digit_more n ds h have = record {
  each = list_all-append is_digit ds ((48 + n % 10) ∷ [])
      ∙ and_from (list_all is_digit ds) _ have.each (and_from (is_digit (48 + n % 10)) true (let small : n % 10 < 10 = omega arith in grind (arith, nat_tests)) refl);
  value = value_more ds (48 + n % 10) ∙ (let v = have.value in omega arith);
}

has_value : (n : ℕ) → n < 2 ^ 64 → HasValue n (decimal n)
has_value = decimal_by_steps HasValue one_digit digit_more

ten_digits : (n : ℕ) → n ≤ 9999999999 → is_digits (decimal n) ≡ true
ten_digits n h =
    let fits : n < 2 ^ 64 = omega arith in
    let few : length (decimal n) ≤ 10 = length-decimal-le 10 n (omega arith) (omega arith) fits in
    and_from (list_all is_digit (decimal n) && nat_le 1 (length (decimal n))) _
    (and_from (list_all is_digit (decimal n)) _ (has_value n fits).each (le-leb 1 (length (decimal n)) (decimal_nonempty n fits)))
    (le-leb (length (decimal n)) digits_max few)

pub digits_again : (n : ℕ) → n ≤ 9999999999 → digits (decimal n) ≡ Some (pos n)
digits_again n h =
    ap (λ (b : Bool). if b then Some (pos (digits_value (decimal n))) else None) (ten_digits n h)
    ∙ ap (λ (k : ℕ). Some (pos k)) (has_value n (omega arith)).value

no_minus : (ds : List ℕ) → is_digits ds ≡ true → nat_eq (slice_index ds 0) 45 ≡ false
no_minus ds h =
    let outer = and_parts (list_all is_digit ds && nat_le 1 (length ds)) _ h in
    let inner = and_parts (list_all is_digit ds) _ outer.0 in
    let some : 0 < length ds = leb-true 1 (length ds) inner.1 in
    let first : is_digit (get_or ds 0 0) ≡ true = AllPass-from_list_all is_digit ds inner.0 0 0 some in
    grind (arith, nat_tests)

-- a number in range, read again
pub number_again : (z : ℤ) → in_number_range z ≡ true → number (signed_decimal z) ≡ Some z
unfolding number
number_again (pos n) h =
    let small : n ≤ 9999999999 = leb-true n 9999999999 h in
    ap (λ (b : Bool). if b then option_map neg_ℤ (digits (drop 1 (decimal n))) else digits (decimal n)) (no_minus (decimal n) (ten_digits n small))
    ∙ digits_again n small
number_again (negsuc n) h =
    let small : n ≤ 9999999998 = leb-true n 9999999998 (and_parts (nat_le n 9999999998) true h).0 in
    ap (option_map neg_ℤ) (digits_again (suc n) (omega arith))

pub numbers_again : (zs : List ℤ) → list_all in_number_range zs ≡ true → numbers (map signed_decimal zs) ≡ Some zs
numbers_again [] h = refl
numbers_again (z ∷ zs) h =
    let both = and_parts (in_number_range z) _ h in
    ap (λ (o : Option ℤ). cons_number o (numbers (map signed_decimal zs))) (number_again z both.0)
    ∙ ap (cons_number (Some z)) (numbers_again zs both.1)

-- decimals are plain words
plain_digits : (ds : List ℕ) → list_all is_digit ds ≡ true → list_all (nat_lt 32) ds ≡ true
plain_digits [] h = refl
plain_digits (d ∷ ds) h =
    let both = and_parts (is_digit d) _ h in
    let first = both.0 in
    and_from (nat_lt 32 d) _ (grind (arith, nat_tests)) (plain_digits ds both.1)

plain_decimal : (n : ℕ) → n ≤ 9999999999 → (list_all (nat_lt 32) (decimal n) ≡ true) × (1 ≤ length (decimal n)) × (length (decimal n) ≤ 10)
plain_decimal n h =
    let outer = and_parts (list_all is_digit (decimal n) && nat_le 1 (length (decimal n))) _ (ten_digits n h) in
    let inner = and_parts (list_all is_digit (decimal n)) _ outer.0 in
    (plain_digits (decimal n) inner.0, leb-true 1 (length (decimal n)) inner.1, leb-true (length (decimal n)) 10 outer.1)

plain_from : (w : List ℕ) → list_all (nat_lt 32) w ≡ true → 1 ≤ length w → length w ≤ 64 → is_plain w ≡ true
plain_from w a b c = and_from (list_all (nat_lt 32) w) _ a (and_from (nat_le 1 (length w)) _ (le-leb 1 (length w) b) (le-leb (length w) 64 c))

pub plain_number : (z : ℤ) → in_number_range z ≡ true → is_plain (signed_decimal z) ≡ true
plain_number (pos n) h =
    let p = plain_decimal n (leb-true n 9999999999 h) in
    plain_from (decimal n) p.0 p.1 (omega (arith, p.2))
plain_number (negsuc n) h =
    let small : n ≤ 9999999998 = leb-true n 9999999998 (and_parts (nat_le n 9999999998) true h).0 in
    let p = plain_decimal (suc n) (omega arith) in
    plain_from (45 ∷ decimal (suc n)) p.0 (omega (arith, p.1)) (omega (arith, p.2))

pub plain_numbers : (zs : List ℤ) → list_all in_number_range zs ≡ true → list_all is_plain (map signed_decimal zs) ≡ true
plain_numbers [] h = refl
plain_numbers (z ∷ zs) h =
    let both = and_parts (in_number_range z) _ h in
    and_from (is_plain (signed_decimal z)) _ (plain_number z both.0) (plain_numbers zs both.1)
