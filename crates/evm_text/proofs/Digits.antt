-- The value of digits, one more at the end.
use Rattle.std.proofs.Common.{◌≡◌, ℕ, zero, suc, ◌+◌, ◌-◌, ◌*◌, ◌^◌, ◌<◌, ◌≤◌, true, List, [], ◌∷◌, ◌++◌, pos, neg_ℤ, length, take, get_or, nat_le, refl, ◌∙◌, ap, arith}
use Rattle.std.proofs.lemmas.List.{take_more, length-append}
use Rattle.std.proofs.Math.Nat.{pow-suc, pow-le-pow_right}
use Rattle.std.specs.List.{list_all}
use Rattle.std.proofs.lemmas.List.Sums.{AllPass-from_list_all}
use Rattle.std.proofs.lemmas.Bool.Decides.{nat_tests}
use Rattle.evm_text.specs.Numbers.{digits_value, is_digit, in_number_range}
use Rattle.std.proofs.lemmas.Bool.{le-leb, and_from}

-- one digit more
pub value_more : (ds : List ℕ) (d : ℕ) → digits_value (ds ++ d ∷ []) ≡ digits_value ds * 10 + (d - 48)
value_more [] d = omega arith
value_more (x ∷ ds) d =
    let p = pow-suc 10 (length ds) in
    let l : length (ds ++ d ∷ []) ≡ suc (length ds) = length-append ds (d ∷ []) ∙ omega arith in
    ap (λ (n : ℕ). (x - 48) * 10 ^ n + digits_value (ds ++ d ∷ [])) l
    ∙ ap (λ (n : ℕ). (x - 48) * n + digits_value (ds ++ d ∷ [])) p
    ∙ ap (λ (n : ℕ). (x - 48) * (10 ^ length ds * 10) + n) (value_more ds d)
    ∙ grind arith

-- the same in a loop over the digits
pub value_step : (ds : List ℕ) (i : ℕ) → i < length ds → digits_value (take (i + 1) ds) ≡ digits_value (take i ds) * 10 + (get_or ds i 0 - 48)
value_step ds i h = ap digits_value (take_more ds i 0 h) ∙ value_more (take i ds) (get_or ds i 0)

-- a value below a power of ten, one digit on
pub small_more : (i v d : ℕ) → v < 10 ^ i → d ≤ 9 → v * 10 + d < 10 ^ (i + 1)
small_more i v d h k = omega (arith, pow-suc 10 i, ap (λ (n : ℕ). 10 ^ n) (let e : i + 1 ≡ suc i = omega arith in e))

-- ten digits are below ten to the ten
pub small_at : (i v : ℕ) → v < 10 ^ i → i ≤ 10 → v < 10000000000
small_at i v h k = let p : 10 ^ i ≤ 10 ^ 10 = pow-le-pow_right (omega arith) k in omega (arith, p)

-- the bytes of digits
pub digit_bounds : (b : ℕ) → is_digit b ≡ true → (48 ≤ b) × (b ≤ 57)
digit_bounds b h = grind (arith, nat_tests)

-- a byte of a word of digits is a digit
pub digit_in : (ds : List ℕ) (i : ℕ) → list_all is_digit ds ≡ true → i < length ds → is_digit (get_or ds i 0) ≡ true
digit_in ds i h lt = AllPass-from_list_all is_digit ds h i 0 lt

-- a value of ten digits is in the range of numbers, with either sign
pub range_pos : (v : ℕ) → v < 10000000000 → in_number_range (pos v) ≡ true
range_pos v h = le-leb v 9999999999 (omega arith)

pub range_neg : (v : ℕ) → v < 10000000000 → in_number_range (neg_ℤ (pos v)) ≡ true
range_neg zero h = refl
range_neg (suc n) h = and_from (nat_le n 9999999998) true (le-leb n 9999999998 (omega arith)) refl
