-- The answer of `place`, from the parities of the rows that are level with the point.
use Rattle.std.proofs.Common.{◌≡◌, ℕ, ◌%◌, ◌^◌, ◌<◌, ◌≤◌, Bool, true, false, cond, ◌&&◌, ◌==◌, List, count_by, ℤ, refl, sym, ap, ◌∙◌, arith, eqb-true, eq-eqb}
use Rattle.std.specs.Int.{bit_at}
use Rattle.std.proofs.Math.Nat.{pow-le-pow_right}
use Rattle.std.proofs.lemmas.Bool.{false≢true}
use Rattle.std.proofs.lemmas.Nat.Bits.{bit_at-zero, bit_at-pow_same, bit_at-pow_other, bit_at-lt, same_from_bits}
use Rattle.evm_cells.specs.Limits.{is_point}
use Rattle.evm_cells.specs.Vertices.{cells, around, odd, IsVertexList}
use Rattle.evm_cells.specs.Measures.{is_inside, is_outside}
use Rattle.evm_cells.proofs.Xor.{xsum, odd-count}
use Rattle.evm_cells.proofs.Order.{refuted}
use Rattle.evm_cells.proofs.Universe.{point_parts}
use Rattle.evm_member.specs.declared.outcome.Place.TheVariants.{Inside, Boundary, Outside}
use Rattle.evm_member.specs.Levels.{is_level}
use Rattle.evm_member.specs.Place.{place_of}
use Rattle.evm_member.proofs.Round.{Level, full_from_level, none_from_level, level_from_full, level_from_none}

-- the bits of the number are the parities of the rows
abbrev pub Told : ℕ → List (List ℤ) → List ℤ → Type 0
Told n V p = (i : ℕ) → bit_at n i ≡ count_by (is_level p i) V % 2

told-sum : (m : ℕ) (V : List (List ℤ)) (p : List ℤ) → Told m V p → (i : ℕ) → (bit_at m i == 1) ≡ xsum (is_level p i) V
unfolding odd
told-sum m V p t i = ap (λ b. b == 1) (t i) ∙ odd-count (is_level p i) V

-- a bit that is 1 exactly where a test passes
bit_from : (m i : ℕ) (b : Bool) → (bit_at m i == 1) ≡ b → bit_at m i ≡ cond b 1 0
bit_from m i true e = eqb-true (bit_at m i) 1 e
bit_from m i false e = let l = bit_at-lt m i in below_two (bit_at m i) l (λ q. false≢true (sym e ∙ eq-eqb (bit_at m i) 1 q))
  where
    below_two : (b : ℕ) → b < 2 → (b ≡ 1 → ⊥) → b ≡ 0
    below_two b l f = omega arith

one-bits : (i : ℕ) → bit_at 1 i ≡ cond (i == 0) 1 0
one-bits i = at (i == 0) refl
  where
    at : (b : Bool) → (i == 0) ≡ b → bit_at 1 i ≡ cond b 1 0
    at true e = ap (bit_at 1) (eqb-true i 0 e) ∙ bit_at-pow_same 0
    at false e = bit_at-pow_other 0 i (λ q. false≢true (sym e ∙ eq-eqb i 0 q))

-- the number is 0 exactly if no parity is odd, and 1 exactly if that of the empty set of axes alone is
level_zero : (m : ℕ) (V : List (List ℤ)) (p : List ℤ) → Told m V p → m ≡ 0 → Level p V false
level_zero m V p t e = λ i. sym (told-sum m V p t i) ∙ ap (λ k. bit_at k i == 1) e ∙ ap (λ b. b == 1) (bit_at-zero i)

level_one : (m : ℕ) (V : List (List ℤ)) (p : List ℤ) → Told m V p → m ≡ 1 → Level p V true
level_one m V p t e = λ i. sym (told-sum m V p t i) ∙ ap (λ k. bit_at k i == 1) e ∙ ap (λ b. b == 1) (one-bits i) ∙ back (i == 0)
  where
    back : (b : Bool) → (cond b 1 0 == 1) ≡ (true && b)
    back true = refl
    back false = refl

zero_from : (m : ℕ) (V : List (List ℤ)) (p : List ℤ) → Told m V p → Level p V false → m ≡ 0
zero_from m V p t s = same_from_bits m 0 (λ i. bit_from m i false (told-sum m V p t i ∙ s i) ∙ sym (bit_at-zero i))

one_from : (m : ℕ) (V : List (List ℤ)) (p : List ℤ) → Told m V p → Level p V true → m ≡ 1
one_from m V p t s = same_from_bits m 1 (λ i. bit_from m i (i == 0) (told-sum m V p t i ∙ s i) ∙ sym (one-bits i))

-- ---- the three answers

some_power : (n : ℕ) → 0 ≡ 2 ^ n → ⊥
some_power n e = let l : 2 ^ 0 ≤ 2 ^ n = pow-le-pow_right {n = 2} (omega arith) {i = 0} {j = n} (omega arith) in omega arith

pub outside_is : (m n : ℕ) (V : List (List ℤ)) (p : List ℤ) → IsVertexList n V → is_point n p ≡ true → Told m V p → 0 ≡ m → Outside ≡ place_of n (cells n V) p
unfolding place_of is_inside is_outside
outside_is m n V p v k t e =
    let (l, a) = point_parts n p k in
    let none : around (cells n V) p ≡ 0 = none_from_level n V p v l (level_zero m V p t (sym e)) in
    rw (none, refuted (0 == 2 ^ n) (λ q. some_power n (eqb-true 0 (2 ^ n) q))) refl

pub inside_is : (m n : ℕ) (V : List (List ℤ)) (p : List ℤ) → IsVertexList n V → is_point n p ≡ true → Told m V p → 1 ≡ m → Inside ≡ place_of n (cells n V) p
unfolding place_of is_inside
inside_is m n V p v k t e =
    let (l, a) = point_parts n p k in
    let full : around (cells n V) p ≡ 2 ^ n = full_from_level n V p v l (level_one m V p t (sym e)) in
    rw (full, eq-eqb (2 ^ n) (2 ^ n) refl) refl

pub boundary_is : (m n : ℕ) (V : List (List ℤ)) (p : List ℤ) → IsVertexList n V → is_point n p ≡ true → Told m V p → (m ≡ 0 → ⊥) → (m ≡ 1 → ⊥) → Boundary ≡ place_of n (cells n V) p
unfolding place_of is_inside is_outside
boundary_is m n V p v k t none one =
    let (l, a) = point_parts n p k in
    rw (
      refuted (around (cells n V) p == 2 ^ n) (λ q. one (one_from m V p t (level_from_full n V p v l (eqb-true (around (cells n V) p) (2 ^ n) q)))),
      refuted (around (cells n V) p == 0) (λ q. none (zero_from m V p t (level_from_none n V p v l (eqb-true (around (cells n V) p) 0 q)))),
    )
    refl
