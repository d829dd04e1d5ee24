-- A row beside a place, axis by axis.
use Rattle.std.proofs.Common.{◌≡◌, ℕ, suc, ◌+◌, ◌*◌, ◌^◌, ◌≤◌, Bool, true, false, cond, ◌&&◌, List, [], ◌∷◌, length, ℤ, ◌<ℤ◌, ◌≤ℤ◌, refl, sym, ap, ap₂, ◌∙◌, arith, int_le, int_eq}
use Rattle.std.specs.Ordering.{int_cmp}
use Rattle.std.specs.declared.cmp.Ordering.TheVariants.{Less, Equal, Greater}
use Rattle.std.proofs.Math.Nat.{pow-le-pow_right, mul-le-mul_left}
use Rattle.std.proofs.lemmas.Int.{ints as int_facts}
use Rattle.evm_cells.specs.Places.{each}
use Rattle.evm_cells.proofs.Coords.{le_no, le_yes, eq_yes, eq_no}
use Rattle.evm_member.specs.Levels.{level_axes}

pub less_is : (x y : ℤ) → Less ≡ int_cmp x y → x <ℤ y
less_is x y e = grind (arith, int_facts)

pub equal_is : (x y : ℤ) → Equal ≡ int_cmp x y → x ≡ y
equal_is x y e = grind (arith, int_facts)

pub greater_is : (x y : ℤ) → Greater ≡ int_cmp x y → y <ℤ x
greater_is x y e = grind (arith, int_facts)

-- ---- a row beside a place, axis by axis

pub below_no : (x y : ℤ) (q p q' p' : List ℤ) (all : Bool) → q ≡ x ∷ q' → p ≡ y ∷ p' → y <ℤ x → each int_le q p ≡ all → false ≡ all
unfolding each
below_no x y q p q' p' all e f l so_far =
    sym (ap₂ (each int_le) e f ∙ ap (λ t. t && each int_le q' p') (le_no x y l)) ∙ so_far

pub below_yes : (x y : ℤ) (q p q' p' : List ℤ) (all : Bool) → q ≡ x ∷ q' → p ≡ y ∷ p' → x ≤ℤ y → each int_le q p ≡ all → each int_le q' p' ≡ all
unfolding each
below_yes x y q p q' p' all e f l so_far =
    sym (ap₂ (each int_le) e f ∙ ap (λ t. t && each int_le q' p') (le_yes x y l)) ∙ so_far

pub below_end : (q p : List ℤ) (all : Bool) → q ≡ [] → p ≡ [] → each int_le q p ≡ all → true ≡ all
unfolding each
below_end q p all e f so_far = sym (ap₂ (each int_le) e f) ∙ so_far

pub none_left : (xs : List ℤ) → length xs ≡ 0 → xs ≡ []
none_left [] e = refl
none_left (x ∷ xs) e = absurd (omega arith)

pub rest_length : (x y : ℤ) (q p q' p' : List ℤ) → q ≡ x ∷ q' → p ≡ y ∷ p' → length q ≡ length p → length q' ≡ length p'
rest_length x y q p q' p' e f l = let m : length (x ∷ q') ≡ length (y ∷ p') = sym (ap length e) ∙ l ∙ ap length f in omega arith

level-first : (x y : ℤ) (q p q' p' : List ℤ) (bit : ℕ) → q ≡ x ∷ q' → p ≡ y ∷ p' → level_axes bit q p ≡ cond (int_eq x y) bit 0 + level_axes (bit * 2) q' p'
unfolding level_axes
level-first x y q p q' p' bit e f = ap₂ (level_axes bit) e f ∙ ap (λ b. cond (int_eq x y) bit 0 + level_axes b q' p') (turned bit)
  where
    turned : (b : ℕ) → 2 * b ≡ b * 2
    turned b = omega arith

-- the axes so far, and those after an axis on which the row is below the point or level with it
pub level_less : (x y : ℤ) (q p q' p' : List ℤ) (axes bit all : ℕ) → q ≡ x ∷ q' → p ≡ y ∷ p' → x <ℤ y → axes + level_axes bit q p ≡ all → axes + level_axes (bit * 2) q' p' ≡ all
level_less x y q p q' p' axes bit all e f l so_far = sums axes (level_axes (bit * 2) q' p') (level_axes bit q p) all (level-first x y q p q' p' bit e f ∙ ap (λ t. cond t bit 0 + level_axes (bit * 2) q' p') (eq_no x y (λ k. omega (arith, int_facts)))) so_far
  where
    sums : (a m k all : ℕ) → k ≡ 0 + m → a + k ≡ all → a + m ≡ all
    sums a m k all g h = omega arith

pub level_equal : (x y : ℤ) (q p q' p' : List ℤ) (axes bit all : ℕ) → q ≡ x ∷ q' → p ≡ y ∷ p' → x ≡ y → axes + level_axes bit q p ≡ all → (axes + bit) + level_axes (bit * 2) q' p' ≡ all
level_equal x y q p q' p' axes bit all e f l so_far = sums axes bit (level_axes (bit * 2) q' p') (level_axes bit q p) all (level-first x y q p q' p' bit e f ∙ ap (λ t. cond t bit 0 + level_axes (bit * 2) q' p') (eq_yes x y l)) so_far
  where
    sums : (a b m k all : ℕ) → k ≡ b + m → a + k ≡ all → (a + b) + m ≡ all
    sums a b m k all g h = omega arith

pub level_end : (q p : List ℤ) (axes bit all : ℕ) → q ≡ [] → axes + level_axes bit q p ≡ all → axes ≡ all
unfolding level_axes
level_end q p axes bit all e so_far = let f : axes + 0 ≡ all = rw e at so_far in omega arith

-- the weights of the axes
pub light_more : (w : ℕ) (q p : List ℤ) (y : ℤ) → p ≡ y ∷ q → w * 2 ^ length p ≤ 64 → (w * 2) * 2 ^ length q ≤ 64
light_more w q p y e h = let f : w * 2 ^ suc (length q) ≤ 64 = rw e at h in power w (length q) f
  where
    power : (w k : ℕ) → w * 2 ^ suc k ≤ 64 → (w * 2) * 2 ^ k ≤ 64
    power w k h = grind arith

pub light_now : (w k : ℕ) → w * 2 ^ k ≤ 64 → w ≤ 64
light_now w k h =
    let one : 2 ^ 0 ≤ 2 ^ k = pow-le-pow_right {n = 2} (omega arith) {i = 0} {j = k} (omega arith) in
    let l : w * 1 ≤ w * 2 ^ k = mul-le-mul_left w one in
    omega arith

pub light_first : (k : ℕ) → k ≤ 6 → 1 * 2 ^ k ≤ 64
light_first k h =
    let l : 2 ^ k ≤ 2 ^ 6 = pow-le-pow_right {n = 2} (omega arith) {i = k} {j = 6} h in
    omega arith
