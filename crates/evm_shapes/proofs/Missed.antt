-- Boxes that have nothing of a solid, as its first and last rows show.
use Rattle.std.proofs.Common.{◌≡◌, ℕ, zero, suc, ◌+◌, ◌<◌, ◌≤ℤ◌, ◌<ℤ◌, Bool, true, false, ◌&&◌, List, [], ◌∷◌, length, get_or, ℤ, pos, int_le, int_lt, int_eq, refl, sym, ap, ap₂, ◌∙◌, arith, ⊎_elim}
use Rattle.std.specs.List.{list_all}
use Rattle.std.proofs.lemmas.Bool.{or_cases, true≢false}
use Rattle.std.proofs.lemmas.Int.{ints as int_facts}
use Rattle.evm_cells.specs.Places.{before, each, has, ascending}
use Rattle.evm_cells.specs.Limits.{is_cell, IsCellSet}
use Rattle.evm_cells.specs.Shapes.{clip}
use Rattle.evm_cells.specs.Vertices.{cells, IsVertexList}
use Rattle.evm_cells.specs.Windows.{is_under, is_over}
use Rattle.evm_cells.proofs.Coords.{le_is, lt_is, le_yes, eq_is}
use Rattle.evm_cells.proofs.Insides.{cell_set-clip, has-clip_of}
use Rattle.evm_cells.proofs.Order.{refuted}
use Rattle.evm_cells.proofs.Sides.{rows_under, rows_over}
use Rattle.evm_cells.proofs.Slices.{coord}
use Rattle.evm_cells.proofs.Universe.{cell_parts, same_sets, cell_set-cells, member_passes}
use Rattle.evm_cells.proofs.Xor.{and_first, and_second, and_both}
use Rattle.evm_rows.proofs.Bridge.{wide-points}
use Rattle.evm_rows.proofs.RowsOrder.{Wide}

-- ---- the first axis of ascending rows

first_le : (p q : List ℤ) → 0 < length p → 0 < length q → before p q ≡ true → get_or p 0 (pos 0) ≤ℤ get_or q 0 (pos 0)
unfolding before
first_le [] q l m b = absurd (omega arith)
first_le (x ∷ p) [] l m b = absurd (omega arith)
first_le (x ∷ p) (y ∷ q) l m b =
    ⊎_elim
    (λ (t : int_lt x y ≡ true). let k : x <ℤ y = lt_is x y t in omega (arith, int_facts))
    (λ (t : (int_eq x y && before p q) ≡ true). let k : x ≡ y = eq_is x y (and_first (int_eq x y) (before p q) t) in omega (arith, int_facts))
    (or_cases (int_lt x y) (int_eq x y && before p q) b)

-- no row is below the first
pub from_first : (n : ℕ) (V : List (List ℤ)) (at : ℤ) → 0 < n → Wide n V → ascending V ≡ true → at ≤ℤ get_or (get_or V 0 []) 0 (pos 0) → list_all (λ q. int_le at (get_or q 0 (pos 0))) V ≡ true
unfolding ascending
from_first n [] at some w a l = refl
from_first n (p ∷ V) at some w a l =
    and_both (int_le at (get_or p 0 (pos 0))) (list_all (λ q. int_le at (get_or q 0 (pos 0))) V) (le_yes at (get_or p 0 (pos 0)) l)
    (rest V w.1 (and_first (list_all (before p) V) (ascending V) a))
  where
    rest : (U : List (List ℤ)) → Wide n U → list_all (before p) U ≡ true → list_all (λ q. int_le at (get_or q 0 (pos 0))) U ≡ true
    rest [] u b = refl
    rest (q ∷ U) u b =
        let e : length p ≡ n = w.0 in
        let f : length q ≡ n = u.0 in
        let m = first_le p q (omega arith) (omega arith) (and_first (before p q) (list_all (before p) U) b) in
        and_both (int_le at (get_or q 0 (pos 0))) (list_all (λ r. int_le at (get_or r 0 (pos 0))) U)
        (le_yes at (get_or q 0 (pos 0)) (omega (arith, int_facts)))
        (rest U u.1 (and_second (before p q) (list_all (before p) U) b))

-- and none above the last
up_to_last : (n : ℕ) (V : List (List ℤ)) (k : ℕ) (at : ℤ) → 0 < n → Wide n V → ascending V ≡ true → k + 1 ≡ length V → get_or (get_or V k []) 0 (pos 0) ≤ℤ at → list_all (λ q. int_le (get_or q 0 (pos 0)) at) V ≡ true
unfolding ascending
up_to_last n [] k at some w a e l = refl
up_to_last n (p ∷ []) zero at some w a e l = and_both (int_le (get_or p 0 (pos 0)) at) true (le_yes (get_or p 0 (pos 0)) at l) refl
up_to_last n (p ∷ []) (suc k) at some w a e l = absurd (omega arith)
up_to_last n (p ∷ q ∷ V) zero at some w a e l = absurd (omega arith)
up_to_last n (p ∷ q ∷ V) (suc k) at some w a e l =
    let rest : list_all (λ r. int_le (get_or r 0 (pos 0)) at) (q ∷ V) ≡ true =
    up_to_last n (q ∷ V) k at some w.1 (and_second (list_all (before p) (q ∷ V)) (ascending (q ∷ V)) a) (omega arith) l in
    let h : get_or q 0 (pos 0) ≤ℤ at = le_is (get_or q 0 (pos 0)) at (and_first (int_le (get_or q 0 (pos 0)) at) (list_all (λ r. int_le (get_or r 0 (pos 0)) at) V) rest) in
    let f : length p ≡ n = w.0 in
    let g : length q ≡ n = w.1.0 in
    let m = first_le p q (omega arith) (omega arith) (and_first (before p q) (list_all (before p) V) (and_first (list_all (before p) (q ∷ V)) (ascending (q ∷ V)) a)) in
    and_both (int_le (get_or p 0 (pos 0)) at) (list_all (λ r. int_le (get_or r 0 (pos 0)) at) (q ∷ V)) (le_yes (get_or p 0 (pos 0)) at (omega (arith, int_facts))) rest

-- so all cells are on the side of a height of the first axis that the first row, or the last, shows
pub over_first : (n : ℕ) (V : List (List ℤ)) (at : ℤ) → 0 < n → IsVertexList n V → at ≤ℤ get_or (get_or V 0 []) 0 (pos 0) → list_all (is_over 0 at) (cells n V) ≡ true
over_first n V at some v l = rows_over n 0 at V some v (from_first n V at some (wide-points n V v.points) v.ascends l)

pub under_last : (n : ℕ) (V : List (List ℤ)) (k : ℕ) (at : ℤ) → 0 < n → IsVertexList n V → k + 1 ≡ length V → get_or (get_or V k []) 0 (pos 0) ≤ℤ at → list_all (is_under 0 at) (cells n V) ≡ true
under_last n V k at some v e l = rows_under n 0 at V some v (up_to_last n V k at some (wide-points n V v.points) v.ascends e l)

-- ---- boxes on the other side

each_at : (r : ℤ → ℤ → Bool) (i : ℕ) (p q : List ℤ) → i < length p → each r p q ≡ true → r (coord i p) (coord i q) ≡ true
unfolding each
each_at r i [] q l h = absurd (omega arith)
each_at r i (x ∷ p) [] l h = absurd (true≢false (sym h))
each_at r zero (x ∷ p) (y ∷ q) l h = and_first (r x y) (each r p q) h
each_at r (suc i) (x ∷ p) (y ∷ q) l h = each_at r i p q (omega arith) (and_second (r x y) (each r p q) h)

clip_none : (n : ℕ) (lo hi : List ℤ) (A : List (List ℤ)) → IsCellSet n A → ((c : List ℤ) → is_cell n c ≡ true → has A c ≡ true → (each int_le lo c && each int_lt c hi) ≡ false) → clip n lo hi A ≡ []
unfolding has ascending
clip_none n lo hi A a h =
    let k : IsCellSet n (clip n lo hi A) = cell_set-clip n lo hi A in
    same_sets (clip n lo hi A) [] k.ascends refl (λ c. has-clip_of n lo hi A c a ∙ at c (has A c) (is_cell n c) refl refl)
  where
    at : (c : List ℤ) (x y : Bool) → has A c ≡ x → is_cell n c ≡ y → (has A c && (is_cell n c && (each int_le lo c && each int_lt c hi))) ≡ false
    at c false y e f = ap (λ t. t && (is_cell n c && (each int_le lo c && each int_lt c hi))) e
    at c true false e f = ap₂ (λ s t. s && (t && (each int_le lo c && each int_lt c hi))) e f
    at c true true e f = ap₂ (λ s t. s && (t && (each int_le lo c && each int_lt c hi))) e f ∙ h c f e

-- a box that ends at or below a plane has nothing of what is above it
pub over_none : (n i : ℕ) (at : ℤ) (lo hi : List ℤ) (A : List (List ℤ)) → i < n → IsCellSet n A → list_all (is_over i at) A ≡ true → coord i hi ≤ℤ at → clip n lo hi A ≡ []
over_none n i at lo hi A l a h b =
    clip_none n lo hi A a
    (λ c m k. refuted (each int_le lo c && each int_lt c hi)
    (λ w. let (e, f) = cell_parts n c m in
    let o : at ≤ℤ coord i c = le_is at (coord i c) (member_passes (is_over i at) A c h k) in
    let u : coord i c <ℤ coord i hi = lt_is (coord i c) (coord i hi) (each_at int_lt i c hi (omega arith) (and_second (each int_le lo c) (each int_lt c hi) w)) in
    omega (arith, int_facts)))

-- and one that begins at or above it has nothing of what is below
pub under_none : (n i : ℕ) (at : ℤ) (lo hi : List ℤ) (A : List (List ℤ)) → i < n → length lo ≡ n → IsCellSet n A → list_all (is_under i at) A ≡ true → at ≤ℤ coord i lo → clip n lo hi A ≡ []
under_none n i at lo hi A l e a h b =
    clip_none n lo hi A a
    (λ c m k. refuted (each int_le lo c && each int_lt c hi)
    (λ w.
    let o : coord i c <ℤ at = lt_is (coord i c) at (member_passes (is_under i at) A c h k) in
    let u : coord i lo ≤ℤ coord i c = le_is (coord i lo) (coord i c) (each_at int_le i lo c (omega arith) (and_first (each int_le lo c) (each int_lt c hi) w)) in
    omega (arith, int_facts)))

pub above_all : (n : ℕ) (lo hi : List ℤ) (V : List (List ℤ)) (k : ℕ) → 0 < n → length lo ≡ n → IsVertexList n V → k + 1 ≡ length V → get_or (get_or V k []) 0 (pos 0) ≤ℤ get_or lo 0 (pos 0) → clip n lo hi (cells n V) ≡ []
above_all n lo hi V k some e v f l =
    under_none n 0 (get_or lo 0 (pos 0)) lo hi (cells n V) some e (cell_set-cells n V) (under_last n V k (get_or lo 0 (pos 0)) some v f l) (omega (arith, int_facts))

pub below_all : (n : ℕ) (lo hi : List ℤ) (V : List (List ℤ)) → 0 < n → IsVertexList n V → get_or hi 0 (pos 0) ≤ℤ get_or (get_or V 0 []) 0 (pos 0) → clip n lo hi (cells n V) ≡ []
below_all n lo hi V some v l =
    over_none n 0 (get_or hi 0 (pos 0)) lo hi (cells n V) some (cell_set-cells n V) (over_first n V (get_or hi 0 (pos 0)) some v l) (omega (arith, int_facts))
