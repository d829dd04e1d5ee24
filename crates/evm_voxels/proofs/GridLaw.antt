-- The points of odd parity in a grid are the extreme vertices of the places that pass.
use Rattle.std.proofs.Common.{◌≡◌, ℕ, suc, Bool, true, false, ◌&&◌, List, [], ◌∷◌, map, length, ℤ, pos, ◌-ℤ◌, ◌≤ℤ◌, ◌<ℤ◌, refl, sym, ap, ap₂, ◌∙◌, arith, int_le, int_lt}
use Rattle.std.specs.List.{list_all}
use Rattle.std.proofs.lemmas.Bool.{true≢false, false≢true}
use Rattle.std.proofs.lemmas.Int.{ints as int_facts}
use Rattle.evm_cells.specs.Places.{each, has}
use Rattle.evm_cells.specs.Limits.{limit, cells_where, is_cell, is_point, is_point_coord, IsCellSet}
use Rattle.evm_cells.specs.Booleans.{xor}
use Rattle.evm_cells.specs.Vertices.{evm, touch, odd}
use Rattle.evm_cells.specs.Boxes.{corners}
use Rattle.evm_cells.specs.Measures.{neighbours}
use Rattle.evm_cells.proofs.Xor.{xsum, xsum-cons, xsum-nil, xor-false, false-xor, and_first, and_second, and_both, odd-count}
use Rattle.evm_cells.proofs.Sum.{xsum-append, xsum-map}
use Rattle.evm_cells.proofs.Order.{refuted}
use Rattle.evm_cells.proofs.Coords.{le_yes, lt_yes, le_is, lt_is, point_yes}
use Rattle.evm_cells.proofs.Universe.{same_sets, has-evm, has-cells, odd-around, ascending-evm, absorb, cell_from, point_from}
use Rattle.evm_cells.proofs.Combine.{cell_set-filter}
use Rattle.evm_cells.proofs.Neighbours.{around-neighbours}
use Rattle.evm_formats.specs.Images.{in_sizes}
use Rattle.evm_formats.proofs.Listed.{ascending-listed, has-listed, coords_in}
use Rattle.evm_voxels.specs.Parity.{turns, grid}

-- no place off the sizes passes
abbrev pub IsInside : List ℕ → (List ℤ → Bool) → Type 0
IsInside ms f = (c : List ℤ) → f c ≡ true → in_sizes ms c ≡ true

-- the law of the grid: the points of odd parity are the extreme vertices of the cells that pass
abbrev pub VerticesOfGrid : Type 0
VerticesOfGrid = (n : ℕ) (ms : List ℕ) (f : List ℤ → Bool) → length ms ≡ n → list_all (λ m. int_le (pos m) (pos (limit n))) ms ≡ true → IsInside ms f
    → grid ms (turns f) ≡ evm n (cells_where n f)

-- ---- the parity as a sum over the neighbours
pub turns-neighbours : (f : List ℤ → Bool) (p : List ℤ) → xsum f (neighbours p) ≡ turns f p
unfolding turns neighbours corners
turns-neighbours f [] = xsum-cons f [] [] ∙ ap (xor (f [])) (xsum-nil f) ∙ xor-false (f [])
turns-neighbours f (x ∷ p) =
    xsum-append f (map (λ t. (x -ℤ pos 1) ∷ t) (neighbours p)) (map (λ t. x ∷ t) (neighbours p))
    ∙ ap₂ xor
    (xsum-map f (λ t. (x -ℤ pos 1) ∷ t) (neighbours p) ∙ turns-neighbours (λ c. f ((x -ℤ pos 1) ∷ c)) p)
    (xsum-map f (λ t. x ∷ t) (neighbours p) ∙ turns-neighbours (λ c. f (x ∷ c)) p)

pub turns-same : (f g : List ℤ → Bool) → ((c : List ℤ) → f c ≡ g c) → (p : List ℤ) → turns f p ≡ turns g p
turns-same f g e p = ap (λ h. turns h p) (λ i c. e c i)

pub turns-none : (p : List ℤ) → turns (λ c. false) p ≡ false
unfolding turns
turns-none [] = refl
turns-none (x ∷ p) = ap₂ xor (turns-none p) (turns-none p) ∙ false-xor false

turns-no : (f : List ℤ → Bool) → ((c : List ℤ) → f c ≡ false) → (p : List ℤ) → turns f p ≡ false
turns-no f e p = turns-same f (λ c. false) e p ∙ turns-none p

-- ---- the points on the grid
abbrev pub on_sizes : List ℕ → List ℤ → Bool
on_sizes ms p = in_sizes (map suc ms) p

-- ---- no point off the grid has an odd parity
next_in : (x : ℤ) (m : ℕ) → (int_le (pos 0) x && int_lt x (pos (suc m))) ≡ false → (int_le (pos 0) (x -ℤ pos 1) && int_lt (x -ℤ pos 1) (pos m)) ≡ false
next_in x m e =
    refuted (int_le (pos 0) (x -ℤ pos 1) && int_lt (x -ℤ pos 1) (pos m))
    (λ h. let a : pos 0 ≤ℤ (x -ℤ pos 1) = le_is (pos 0) (x -ℤ pos 1) (and_first (int_le (pos 0) (x -ℤ pos 1)) (int_lt (x -ℤ pos 1) (pos m)) h) in
    let b : (x -ℤ pos 1) <ℤ pos m = lt_is (x -ℤ pos 1) (pos m) (and_second (int_le (pos 0) (x -ℤ pos 1)) (int_lt (x -ℤ pos 1) (pos m)) h) in
    true≢false (sym (and_both (int_le (pos 0) x) (int_lt x (pos (suc m))) (le_yes (pos 0) x (omega (arith, int_facts))) (lt_yes x (pos (suc m)) (omega (arith, int_facts)))) ∙ e))

this_in : (x : ℤ) (m : ℕ) → (int_le (pos 0) x && int_lt x (pos (suc m))) ≡ false → (int_le (pos 0) x && int_lt x (pos m)) ≡ false
this_in x m e =
    refuted (int_le (pos 0) x && int_lt x (pos m))
    (λ h. let a : pos 0 ≤ℤ x = le_is (pos 0) x (and_first (int_le (pos 0) x) (int_lt x (pos m)) h) in
    let b : x <ℤ pos m = lt_is x (pos m) (and_second (int_le (pos 0) x) (int_lt x (pos m)) h) in
    true≢false (sym (and_both (int_le (pos 0) x) (int_lt x (pos (suc m))) (le_yes (pos 0) x (omega (arith, int_facts))) (lt_yes x (pos (suc m)) (omega (arith, int_facts)))) ∙ e))

-- a plane that is out of the grid has no filled cell
out_of : (m : ℕ) (ms : List ℕ) (f : List ℤ → Bool) → IsInside (m ∷ ms) f → (y : ℤ) → (int_le (pos 0) y && int_lt y (pos m)) ≡ false → (c : List ℤ) → f (y ∷ c) ≡ false
unfolding in_sizes
out_of m ms f h y e c = refuted (f (y ∷ c)) (λ k. true≢false (sym (and_first (int_le (pos 0) y && int_lt y (pos m)) (in_sizes ms c) (h (y ∷ c) k)) ∙ e))

within : (m : ℕ) (ms : List ℕ) (f : List ℤ → Bool) → IsInside (m ∷ ms) f → (y : ℤ) → IsInside ms (λ c. f (y ∷ c))
unfolding in_sizes
within m ms f h y c k = and_second (int_le (pos 0) y && int_lt y (pos m)) (in_sizes ms c) (h (y ∷ c) k)

pub turns_outside : (ms : List ℕ) (f : List ℤ → Bool) (p : List ℤ) → IsInside ms f → on_sizes ms p ≡ false → turns f p ≡ false
unfolding turns in_sizes
turns_outside [] f [] h e = absurd (true≢false e)
turns_outside [] f (x ∷ p) h e =
    ap₂ xor (turns-no (λ c. f ((x -ℤ pos 1) ∷ c)) (λ c. refuted (f ((x -ℤ pos 1) ∷ c)) (λ k. false≢true (h ((x -ℤ pos 1) ∷ c) k))) p)
    (turns-no (λ c. f (x ∷ c)) (λ c. refuted (f (x ∷ c)) (λ k. false≢true (h (x ∷ c) k))) p)
    ∙ false-xor false
turns_outside (m ∷ ms) f [] h e = refuted (f []) (λ k. false≢true (h [] k))
turns_outside (m ∷ ms) f (x ∷ p) h e = at_test (int_le (pos 0) x && int_lt x (pos (suc m))) refl (turns_outside ms (λ c. f ((x -ℤ pos 1) ∷ c)) p) (turns_outside ms (λ c. f (x ∷ c)) p)
  where
    at_test : (b : Bool) → (int_le (pos 0) x && int_lt x (pos (suc m))) ≡ b
        → (IsInside ms (λ c. f ((x -ℤ pos 1) ∷ c)) → on_sizes ms p ≡ false → turns (λ c. f ((x -ℤ pos 1) ∷ c)) p ≡ false)
        → (IsInside ms (λ c. f (x ∷ c)) → on_sizes ms p ≡ false → turns (λ c. f (x ∷ c)) p ≡ false)
        → xor (turns (λ c. f ((x -ℤ pos 1) ∷ c)) p) (turns (λ c. f (x ∷ c)) p) ≡ false
    at_test false k one two =
        ap₂ xor (turns-no (λ c. f ((x -ℤ pos 1) ∷ c)) (out_of m ms f h (x -ℤ pos 1) (next_in x m k)) p) (turns-no (λ c. f (x ∷ c)) (out_of m ms f h x (this_in x m k)) p) ∙ false-xor false
    at_test true k one two =
        let z : on_sizes ms p ≡ false = ap (λ b. b && on_sizes ms p) (sym k) ∙ e in
        ap₂ xor (one (within m ms f h (x -ℤ pos 1)) z) (two (within m ms f h x) z) ∙ false-xor false

-- ---- the grid is in the limits
abbrev size_fits : ℕ → ℕ → Bool
size_fits n m = int_le (pos m) (pos (limit n))

point_coords_on : (n : ℕ) (ms : List ℕ) (p : List ℤ) → list_all (size_fits n) ms ≡ true → on_sizes ms p ≡ true → (length p ≡ length ms) × (list_all (is_point_coord n) p ≡ true)
unfolding in_sizes
point_coords_on n [] [] a h = (refl, refl)
point_coords_on n [] (x ∷ c) a h = absurd (false≢true h)
point_coords_on n (m ∷ ms) [] a h = absurd (false≢true h)
point_coords_on n (m ∷ ms) (x ∷ c) a h =
    let k = and_first (int_le (pos 0) x && int_lt x (pos (suc m))) (on_sizes ms c) h in
    let (l, b) = point_coords_on n ms c (and_second (int_le (pos m) (pos (limit n))) (list_all (size_fits n) ms) a) (and_second (int_le (pos 0) x && int_lt x (pos (suc m))) (on_sizes ms c) h) in
    let u : pos 0 ≤ℤ x = le_is (pos 0) x (and_first (int_le (pos 0) x) (int_lt x (pos (suc m))) k) in
    let v : x <ℤ (pos (suc m)) = lt_is x (pos (suc m)) (and_second (int_le (pos 0) x) (int_lt x (pos (suc m))) k) in
    let w : pos m ≤ℤ pos (limit n) = le_is (pos m) (pos (limit n)) (and_first (int_le (pos m) (pos (limit n))) (list_all (size_fits n) ms) a) in
    (ap suc l, and_both (is_point_coord n x) (list_all (is_point_coord n) c) (point_yes n x (omega (arith, int_facts)) (omega (arith, int_facts))) b)

-- ---- the law
pub vertices-grid : VerticesOfGrid
vertices-grid n ms f l a h =
    same_sets (grid ms (turns f)) (evm n (cells_where n f)) (ascending-listed (map suc ms) (turns f)) (ascending-evm n (cells_where n f))
    (λ p. has-listed (map suc ms) (turns f) p ∙ absorb (on_sizes ms p) (turns f p) (on p)
    ∙ sym (absorb (is_point n p) (turns f p) (λ k. point_of p (on p k)))
    ∙ ap (λ b. is_point n p && b) (sym (parity p))
    ∙ sym (has-evm n (cells_where n f) p))
  where
    cells_of : IsCellSet n (cells_where n f)
    cells_of = cell_set-filter n f

    filled : (c : List ℤ) → has (cells_where n f) c ≡ f c
    filled c = has-cells n f c ∙ absorb (is_cell n c) (f c) (λ k. let (e, b) = coords_in n ms c a (h c k) in cell_from n c (e ∙ l) b)

    parity : (p : List ℤ) → xsum (λ s. each touch s p) (cells_where n f) ≡ turns f p
    parity p =
        sym (odd-around (cells_where n f) p)
        ∙ ap odd (around-neighbours (cells_where n f) p cells_of.ascends)
        ∙ odd-count (has (cells_where n f)) (neighbours p)
        ∙ turns-neighbours (has (cells_where n f)) p
        ∙ turns-same (has (cells_where n f)) f filled p

    on : (p : List ℤ) → turns f p ≡ true → on_sizes ms p ≡ true
    on p k = at_test (on_sizes ms p) refl
      where
        at_test : (b : Bool) → on_sizes ms p ≡ b → on_sizes ms p ≡ true
        at_test true e = e
        at_test false e = absurd (true≢false (sym k ∙ turns_outside ms f p h e))

    point_of : (p : List ℤ) → on_sizes ms p ≡ true → is_point n p ≡ true
    point_of p k = let (e, b) = point_coords_on n ms p a k in point_from n p (e ∙ l) b
