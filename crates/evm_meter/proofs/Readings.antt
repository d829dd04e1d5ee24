-- Readings are small, and what a change near by leaves of them.
use Rattle.std.proofs.Common.{◌≡◌, ℕ, zero, suc, ◌+◌, ◌-◌, ◌*◌, ◌^◌, ◌<◌, ◌≤◌, Bool, true, false, not, cond, ◌&&◌, List, [], ◌∷◌, length, filter, ℤ, pos, neg_ℤ, Option, Some, refl, sym, ap, ap₂, ◌∙◌, arith, subst}
use Rattle.evm_cells.specs.Places.{has}
use Rattle.evm_cells.specs.Limits.{limit, point_coords, every_point, every_cell, IsCellSet}
use Rattle.evm_cells.specs.Booleans.{combine, sub_cells}
use Rattle.evm_cells.specs.Vertices.{odd, around, evm, cells, IsVertexList}
use Rattle.evm_cells.specs.Measures.{content, boundary, vertex_count}
use Rattle.evm_cells.specs.Shapes.{clip}
use Rattle.evm_cells.specs.Localities.{Measure, Content, Boundary, VertexCount, measure}
use Rattle.evm_cells.proofs.Core.{evm-cells}
use Rattle.evm_cells.proofs.Bounds.{length-ints, length-tuples, filter-shorter, content-fits, boundary-fits}
use Rattle.evm_cells.proofs.Universe.{cells_are, cell_set-cells}
use Rattle.evm_cells.proofs.Localities.{measures_are_local}
use Rattle.evm_rows.specs.Rows.{Vertices}
use Rattle.evm_meter.specs.Meters.{measured, IsLess, IsNearChange}

-- ---- how large a reading can be

-- extreme vertices are points, so there are at most as many as there are points
vertex_bound : (n : ℕ) (S : List (List ℤ)) → vertex_count n S ≤ (2 * limit n + 1) ^ n
unfolding evm every_point point_coords
vertex_bound n S =
    let a : length (filter (λ p. odd (around S p)) (every_point n)) ≤ length (every_point n) = filter-shorter (λ p. odd (around S p)) (every_point n) in
    let b : length (every_point n) ≡ (2 * limit n + 1) ^ n =
    length-tuples (point_coords n) n ∙ ap (λ k. k ^ n) (length-ints (neg_ℤ (pos (limit n))) (2 * limit n + 1)) in
    omega (arith, a, b)

-- up to dimension 6 there are at most 2 ^ 121 points
points_few : (n : ℕ) → n ≤ 6 → (2 * limit n + 1) ^ n ≤ 2 ^ 121
unfolding limit
points_few zero l = omega arith
points_few (suc zero) l = omega arith
points_few (suc (suc zero)) l = omega arith
points_few (suc (suc (suc zero))) l = omega arith
points_few (suc (suc (suc (suc zero)))) l = omega arith
points_few (suc (suc (suc (suc (suc zero))))) l = omega arith
points_few (suc (suc (suc (suc (suc (suc zero)))))) l = omega arith
points_few (suc (suc (suc (suc (suc (suc (suc n))))))) l = absurd (omega arith)

pub measure_fits : (kind : Measure) (n : ℕ) (S : List (List ℤ)) → n ≤ 6 → IsCellSet n S → measure kind n S < 2 ^ 127
measure_fits Content n S l s = let a : content S ≤ 2 ^ 120 = content-fits n S l s in omega (arith, a)
measure_fits Boundary n S l s = let a : boundary n S < 2 ^ 124 = boundary-fits n S l s in omega (arith, a)
measure_fits VertexCount n S l s =
    let a : vertex_count n S ≤ (2 * limit n + 1) ^ n = vertex_bound n S in
    let b : (2 * limit n + 1) ^ n ≤ 2 ^ 121 = points_few n l in
    omega (arith, a, b)

pub measured_fits : (kind : Measure) (a : Vertices) → a.dim ≤ 6 → measured kind a < 2 ^ 127
measured_fits kind a l = measure_fits kind a.dim (cells a.dim a.rows) l (cell_set-cells a.dim a.rows)

-- the rows of a view are the extreme vertices of its cells
pub rows_counted : (a : Vertices) → IsVertexList a.dim a.rows → length a.rows ≡ measured VertexCount a
rows_counted a v = ap length (sym (evm-cells a.dim a.rows v))

-- ---- what comes and what goes

-- of two tests, what passes the one and what passes the other alone are as many as the other way round
counts : {X : Type 0} (f g : X → Bool) (xs : List X) → length (filter (λ x. g x && not (f x)) xs) + length (filter f xs) ≡ length (filter (λ x. f x && not (g x)) xs) + length (filter g xs)
counts f g [] = refl
counts f g (x ∷ xs) = at (f x) (g x) (counts f g xs)
  where
    at : (a b : Bool) → length (filter (λ y. g y && not (f y)) xs) + length (filter f xs) ≡ length (filter (λ y. f y && not (g y)) xs) + length (filter g xs)
        → length (cond (b && not a) (x ∷ filter (λ y. g y && not (f y)) xs) (filter (λ y. g y && not (f y)) xs)) + length (cond a (x ∷ filter f xs) (filter f xs))
        ≡ length (cond (a && not b) (x ∷ filter (λ y. f y && not (g y)) xs) (filter (λ y. f y && not (g y)) xs)) + length (cond b (x ∷ filter g xs) (filter g xs))
    at true true e = omega (arith, e)
    at true false e = omega (arith, e)
    at false true e = omega (arith, e)
    at false false e = e

-- the content grows by what comes and shrinks by what goes
pub content_moves : (before gained lost after : Vertices) → after.dim ≡ before.dim → IsLess after before gained → IsLess before after lost
    → measured Content gained + measured Content before ≡ measured Content lost + measured Content after
unfolding sub_cells combine
content_moves before gained lost after d comes goes =
    let n : ℕ = before.dim in
    let A : List (List ℤ) = cells before.dim before.rows in
    let B : List (List ℤ) = cells after.dim after.rows in
    let a : IsCellSet n A = cell_set-cells before.dim before.rows in
    let b : IsCellSet n B = subst (λ (m : ℕ). IsCellSet m B) d (cell_set-cells after.dim after.rows) in
    let more : cells gained.dim gained.rows ≡ sub_cells n B A = comes.1 ∙ ap (λ (m : ℕ). sub_cells m B A) d in
    ap₂ (λ (S T : List (List ℤ)). length S + length T) more (sym (cells_are n A a.ascends a.cells))
    ∙ counts (has A) (has B) (every_cell n)
    ∙ sym (ap₂ (λ (S T : List (List ℤ)). length S + length T) goes.1 (sym (cells_are n B b.ascends b.cells)))

-- ---- a change near by

-- the reading after it, and the measure of the part before it, are the reading before it and the measure of the part after it
near_sum : (kind : Measure) (reading : Option ℕ) (n : ℕ) (before after : Vertices) (h : IsNearChange kind reading before after) → reading ≡ Some n
    → measure kind before.dim h.changed + measured kind before ≡ n + measured kind after
near_sum kind reading n before after h e =
    let whole : measure kind before.dim h.whole ≡ n = read_of (sym h.read ∙ e) in
    let local = measures_are_local kind before.dim h.lo h.hi h.whole h.changed h.whole_cells h.changed_cells h.holds in
    let was : measured kind before ≡ measure kind before.dim (clip before.dim h.lo h.hi h.whole) = ap (measure kind before.dim) h.part in
    let is : measured kind after ≡ measure kind before.dim (clip before.dim h.lo h.hi h.changed) = ap₂ (measure kind) h.same h.part_after in
    omega (arith, whole, local, was, is)
  where
    read_of : {a b : ℕ} → Some a ≡ Some b → a ≡ b
    read_of q = cc

pub near_room : (kind : Measure) (reading : Option ℕ) (n : ℕ) (before after : Vertices) → IsNearChange kind reading before after → reading ≡ Some n
    → measured kind before ≤ n + measured kind after
near_room kind reading n before after h e = let sum = near_sum kind reading n before after h e in omega (arith, sum)

pub near_fits : (kind : Measure) (reading : Option ℕ) (n : ℕ) (before after : Vertices) → IsNearChange kind reading before after → reading ≡ Some n
    → before.dim ≤ 6 → n + measured kind after - measured kind before < 2 ^ 127
near_fits kind reading n before after h e l =
    let sum = near_sum kind reading n before after h e in
    let fits : measure kind before.dim h.changed < 2 ^ 127 = measure_fits kind before.dim h.changed l h.changed_cells in
    omega (arith, sum, fits)
