use Rattle.std.proofs.Common.{arith, ◌≡◌, ◌-◌, ◌-ℤ◌, ◌+ℤ◌, ℕ, suc, ℤ, List, pos, take, slice_set, sym, ap, ◌∙◌, w32, to_z, of_z}
use Rattle.evm_cells.specs.Boxes.{is_box}
use Rattle.evm_cells.specs.Limits.{is_cell_coord}
use Rattle.evm_cells.specs.Sections.{slice}
use Rattle.evm_cells.specs.Vertices.{evm}
use Rattle.evm_cells.specs.Shapes.{clip}
use Rattle.evm_cells.proofs.Universe.{cell_set-cells}
use Rattle.evm_rows.specs.Rows.{Vertices, cells_of}
use Rattle.evm_rows.proofs.BoxTests.{same32}
use Rattle.evm_cutting.proofs.Planes.{six}
use Rattle.evm_tiles.proofs.Thin.{Thin, next_fits, thin_of, thin_box_at, thin_section_at}
use Rattle.evm_tiles.proofs.tiles.Tiles.section.Goals as goal

pub window-requires : goal.window-requires
window-requires c =
    let n : ℕ = c.self.inside.dim in
    let m : ℕ = c.self.inside.dim - 1 in
    let k : ℕ = c.args.self.now.dim in
    let q : n ≡ k = ap (λ (v : Vertices). v.dim) c.self.view_is in
    let deep = c.requires.deep in
    let s : n ≡ suc m = omega (arith, q, deep) in
    let y : ℤ = to_z w32 (of_z w32 c.limit-limit.result) in
    let x : ℤ = to_z w32 (of_z w32 (pos 0 -ℤ y)) in
    let a : ℤ = to_z w32 (of_z w32 c.args.at) in
    let b : ℤ = to_z w32 (of_z w32 (a +ℤ pos 1)) in
    let t : Thin m x y a b = thin_of n m c.args.at c.limit-limit.result s c.self.invariant.high (ap (λ (j : ℕ). is_cell_coord j c.args.at) q ∙ c.requires.height) c.limit-limit.ensures c.ranges.at in
    ap (λ (j : ℕ). is_box j (take n (slice_set (six x) 0 a)) (take n (slice_set (six y) 0 b))) (sym q) ∙ thin_box_at n m x y a b s t

pub returns-clause-cells : goal.returns-clause-cells
returns-clause-cells c =
    let n : ℕ = c.self.inside.dim in
    let m : ℕ = c.self.inside.dim - 1 in
    let k : ℕ = c.args.self.now.dim in
    let q : n ≡ k = ap (λ (v : Vertices). v.dim) c.self.view_is in
    let deep = c.requires.deep in
    let s : n ≡ suc m = omega (arith, q, deep) in
    let y : ℤ = to_z w32 (of_z w32 c.limit-limit.result) in
    let x : ℤ = to_z w32 (of_z w32 (pos 0 -ℤ y)) in
    let a : ℤ = to_z w32 (of_z w32 c.args.at) in
    let b : ℤ = to_z w32 (of_z w32 (a +ℤ pos 1)) in
    let t : Thin m x y a b = thin_of n m c.args.at c.limit-limit.result s c.self.invariant.high (ap (λ (j : ℕ). is_cell_coord j c.args.at) q ∙ c.requires.height) c.limit-limit.ensures c.ranges.at in
    let S : List (List ℤ) = cells_of c.args.self.now in
    c.in_ok-part.ensures.cells
    ∙ ap (λ (v : Vertices). slice (v.dim - 1) 0 a (cells_of v)) c.rows.ensures
    ∙ ap (λ (j : ℕ). slice (j - 1) 0 a (cells_of c.in_ok-thin.thin)) c.in_ok-thin.ensures.dim
    ∙ ap (slice (k - 1) 0 a) c.in_ok-thin.ensures.cells
    ∙ ap (λ (j : ℕ). slice (k - 1) 0 a (clip k (take j (slice_set (six x) 0 a)) (take j (slice_set (six y) 0 b)) S)) q
    ∙ thin_section_at k m x y a b S (sym q ∙ s) t (cell_set-cells k c.args.self.now.rows)
    ∙ ap (λ (z : ℤ). slice (k - 1) 0 z S) (same32 c.args.at c.ranges.at)

pub returns-clause-rows : goal.returns-clause-rows
returns-clause-rows c =
    let part : Vertices = c.in_ok-part.part in
    let d : part.dim ≡ c.args.self.now.dim - 1 =
    c.in_ok-part.ensures.dim ∙ ap (λ (v : Vertices). v.dim - 1) c.rows.ensures ∙ ap (λ (j : ℕ). j - 1) c.in_ok-thin.ensures.dim in
    c.facts.ensures.vertices
    ∙ ap (λ (j : ℕ). evm j (cells_of part)) d
    ∙ ap (evm (c.args.self.now.dim - 1)) (returns-clause-cells c)

pub overflow_add-hi : goal.overflow_add-hi
overflow_add-hi c = next_fits c.args.self.now.dim c.args.at c.requires.height c.ranges.at
