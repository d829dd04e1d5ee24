use Rattle.std.proofs.Common.{refl, ◌-◌, ℤ, List, ℕ, ap, sym, ◌∙◌, arith}
use Rattle.evm_cells.specs.Vertices.{evm, cells}
use Rattle.evm_rows.specs.Rows.{rows_of}
use Rattle.evm_cells.proofs.Layers.{evm-empty}
use Rattle.evm_cells.proofs.Insides.{box_lengths, cell_set-clip}
use Rattle.evm_shapes.proofs.Shaped.{are_rows_of, cells_of}
use Rattle.evm_cells.proofs.Clamping.{clip_by_rows}
use Rattle.evm_shapes.proofs.Clipped.{all_inside}
use Rattle.evm_shapes.proofs.clips.clip.Goals as goal

pub all_stay-requires-clause-low : goal.all_stay-requires-clause-low
all_stay-requires-clause-low c = (box_lengths (c.args.a.width - c.args.a.skip) c.args.lo.now c.args.hi.now c.requires).0

pub all_stay-requires-clause-high : goal.all_stay-requires-clause-high
all_stay-requires-clause-high c = (box_lengths (c.args.a.width - c.args.a.skip) c.args.lo.now c.args.hi.now c.requires).1

pub returns-then-misses-clause-rows : goal.returns-then-misses-clause-rows
returns-then-misses-clause-rows c =
    let n : ℕ = c.args.a.width - c.args.a.skip in
    c.empty.ensures.rows ∙ sym (evm-empty n) ∙ ap (evm n) (sym (c.if-misses.ensures refl))

pub returns-then-all_stay-clause-rows : goal.returns-then-all_stay-clause-rows
returns-then-all_stay-clause-rows c =
    let a = c.args.a in
    let V : List (List ℤ) = rows_of a.flat.now a.width a.skip in
    c.in_ok-solid.ensures.rows ∙ all_inside (a.width - a.skip) c.args.lo.now c.args.hi.now V c.requires a.vertices (sym c.if-all_stay.ensures)

pub returns-then-all_stay-clause-cells : goal.returns-then-all_stay-clause-cells
returns-then-all_stay-clause-cells c =
    let a = c.args.a in
    let n : ℕ = a.width - a.skip in
    let V : List (List ℤ) = rows_of a.flat.now a.width a.skip in
    let e = c.in_ok-solid.ensures.rows ∙ all_inside n c.args.lo.now c.args.hi.now V c.requires a.vertices (sym c.if-all_stay.ensures) in
    cells_of _ n _ _ c.in_ok-solid.ensures.dim (cell_set-clip n c.args.lo.now c.args.hi.now (cells n V)) e

pub from_rows-requires : goal.from_rows-requires
from_rows-requires c =
    let n : ℕ = c.args.a.width - c.args.a.skip in
    let V : List (List ℤ) = rows_of c.args.a.flat.now c.args.a.width c.args.a.skip in
    let e = clip_by_rows n c.args.lo.now c.args.hi.now V (rows_of c.in_ok-flat.flat.items n 0) c.requires c.args.a.vertices c.in_ok-flat.ensures.rows in
    rw c.dim-dim.ensures (are_rows_of n _ _ (omega (arith, c.args.a.left)) (omega (arith, c.args.a.narrow)) c.in_ok-flat.ensures.whole (cell_set-clip n c.args.lo.now c.args.hi.now (cells n V)) e)

pub returns-clause-rows : goal.returns-clause-rows
returns-clause-rows c =
    let n : ℕ = c.args.a.width - c.args.a.skip in
    let V : List (List ℤ) = rows_of c.args.a.flat.now c.args.a.width c.args.a.skip in
    let e = clip_by_rows n c.args.lo.now c.args.hi.now V (rows_of c.in_ok-flat.flat.items n 0) c.requires c.args.a.vertices c.in_ok-flat.ensures.rows in
    c.from_rows.ensures.rows ∙ ap (λ (m : ℕ). rows_of c.in_ok-flat.flat.items m 0) c.dim-dim.ensures ∙ e

pub returns-clause-cells : goal.returns-clause-cells
returns-clause-cells c =
    let n : ℕ = c.args.a.width - c.args.a.skip in
    let V : List (List ℤ) = rows_of c.args.a.flat.now c.args.a.width c.args.a.skip in
    let e = clip_by_rows n c.args.lo.now c.args.hi.now V (rows_of c.in_ok-flat.flat.items n 0) c.requires c.args.a.vertices c.in_ok-flat.ensures.rows in
    cells_of _ n _ _ (c.from_rows.ensures.dim ∙ c.dim-dim.ensures) (cell_set-clip n c.args.lo.now c.args.hi.now (cells n V)) (c.from_rows.ensures.rows ∙ ap (λ (m : ℕ). rows_of c.in_ok-flat.flat.items m 0) c.dim-dim.ensures ∙ e)
