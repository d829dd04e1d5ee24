use Rattle.std.proofs.Common.{◌≡◌, ◌-◌, ℤ, List, ℕ, ap, ◌∙◌, arith}
use Rattle.evm_cells.specs.Vertices.{evm, cells}
use Rattle.evm_cells.specs.Shapes.{front}
use Rattle.evm_cells.proofs.Lifts.{cell_set-front}
use Rattle.evm_rows.specs.Rows.{rows_of}
use Rattle.evm_shapes.proofs.Shaped.{front_are, are_rows_of}
use Rattle.evm_shapes.proofs.turns.fronted.Goals as goal

pub from_rows-requires : goal.from_rows-requires
from_rows-requires c =
    let a = c.args.a in
    let V : List (List ℤ) = rows_of a.flat.now a.width a.skip in
    let e : rows_of c.in_ok-flat.flat.items (a.width - a.skip) 0 ≡ evm (a.width - a.skip) (front (a.width - a.skip) (c.args.axis - 1) (cells (a.width - a.skip) V)) = front_are (a.width - a.skip) (c.args.axis - 1) V _ (omega (arith, c.requires.low, c.requires.high)) a.vertices c.in_ok-flat.ensures.rows in
    rw c.dim-dim.ensures (are_rows_of (a.width - a.skip) _ _ (omega (arith, a.left)) (omega (arith, a.narrow)) c.in_ok-flat.ensures.whole (cell_set-front (a.width - a.skip) (c.args.axis - 1) (cells (a.width - a.skip) V)) e)

pub returns-clause-rows : goal.returns-clause-rows
returns-clause-rows c =
    let a = c.args.a in
    let V : List (List ℤ) = rows_of a.flat.now a.width a.skip in
    c.from_rows.ensures.rows ∙ ap (λ (n : ℕ). rows_of c.in_ok-flat.flat.items n 0) c.dim-dim.ensures ∙ front_are (a.width - a.skip) (c.args.axis - 1) V _ (omega (arith, c.requires.low, c.requires.high)) a.vertices c.in_ok-flat.ensures.rows
