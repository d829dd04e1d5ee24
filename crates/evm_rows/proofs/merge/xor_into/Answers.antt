use Rattle.std.proofs.Common.{◌≡◌, ◌-◌, ◌∙◌, ap, ap₂, arith}
use Rattle.evm_cells.specs.Places.{has}
use Rattle.evm_cells.specs.Vertices.{IsVertexList, cells}
use Rattle.evm_rows.specs.Rows.{rows_of}
use Rattle.evm_rows.proofs.RowsOrder.{rows_of-flat_of}
use Rattle.evm_rows.proofs.Bridge.{vertices-xor, are_rows-flat, wide-points}
use Rattle.evm_rows.proofs.Solids.{cells-xor_rows, has-xor_rows}
use Rattle.evm_rows.proofs.merge.xor_into.Goals as goal

pub from_rows-requires : goal.from_rows-requires
from_rows-requires c =
    let a = c.args.a in
    let b = c.args.b in
    rw (c.in_ok-flat.ensures, c.in_ok-reserve.ensures.items, c.clear.ensures.items, c.dim.ensures)
    (are_rows-flat (a.width - a.skip) _ (omega (arith, a.left)) (omega (arith, a.narrow)) (vertices-xor (a.width - a.skip) (rows_of a.flat.now a.width a.skip) (rows_of b.flat.now b.width b.skip)))

pub returns-clause-rows : goal.returns-clause-rows
returns-clause-rows c =
    let a = c.args.a in
    let b = c.args.b in
    let v = vertices-xor (a.width - a.skip) (rows_of a.flat.now a.width a.skip) (rows_of b.flat.now b.width b.skip) in
    c.from_rows.ensures.rows ∙ rw (c.in_ok-flat.ensures, c.in_ok-reserve.ensures.items, c.clear.ensures.items, c.dim.ensures)
    (rows_of-flat_of (a.width - a.skip) _ (omega (arith, a.left)) (wide-points (a.width - a.skip) _ v.points))

pub returns-clause-cells : goal.returns-clause-cells
returns-clause-cells c =
    let a = c.args.a in
    let b = c.args.b in
    ap₂ cells (c.from_rows.ensures.dim ∙ c.dim.ensures) (returns-clause-rows c) ∙ cells-xor_rows (a.width - a.skip) (rows_of a.flat.now a.width a.skip) (rows_of b.flat.now b.width b.skip)

pub returns-clause-members : goal.returns-clause-members
returns-clause-members c =
    λ p.
    let a = c.args.a in
    let b = c.args.b in
    let same : a.width - a.skip ≡ b.width - b.skip = c.requires in
    let w : IsVertexList (a.width - a.skip) (rows_of b.flat.now b.width b.skip) = rw same b.vertices in
    ap (λ V. has V p) (returns-clause-rows c) ∙ has-xor_rows (a.width - a.skip) (rows_of a.flat.now a.width a.skip) (rows_of b.flat.now b.width b.skip) p a.vertices w
