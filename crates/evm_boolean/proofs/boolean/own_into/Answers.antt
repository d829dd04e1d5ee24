use Rattle.std.proofs.Common.{◌-◌, ◌∙◌, arith}
use Rattle.evm_rows.specs.Rows.{rows_of}
use Rattle.evm_rows.proofs.RowsOrder.{rows_of-own}
use Rattle.evm_rows.proofs.Bridge.{are_rows-flat}
use Rattle.evm_boolean.proofs.boolean.own_into.Goals as goal

pub from_rows-requires : goal.from_rows-requires
from_rows-requires c =
    let a = c.args.a in
    rw (c.in_ok-flat.ensures, c.clear.ensures.items, c.dim.ensures)
    (are_rows-flat (a.width - a.skip) (rows_of a.flat.now a.width a.skip) (omega (arith, a.left)) (omega (arith, a.narrow)) a.vertices)

pub returns-clause-rows : goal.returns-clause-rows
returns-clause-rows c =
    let a = c.args.a in
    c.from_rows.ensures.rows ∙ rw (c.in_ok-flat.ensures, c.clear.ensures.items, c.dim.ensures) (rows_of-own a.flat.now a.width a.skip a.left a.whole)
