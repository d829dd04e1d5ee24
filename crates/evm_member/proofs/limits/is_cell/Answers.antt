use Rattle.std.proofs.Common.{arith, rules, w32}
use mir.Val.{SFits}
use Rattle.std.proofs.lemmas.Int.{ints}
use Rattle.evm_member.proofs.Between.{cell-between, cell_other}
use Rattle.evm_member.proofs.limits.is_cell.Goals as goal

pub returns-then-cell-dim : goal.returns-then-cell-dim
returns-then-cell-dim c =
    let fits : SFits w32 c.limit-limit.result = search rules in
    cell-between c.args.dim c.args.cell.now _ _ c.are_between.result c.if-cell-dim.true (omega (arith, ints, c.limit-limit.ensures)) (omega (arith, ints, c.limit-limit.ensures)) c.are_between.ensures

pub returns-else-cell-dim : goal.returns-else-cell-dim
returns-else-cell-dim c = cell_other c.args.dim c.args.cell.now c.if-cell-dim.false
