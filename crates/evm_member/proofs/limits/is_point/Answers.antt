use Rattle.std.proofs.Common.{arith, rules, w32}
use mir.Val.{SFits}
use Rattle.std.proofs.lemmas.Int.{ints}
use Rattle.evm_member.proofs.Between.{point-between, point_other}
use Rattle.evm_member.proofs.limits.is_point.Goals as goal

pub returns-then-point-dim : goal.returns-then-point-dim
returns-then-point-dim c =
    let fits : SFits w32 c.limit-limit.result = search rules in
    point-between c.args.dim c.args.point.now _ _ c.are_between.result c.if-point-dim.true (omega (arith, ints, c.limit-limit.ensures)) (omega (arith, ints, c.limit-limit.ensures)) c.are_between.ensures

pub returns-else-point-dim : goal.returns-else-point-dim
returns-else-point-dim c = point_other c.args.dim c.args.point.now c.if-point-dim.false
