use Rattle.std.proofs.Common.{arith}
use Rattle.evm_boxes.proofs.Meets.{inside_of}
use Rattle.evm_boxes.proofs.events.is_inside.Goals as goal

pub returns : goal.returns
returns c =
    inside_of c.args.dim c.args.row.now c.args.other.now c.requires.row c.requires.other
    (λ j k. c.loop-axis.invariant.low j (omega arith)) (λ j k. c.loop-axis.invariant.high j (omega arith))
