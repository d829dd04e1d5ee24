use Rattle.std.proofs.Common.{arith}
use Rattle.evm_session.proofs.Rows.{rows_done}
use Rattle.evm_session.proofs.replies.say_rows.Goals as goal

pub returns : goal.returns
returns c =
    rows_done c.args.rows.flat.now c.loop-left.left.now c.args.rows.width c.args.rows.skip c.args.out.now.items c.loop-left.out.items (omega arith) c.loop-left.invariant.2
