use Rattle.std.proofs.Common.{arith}
use Rattle.evm_rows.proofs.RowsLaws.{rows_of-none}
use Rattle.evm_shapes.proofs.MoveSteps.{all_done}
use Rattle.evm_shapes.proofs.shifts.append_all_added.Goals as goal

pub returns : goal.returns
returns c = all_done _ _ _ _ (rows_of-none c.loop-left.left.now c.args.a.width c.args.a.skip (omega arith)) c.loop-left.invariant.so_far
