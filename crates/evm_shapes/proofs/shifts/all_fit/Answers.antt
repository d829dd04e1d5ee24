use Rattle.std.proofs.Common.{◌-◌, arith}
use Rattle.evm_rows.proofs.RowsLaws.{rows_of-none}
use Rattle.evm_shapes.proofs.Shifted.{rows_pass}
use Rattle.evm_shapes.proofs.shifts.all_fit.Goals as goal

pub returns : goal.returns
returns c = rows_pass (c.args.a.width - c.args.a.skip) c.args.by.now _ _ (rows_of-none c.loop-left.left.now c.args.a.width c.args.a.skip (omega arith)) c.loop-left.invariant.so_far
