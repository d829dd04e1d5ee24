use Rattle.std.proofs.Common.{arith}
use Rattle.evm_rows.proofs.RowsLaws.{rows_of-none}
use Rattle.evm_sections.proofs.Bits.{same32}
use Rattle.evm_shapes.proofs.Sliced.{up_to_done}
use Rattle.evm_shapes.proofs.slices.append_all_up_to.Goals as goal

pub returns : goal.returns
returns c = up_to_done c.args.axis c.args.at _ _ _ (rows_of-none c.loop-left.left.now c.args.a.width c.args.a.skip (omega arith)) (rw (same32 c.args.at c.ranges.at) at c.loop-left.invariant.so_far)
