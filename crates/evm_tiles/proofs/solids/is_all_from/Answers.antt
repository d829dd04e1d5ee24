use Rattle.std.proofs.Common.{arith}
use Rattle.evm_rows.proofs.RowsLaws.{rows_of-none}
use Rattle.evm_rows.proofs.BoxTests.{same32}
use Rattle.evm_tiles.proofs.Showing.{none_left}
use Rattle.evm_tiles.proofs.solids.is_all_from.Goals as goal

pub returns : goal.returns
returns c = none_left _ _ _ (rows_of-none c.loop-left.left.now c.args.a.width c.args.a.skip (omega arith)) (rw (same32 c.args.at c.ranges.at) at c.loop-left.invariant.so_far)
