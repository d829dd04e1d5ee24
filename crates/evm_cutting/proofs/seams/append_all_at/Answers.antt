use Rattle.std.proofs.Common.{arith}
use Rattle.evm_rows.proofs.RowsLaws.{rows_of-none}
use Rattle.evm_sections.proofs.Bits.{same32}
use Rattle.evm_cutting.proofs.SeamRows.{at_more, at_done}
use Rattle.evm_cutting.proofs.seams.append_all_at.Goals as goal

pub loop-left-preserved : goal.loop-left-preserved
loop-left-preserved c = record {
  whole = c.split_row.ensures.whole;
  so_far = at_more _ _ c.loop-left.out.items c.append_at.new.out.items _ _ _ _ c.split_row.ensures.first c.in_ok-append_at.ensures c.loop-left.invariant.so_far;
}

pub returns : goal.returns
returns c = at_done c.args.axis c.args.at _ _ _ (rows_of-none c.loop-left.left.now c.args.a.width c.args.a.skip (omega arith)) (rw (same32 c.args.at c.ranges.at) at c.loop-left.invariant.so_far)
