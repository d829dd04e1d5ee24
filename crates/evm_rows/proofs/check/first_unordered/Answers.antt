use Rattle.std.proofs.Common.{arith, ◌∙◌, ap}
use Rattle.evm_cells.specs.Places.{ascending}
use Rattle.evm_rows.proofs.RowsLaws.{rows_of-none}
use Rattle.evm_rows.specs.Rows.{rows_of}
use Rattle.evm_rows.proofs.FirstRows.{asc_none, rise_more, latest_more, left_more, all_rise}
use Rattle.evm_rows.proofs.check.first_unordered.Goals as goal

pub returns-then-flat-eq0 : goal.returns-then-flat-eq0
returns-then-flat-eq0 c = ap ascending (rows_of-none c.args.flat.now c.args.width c.args.skip (omega arith)) ∙ asc_none

pub loop-later-preserved : goal.loop-later-preserved
loop-later-preserved c = record {
  whole = c.split_row-in-loop-later.ensures.whole;
  some = omega arith;
  counted = let a = c.loop-later.invariant.counted in let b = c.split_row-in-loop-later.ensures.shorter in let d = c.requires.left in omega arith;
  left = left_more _ c.loop-later.number _ _ _ c.loop-later.invariant.left c.split_row-in-loop-later.ensures.first;
  wide = c.split_row-in-loop-later.ensures.wide;
  latest = latest_more _ c.loop-later.number _ _ _ c.loop-later.invariant.left c.split_row-in-loop-later.ensures.first;
  passed = rise_more _ c.loop-later.number _ _ _ _ c.loop-later.invariant.left c.split_row-in-loop-later.ensures.first c.loop-later.invariant.latest c.if-not-comes_before.ensures c.loop-later.invariant.passed;
}

pub returns : goal.returns
returns c =
    all_rise (rows_of c.args.flat.now c.args.width c.args.skip) c.loop-later.number
    (c.loop-later.invariant.left ∙ rows_of-none c.loop-later.later.now c.args.width c.args.skip (omega arith)) c.loop-later.invariant.passed
