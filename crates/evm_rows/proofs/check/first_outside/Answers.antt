use Rattle.std.proofs.Common.{◌≡◌, length, arith, ◌∙◌}
use Rattle.evm_rows.proofs.RowsLaws.{rows_of-none}
use Rattle.evm_rows.specs.Rows.{rows_of}
use Rattle.evm_rows.proofs.FirstRows.{out_here, pass_more, left_more, all_passed}
use Rattle.evm_rows.proofs.check.first_outside.Goals as goal

pub returns-then-not-is_within : goal.returns-then-not-is_within
returns-then-not-is_within c =
    let wide : length c.split_row.result.0.now ≡ c.args.width = omega (arith, c.split_row.ensures.wide) in
    out_here c.args.width _ c.loop-later.number _ _ _ c.loop-later.invariant.left c.split_row.ensures.first wide c.if-not-is_within.ensures c.loop-later.invariant.passed

pub loop-later-preserved : goal.loop-later-preserved
loop-later-preserved c =
    let wide : length c.split_row.result.0.now ≡ c.args.width = omega (arith, c.split_row.ensures.wide) in
    record {
      whole = c.split_row.ensures.whole;
      counted = let a = c.loop-later.invariant.counted in let b = c.split_row.ensures.shorter in let d = c.requires.some in omega arith;
      left = left_more _ c.loop-later.number _ _ _ c.loop-later.invariant.left c.split_row.ensures.first;
      passed = pass_more c.args.width _ c.loop-later.number _ _ _ c.loop-later.invariant.left c.split_row.ensures.first wide c.if-not-is_within.ensures c.loop-later.invariant.passed;
    }

pub returns : goal.returns
returns c =
    all_passed c.args.width (rows_of c.args.flat.now c.args.width 0) c.loop-later.number
    (c.loop-later.invariant.left ∙ rows_of-none c.loop-later.later.now c.args.width 0 (omega arith)) c.loop-later.invariant.passed
