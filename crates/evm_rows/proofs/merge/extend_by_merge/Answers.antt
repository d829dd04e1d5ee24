use Rattle.std.proofs.Common.{◌+◌, ◌++◌, ap, ◌∙◌, arith}
use Rattle.evm_rows.specs.Rows.{rows_of, flat_of, raised}
use Rattle.evm_rows.proofs.RowsLaws.{merge_less, merge_equal, merge_greater, merge_done_left, merge_done_right, rows_of-none}
use Rattle.evm_rows.proofs.merge.extend_by_merge.Goals as goal
use Rattle.evm_rows.proofs.merge.extend_by_merge.Goals.{then-loop-left-test+else-right-ne0, else-loop-left-test}

pub loop-left-preserved-in-Less : goal.loop-left-preserved-in-Less
loop-left-preserved-in-Less c = record {
  left_whole = c.split_row.ensures.whole;
  right_whole = c.loop-left.invariant.right_whole;
  so_far = merge_less _ _ _ _ _ _ _ _ _ _ c.split_row.ensures.first c.split_row-in-loop-left.ensures.first c.in-Less.ensures
      c.in_ok-extend_by_row-in-Less.ensures c.loop-left.invariant.so_far;
}

pub loop-left-preserved-in-Equal : goal.loop-left-preserved-in-Equal
loop-left-preserved-in-Equal c = record {
  left_whole = c.split_row.ensures.whole;
  right_whole = c.split_row-in-loop-left.ensures.whole;
  so_far = merge_equal _ _ _ _ _ _ _ _ _ c.split_row.ensures.first c.split_row-in-loop-left.ensures.first c.in-Equal.ensures
      c.loop-left.invariant.so_far;
}

pub loop-left-preserved : goal.loop-left-preserved
loop-left-preserved c = record {
  left_whole = c.loop-left.invariant.left_whole;
  right_whole = c.split_row-in-loop-left.ensures.whole;
  so_far = merge_greater _ _ _ _ _ _ _ _ _ _ c.split_row.ensures.first c.split_row-in-loop-left.ensures.first c.in-Greater.ensures
      c.in_ok-extend_by_row-in-Greater.ensures c.loop-left.invariant.so_far;
}

pub returns : goal.returns
returns c =
    c.in_ok-extend_by_rows-2.ensures
    ∙ ap (λ o. o ++ flat_of (raised c.args.height (rows_of c.loop-left.right.now (c.args.dim + c.args.b_skip) c.args.b_skip))) c.in_ok-extend_by_rows.ensures
    ∙ elim c.loop-left-test.branch [
      | then-loop-left-test+else-right-ne0 w ↦
          merge_done_right _ _ _ _ _ (rows_of-none c.loop-left.right.now _ _ (omega arith)) c.loop-left.invariant.so_far
      | else-loop-left-test w ↦
          merge_done_left _ _ _ _ _ (rows_of-none c.loop-left.left.now _ _ (omega arith)) c.loop-left.invariant.so_far
    ]
