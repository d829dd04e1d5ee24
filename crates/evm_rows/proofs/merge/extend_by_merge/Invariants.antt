use Rattle.std.proofs.Common.{◌≡◌, ◌%◌, ◌+◌, ◌++◌, length}
use Rattle.evm_rows.specs.Rows.{rows_of, flat_of, merge_xor, raised}
use Rattle.evm_rows.proofs.merge.extend_by_merge.Given as goal

abbrev pub invariant-loop-left : goal.invariant-loop-left
invariant-loop-left l = record {
  left_whole : length l.left % (l.dim + l.a_skip) ≡ 0;
  right_whole : length l.right % (l.dim + l.b_skip) ≡ 0;
  so_far : l.out.items ++ flat_of (raised l.height (merge_xor (rows_of l.left (l.dim + l.a_skip) l.a_skip) (rows_of l.right (l.dim + l.b_skip) l.b_skip)))
      ≡ l.initial.out.items ++ flat_of (raised l.height (merge_xor (rows_of l.a (l.dim + l.a_skip) l.a_skip) (rows_of l.b (l.dim + l.b_skip) l.b_skip)));
}

abbrev pub decreases-loop-left : goal.decreases-loop-left
decreases-loop-left l = length l.left + length l.right
