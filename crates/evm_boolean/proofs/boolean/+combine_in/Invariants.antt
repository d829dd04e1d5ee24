use Rattle.std.proofs.Common.{◌≡◌, ◌+◌, ◌-◌, ◌<◌, ◌++◌, length}
use Rattle.evm_rows.specs.Rows.{rows_of, flat_of, combined_rows}
use Rattle.evm_boolean.specs.Tower.{fills}
use Rattle.evm_boolean.proofs.TowerSteps.{tower, cuts_of}
use Rattle.evm_boolean.proofs.boolean.+combine_in.Given as goal

abbrev pub decreases-combine_in : goal.decreases-combine_in
decreases-combine_in l = l.a.width - l.a.skip

abbrev pub invariant-loop-height : goal.invariant-loop-height
invariant-loop-height l = record {
  deep : 1 < l.dim;
  dim_is : l.dim ≡ l.fn.a.width - l.fn.a.skip;
  left_dim : l.left.dim + 1 ≡ l.dim;
  right_dim : l.right.dim + 1 ≡ l.dim;
  a_dim : l.below_a.dim + 1 ≡ l.dim;
  b_dim : l.below_b.dim + 1 ≡ l.dim;
  below_dim : l.below.dim + 1 ≡ l.dim;
  so_far : l.out.items ++ flat_of (tower (l.dim - 1) (combined_rows (fills l.op) (l.dim - 1)) (cuts_of l.left.left l.right.left) l.below_a.rows l.below_b.rows l.below.rows l.left.left l.right.left)
      ≡ flat_of (combined_rows (fills l.op) l.dim (rows_of l.fn.a.flat.now l.fn.a.width l.fn.a.skip) (rows_of l.fn.b.flat.now l.fn.b.width l.fn.b.skip));
}

abbrev pub decreases-loop-height : goal.decreases-loop-height
decreases-loop-height l = length l.left.left + length l.right.left
