use Rattle.std.proofs.Common.{◌≡◌, ◌+◌, ◌-◌, ◌<◌, ◌≤◌, ◌++◌, length}
use Rattle.evm_rows.specs.Rows.{flat_of, combined_rows}
use Rattle.evm_rows.specs.View.{vertices_of}
use Rattle.evm_boolean.specs.Tower.{fills}
use Rattle.evm_boolean.proofs.TowerSteps as TowerSteps
use Rattle.evm_boolean.proofs.TowerSteps.{tower}
use Rattle.evm_steps.specs.Cuts.{cuts_of}
use Rattle.evm_steps.proofs.slabs.climb.Given as goal

abbrev pub invariant-loop-height : goal.invariant-loop-height
invariant-loop-height g l = record {
  deep : 1 < l.dim;
  dim_is : l.dim ≡ (vertices_of l.fn.a).dim;
  left_dim : l.left.dim + 1 ≡ l.dim;
  right_dim : l.right.dim + 1 ≡ l.dim;
  a_dim : l.below_a.dim + 1 ≡ l.dim;
  b_dim : l.below_b.dim + 1 ≡ l.dim;
  below_dim : l.below.dim + 1 ≡ l.dim;
  so_far : l.out.items ++ flat_of (tower (l.dim - 1) (combined_rows (fills l.op) (l.dim - 1)) (TowerSteps.cuts_of l.left.left l.right.left) l.below_a.rows l.below_b.rows l.below.rows l.left.left l.right.left)
      ≡ flat_of (combined_rows (fills l.op) l.dim (vertices_of l.fn.a).rows (vertices_of l.fn.b).rows);
  few : l.steps + (length l.left.left + length l.right.left) ≤ l.fn.steps + (length (cuts_of (vertices_of l.fn.a)) + length (cuts_of (vertices_of l.fn.b)));
  more : l.fn.steps ≤ l.steps;
}

abbrev pub decreases-loop-height : goal.decreases-loop-height
decreases-loop-height g l = length l.left.left + length l.right.left
