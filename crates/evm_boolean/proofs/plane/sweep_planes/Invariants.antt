use Rattle.std.proofs.Common.{◌≡◌, ◌+◌, ◌++◌, length}
use Rattle.evm_rows.specs.Rows.{AreRows, rows_of, flat_of, combined_rows}
use Rattle.evm_boolean.specs.Tower.{fills}
use Rattle.evm_boolean.proofs.TowerSteps.{tower, cuts_of}
use Rattle.evm_boolean.proofs.plane.sweep_planes.Given as goal

abbrev pub invariant-loop-height : goal.invariant-loop-height
invariant-loop-height l = record {
  left_dim : l.left.dim ≡ 1;
  right_dim : l.right.dim ≡ 1;
  a_is : AreRows l.line_a.items 1 0;
  b_is : AreRows l.line_b.items 1 0;
  so_far : l.out.items ++ flat_of (tower 1 (combined_rows (fills l.op) 1) (cuts_of l.left.left l.right.left) (rows_of l.line_a.items 1 0) (rows_of l.line_b.items 1 0)
      (combined_rows (fills l.op) 1 (rows_of l.line_a.items 1 0) (rows_of l.line_b.items 1 0)) l.left.left l.right.left)
      ≡ flat_of (combined_rows (fills l.op) 2 (rows_of l.fn.a.flat.now l.fn.a.width l.fn.a.skip) (rows_of l.fn.b.flat.now l.fn.b.width l.fn.b.skip));
}

abbrev pub decreases-loop-height : goal.decreases-loop-height
decreases-loop-height l = length l.left.left + length l.right.left
