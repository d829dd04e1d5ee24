use Rattle.std.proofs.Common.{◌≡◌, ◌%◌, length}
use Rattle.evm_rows.specs.Rows.{rows_of}
use Rattle.evm_rows.specs.Groups.{targets}
use Rattle.evm_shapes.proofs.Lone.{Gathered}
use Rattle.evm_shapes.proofs.order.lone_rows.Given as goal

abbrev pub invariant-loop-left : goal.invariant-loop-left
invariant-loop-left l = record {
  whole : length l.left % l.width ≡ 0;
  so_far : Gathered l.width (targets l.rows.items) (rows_of l.left l.width 0) (rows_of l.flat l.width 0);
}

abbrev pub decreases-loop-left : goal.decreases-loop-left
decreases-loop-left l = length l.left
