use Rattle.std.proofs.Common.{◌≡◌, ◌%◌, ◌++◌, length}
use Rattle.evm_rows.specs.Rows.{rows_of}
use Rattle.evm_faces.specs.Faces.{heights_on}
use Rattle.evm_faces.proofs.heights.heights_of.Given as goal

abbrev pub invariant-loop-left : goal.invariant-loop-left
invariant-loop-left l = record {
  whole : length l.left % l.a.width ≡ 0;
  so_far : l.heights.items ++ heights_on l.axis (rows_of l.left l.a.width l.a.skip) ≡ heights_on l.axis (rows_of l.a.flat.now l.a.width l.a.skip);
}

abbrev pub decreases-loop-left : goal.decreases-loop-left
decreases-loop-left l = length l.left
