use Rattle.std.proofs.Common.{◌≡◌, ◌+◌, ◌-◌, ◌++◌, length}
use Rattle.evm_rows.specs.View.{vertices_of}
use Rattle.evm_faces.specs.Counts.{faces_by_cut, faces_left}
use Rattle.evm_faces.proofs.counts.along_first.Given as goal

abbrev pub invariant-loop-at : goal.invariant-loop-at
invariant-loop-at l = record {
  dims : l.walk.dim ≡ l.below.dim;
  deep : l.below.dim + 1 ≡ l.fn.a.width - l.fn.a.skip;
  so_far : l.out.items ++ faces_left l.below.dim l.below.rows l.walk.left ≡ faces_by_cut 1 (vertices_of l.fn.a);
}

abbrev pub decreases-loop-at : goal.decreases-loop-at
decreases-loop-at l = length l.walk.left
