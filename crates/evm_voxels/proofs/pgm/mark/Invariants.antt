use Rattle.std.proofs.Common.{◌≤◌, ◌*◌, length}
use Rattle.evm_cells.specs.Limits.{limit}
use Rattle.evm_formats.specs.Pgm.{images_from, later_image}
use Rattle.evm_voxels.specs.Shots.{pair_of, shot_of}
use Rattle.evm_voxels.proofs.Walking.{IsMarked}
use Rattle.evm_voxels.proofs.pgm.mark.Given as goal

abbrev pub invariant-loop-first : goal.invariant-loop-first
invariant-loop-first l = record {
  marked : IsMarked (images_from l.dim (shot_of l.first)) (later_image l.dim (pair_of l.first.size)) l.number l.rest (l.first.size.height * l.first.size.width) l.threshold l.marks.items;
  few : l.number ≤ limit l.dim;
}

abbrev pub decreases-loop-first : goal.decreases-loop-first
decreases-loop-first l = length l.rest
