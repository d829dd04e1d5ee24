use Rattle.std.proofs.Common.{◌≤◌, ◌+◌, ◌*◌, length}
use Rattle.evm_cells.specs.Limits.{limit}
use Rattle.evm_formats.specs.Pgm.{images_from, later_image}
use Rattle.evm_voxels.specs.Shots.{pair_of, shot_of}
use Rattle.evm_voxels.proofs.Walking.{IsPassed}
use Rattle.evm_voxels.proofs.pgm.measure.Given as goal

abbrev pub invariant-loop-rest : goal.invariant-loop-rest
invariant-loop-rest l = record {
  passed : IsPassed (images_from l.dim (shot_of l.first)) (later_image l.dim (pair_of l.first.size)) l.depth l.rest;
  room : l.depth * (l.first.size.height * l.first.size.width) + length l.rest ≤ length l.bytes;
  few : l.depth ≤ limit l.dim;
}

abbrev pub decreases-loop-rest : goal.decreases-loop-rest
decreases-loop-rest l = length l.rest
