use Rattle.std.proofs.Common.{◌≤◌, ◌*◌, length}
use Rattle.evm_cells.specs.Limits.{limit}
use Rattle.evm_voxels.specs.Streams.{stream_of}
use Rattle.evm_voxels.proofs.Frames.{takes_of, whole_of}
use Rattle.evm_voxels.proofs.Walking.{IsMarked}
use Rattle.evm_voxels.proofs.y4m.mark_frames.Given as goal

abbrev pub invariant-loop-rest : goal.invariant-loop-rest
invariant-loop-rest l = record {
  marked : IsMarked (whole_of l.dim (stream_of l.of)) (takes_of l.dim (stream_of l.of)) l.number l.rest (l.of.size.height * l.of.size.width) l.threshold l.marks.items;
  few : l.number ≤ limit l.dim;
}

abbrev pub decreases-loop-rest : goal.decreases-loop-rest
decreases-loop-rest l = length l.rest
