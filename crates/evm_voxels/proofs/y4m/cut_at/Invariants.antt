use Rattle.std.proofs.Common.{◌≡◌, take, drop}
use Rattle.evm_formats.specs.Y4m.{cut_at}
use Rattle.evm_voxels.proofs.Params.{behind}
use Rattle.evm_voxels.proofs.y4m.cut_at.Given as goal

abbrev pub invariant-loop-i : goal.invariant-loop-i
invariant-loop-i l = cut_at l.stop l.bytes ≡ behind (take l.i l.bytes) (cut_at l.stop (drop l.i l.bytes))
