use Rattle.std.proofs.Common.{◌≡◌, length}
use Rattle.evm_formats.specs.Pgm.{after_white}
use Rattle.evm_voxels.proofs.pgm.skip_white.Given as goal

abbrev pub invariant-loop-b : goal.invariant-loop-b
invariant-loop-b l = after_white l.rest ≡ after_white l.bytes

abbrev pub decreases-loop-b : goal.decreases-loop-b
decreases-loop-b l = length l.rest
