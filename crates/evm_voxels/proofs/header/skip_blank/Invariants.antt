use Rattle.std.proofs.Common.{◌≡◌, length, false}
use Rattle.evm_formats.specs.Header.{after_blank}
use Rattle.evm_voxels.proofs.header.skip_blank.Given as goal

abbrev pub invariant-loop-b : goal.invariant-loop-b
invariant-loop-b l = record { left : after_blank l.inside l.rest ≡ after_blank false l.bytes }

abbrev pub decreases-loop-b : goal.decreases-loop-b
decreases-loop-b l = length l.rest
