use Rattle.std.proofs.Common.{nat_le}
use Rattle.evm_formats.specs.Images.{sample}
use Rattle.evm_voxels.proofs.Marking.{IsSoFar}
use Rattle.evm_voxels.proofs.samples.mark_image.Given as goal

abbrev pub invariant-loop-word : goal.invariant-loop-word
invariant-loop-word l = IsSoFar l.initial.marks.items l.marks.items l.word l.count (λ i. nat_le l.threshold (sample (record { bytes = l.image.bytes.now; wide = l.image.wide }) i))
