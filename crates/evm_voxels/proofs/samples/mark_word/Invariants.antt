use Rattle.std.proofs.Common.{◌≡◌, ℕ, ◌+◌, ◌<◌, ◌&&◌, nat_lt, nat_le}
use Rattle.evm_formats.specs.Images.{sample}
use Rattle.evm_voxels.specs.Marks.{bit_on}
use Rattle.evm_voxels.proofs.samples.mark_word.Given as goal

abbrev pub invariant-loop-k : goal.invariant-loop-k
invariant-loop-k l = (i : ℕ) → i < 32 → bit_on i l.word ≡ (nat_lt i l.k && nat_le l.threshold (sample (record { bytes = l.image.bytes.now; wide = l.image.wide }) (l.first + i)))
