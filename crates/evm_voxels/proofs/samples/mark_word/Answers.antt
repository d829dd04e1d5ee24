use Rattle.std.proofs.Common.{◌+◌, nat_le, arith}
use Rattle.evm_formats.specs.Images.{sample}
use Rattle.evm_voxels.proofs.Marking.{bit_step, no_bits, all_bits}
use Rattle.evm_voxels.proofs.samples.mark_word.Goals as goal

pub loop-k-init : goal.loop-k-init
loop-k-init c i l = no_bits (λ i. nat_le c.args.threshold (sample (record { bytes = c.args.image.bytes.now; wide = c.args.image.wide }) (c.args.first + i))) i

pub loop-k-preserved : goal.loop-k-preserved
loop-k-preserved c =
    bit_step (λ i. nat_le c.args.threshold (sample (record { bytes = c.args.image.bytes.now; wide = c.args.image.wide }) (c.args.first + i))) c.loop-k.word c.with_bit-word.result c.loop-k.k _
    c.loop-k.invariant c.is_at_least.ensures c.with_bit-word.ensures

pub returns : goal.returns
returns c i l m =
    all_bits (λ i. nat_le c.args.threshold (sample (record { bytes = c.args.image.bytes.now; wide = c.args.image.wide }) (c.args.first + i))) c.loop-k.word c.loop-k.k i (c.loop-k.invariant i l)
    (omega (arith, c.min.ensures, c.min-k-end.ensures))
