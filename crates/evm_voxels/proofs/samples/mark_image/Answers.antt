use Rattle.std.proofs.Common.{nat_le, arith}
use Rattle.evm_formats.specs.Images.{sample}
use Rattle.evm_voxels.proofs.Marking.{so_far_none, so_far_more, so_far_all}
use Rattle.evm_voxels.proofs.samples.mark_image.Goals as goal

pub loop-word-init : goal.loop-word-init
loop-word-init c = so_far_none c.args.marks.now.items c.args.count (λ i. nat_le c.args.threshold (sample (record { bytes = c.args.image.bytes.now; wide = c.args.image.wide }) i))

pub loop-word-preserved : goal.loop-word-preserved
loop-word-preserved c =
    so_far_more c.args.marks.now.items c.loop-word.marks.items _ c.loop-word.word c.args.count _ (λ i. nat_le c.args.threshold (sample (record { bytes = c.args.image.bytes.now; wide = c.args.image.wide }) i))
    c.loop-word.invariant c.in_ok-push.ensures.items c.mark_word.ensures

pub returns : goal.returns
returns c =
    so_far_all c.args.marks.now.items c.loop-word.marks.items c.loop-word.word c.args.count (λ i. nat_le c.args.threshold (sample (record { bytes = c.args.image.bytes.now; wide = c.args.image.wide }) i))
    (omega (arith, c.div_ceil-word-end.ensures)) c.loop-word.invariant
