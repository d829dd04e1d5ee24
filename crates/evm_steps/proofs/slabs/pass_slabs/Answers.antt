use Rattle.std.proofs.Common.{◌∙◌, ap, length, ◌+◌}
use Rattle.evm_rows.specs.View.{vertices_of}
use Rattle.evm_steps.proofs.CutCounts.{length-couplets}
use Rattle.evm_steps.proofs.slabs.pass_slabs.Goals as goal

pub loop-couplet-init : goal.loop-couplet-init
loop-couplet-init g c =
    ap (λ n. c.args.steps.now + n)
    (ap length c.of-walk.ensures.left ∙ length-couplets (vertices_of c.args.a) c.requires c.args.a.vertices)
