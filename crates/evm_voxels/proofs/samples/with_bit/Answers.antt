use Rattle.std.proofs.Common.{sym, ◌∙◌, ap, ◌||◌, ◌&&◌, nat_eq}
use Rattle.evm_voxels.specs.Marks.{bit_on}
use Rattle.evm_voxels.proofs.Marking.{set_bit}
use Rattle.evm_voxels.proofs.samples.with_bit.Goals as goal

pub returns-then-on : goal.returns-then-on
returns-then-on c i l = set_bit c.args.word c.args.k c.requires i l ∙ ap (λ b. bit_on i c.args.word || (b && nat_eq i c.args.k)) (sym c.if-on.true)
