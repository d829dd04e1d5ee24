use Rattle.std.proofs.Common.{◌∙◌, sym}
use Rattle.evm_voxels.proofs.Capped.{image_is, no_magic, no_fields}
use Rattle.evm_voxels.proofs.pgm.read_image.Goals as goal

pub returns-then-not-is_magic-clause-exact : goal.returns-then-not-is_magic-clause-exact
returns-then-not-is_magic-clause-exact c = no_magic c.args.dim c.args.number _ c.args.bytes.now (sym c.is_magic.ensures ∙ c.if-not-is_magic.true)

pub returns-in-Some-clause-exact : goal.returns-in-Some-clause-exact
returns-in-Some-clause-exact c = c.shot_of.ensures.exact ∙ image_is c.args.dim c.args.number _ c.args.bytes.now _ _ (sym c.is_magic.ensures ∙ c.if-not-is_magic.false) c.split_at.ensures.back c.in-Some.ensures

pub returns-in-None-clause-exact : goal.returns-in-None-clause-exact
returns-in-None-clause-exact c = no_fields c.args.dim c.args.number _ ∙ image_is c.args.dim c.args.number _ c.args.bytes.now _ _ (sym c.is_magic.ensures ∙ c.if-not-is_magic.false) c.split_at.ensures.back c.in-None.ensures
