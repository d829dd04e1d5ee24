use Rattle.std.proofs.Common.{◌∙◌}
use Rattle.evm_voxels.proofs.Frames.{no_magic, no_line, line_is}
use Rattle.evm_voxels.proofs.y4m.read_stream.Goals as goal

pub returns-in_default-clause-exact : goal.returns-in_default-clause-exact
returns-in_default-clause-exact c = no_magic c.args.dim c.args.bytes.now c.in_default.ensures

pub returns-in-Some-cut_at-clause-exact : goal.returns-in-Some-cut_at-clause-exact
returns-in-Some-cut_at-clause-exact c =
    c.headed.ensures.exact
    ∙ line_is c.args.dim c.args.bytes.now c.in-Some.after.now c.in-Some-cut_at.line.now c.in-Some-cut_at.rest.now c.in-Some.ensures.0 c.in-Some.ensures.1 c.in-Some-cut_at.ensures

pub returns-in-None-clause-exact : goal.returns-in-None-clause-exact
returns-in-None-clause-exact c = no_line c.args.dim c.args.bytes.now c.in-Some.after.now c.in-Some.ensures.0 c.in-Some.ensures.1 c.in-None.ensures
