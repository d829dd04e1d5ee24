use Rattle.std.proofs.Common.{◌∙◌}
use Rattle.evm_formats.specs.Y4m.{values, only_number, kind_of}
use Rattle.evm_voxels.proofs.Frames.{no_width, no_height, no_kind, all_sized}
use Rattle.evm_voxels.proofs.y4m.headed.Goals as goal

pub returns-in_default-clause-exact : goal.returns-in_default-clause-exact
returns-in_default-clause-exact c =
    no_width c.args.dim (only_number (values 87 c.args.line.now)) (only_number (values 72 c.args.line.now)) (kind_of (values 67 c.args.line.now)) c.args.rest.now (c.in_default.ensures (values 87 c.args.line.now) c.find.ensures)

pub returns-in_default-only_number-clause-exact : goal.returns-in_default-only_number-clause-exact
returns-in_default-only_number-clause-exact c =
    no_height c.args.dim (only_number (values 87 c.args.line.now)) (only_number (values 72 c.args.line.now)) (kind_of (values 67 c.args.line.now)) c.args.rest.now (c.in_default-only_number.ensures (values 72 c.args.line.now) c.find-2.ensures)

pub returns-in-Ok-clause-exact : goal.returns-in-Ok-clause-exact
returns-in-Ok-clause-exact c =
    c.sized.ensures.exact
    ∙ all_sized c.args.dim c.in-Some.width c.in-Some-only_number.height (only_number (values 87 c.args.line.now)) (only_number (values 72 c.args.line.now)) (kind_of (values 67 c.args.line.now)) c.in-Ok.sampling c.args.rest.now
    (c.in-Some.ensures (values 87 c.args.line.now) c.find.ensures) (c.in-Some-only_number.ensures (values 72 c.args.line.now) c.find-2.ensures) (c.in-Ok.ensures (values 67 c.args.line.now) c.find-3.ensures)

pub returns-in-Err-clause-exact : goal.returns-in-Err-clause-exact
returns-in-Err-clause-exact c =
    no_kind c.args.dim c.in-Some.width c.in-Some-only_number.height (only_number (values 87 c.args.line.now)) (only_number (values 72 c.args.line.now)) (kind_of (values 67 c.args.line.now)) c.in-Err.e c.args.rest.now
    (c.in-Some.ensures (values 87 c.args.line.now) c.find.ensures) (c.in-Some-only_number.ensures (values 72 c.args.line.now) c.find-2.ensures) (c.in-Err.ensures (values 67 c.args.line.now) c.find-3.ensures)
