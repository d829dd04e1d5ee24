use Rattle.evm_voxels.proofs.Params.{once_more, often_more}
use Rattle.evm_voxels.proofs.y4m.with_value.Goals as goal

pub returns-in-Once : goal.returns-in-Once
returns-in-Once c vs h = once_more c.args.found c.in-Once.field-0 vs c.args.value.now c.in-Once.is h

pub returns-in-Often : goal.returns-in-Often
returns-in-Often c vs h = often_more c.args.found vs c.args.value.now c.in-Often.is h
