use Rattle.evm_voxels.proofs.Params.{once_number}
use Rattle.evm_voxels.proofs.y4m.only_number.Goals as goal

pub returns-in-Once : goal.returns-in-Once
returns-in-Once c vs h = once_number c.args.found _ vs _ c.in-Once.is h c.number_of.ensures
