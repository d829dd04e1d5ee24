use Rattle.std.proofs.Common.{pos, [], ◌∷◌}
use Rattle.evm_voxels.specs.Grids.{filled_in}
use Rattle.evm_voxels.proofs.GridLines.{seam_is}
use Rattle.evm_voxels.proofs.grid.Grid.differs.Goals as goal

pub returns : goal.returns
returns c = seam_is (filled_in c.args.self.now) (pos c.args.x) (pos c.args.y ∷ pos c.args.z ∷ []) _ _ c.is_filled_before.ensures c.is_filled.ensures
