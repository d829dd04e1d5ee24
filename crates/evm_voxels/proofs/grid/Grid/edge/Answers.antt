use Rattle.std.proofs.Common.{pos, [], ◌∷◌}
use Rattle.evm_voxels.specs.Grids.{filled_in}
use Rattle.evm_voxels.proofs.GridLines.{edge_is}
use Rattle.evm_voxels.proofs.grid.Grid.edge.Goals as goal

pub returns : goal.returns
returns c = edge_is (filled_in c.args.self.now) (pos c.args.x) (pos c.args.y) (pos c.args.z ∷ []) _ _ c.differs_before.ensures c.differs.ensures
