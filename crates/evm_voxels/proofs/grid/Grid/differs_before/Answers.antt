use Rattle.std.proofs.Common.{pos, [], ◌∷◌}
use Rattle.evm_voxels.proofs.GridLines.{none_before_y}
use Rattle.evm_voxels.proofs.grid.Grid.differs_before.Goals as goal

pub returns-else-y-gt0 : goal.returns-else-y-gt0
returns-else-y-gt0 c = none_before_y c.args.self.now (pos c.args.x) c.args.y (pos c.args.z ∷ []) c.if-y-gt0.false
