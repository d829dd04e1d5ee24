use Rattle.std.proofs.Common.{pos, [], ◌∷◌}
use Rattle.evm_voxels.proofs.GridLines.{none_before_x}
use Rattle.evm_voxels.proofs.grid.Grid.is_filled_before.Goals as goal

pub returns-else-x-gt0 : goal.returns-else-x-gt0
returns-else-x-gt0 c = none_before_x c.args.self.now c.args.x (pos c.args.y ∷ pos c.args.z ∷ []) c.if-x-gt0.false
