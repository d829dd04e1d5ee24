use Rattle.evm_voxels.proofs.Windows.{seams_are, no_seam_y, no_seam_z}
use Rattle.evm_voxels.proofs.grid.Grid.seams.Goals as goal
use Rattle.evm_voxels.proofs.grid.Grid.seams.Goals.{else-y-self-via-then-y-self+else-z-self, else-y-self-via-else-y-self}

pub returns-then-z-self : goal.returns-then-z-self
returns-then-z-self c = seams_are c.args.self.now c.args.first c.args.y c.args.z c.row-row.result c.row-row.ensures.bits

pub returns-else-y-self : goal.returns-else-y-self
returns-else-y-self c k l =
    elim c.else-y-self.branch [
      | else-y-self-via-then-y-self+else-z-self w ↦ no_seam_z c.args.self.now c.args.first c.args.y c.args.z k w.if-z-self.false
      | else-y-self-via-else-y-self w ↦ no_seam_y c.args.self.now c.args.first c.args.y c.args.z k w.if-y-self.false
    ]
