use Rattle.std.proofs.Common.{pos, [], ◌∷◌, sym, refl}
use Rattle.evm_voxels.proofs.GridLines.{mark_read, off_x, off_y, off_z, size_no}
use Rattle.evm_voxels.proofs.grid.Grid.is_filled.Goals as goal
use Rattle.evm_voxels.proofs.grid.Grid.is_filled.Goals.{else-x-self-via-then-x-self+then-y-self+else-z-self, else-x-self-via-then-x-self+else-y-self, else-x-self-via-else-x-self}

pub returns-then-z-self : goal.returns-then-z-self
returns-then-z-self c = mark_read c.args.self.now c.args.x c.args.y c.args.z _ c.if-x-self.true c.if-y-self.true c.if-z-self.true refl

pub returns-else-x-self : goal.returns-else-x-self
returns-else-x-self c =
    let g = c.args.self.now in
    elim c.else-x-self.branch [
      | else-x-self-via-then-x-self+then-y-self+else-z-self w ↦ sym (off_z g (pos c.args.x) (pos c.args.y) (pos c.args.z) (size_no c.args.z g.depth w.if-z-self.false))
      | else-x-self-via-then-x-self+else-y-self w ↦ sym (off_y g (pos c.args.x) (pos c.args.y) (pos c.args.z ∷ []) (size_no c.args.y g.height w.if-y-self.false))
      | else-x-self-via-else-x-self w ↦ sym (off_x g (pos c.args.x) (pos c.args.y ∷ pos c.args.z ∷ []) (size_no c.args.x g.width w.if-x-self.false))
    ]
