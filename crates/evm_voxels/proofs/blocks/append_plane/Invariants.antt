use Rattle.std.proofs.Common.{◌≡◌, pos, ◌+◌, ◌*◌, ◌∷◌, ◌++◌, map, length}
use Rattle.evm_rows.specs.Rows.{flat_of}
use Rattle.evm_voxels.specs.Marks.{bit_on}
use Rattle.evm_voxels.specs.Blocks.{planes}
use Rattle.evm_voxels.proofs.blocks.append_plane.Given as goal

abbrev pub invariant-loop-left : goal.invariant-loop-left
invariant-loop-left l = record {
  lines : l.left + l.y ≡ l.count;
  whole : length l.rest ≡ l.left * l.line;
  so_far : l.out.items ++ flat_of (map (λ t. pos l.x ∷ t) (planes l.line l.left l.y (map (bit_on l.column) l.rest))) ≡ l.initial.out.items ++ flat_of (map (λ t. pos l.x ∷ t) (planes l.line l.count 0 (map (bit_on l.column) l.words)));
}

abbrev pub decreases-loop-left : goal.decreases-loop-left
decreases-loop-left l = l.left
