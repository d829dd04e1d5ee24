use Rattle.std.proofs.Common.{◌≡◌, ℕ, ◌+◌, ◌-◌, ◌<◌, ◌≤◌, ◌∷◌, [], false, length, slice_index}
use Rattle.evm_voxels.specs.Parity.{turns}
use Rattle.evm_voxels.specs.Marks.{bit_on}
use Rattle.evm_voxels.specs.Grids.{filled_flat}
use Rattle.evm_voxels.specs.Blocks.{columns}
use Rattle.evm_voxels.proofs.blocks.wide_image.Given as goal

abbrev pub invariant-loop-first : goal.invariant-loop-first
invariant-loop-first l = record {
  within : l.first ≤ l.of.width + 1;
  rows : l.out.items ≡ columns (l.of.depth ∷ []) (turns (filled_flat l.of)) l.first;
  long : length l.last.items ≡ l.of.depth + 1;
  clear : (k z : ℕ) → k < 32 → z < l.of.depth + 1 → bit_on k (slice_index l.last.items z) ≡ false;
}

abbrev pub decreases-loop-first : goal.decreases-loop-first
decreases-loop-first l = l.of.width + 1 - l.first
