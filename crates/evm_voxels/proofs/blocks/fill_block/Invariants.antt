use Rattle.std.proofs.Common.{◌≡◌, ℕ, pos, ◌-ℤ◌, ◌+◌, ◌<◌, ◌∷◌, [], map, length, slice_index}
use Rattle.evm_voxels.specs.Parity.{turns, seam}
use Rattle.evm_voxels.specs.Marks.{bit_on}
use Rattle.evm_voxels.specs.Grids.{filled_in}
use Rattle.evm_voxels.proofs.BlockLaws.{lines_of}
use Rattle.evm_voxels.proofs.blocks.fill_block.Given as goal

abbrev pub invariant-loop-y : goal.invariant-loop-y
invariant-loop-y l = record {
  words : (k : ℕ) → k < 32 → map (bit_on k) l.words.items ≡ lines_of (λ c. turns (filled_in l.of) (pos (l.first + k) ∷ c)) l.of.depth l.y;
  long : length l.last.items ≡ l.of.depth + 1;
  last : (k z : ℕ) → k < 32 → z < l.of.depth + 1 → bit_on k (slice_index l.last.items z) ≡ seam (filled_in l.of) (pos (l.first + k)) ((pos l.y -ℤ pos 1) ∷ pos z ∷ []);
}
