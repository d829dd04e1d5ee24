use Rattle.std.proofs.Common.{◌≡◌, ℕ, pos, ◌-ℤ◌, ◌+◌, ◌<◌, ◌≤◌, ◌++◌, ◌∷◌, [], map, length, slice_index}
use Rattle.evm_voxels.specs.Parity.{turns, seam, edge}
use Rattle.evm_voxels.specs.Marks.{bit_on}
use Rattle.evm_voxels.specs.Blocks.{line_of}
use Rattle.evm_voxels.specs.Grids.{filled_in}
use Rattle.evm_voxels.proofs.blocks.append_words.Given as goal

abbrev pub invariant-loop-z : goal.invariant-loop-z
invariant-loop-z l = record {
  words : (k : ℕ) → k < 32 → map (bit_on k) l.words.items ≡ map (bit_on k) l.initial.words.items ++ line_of (λ c. turns (filled_in l.of) (pos (l.first + k) ∷ pos l.y ∷ c)) l.z;
  before : (k : ℕ) → k < 32 → bit_on k l.before ≡ edge (filled_in l.of) (pos (l.first + k)) (pos l.y) ((pos l.z -ℤ pos 1) ∷ []);
  long : length l.last.items ≡ l.of.depth + 1;
  done : (k z : ℕ) → k < 32 → z < l.z → bit_on k (slice_index l.last.items z) ≡ seam (filled_in l.of) (pos (l.first + k)) (pos l.y ∷ pos z ∷ []);
  ahead : (k z : ℕ) → k < 32 → l.z ≤ z → z < l.of.depth + 1 → bit_on k (slice_index l.last.items z) ≡ seam (filled_in l.of) (pos (l.first + k)) ((pos l.y -ℤ pos 1) ∷ pos z ∷ []);
}
