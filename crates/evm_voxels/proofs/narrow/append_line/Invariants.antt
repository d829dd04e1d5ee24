use Rattle.std.proofs.Common.{◌≡◌, pos, ◌-ℤ◌, ◌++◌, ◌∷◌, [], map}
use Rattle.evm_rows.specs.Rows.{flat_of}
use Rattle.evm_voxels.specs.Parity.{turns, edge}
use Rattle.evm_voxels.specs.Grids.{filled_in}
use Rattle.evm_voxels.proofs.Layers.{layers}
use Rattle.evm_voxels.proofs.narrow.append_line.Given as goal

abbrev pub invariant-loop-z : goal.invariant-loop-z
invariant-loop-z l = record {
  rows : l.out.items ≡ l.initial.out.items ++ flat_of (map (λ t. l.head ++ t) (layers [] (λ c. turns (filled_in l.places) (pos l.x ∷ pos l.y ∷ c)) l.z));
  last : l.before ≡ edge (filled_in l.places) (pos l.x) (pos l.y) ((pos l.z -ℤ pos 1) ∷ []);
}
