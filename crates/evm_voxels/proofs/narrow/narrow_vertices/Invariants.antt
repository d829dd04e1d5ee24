use Rattle.std.proofs.Common.{◌≡◌, ◌++◌, ◌∷◌, [], map}
use Rattle.evm_rows.specs.Rows.{flat_of}
use Rattle.evm_voxels.specs.Parity.{turns}
use Rattle.evm_voxels.specs.Grids.{filled_in}
use Rattle.evm_voxels.proofs.Layers.{layers}
use Rattle.evm_voxels.proofs.narrow.narrow_vertices.Given as goal

abbrev pub invariant-loop-x : goal.invariant-loop-x
invariant-loop-x l = l.out.items ≡ [] ++ flat_of (map (λ t. [] ++ t) (layers (l.places.height ∷ l.places.depth ∷ []) (turns (filled_in l.places)) l.x))
