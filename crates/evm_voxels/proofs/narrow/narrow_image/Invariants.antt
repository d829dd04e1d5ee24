use Rattle.std.proofs.Common.{◌≡◌, ◌++◌, ◌∷◌, [], map}
use Rattle.evm_rows.specs.Rows.{flat_of}
use Rattle.evm_voxels.specs.Parity.{turns}
use Rattle.evm_voxels.specs.Grids.{filled_flat}
use Rattle.evm_voxels.proofs.Layers.{layers}
use Rattle.evm_voxels.proofs.narrow.narrow_image.Given as goal

abbrev pub invariant-loop-x : goal.invariant-loop-x
invariant-loop-x l = l.out.items ≡ [] ++ flat_of (map (λ t. [] ++ t) (layers (l.places.depth ∷ []) (turns (filled_flat l.places)) l.x))
