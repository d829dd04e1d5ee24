use Rattle.std.proofs.Common.{◌≡◌, pos, ◌++◌, ◌∷◌, [], map}
use Rattle.evm_rows.specs.Rows.{flat_of}
use Rattle.evm_voxels.specs.Parity.{turns}
use Rattle.evm_voxels.specs.Grids.{filled_in}
use Rattle.evm_voxels.proofs.Layers.{layers}
use Rattle.evm_voxels.proofs.narrow.append_column.Given as goal

abbrev pub invariant-loop-y : goal.invariant-loop-y
invariant-loop-y l = l.out.items ≡ l.initial.out.items ++ flat_of (map (λ t. (pos l.x ∷ []) ++ t) (layers (l.places.depth ∷ []) (λ c. turns (filled_in l.places) (pos l.x ∷ c)) l.y))
