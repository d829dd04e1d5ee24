use Rattle.std.proofs.Common.{◌≡◌, ◌+◌, ◌∷◌, []}
use Rattle.evm_voxels.specs.Parity.{turns}
use Rattle.evm_voxels.specs.Grids.{filled_flat}
use Rattle.evm_voxels.specs.Blocks.{columns}
use Rattle.evm_voxels.proofs.blocks.append_columns.Given as goal

abbrev pub invariant-loop-k : goal.invariant-loop-k
invariant-loop-k l = l.initial.out.items ≡ columns (l.of.depth ∷ []) (turns (filled_flat l.of)) l.first → l.out.items ≡ columns (l.of.depth ∷ []) (turns (filled_flat l.of)) (l.first + l.k)
