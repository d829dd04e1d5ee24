use Rattle.std.proofs.Common.{◌≡◌, List, ℕ, ◌++◌, length}
use Rattle.evm_voxels.specs.Streams.{Shows}
use Rattle.evm_formats.specs.Y4m.{values}
use Rattle.evm_voxels.proofs.y4m.find.Given as goal

abbrev pub invariant-loop-parameter : goal.invariant-loop-parameter
invariant-loop-parameter l = (vs : List (List ℕ)) × Shows l.found vs × (vs ++ values l.letter l.rest ≡ values l.letter l.line)

abbrev pub decreases-loop-parameter : goal.decreases-loop-parameter
decreases-loop-parameter l = length l.rest
