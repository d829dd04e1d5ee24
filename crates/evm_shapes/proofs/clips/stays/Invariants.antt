use Rattle.std.proofs.Common.{◌≡◌, drop}
use Rattle.evm_shapes.specs.Moves.{stays_in}
use Rattle.evm_shapes.proofs.clips.stays.Given as goal

abbrev pub invariant-loop-k : goal.invariant-loop-k
invariant-loop-k l = stays_in l.lo l.hi l.row ≡ stays_in (drop l.k l.lo) (drop l.k l.hi) (drop l.k l.row)
