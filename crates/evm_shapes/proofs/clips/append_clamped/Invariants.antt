use Rattle.std.proofs.Common.{◌≡◌, ◌++◌, drop}
use Rattle.evm_cells.specs.Windows.{clamped}
use Rattle.evm_shapes.proofs.clips.append_clamped.Given as goal

abbrev pub invariant-loop-k : goal.invariant-loop-k
invariant-loop-k l = l.out.items ++ clamped (drop l.k l.lo) (drop l.k l.hi) (drop l.k l.row) ≡ l.initial.out.items ++ clamped l.lo l.hi l.row
