use Rattle.std.proofs.Common.{◌≡◌}
use Rattle.evm_tiles.proofs.tests.checker.Given as goal

abbrev pub invariant-loop-k : goal.invariant-loop-k
invariant-loop-k l = record { tree : l.tree.dim ≡ 2; list : l.list.dim ≡ 2 }
