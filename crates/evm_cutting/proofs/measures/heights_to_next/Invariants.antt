use Rattle.std.proofs.Common.{◌+◌, ◌≤◌}
use Rattle.evm_cutting.proofs.measures.heights_to_next.Given as goal

abbrev pub invariant-loop-next : goal.invariant-loop-next
invariant-loop-next l = l.passed + l.fn.row + 1 ≤ l.next
