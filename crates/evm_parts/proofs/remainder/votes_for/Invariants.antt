use Rattle.std.proofs.Common.{◌≡◌}
use Rattle.evm_parts.proofs.Votes.{votes_to}
use Rattle.evm_parts.proofs.remainder.votes_for.Given as goal

abbrev pub invariant-loop-other : goal.invariant-loop-other
invariant-loop-other l = l.votes ≡ votes_to l.labels l.other-index l.label
