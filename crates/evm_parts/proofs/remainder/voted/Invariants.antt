use Rattle.evm_parts.proofs.Votes.{IsVoted}
use Rattle.evm_parts.proofs.remainder.voted.Given as goal

abbrev pub invariant-loop-label : goal.invariant-loop-label
invariant-loop-label l = IsVoted l.labels l.label-index l.voted l.votes
