use Rattle.evm_parts.proofs.Parents.{IsFlatTo}
use Rattle.evm_parts.proofs.labels.flatten.Given as goal

abbrev pub invariant-loop-index : goal.invariant-loop-index
invariant-loop-index l = IsFlatTo l.fn.parents l.parents l.index
