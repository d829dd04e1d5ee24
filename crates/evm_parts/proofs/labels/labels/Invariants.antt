use Rattle.evm_parts.proofs.Chains.{AreTied}
use Rattle.evm_parts.proofs.labels.labels.Given as goal

abbrev pub invariant-loop-link : goal.invariant-loop-link
invariant-loop-link l = AreTied l.fn.boxes.boxes l.links l.link-index l.tops
