use Rattle.evm_parts.proofs.Stretches.{AreListed}
use Rattle.evm_parts.proofs.PartLists.{parts_to}
use Rattle.evm_parts.proofs.components.unions.Given as goal

abbrev pub invariant-loop-index : goal.invariant-loop-index
invariant-loop-index l = AreListed l.boxes.dim l.flat.items l.ends.items (parts_to l.boxes.dim l.boxes.boxes l.labels l.index)
