use Rattle.evm_parts.proofs.Gathered.{IsGatheredTo}
use Rattle.evm_parts.proofs.rows.rows_by_label.Given as goal

abbrev pub invariant-loop-index : goal.invariant-loop-index
invariant-loop-index l = IsGatheredTo l.boxes.dim l.boxes.boxes l.labels l.main l.lists.items l.index
