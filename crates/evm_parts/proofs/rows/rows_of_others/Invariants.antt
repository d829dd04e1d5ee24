use Rattle.std.proofs.Common.{◌≡◌}
use Rattle.evm_parts.proofs.OtherBoxes.{others_to}
use Rattle.evm_parts.proofs.rows.rows_of_others.Given as goal

abbrev pub invariant-loop-index : goal.invariant-loop-index
invariant-loop-index l = l.rows.items ≡ others_to l.boxes.dim l.label l.labels l.boxes.boxes l.index
