use Rattle.std.proofs.Common.{length}
use Rattle.evm_boxes.proofs.union.+join_parts.Given as goal

abbrev pub decreases-join_parts : goal.decreases-join_parts
decreases-join_parts l = length l.rows.items
