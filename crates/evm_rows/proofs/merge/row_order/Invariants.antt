use Rattle.std.proofs.Common.{◌≡◌, drop}
use Rattle.evm_rows.specs.Rows.{row_cmp}
use Rattle.evm_rows.proofs.merge.row_order.Given as goal

abbrev pub invariant-loop-i : goal.invariant-loop-i
invariant-loop-i l = row_cmp (drop l.i l.x) (drop l.i l.y) ≡ row_cmp l.x l.y
