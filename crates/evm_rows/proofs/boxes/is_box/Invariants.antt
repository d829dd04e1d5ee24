use Rattle.std.proofs.Common.{◌≡◌, length, drop}
use Rattle.evm_cells.specs.Boxes.{is_box}
use Rattle.evm_rows.proofs.BoxTests.{sides_pass}
use Rattle.evm_rows.proofs.boxes.is_box.Given as goal

abbrev pub invariant-loop-axis : goal.invariant-loop-axis
invariant-loop-axis l = is_box (length l.lo) l.lo l.hi ≡ sides_pass (length l.lo) (drop l.axis l.lo) (drop l.axis l.hi)
