use Rattle.std.proofs.Common.{◌≡◌, length, drop}
use Rattle.evm_cells.specs.Boxes.{is_box}
use Rattle.evm_rows.proofs.BoxTests.{sides_pass}
use Rattle.evm_formulas.proofs.ranges.has_sides.Given as goal

abbrev pub invariant-loop-axis : goal.invariant-loop-axis
invariant-loop-axis l = is_box (length l.low) l.low l.high ≡ sides_pass (length l.low) (drop l.axis l.low) (drop l.axis l.high)
