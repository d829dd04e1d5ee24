use Rattle.std.proofs.Common.{◌≡◌, take, drop, length}
use Rattle.evm_cells.specs.Boxes.{is_box}
use Rattle.evm_rows.proofs.BoxTests.{sides_pass}
use Rattle.evm_boxes.proofs.line.row_of.Given as goal

abbrev pub invariant-loop-axis : goal.invariant-loop-axis
invariant-loop-axis l = record {
  box : is_box l.dim l.lows l.highs ≡ sides_pass l.dim (drop l.axis l.lows) (drop l.axis l.highs);
  dim : l.row.dim ≡ l.dim;
  lo : take l.axis l.row.lo ≡ take l.axis l.lows;
  hi : take l.axis l.row.hi ≡ take l.axis l.highs;
  lo_room : length l.row.lo ≡ 6;
  hi_room : length l.row.hi ≡ 6;
}
