use Rattle.std.proofs.Common.{◌≡◌, ◌%◌, true, length}
use Rattle.evm_cells.specs.Places.{ascending}
use Rattle.evm_cells.specs.Booleans.{xor}
use Rattle.evm_rows.specs.Rows.{rows_of}
use Rattle.evm_member.proofs.Steps.{parity}
use Rattle.evm_member.proofs.cell.fills.Given as goal

abbrev pub invariant-loop-left : goal.invariant-loop-left
invariant-loop-left l = record {
  whole : length l.left % l.a.width ≡ 0;
  ascends : ascending (rows_of l.left l.a.width l.a.skip) ≡ true;
  so_far : xor l.filled (parity l.cell (rows_of l.left l.a.width l.a.skip)) ≡ parity l.cell (rows_of l.a.flat.now l.a.width l.a.skip);
}

abbrev pub decreases-loop-left : goal.decreases-loop-left
decreases-loop-left l = length l.left
