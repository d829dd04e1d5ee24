use Rattle.std.proofs.Common.{◌≡◌, ℤ, List, true, length, ◌%◌}
use Rattle.evm_cells.specs.Places.{ascending}
use Rattle.evm_rows.specs.Rows.{rows_of}
use Rattle.evm_rows.proofs.Lines.{parity}
use Rattle.evm_rows.proofs.check.has_odd_line.Given as goal

abbrev pub invariant-loop-rest : goal.invariant-loop-rest
invariant-loop-rest l = record {
  whole : length l.rest % l.width ≡ 0;
  ascends : ascending (rows_of l.rest l.width 0) ≡ true;
  so_far : (line : List ℤ) → parity l.front (rows_of l.flat l.width 0) line ≡ parity l.front (rows_of l.rest l.width 0) line;
}

abbrev pub decreases-loop-rest : goal.decreases-loop-rest
decreases-loop-rest l = length l.rest
