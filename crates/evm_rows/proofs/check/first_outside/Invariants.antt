use Rattle.std.proofs.Common.{◌≡◌, ℕ, ◌<◌, ◌≤◌, ◌%◌, ◌+◌, drop, get_or, length, true, []}
use Rattle.evm_cells.specs.Limits.{is_point}
use Rattle.evm_rows.specs.Rows.{rows_of}
use Rattle.evm_rows.proofs.check.first_outside.Given as goal

abbrev pub invariant-loop-later : goal.invariant-loop-later
invariant-loop-later l = record {
  whole : length l.later % l.width ≡ 0;
  counted : l.number + length l.later ≤ length l.flat;
  left : drop l.number (rows_of l.flat l.width 0) ≡ rows_of l.later l.width 0;
  passed : (j : ℕ) → j < l.number → is_point l.width (get_or (rows_of l.flat l.width 0) j []) ≡ true;
}

abbrev pub decreases-loop-later : goal.decreases-loop-later
decreases-loop-later l = length l.later
