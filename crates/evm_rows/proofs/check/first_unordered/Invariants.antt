use Rattle.std.proofs.Common.{◌≡◌, ℕ, ◌<◌, ◌≤◌, ◌%◌, ◌+◌, ◌-◌, drop, get_or, length, true, []}
use Rattle.evm_cells.specs.Places.{before}
use Rattle.evm_rows.specs.Rows.{rows_of}
use Rattle.evm_rows.proofs.check.first_unordered.Given as goal

abbrev pub invariant-loop-later : goal.invariant-loop-later
invariant-loop-later l = record {
  whole : length l.later % l.width ≡ 0;
  some : 0 < l.number;
  counted : l.number + length l.later ≤ length l.flat;
  left : drop l.number (rows_of l.flat l.width l.skip) ≡ rows_of l.later l.width l.skip;
  wide : length l.last + l.skip ≡ l.width;
  latest : get_or (rows_of l.flat l.width l.skip) (l.number - 1) [] ≡ l.last;
  passed : (j : ℕ) → 0 < j → j < l.number → before (get_or (rows_of l.flat l.width l.skip) (j - 1) []) (get_or (rows_of l.flat l.width l.skip) j []) ≡ true;
}

abbrev pub decreases-loop-later : goal.decreases-loop-later
decreases-loop-later l = length l.later
