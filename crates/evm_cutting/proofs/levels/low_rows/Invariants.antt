use Rattle.std.proofs.Common.{◌≡◌, ◌%◌, ◌+◌, length, take, drop, true}
use Rattle.std.specs.List.{list_all}
use Rattle.evm_cells.specs.Windows.{is_under}
use Rattle.evm_rows.specs.Rows.{rows_of}
use Rattle.evm_cutting.proofs.levels.low_rows.Given as goal

abbrev pub invariant-loop-later : goal.invariant-loop-later
invariant-loop-later l = record {
  whole : length l.later % l.width ≡ 0;
  counted : l.taken + length l.later ≡ length l.flat;
  steps : l.taken % l.width ≡ 0;
  left : l.later ≡ drop l.taken l.flat;
  low : list_all (is_under l.axis l.at) (rows_of (take l.taken l.flat) l.width 0) ≡ true;
}

abbrev pub decreases-loop-later : goal.decreases-loop-later
decreases-loop-later l = length l.later
