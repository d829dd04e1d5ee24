use Rattle.std.proofs.Common.{◌≡◌, ◌<◌, ◌%◌, ◌+◌, length, take, drop, true}
use Rattle.std.specs.List.{list_all}
use Rattle.evm_cells.specs.Places.{same}
use Rattle.evm_rows.specs.Rows.{rows_of}
use Rattle.evm_rows.proofs.groups.first_group.Given as goal

abbrev pub invariant-loop-later : goal.invariant-loop-later
invariant-loop-later l = record {
  whole : length l.later % l.width ≡ 0;
  counted : l.taken + length l.later ≡ length l.flat;
  steps : l.taken % l.width ≡ 0;
  some : 0 < l.taken;
  left : l.later ≡ drop l.taken l.flat;
  alike : list_all (λ p. same (take l.front p) l.head) (rows_of (take l.taken l.flat) l.width l.skip) ≡ true;
}

abbrev pub decreases-loop-later : goal.decreases-loop-later
decreases-loop-later l = length l.later
