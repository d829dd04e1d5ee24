use Rattle.std.proofs.Common.{◌≡◌, ◌-◌, ◌%◌, ◌++◌, length, map, true}
use Rattle.std.specs.List.{list_all}
use Rattle.evm_cells.specs.Limits.{is_point}
use Rattle.evm_cells.specs.Shapes.{added}
use Rattle.evm_rows.specs.Rows.{rows_of, flat_of}
use Rattle.evm_shapes.proofs.shifts.append_all_added.Given as goal

abbrev pub invariant-loop-left : goal.invariant-loop-left
invariant-loop-left l = record {
  whole : length l.left % l.a.width ≡ 0;
  fits : list_all (is_point (l.a.width - l.a.skip)) (map (added l.by) (rows_of l.left l.a.width l.a.skip)) ≡ true;
  so_far : l.out.items ++ flat_of (map (added l.by) (rows_of l.left l.a.width l.a.skip)) ≡ l.initial.out.items ++ flat_of (map (added l.by) (rows_of l.a.flat.now l.a.width l.a.skip));
}

abbrev pub decreases-loop-left : goal.decreases-loop-left
decreases-loop-left l = length l.left
