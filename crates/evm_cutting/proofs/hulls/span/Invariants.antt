use Rattle.std.proofs.Common.{◌≡◌, ◌%◌, ◌-◌, true, length}
use Rattle.std.specs.List.{list_all}
use Rattle.evm_cells.specs.Limits.{is_point, is_point_coord}
use Rattle.evm_rows.specs.Rows.{rows_of}
use Rattle.evm_cutting.proofs.HullLaws.{LowOnward, HighOnward}
use Rattle.evm_cutting.proofs.hulls.span.Given as goal

abbrev pub invariant-loop-left : goal.invariant-loop-left
invariant-loop-left l = record {
  whole : length l.left % l.d.width ≡ 0;
  points : list_all (is_point (l.d.width - l.d.skip)) (rows_of l.left l.d.width l.d.skip) ≡ true;
  low_point : is_point_coord (l.d.width - l.d.skip) l.least ≡ true;
  low : LowOnward l.axis l.least (rows_of l.left l.d.width l.d.skip) (rows_of l.d.flat.now l.d.width l.d.skip);
  high_point : is_point_coord (l.d.width - l.d.skip) l.largest ≡ true;
  high : HighOnward l.axis l.largest (rows_of l.left l.d.width l.d.skip) (rows_of l.d.flat.now l.d.width l.d.skip);
}

abbrev pub decreases-loop-left : goal.decreases-loop-left
decreases-loop-left l = length l.left
