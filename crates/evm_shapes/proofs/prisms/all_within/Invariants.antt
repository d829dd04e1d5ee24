use Rattle.std.proofs.Common.{◌≡◌, ◌%◌, length}
use Rattle.std.specs.List.{list_all}
use Rattle.evm_cells.specs.Limits.{is_point_coord}
use Rattle.evm_rows.specs.Rows.{rows_of}
use Rattle.evm_shapes.proofs.prisms.all_within.Given as goal

abbrev pub invariant-loop-left : goal.invariant-loop-left
invariant-loop-left l = record {
  whole : length l.left % l.a.width ≡ 0;
  so_far : list_all (list_all (is_point_coord l.dim)) (rows_of l.a.flat.now l.a.width l.a.skip) ≡ list_all (list_all (is_point_coord l.dim)) (rows_of l.left l.a.width l.a.skip);
}

abbrev pub decreases-loop-left : goal.decreases-loop-left
decreases-loop-left l = length l.left
