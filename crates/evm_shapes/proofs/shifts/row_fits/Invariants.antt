use Rattle.std.proofs.Common.{◌≡◌, drop, length}
use Rattle.std.specs.List.{list_all}
use Rattle.evm_cells.specs.Limits.{is_point, is_point_coord}
use Rattle.evm_cells.specs.Shapes.{added}
use Rattle.evm_shapes.proofs.shifts.row_fits.Given as goal

abbrev pub invariant-loop-k : goal.invariant-loop-k
invariant-loop-k l = is_point (length l.row) (added l.by l.row) ≡ list_all (is_point_coord (length l.row)) (added (drop l.k l.by) (drop l.k l.row))
