use Rattle.std.proofs.Common.{◌≡◌, drop, length}
use Rattle.std.specs.List.{list_all}
use Rattle.evm_cells.specs.Limits.{is_point, is_point_coord}
use Rattle.evm_rows.proofs.check.is_within.Given as goal

abbrev pub invariant-loop-x : goal.invariant-loop-x
invariant-loop-x l = is_point (length l.row) l.row ≡ list_all (is_point_coord (length l.row)) (drop l.x-index l.row)
