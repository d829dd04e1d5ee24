use Rattle.std.proofs.Common.{◌≡◌, ◌++◌, drop, length, true}
use Rattle.std.specs.List.{list_all}
use Rattle.evm_cells.specs.Limits.{is_point_coord}
use Rattle.evm_cells.specs.Shapes.{added}
use Rattle.evm_shapes.proofs.shifts.append_added.Given as goal

abbrev pub invariant-loop-k : goal.invariant-loop-k
invariant-loop-k l = record {
  fits : list_all (is_point_coord (length l.row)) (added (drop l.k l.by) (drop l.k l.row)) ≡ true;
  so_far : l.out.items ++ added (drop l.k l.by) (drop l.k l.row) ≡ l.initial.out.items ++ added l.by l.row;
}
