use Rattle.std.proofs.Common.{◌≡◌, ◌-◌, ◌+◌, ◌++◌, length, All}
use Rattle.evm_rows.specs.Rows.{cells_of}
use Rattle.evm_rows.specs.View.{vertices_of}
use Rattle.evm_mesh.specs.Sheets.{IsSheet, faces_in, first_faces}
use Rattle.evm_mesh.proofs.CutSections.{Walked}
use Rattle.evm_mesh.proofs.sheets.append_axis.Given as goal

abbrev pub invariant-loop-at : goal.invariant-loop-at
invariant-loop-at l = record {
  walk_dim : l.walk.dim + 1 ≡ l.fn.a.width - l.fn.a.skip;
  below_dim : l.below.dim + 1 ≡ l.fn.a.width - l.fn.a.skip;
  sheets : All (IsSheet (l.fn.a.width - l.fn.a.skip)) l.sheets.items;
  walked : Walked (l.fn.a.width - l.fn.a.skip - 1) l.axis (cells_of (vertices_of l.fn.a)) l.below.rows l.walk.left (faces_in l.sheets.items)
      (faces_in l.fn.sheets.items ++ first_faces (l.fn.a.width - l.fn.a.skip - 1) (cells_of (vertices_of l.fn.a)) l.axis);
}

abbrev pub decreases-loop-at : goal.decreases-loop-at
decreases-loop-at l = length l.walk.left
