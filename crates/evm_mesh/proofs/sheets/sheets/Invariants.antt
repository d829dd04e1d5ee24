use Rattle.std.proofs.Common.{◌≡◌, ◌-◌, flat_map, All}
use Rattle.std.specs.List.{range_with_len}
use Rattle.evm_rows.specs.Rows.{cells_of}
use Rattle.evm_rows.specs.View.{vertices_of}
use Rattle.evm_formats.specs.FaceText.{faces_along}
use Rattle.evm_mesh.specs.Sheets.{IsSheet, faces_in}
use Rattle.evm_mesh.proofs.TurnedAxes.{Turned}
use Rattle.evm_mesh.proofs.sheets.sheets.Given as goal

abbrev pub invariant-loop-axis : goal.invariant-loop-axis
invariant-loop-axis l = record {
  dim : l.turned.dim ≡ l.fn.a.width - l.fn.a.skip;
  turned : Turned (l.axis - 1) (cells_of (vertices_of l.fn.a)) (cells_of l.turned);
  sheets : All (IsSheet (l.fn.a.width - l.fn.a.skip)) l.sheets.items;
  faces : faces_in l.sheets.items ≡ flat_map (faces_along (l.fn.a.width - l.fn.a.skip - 1) (cells_of (vertices_of l.fn.a))) (range_with_len 0 l.axis);
}
