use Rattle.std.proofs.Common.{◌≡◌, ◌++◌, take, map}
use Rattle.evm_text.specs.Lines.{text_of}
use Rattle.evm_formats.specs.ObjText.{polygon_line}
use Rattle.evm_mesh.specs.Sheets.{faces_in}
use Rattle.evm_mesh.proofs.mesh.put_sheets.Given as goal

abbrev pub invariant-loop-sheet : goal.invariant-loop-sheet
invariant-loop-sheet l = l.text.items ≡ l.fn.text.items ++ text_of (map (polygon_line l.vertices) (faces_in (take l.sheet-index l.sheets)))
