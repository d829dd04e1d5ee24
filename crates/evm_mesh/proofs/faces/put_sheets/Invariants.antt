use Rattle.std.proofs.Common.{◌≡◌, ◌++◌, take, map}
use Rattle.evm_text.specs.Lines.{text_of}
use Rattle.evm_formats.specs.FaceText.{face_line}
use Rattle.evm_mesh.specs.Sheets.{faces_in}
use Rattle.evm_mesh.proofs.faces.put_sheets.Given as goal

abbrev pub invariant-loop-sheet : goal.invariant-loop-sheet
invariant-loop-sheet l = l.text.items ≡ l.fn.text.items ++ text_of (map face_line (faces_in (take l.sheet-index l.sheets)))
