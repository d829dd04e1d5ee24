use Rattle.std.proofs.Common.{◌≡◌, ◌++◌, take, map}
use Rattle.evm_text.specs.Lines.{text_of}
use Rattle.evm_formats.specs.FaceText.{face_line}
use Rattle.evm_mesh.specs.Sheets.{face_of}
use Rattle.evm_mesh.proofs.faces.put_sheet.Given as goal

abbrev pub invariant-loop-index : goal.invariant-loop-index
invariant-loop-index l = l.text.items ≡ l.fn.text.items ++ text_of (map face_line (map (face_of l.sheet) (take l.index l.sheet.boxes.boxes)))
