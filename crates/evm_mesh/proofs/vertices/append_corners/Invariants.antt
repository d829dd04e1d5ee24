use Rattle.std.proofs.Common.{◌≡◌, ◌++◌, take, flat_map}
use Rattle.evm_formats.specs.ObjText.{face_corners}
use Rattle.evm_mesh.specs.Sheets.{faces_in}
use Rattle.evm_mesh.proofs.vertices.append_corners.Given as goal

abbrev pub invariant-loop-sheet : goal.invariant-loop-sheet
invariant-loop-sheet l = l.corners.items ≡ l.fn.corners.items ++ flat_map face_corners (faces_in (take l.sheet-index l.sheets))
