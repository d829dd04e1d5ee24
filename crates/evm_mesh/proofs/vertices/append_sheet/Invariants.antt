use Rattle.std.proofs.Common.{◌≡◌, ◌++◌, take, map, flat_map}
use Rattle.evm_formats.specs.ObjText.{face_corners}
use Rattle.evm_mesh.specs.Sheets.{face_of}
use Rattle.evm_mesh.proofs.vertices.append_sheet.Given as goal

abbrev pub invariant-loop-index : goal.invariant-loop-index
invariant-loop-index l = l.corners.items ≡ l.fn.corners.items ++ flat_map face_corners (map (face_of l.sheet) (take l.index l.sheet.boxes.boxes))
