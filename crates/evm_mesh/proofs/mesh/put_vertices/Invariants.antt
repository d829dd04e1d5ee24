use Rattle.std.proofs.Common.{◌≡◌, ◌++◌, take, map}
use Rattle.evm_text.specs.Lines.{text_of}
use Rattle.evm_formats.specs.ObjText.{vertex_line}
use Rattle.evm_mesh.proofs.mesh.put_vertices.Given as goal

abbrev pub invariant-loop-vertex : goal.invariant-loop-vertex
invariant-loop-vertex l = l.text.items ≡ l.fn.text.items ++ text_of (map vertex_line (take l.vertex-index l.vertices))
