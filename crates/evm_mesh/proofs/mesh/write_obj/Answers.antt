use Rattle.std.proofs.Common.{◌++◌, map, ap, ap₂, ◌∙◌}
use Rattle.evm_rows.specs.View.{vertices_of}
use Rattle.evm_text.specs.Lines.{text_of}
use Rattle.evm_formats.specs.ObjText.{mesh_vertices, polygon_line, vertex_line}
use Rattle.evm_mesh.specs.Sheets.{faces_in}
use Rattle.evm_mesh.proofs.FaceLines.{mesh_text}
use Rattle.evm_mesh.proofs.mesh.write_obj.Goals as goal

pub returns : goal.returns
returns c =
    mesh_text c.args.a.now (vertices_of c.rows.result) c.in_ok-corners.corners.items (faces_in c.in_ok-faces.faces.items) c.new-text.result.items c.put_vertices.new.text.items _ c.rows.ensures c.requires
    c.in_ok-faces.ensures.faces (c.in_ok-corners.ensures.vertices ∙ ap (λ xs. mesh_vertices (faces_in xs)) c.deref.ensures.value) c.new-text.ensures.items
    (c.in_ok-put_vertices.ensures ∙ ap (λ V. c.new-text.result.items ++ text_of (map vertex_line V)) c.deref-2.ensures.value)
    (c.in_ok-put_sheets.ensures ∙ ap₂ (λ V xs. c.put_vertices.new.text.items ++ text_of (map (polygon_line V) (faces_in xs))) c.deref-3.ensures.value c.deref-4.ensures.value)
