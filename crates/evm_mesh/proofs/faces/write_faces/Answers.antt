use Rattle.std.proofs.Common.{ap, ◌∙◌}
use Rattle.evm_rows.specs.View.{vertices_of}
use Rattle.evm_mesh.specs.Sheets.{faces_in}
use Rattle.evm_mesh.proofs.FaceLines.{faces_text}
use Rattle.evm_mesh.proofs.faces.write_faces.Goals as goal

pub returns : goal.returns
returns c =
    faces_text c.args.a.now (vertices_of c.rows.result) c.dim.result (faces_in c.deref.result.now) c.new-text.result.items _ _ c.rows.ensures c.dim.ensures
    (ap faces_in c.deref.ensures.value ∙ c.in_ok-faces.ensures.faces) c.new-text.ensures.items c.in_ok-put_head.ensures c.in_ok-put_sheets.ensures
