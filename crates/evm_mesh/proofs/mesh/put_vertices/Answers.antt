use Rattle.std.proofs.Common.{◌++◌, ◌∷◌, [], get_or, ap, sym, ◌∙◌}
use Rattle.evm_formats.specs.ObjText.{vertex_line}
use Rattle.evm_mesh.proofs.SheetSteps.{line_more}
use Rattle.evm_mesh.proofs.FaceLines.{vertex_written}
use Rattle.evm_mesh.proofs.mesh.put_vertices.Goals as goal

pub loop-vertex-preserved : goal.loop-vertex-preserved
loop-vertex-preserved c =
    let V = c.args.vertices.now in
    let p = get_or V c.loop-vertex.vertex-index [] in
    vertex_written p c.loop-vertex.text.items _ _ _ c.in_ok-push.ensures.items c.in_ok-append_numbers.ensures c.in_ok-push-2.ensures.items
    ∙ ap (λ t. t ++ (vertex_line p ++ 10 ∷ [])) c.loop-vertex.invariant
    ∙ sym (line_more vertex_line c.args.text.now.items V c.loop-vertex.vertex-index [] c.loop-vertex-test.true)
