use Rattle.std.proofs.Common.{◌++◌, ◌∷◌, [], ℕ, List, pos, get_or, ap, ap₂, sym, ◌∙◌, append_assoc}
use Rattle.std.specs.Fmt.{signed_decimal}
use Rattle.evm_formats.specs.ObjText.{vertex_number}
use Rattle.evm_mesh.proofs.SheetSteps.{part_more}
use Rattle.evm_mesh.proofs.mesh.put_corners.Goals as goal

pub loop-corner-preserved : goal.loop-corner-preserved
loop-corner-preserved c =
    let V = c.args.vertices.now in
    let before = c.loop-corner.text.items in
    let number : List ℕ = signed_decimal (pos (vertex_number V (get_or c.args.corners.now c.loop-corner.corner-index []))) in
    c.in_ok-append_count.ensures ∙ ap₂ (λ t (k : ℕ). t ++ signed_decimal (pos k)) c.in_ok-push.ensures.items c.number_of.ensures ∙ append_assoc before (32 ∷ []) number
    ∙ ap (λ t. t ++ 32 ∷ number) c.loop-corner.invariant
    ∙ sym (part_more (λ p. 32 ∷ signed_decimal (pos (vertex_number V p))) c.args.text.now.items c.args.corners.now c.loop-corner.corner-index [] c.loop-corner-test.true)
