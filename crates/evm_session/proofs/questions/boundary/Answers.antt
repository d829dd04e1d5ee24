use Rattle.std.proofs.Common.{◌≡◌, ◌++◌, List, ℕ, codes, decimal, ◌∙◌, refl, ap}
use Rattle.evm_cells.specs.Vertices.{cells}
use Rattle.evm_cells.specs.Measures.{boundary}
use Rattle.evm_rows.specs.Rows.{Vertices}
use Rattle.evm_model.specs.Figures.{boundary_of}
use Rattle.evm_model.specs.Scene.{value}
use Rattle.evm_model.specs.Edits.{name_causes}
use Rattle.evm_model.specs.Replies.{Measured, line_of}
use Rattle.evm_model.specs.Steps.{asked}
use Rattle.evm_session.proofs.Turns.{carried, asked_found}
use Rattle.evm_session.proofs.Answering.{measured_text, boundary_found}
use Rattle.evm_session.proofs.questions.boundary.Goals as goal

pub returns : goal.returns
returns g c =
    let scene = c.args.scene.now in
    let name = c.args.name.now in
    let v = c.in-Some.tree.now in
    let n = c.in_ok-faces.faces in
    let counted : n ≡ boundary_of (value scene name) =
    boundary_found v n (c.in_ok-faces.ensures ∙ ap (λ (a : Vertices). boundary a.dim (cells a.dim a.rows)) (c.rows.ensures ∙ c.in_ok-solid.ensures))
    ∙ ap boundary_of c.in-Some.ensures.value.1 in
    let text = c.in_ok-say_number.ensures
    ∙ ap (λ (k : ℕ). c.args.out.now.items ++ line_of (codes "ok " ++ decimal k)) counted
    ∙ ap (λ (t : List ℕ). c.args.out.now.items ++ t) (measured_text (boundary_of (value scene name))) in
    carried scene scene c.args.out.now.items c.say_number.new.out.items (Measured (boundary_of (value scene name))) (asked (name_causes scene name) scene (Measured (boundary_of (value scene name))))
    (asked_found scene name (Measured (boundary_of (value scene name))) c.in-Some.ensures.value.0) text refl
