use Rattle.std.proofs.Common.{◌≡◌, ◌++◌, List, ℕ, codes, decimal, ◌∙◌, refl, ap}
use Rattle.evm_model.specs.Figures.{content_of}
use Rattle.evm_model.specs.Scene.{value}
use Rattle.evm_model.specs.Edits.{name_causes}
use Rattle.evm_model.specs.Replies.{Measured, line_of}
use Rattle.evm_model.specs.Steps.{asked}
use Rattle.evm_session.proofs.Turns.{carried, asked_found}
use Rattle.evm_session.proofs.Answering.{measured_text, content_found}
use Rattle.evm_session.proofs.questions.content.Goals as goal

pub returns : goal.returns
returns g c =
    let scene = c.args.scene.now in
    let name = c.args.name.now in
    let v = c.in-Some.tree.now in
    let n = c.in_ok-cells.cells in
    let counted : n ≡ content_of (value scene name) =
    content_found v n c.in_ok-cells.ensures
    ∙ ap content_of c.in-Some.ensures.value.1 in
    let text = c.in_ok-say_number.ensures
    ∙ ap (λ (k : ℕ). c.args.out.now.items ++ line_of (codes "ok " ++ decimal k)) counted
    ∙ ap (λ (t : List ℕ). c.args.out.now.items ++ t) (measured_text (content_of (value scene name))) in
    carried scene scene c.args.out.now.items c.say_number.new.out.items (Measured (content_of (value scene name))) (asked (name_causes scene name) scene (Measured (content_of (value scene name))))
    (asked_found scene name (Measured (content_of (value scene name))) c.in-Some.ensures.value.0) text refl
