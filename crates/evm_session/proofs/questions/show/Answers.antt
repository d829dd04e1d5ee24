use Rattle.std.proofs.Common.{◌≡◌, ◌++◌, ◌∙◌, refl, ap}
use Rattle.evm_model.specs.Figures.{Figure}
use Rattle.evm_model.specs.Scene.{value}
use Rattle.evm_model.specs.Edits.{name_causes}
use Rattle.evm_model.specs.Replies.{Shown, reply_text}
use Rattle.evm_model.specs.Steps.{asked}
use Rattle.evm_formulas.specs.Stated.{figure_of}
use Rattle.evm_session.proofs.Turns.{carried, asked_found}
use Rattle.evm_session.proofs.questions.show.Goals as goal

pub returns : goal.returns
returns g c =
    let scene = c.args.scene.now in
    let name = c.args.name.now in
    let found : figure_of c.in_ok-solid.solid ≡ value scene name = ap figure_of c.in_ok-solid.ensures ∙ c.in-Some.ensures.value.1 in
    let text = c.in_ok-say_solid.ensures ∙ ap (λ (a : Figure). c.args.out.now.items ++ reply_text (Shown a)) found in
    carried scene scene c.args.out.now.items c.say_solid.new.out.items (Shown (value scene name)) (asked (name_causes scene name) scene (Shown (value scene name)))
    (asked_found scene name (Shown (value scene name)) c.in-Some.ensures.value.0) text refl
