use Rattle.std.proofs.Common.{◌++◌, ℕ, List, refl, ap, ◌∙◌}
use Rattle.evm_model.specs.Edits.{name_causes}
use Rattle.evm_model.specs.Replies.{Reported}
use Rattle.evm_model.specs.Reports.{reported}
use Rattle.evm_model.specs.Steps.{asked}
use Rattle.evm_session.proofs.Turns.{carried, asked_found}
use Rattle.evm_session.proofs.Reporting.{report_said}
use Rattle.evm_session.proofs.questions.report.Goals as goal

pub returns : goal.returns
returns g c =
    let scene = c.args.scene.now in
    let name = c.args.name.now in
    let text = c.as_bytes.ensures.value ∙ c.as_str.ensures.value ∙ c.in_ok-text.ensures in
    let said = report_said scene name _ _ _ c.args.out.now.items c.say.new.out.items c.say-2.new.out.items c.say-3.new.out.items
    c.in-Some.ensures.value.0 c.formula.ensures (c.in_ok-solid.ensures) c.in-Some.ensures.value.1
    c.in_ok-say.ensures (c.in_ok-say-2.ensures ∙ ap (λ (t : List ℕ). c.say.new.out.items ++ t) text) c.in_ok-say-3.ensures in
    carried scene scene c.args.out.now.items c.say-3.new.out.items (Reported (reported scene name)) (asked (name_causes scene name) scene (Reported (reported scene name)))
    (asked_found scene name (Reported (reported scene name)) c.in-Some.ensures.value.0) said refl
