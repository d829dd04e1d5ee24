use Rattle.std.proofs.Common.{◌++◌, ℕ, List, ◌∙◌, refl, ap}
use Rattle.evm_rows.specs.Rows.{Vertices}
use Rattle.evm_parts.specs.PartLists.{parts_of as parts_in}
use Rattle.evm_model.specs.Figures.{Figure, parts_of}
use Rattle.evm_model.specs.Scene.{value}
use Rattle.evm_model.specs.Edits.{name_causes}
use Rattle.evm_model.specs.Replies.{Parted, reply_text}
use Rattle.evm_model.specs.Steps.{asked}
use Rattle.evm_session.proofs.Turns.{carried, asked_found}
use Rattle.evm_session.proofs.Counting.{parts_said}
use Rattle.evm_session.proofs.questions.parts.Goals as goal

pub returns : goal.returns
returns g c =
    let scene = c.args.scene.now in
    let name = c.args.name.now in
    let v = c.in-Some.tree.now in
    let found = c.in_ok-parts.parts in
    let same = c.rows.ensures ∙ c.in_ok-solid.ensures in
    let said = parts_said v found.dim found.parts (c.in_ok-parts.ensures.dim ∙ ap (λ (a : Vertices). a.dim) same) (c.in_ok-parts.ensures.parts ∙ ap parts_in same)
    ∙ ap (λ (a : Figure). reply_text (Parted (parts_of a))) c.in-Some.ensures.value.1 in
    let text = c.in_ok-say_parts.ensures ∙ ap (λ (t : List ℕ). c.args.out.now.items ++ t) said in
    carried scene scene c.args.out.now.items c.say_parts.new.out.items (Parted (parts_of (value scene name))) (asked (name_causes scene name) scene (Parted (parts_of (value scene name))))
    (asked_found scene name (Parted (parts_of (value scene name))) c.in-Some.ensures.value.0) text refl
