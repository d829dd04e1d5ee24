use Rattle.std.proofs.Common.{◌++◌, List, ℕ, Option, refl, ◌∙◌, ap}
use Rattle.evm_script.specs.declared.formula.Formula.{Formula}
use Rattle.evm_model.specs.Scene.{entry_of}
use Rattle.evm_scene.specs.Shown.{formula_of}
use Rattle.evm_session.specs.Listed.{entry_line, what_text}
use Rattle.evm_session.proofs.Rows.{says_failed, extends_more}
use Rattle.evm_session.proofs.Listing.{front_said, entry_said, line_said}
use Rattle.evm_session.proofs.lists.say_entry.Goals as goal

pub returns-in_err-say_what : goal.returns-in_err-say_what
returns-in_err-say_what g c =
    let name = c.in_ok-say.ensures ∙ ap (λ (t : List ℕ). c.args.out.now.items ++ t) c.bytes.ensures.value in
    says_failed c.from_residual-in_err-say_what.result c.args.out.now.items c.say_what.new.out.items (entry_line (entry_of c.args.scene.now.entries c.args.name.now)) c.from_residual-in_err-say_what.ensures.0
    (extends_more c.args.out.now.items c.say-3.new.out.items c.say_what.new.out.items _
    (front_said c.args.name.now c.in-Some.entry.dim c.args.out.now.items c.say.new.out.items c.say-2.new.out.items c.say_count.new.out.items c.say-3.new.out.items name c.in_ok-say-2.ensures c.in_ok-say_count.ensures c.in_ok-say-3.ensures)
    c.in_err-say_what.ensures)

pub returns : goal.returns
returns g c =
    let name = c.in_ok-say.ensures ∙ ap (λ (t : List ℕ). c.args.out.now.items ++ t) c.bytes.ensures.value in
    let formula = formula_of c.args.scene.now c.args.name.now in
    let what = c.in_ok-say_what.ensures ∙ ap (λ (o : Option Formula). c.say-3.new.out.items ++ what_text o) c.formula.ensures in
    line_said c.say-4.result c.args.scene.now.entries c.args.name.now c.in-Some.entry.dim formula c.args.out.now.items c.say_what.new.out.items c.say-4.new.out.items
    c.in-Some.ensures.0 c.in-Some.ensures.1 refl
    (entry_said c.args.name.now c.in-Some.entry.dim formula c.args.out.now.items c.say.new.out.items c.say-2.new.out.items c.say_count.new.out.items c.say-3.new.out.items c.say_what.new.out.items name c.in_ok-say-2.ensures c.in_ok-say_count.ensures c.in_ok-say-3.ensures what)
    c.say-4.ensures
