use mir.Val.{SFits}
use mir.Syntax.{w128}
use Rattle.std.proofs.Common.{Option, Ok, Err, ℤ, is_some, refl, sym, ap, subst, ◌∙◌, rules}
use Rattle.std.proofs.lemmas.Int.{to_z-of_z}
use Rattle.evm_scene.specs.declared.node.Node.{Node}
use Rattle.evm_scene.specs.Tables.{node_figure}
use Rattle.evm_scene.specs.Watched.{watched_scene, Attaches}
use Rattle.evm_scene.proofs.Views.{stands_at}
use Rattle.evm_scene.proofs.Handed.{watched_handed, attached_done, attached_not}
use Rattle.evm_scene.proofs.watched.attach.Goals as goal

pub returns-in_default-clause-attaches : goal.returns-in_default-clause-attaches
returns-in_default-clause-attaches g c =
    (stands_at c.args.table.now.entries c.args.name.now ∙ ap (λ (o : Option Node). is_some o) (sym c.in_default.ensures.value), refl)

pub returns-in-Ok-clause-watched : goal.returns-in-Ok-clause-watched
returns-in-Ok-clause-watched g c =
    watched_handed c.args.table.now.entries c.args.slots.now c.attach.new.self c.args.slot c.args.name.now c.in-Some.node.now.solid c.requires.watched
    (ap (λ (o : Option Node). is_some o) (sym c.in-Some.ensures.value)) (ap node_figure c.in-Some.ensures.value) c.in-Ok.ensures.free c.in-Ok.ensures.ok

pub returns-in-Ok-clause-attaches : goal.returns-in-Ok-clause-attaches
returns-in-Ok-clause-attaches g c =
    let t = c.args.table.now.entries in
    let n = c.in-Ok.reading in
    let fits : SFits w128 n = search rules in
    subst (λ (m : ℤ). Attaches (Ok m) (watched_scene t c.args.slots.now) (watched_scene t c.attach.new.self) c.args.slot c.args.name.now) (sym (to_z-of_z w128 n fits))
    (attached_done t c.args.slots.now c.attach.new.self c.args.slot c.args.name.now c.in-Some.node.now.solid c.requires.watched
    (ap (λ (o : Option Node). is_some o) (sym c.in-Some.ensures.value)) (ap node_figure c.in-Some.ensures.value) c.in-Ok.ensures.free c.in-Ok.ensures.ok
    n c.requires.values c.in-Ok.ensures.read)

pub returns-in-Err-Slot-clause-attaches : goal.returns-in-Err-Slot-clause-attaches
returns-in-Err-Slot-clause-attaches g c =
    attached_not c.args.table.now.entries c.args.slots.now c.attach.new.self c.args.slot c.args.name.now
    (ap (λ (o : Option Node). is_some o) (sym c.in-Some.ensures.value)) (c.in-Err-Slot.ensures.slot (ap Err c.in-Err-Slot.field-0-is)) c.in-Err-Slot.ensures.err
