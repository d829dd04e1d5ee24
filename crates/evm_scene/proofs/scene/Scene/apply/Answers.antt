use Rattle.std.proofs.Common.{refl, sym, ap, subst}
use Rattle.evm_model.specs.Scene.{Scene, IsWell}
use Rattle.evm_model.specs.Edits as model
use Rattle.evm_model.proofs.SlotLaws.{well_bare}
use Rattle.evm_scene.specs.declared.edit.Edit.{Edit}
use Rattle.evm_formulas.specs.Stated.{figure_of}
use Rattle.evm_scene.specs.Tables.{scene_of}
use Rattle.evm_scene.specs.Applied.{Applies, edit_view}
use Rattle.evm_scene.specs.InputEdits.{edit_by}
use Rattle.evm_scene.specs.Watched.{slots_of, watched_scene}
use Rattle.evm_scene.proofs.Watching.{watched_added}
use Rattle.evm_scene.proofs.Slotted.{applies_watched, box_stays}
use Rattle.evm_scene.proofs.SlotWork.{scene_few}
use Rattle.evm_scene.proofs.scene.Scene.apply.Goals as goal

pub input-requires-clause-well : goal.input-requires-clause-well
input-requires-clause-well g c =
    well_bare (scene_of c.self.inside.table.entries) (slots_of c.self.inside.slots) (subst (λ (s : Scene). IsWell s) (sym c.self.view_is) c.facts.ensures)

pub define-requires-clause-well : goal.define-requires-clause-well
define-requires-clause-well g c =
    well_bare (scene_of c.self.inside.table.entries) (slots_of c.self.inside.slots) (subst (λ (s : Scene). IsWell s) (sym c.self.view_is) c.facts.ensures)

pub invariant_of-self : goal.invariant_of-self
invariant_of-self g c = (
  c.input.ensures.kept,
  watched_added c.self.inside.table.entries c.input.new.table.entries c.self.inside.slots c.self.invariant.1 c.input.ensures.others,
)

pub returns-in-Input-clause-applies : goal.returns-in-Input-clause-applies
returns-in-Input-clause-applies g c =
    let old = c.self.inside.slots in
    let end = watched_scene c.input.new.table.entries old in
    subst (λ (s : Scene). Applies c.input.result s end (edit_view c.args.edit)) c.self.view_is
    (subst (λ (e : Edit). Applies c.input.result (watched_scene c.self.inside.table.entries old) end (edit_view e)) (sym c.in-Input.is)
    (applies_watched c.input.result c.self.inside.table.entries c.input.new.table.entries old old (model.Input c.in-Input.name c.in-Input.dim) refl c.input.ensures.applies refl))

pub returns-in-Box-clause-applies : goal.returns-in-Box-clause-applies
returns-in-Box-clause-applies g c =
    let old = c.self.inside.slots in
    let edit = edit_by c.in-Box.how c.in-Box.name c.in-Box.nums in
    let end = watched_scene c.edit_by_box.new.table.entries c.edit_by_box.new.slots in
    subst (λ (s : Scene). Applies c.edit_by_box.result s end (edit_view c.args.edit)) c.self.view_is
    (subst (λ (e : Edit). Applies c.edit_by_box.result (watched_scene c.self.inside.table.entries old) end (edit_view e)) (sym c.in-Box.is)
    (applies_watched c.edit_by_box.result c.self.inside.table.entries c.edit_by_box.new.table.entries old c.edit_by_box.new.slots edit (box_stays c.in-Box.how c.in-Box.name c.in-Box.nums)
    c.edit_by_box.ensures.applies c.edit_by_box.ensures.watched.same))

pub returns-in-Replace-clause-applies : goal.returns-in-Replace-clause-applies
returns-in-Replace-clause-applies g c =
    let old = c.self.inside.slots in
    let end = watched_scene c.replace.new.table.entries c.replace.new.slots in
    subst (λ (s : Scene). Applies c.replace.result s end (edit_view c.args.edit)) c.self.view_is
    (subst (λ (e : Edit). Applies c.replace.result (watched_scene c.self.inside.table.entries old) end (edit_view e)) (sym c.in-Replace.is)
    (applies_watched c.replace.result c.self.inside.table.entries c.replace.new.table.entries old c.replace.new.slots (model.Replace c.in-Replace.name (figure_of c.in-Replace.solid)) refl
    c.replace.ensures.applies c.replace.ensures.watched.same))

pub returns-in-Def-clause-applies : goal.returns-in-Def-clause-applies
returns-in-Def-clause-applies g c =
    let old = c.self.inside.slots in
    let end = watched_scene c.define.new.table.entries c.define.new.slots in
    subst (λ (s : Scene). Applies c.define.result s end (edit_view c.args.edit)) c.self.view_is
    (subst (λ (e : Edit). Applies c.define.result (watched_scene c.self.inside.table.entries old) end (edit_view e)) (sym c.in-Def.is)
    (applies_watched c.define.result c.self.inside.table.entries c.define.new.table.entries old c.define.new.slots (model.Def c.in-Def.name c.in-Def.formula) refl
    c.define.ensures.applies c.define.ensures.watched.same))

pub returns-in-Box-clause-few : goal.returns-in-Box-clause-few
returns-in-Box-clause-few g c =
    scene_few c.self.inside.table.entries c.self.inside.slots _ c.self.view_is _ _ (ap edit_view c.in-Box.is) _ _ c.edit_by_box.ensures.few

pub returns-in-Replace-clause-few : goal.returns-in-Replace-clause-few
returns-in-Replace-clause-few g c =
    scene_few c.self.inside.table.entries c.self.inside.slots _ c.self.view_is _ _ (ap edit_view c.in-Replace.is) _ _ c.replace.ensures.few

pub returns-in-Def-clause-few : goal.returns-in-Def-clause-few
returns-in-Def-clause-few g c =
    scene_few c.self.inside.table.entries c.self.inside.slots _ c.self.view_is _ _ (ap edit_view c.in-Def.is) _ _ c.define.ensures.few
