use Rattle.std.proofs.Common.{◌≡◌, Bool, ◌&&◌, Err, refl, sym, ap, subst, ◌∙◌}
use Rattle.evm_delta.specs.declared.shapes.DeltaError.{DeltaError}
use Rattle.evm_model.specs.Figures.{Figure}
use Rattle.evm_model.specs.Scene.{formula_in_range, formula_stays, all_stay, with_formula}
use Rattle.evm_model.specs.Edits as model
use Rattle.evm_scene.specs.declared.edit.Refusal.{Refusal}
use Rattle.evm_scene.specs.Tables.{kept, scene_of}
use Rattle.evm_scene.specs.Applied.{Applies}
use Rattle.evm_scene.specs.Changes.{IsStuck}
use Rattle.evm_scene.proofs.Causes.{refused_cycle, refused_dim, refused_range, unmade}
use Rattle.evm_scene.proofs.Wells.{well_kept}
use Rattle.evm_scene.proofs.Stuck.{own_out, stuck_out, both_out}
use Rattle.evm_scene.proofs.Reformed.{unfree, unmoved, end_kept, end_stands, end_values, end_applies, made_stands, made_no_input, operands_present}
use Rattle.evm_scene.proofs.Watching.{all_committed}
use Rattle.evm_formulas.specs.Stated.{figure_of}
use Rattle.evm_scene.proofs.DefSteps.{standing_few, reformed_few}
use Rattle.evm_scene.proofs.defined.redefine.Goals as goal

pub free_parts-requires-clause-present : goal.free_parts-requires-clause-present
free_parts-requires-clause-present g c =
    let t = c.args.table.now.entries in operands_present t c.args.name.now c.args.formula (made_stands t c.args.name.now c.requires.made) c.requires.present

pub returns-in-Err-clause-applies : goal.returns-in-Err-clause-applies
returns-in-Err-clause-applies g c =
    let t = c.args.table.now.entries in
    unfree c.in-Err.refusal t _ c.args.name.now c.args.formula _ c.in-Err.ensures
    (refused_cycle (scene_of t) c.args.name.now c.args.formula c.requires.present (made_no_input t c.args.name.now c.requires.made))

pub returns-in_default-clause-applies : goal.returns-in_default-clause-applies
returns-in_default-clause-applies g c =
    let t = c.args.table.now.entries in
    (refused_dim (scene_of t) c.args.name.now c.args.formula c.requires.present (made_no_input t c.args.name.now c.requires.made) c.in-Ok.ensures.0 c.in_default.ensures, refl)

pub evaluate-requires-clause-present : goal.evaluate-requires-clause-present
evaluate-requires-clause-present g c =
    let t = c.args.table.now.entries in operands_present t c.args.name.now c.args.formula (made_stands t c.args.name.now c.requires.made) c.requires.present

pub returns-in-Err-evaluate-clause-applies : goal.returns-in-Err-evaluate-clause-applies
returns-in-Err-evaluate-clause-applies g c =
    let t = c.args.table.now.entries in
    let standing = made_stands t c.args.name.now c.requires.made in
    unmade c.in-Err-evaluate.refusal (scene_of t) c.args.formula (kept t) _ _ c.in-Err-evaluate.ensures.made
    (λ h. refused_range (scene_of t) c.args.name.now c.args.formula c.requires.present (made_no_input t c.args.name.now c.requires.made) c.in-Ok.ensures.0 c.in-Some.ensures.0
    (both_out (formula_in_range (scene_of t) c.args.formula) (formula_stays c.args.formula (kept t)) (all_stay (with_formula (scene_of t) c.args.name.now c.args.formula))
    (own_out t c.args.order.now.items c.args.name.now c.args.formula c.requires.kept (well_kept t c.args.order.now.items c.requires.kept c.len-names.ensures.unique)
    standing (operands_present t c.args.name.now c.args.formula standing c.requires.present) c.in-Ok.ensures.0) h))

pub returns-in-Err-reformed-clause-applies : goal.returns-in-Err-reformed-clause-applies
returns-in-Err-reformed-clause-applies g c =
    let t = c.args.table.now.entries in
    let standing = made_stands t c.args.name.now c.requires.made in
    let left = all_stay (with_formula (scene_of t) c.args.name.now c.args.formula) in
    subst (λ (r : Refusal). Applies (Err r) (scene_of t) (scene_of t) (model.Def c.args.name.now c.args.formula)) (sym c.from.ensures)
    (unmoved c.in-Err-reformed.e (scene_of t) (model.Def c.args.name.now c.args.formula)
    (λ (k : c.in-Err-reformed.e ≡ DeltaError.Range).
    refused_range (scene_of t) c.args.name.now c.args.formula c.requires.present (made_no_input t c.args.name.now c.requires.made) c.in-Ok.ensures.0 c.in-Some.ensures.0
    (ap (λ (b : Bool). b && left) c.in-Ok-evaluate.ensures.made.0
    ∙ stuck_out t c.args.order.now.items c.args.name.now c.args.formula c.requires.kept (well_kept t c.args.order.now.items c.requires.kept c.len-names.ensures.unique)
    standing (operands_present t c.args.name.now c.args.formula standing c.requires.present) c.in-Ok.ensures.0
    c.in-Some.ensures.1 c.in-Ok-evaluate.ensures.made.0 (sym c.in-Some.ensures.2 ∙ c.in-Some.ensures.3)
    (subst (λ (g : Figure). IsStuck t c.args.name.now g) c.in-Ok-evaluate.ensures.made.2.0 (c.in-Err-reformed.ensures.stuck (ap Err k))))))

pub returns-clause-kept : goal.returns-clause-kept
returns-clause-kept g c =
    end_kept _ _ _ _ _ _ _ _ _ _ _ c.in-Some.dim c.in-Ok-evaluate.after c.requires.kept c.as_slice.ensures.value c.in-Ok.ensures.1
    c.in-Ok-reformed.ensures.redefined c.in-Ok-evaluate.ensures.made.2.0 c.in-Ok-evaluate.ensures.made.1 c.install-names.ensures
    c.requires.made c.requires.present c.in-Ok.ensures.0 c.in-Some.ensures.0 c.in-Some.ensures.1 c.in-Some.ensures.2 c.in-Some.ensures.3 c.in-Ok-evaluate.ensures.made.0 c.in-Ok-joined.ensures

pub returns-clause-applies : goal.returns-clause-applies
returns-clause-applies g c =
    end_applies _ _ _ _ _ _ c.in-Ok-joined.whole.items _ _ _ _ c.in-Some.dim c.in-Ok-evaluate.after c.requires.kept c.as_slice.ensures.value c.in-Ok.ensures.1
    c.in-Ok-reformed.ensures.redefined c.in-Ok-evaluate.ensures.made.2.0 c.in-Ok-evaluate.ensures.made.1 c.install-names.ensures
    c.requires.made c.requires.present c.in-Ok.ensures.0 c.in-Some.ensures.0 c.in-Some.ensures.1 c.in-Some.ensures.2 c.in-Some.ensures.3 c.in-Ok-evaluate.ensures.made.0 c.len-names.ensures.unique

pub returns-clause-watched : goal.returns-clause-watched
returns-clause-watched g c =
    all_committed _ _ _ _ _ _ c.requires.watched c.in-Ok-prepare.ensures.ok c.commit.ensures
    (end_values _ _ _ _ _ _ c.in-Ok-joined.whole.items _ _ _ _ c.in-Some.dim c.in-Ok-evaluate.after c.requires.kept c.as_slice.ensures.value c.in-Ok.ensures.1
    c.in-Ok-reformed.ensures.redefined c.in-Ok-evaluate.ensures.made.2.0 c.in-Ok-evaluate.ensures.made.1 c.install-names.ensures
    c.requires.made c.requires.present c.in-Ok.ensures.0 c.in-Some.ensures.0 c.in-Some.ensures.1 c.in-Some.ensures.2 c.in-Some.ensures.3 c.in-Ok-evaluate.ensures.made.0)
    (end_stands _ _ _ _ _ _ c.in-Ok-joined.whole.items _ _ _ _ c.in-Some.dim c.in-Ok-evaluate.after c.requires.kept c.as_slice.ensures.value c.in-Ok.ensures.1
    c.in-Ok-reformed.ensures.redefined c.in-Ok-evaluate.ensures.made.2.0 c.in-Ok-evaluate.ensures.made.1 c.install-names.ensures
    c.requires.made c.requires.present c.in-Ok.ensures.0 c.in-Some.ensures.0 c.in-Some.ensures.1 c.in-Some.ensures.2 c.in-Some.ensures.3 c.in-Ok-evaluate.ensures.made.0)

pub returns-in-Err-evaluate-clause-few : goal.returns-in-Err-evaluate-clause-few
returns-in-Err-evaluate-clause-few g c =
    standing_few c.args.table.now.entries c.args.order.now.items c.args.name.now c.args.formula c.requires.kept c.len-names.ensures.unique c.requires.made c.requires.present
    c.in-Ok.ensures.0 c.in-Some.ensures.0 c.in-Some.ensures.1 _ _ c.evaluate.ensures.few c.evaluate.ensures.early

pub returns-in-Err-reformed-clause-few : goal.returns-in-Err-reformed-clause-few
returns-in-Err-reformed-clause-few g c =
    reformed_few c.args.table.now.entries c.args.order.now.items c.args.name.now c.args.formula c.requires.kept c.len-names.ensures.unique c.requires.made c.requires.present
    c.in-Ok.ensures.0 c.in-Some.ensures.0 c.in-Some.ensures.1 _ c.in-Ok.parts.front.items c.in-Ok.parts.reach.keys c.as_slice.ensures.value c.in-Ok.ensures.1
    (figure_of c.in-Ok-evaluate.after) c.in-Ok-evaluate.ensures.made.2.0 c.in-Ok-evaluate.ensures.made.0 _ _ _ c.evaluate.ensures.few c.reformed.ensures.few

pub returns-in_default-joined-clause-few : goal.returns-in_default-joined-clause-few
returns-in_default-joined-clause-few g c =
    reformed_few c.args.table.now.entries c.args.order.now.items c.args.name.now c.args.formula c.requires.kept c.len-names.ensures.unique c.requires.made c.requires.present
    c.in-Ok.ensures.0 c.in-Some.ensures.0 c.in-Some.ensures.1 _ c.in-Ok.parts.front.items c.in-Ok.parts.reach.keys c.as_slice.ensures.value c.in-Ok.ensures.1
    (figure_of c.in-Ok-evaluate.after) c.in-Ok-evaluate.ensures.made.2.0 c.in-Ok-evaluate.ensures.made.0 _ _ _ c.evaluate.ensures.few c.reformed.ensures.few

pub returns-in_default-prepare-clause-few : goal.returns-in_default-prepare-clause-few
returns-in_default-prepare-clause-few g c =
    reformed_few c.args.table.now.entries c.args.order.now.items c.args.name.now c.args.formula c.requires.kept c.len-names.ensures.unique c.requires.made c.requires.present
    c.in-Ok.ensures.0 c.in-Some.ensures.0 c.in-Some.ensures.1 _ c.in-Ok.parts.front.items c.in-Ok.parts.reach.keys c.as_slice.ensures.value c.in-Ok.ensures.1
    (figure_of c.in-Ok-evaluate.after) c.in-Ok-evaluate.ensures.made.2.0 c.in-Ok-evaluate.ensures.made.0 _ _ _ c.evaluate.ensures.few c.reformed.ensures.few

pub returns-clause-few : goal.returns-clause-few
returns-clause-few g c =
    reformed_few c.args.table.now.entries c.args.order.now.items c.args.name.now c.args.formula c.requires.kept c.len-names.ensures.unique c.requires.made c.requires.present
    c.in-Ok.ensures.0 c.in-Some.ensures.0 c.in-Some.ensures.1 _ c.in-Ok.parts.front.items c.in-Ok.parts.reach.keys c.as_slice.ensures.value c.in-Ok.ensures.1
    (figure_of c.in-Ok-evaluate.after) c.in-Ok-evaluate.ensures.made.2.0 c.in-Ok-evaluate.ensures.made.0 _ _ _ c.evaluate.ensures.few c.reformed.ensures.few
