use Rattle.std.proofs.Common.{Bool, not, ◌&&◌, refl, sym, ap, ◌∙◌}
use Rattle.evm_rows.specs.Rows.{Vertices}
use Rattle.evm_model.specs.Scene.{formula_in_range}
use Rattle.evm_scene.specs.Tables.{scene_of, kept}
use Rattle.evm_scene.specs.Definitions.{IsValue}
use Rattle.evm_scene.proofs.Causes.{refused_cycle, refused_dim, refused_range, unmade, no_input, cycle_itself, dim_missed, operand_present, no_cycle, made_sized, new_left, new_done}
use Rattle.evm_scene.proofs.Views.{kept_is_value}
use Rattle.evm_scene.proofs.DefSteps.{fresh_few}
use Rattle.evm_scene.proofs.defined.make.Goals as goal

pub returns-then-names-clause-applies : goal.returns-then-names-clause-applies
returns-then-names-clause-applies g c =
    let t = c.args.table.now.entries in (
      refused_cycle (scene_of t) c.args.name c.args.formula c.requires.present (no_input t c.args.name c.args.formula c.requires.well c.requires.fresh c.requires.present)
          (cycle_itself t c.args.name c.args.formula c.requires.well c.requires.fresh c.requires.present ∙ sym c.names.ensures ∙ c.if-names.true),
      refl,
    )

pub returns-in_default-clause-applies : goal.returns-in_default-clause-applies
returns-in_default-clause-applies g c =
    let t = c.args.table.now.entries in (
      refused_dim (scene_of t) c.args.name c.args.formula c.requires.present (no_input t c.args.name c.args.formula c.requires.well c.requires.fresh c.requires.present)
          (no_cycle t c.args.name c.args.formula c.requires.well c.requires.fresh c.requires.present (sym c.names.ensures ∙ c.if-names.false))
          (dim_missed t c.args.name c.args.formula c.requires.well c.requires.fresh c.requires.present ∙ ap not c.in_default.ensures),
      refl,
    )

pub evaluate-requires-clause-present : goal.evaluate-requires-clause-present
evaluate-requires-clause-present g c =
    operand_present c.args.table.now.entries c.args.name c.args.formula c.requires.well c.requires.fresh c.requires.present (sym c.names.ensures ∙ c.if-names.false)

pub returns-in-Err-clause-applies : goal.returns-in-Err-clause-applies
returns-in-Err-clause-applies g c =
    let t = c.args.table.now.entries in
    unmade c.in-Err.refusal (scene_of t) c.args.formula (kept t) (IsValue c.in-Some.dim c.args.formula (kept t)) _ c.in-Err.ensures.made
    (λ h. refused_range (scene_of t) c.args.name c.args.formula c.requires.present (no_input t c.args.name c.args.formula c.requires.well c.requires.fresh c.requires.present)
    (no_cycle t c.args.name c.args.formula c.requires.well c.requires.fresh c.requires.present (sym c.names.ensures ∙ c.if-names.false))
    (dim_missed t c.args.name c.args.formula c.requires.well c.requires.fresh c.requires.present ∙ ap not c.in-Some.ensures.0)
    (ap (λ (b : Bool). formula_in_range (scene_of t) c.args.formula && b)
    (new_left t c.args.name c.args.formula c.requires.well c.requires.fresh c.requires.present (sym c.names.ensures ∙ c.if-names.false) (kept_is_value t c.args.order.now.items c.requires.kept))
    ∙ h))

pub add-requires-clause-operands : goal.add-requires-clause-operands
add-requires-clause-operands g c =
    operand_present c.args.table.now.entries c.args.name c.args.formula c.requires.well c.requires.fresh c.requires.present (sym c.names.ensures ∙ c.if-names.false)

pub add-requires-clause-sized : goal.add-requires-clause-sized
add-requires-clause-sized g c =
    made_sized c.args.table.now.entries c.args.name c.args.formula c.requires.well c.requires.fresh c.requires.present (sym c.names.ensures ∙ c.if-names.false)
    c.in-Some.dim c.in-Ok-from_solid.solid c.in-Some.ensures.0 c.in-Some.ensures.1 c.in-Ok.ensures.made.0 (ap (λ (v : Vertices). v.dim) c.in-Ok-from_solid.ensures ∙ c.in-Ok.ensures.made.2.1)

pub returns-in-Ok-add-clause-applies : goal.returns-in-Ok-add-clause-applies
returns-in-Ok-add-clause-applies g c =
    new_done c.args.table.now.entries c.args.name c.args.formula c.requires.well c.requires.fresh c.requires.present (sym c.names.ensures ∙ c.if-names.false)
    c.add.new.table.entries c.in-Some.dim c.in-Ok-from_solid.solid c.in-Some.ensures.0 c.in-Some.ensures.1 c.in-Ok.ensures.made.0
    (new_left c.args.table.now.entries c.args.name c.args.formula c.requires.well c.requires.fresh c.requires.present (sym c.names.ensures ∙ c.if-names.false)
    (kept_is_value c.args.table.now.entries c.args.order.now.items c.requires.kept) ∙ c.in-Ok.ensures.made.1)
    c.in-Ok-add.ensures.ok

pub returns-in-Err-clause-few : goal.returns-in-Err-clause-few
returns-in-Err-clause-few g c =
    fresh_few c.args.table.now.entries c.args.order.now.items c.args.name c.args.formula c.requires.kept c.requires.well c.requires.fresh c.requires.present
    (sym c.names.ensures ∙ c.if-names.false) c.in-Some.ensures.0 _ _ c.evaluate.ensures.few c.evaluate.ensures.early

pub returns-in_default-from_solid-clause-few : goal.returns-in_default-from_solid-clause-few
returns-in_default-from_solid-clause-few g c =
    fresh_few c.args.table.now.entries c.args.order.now.items c.args.name c.args.formula c.requires.kept c.requires.well c.requires.fresh c.requires.present
    (sym c.names.ensures ∙ c.if-names.false) c.in-Some.ensures.0 _ _ c.evaluate.ensures.few c.evaluate.ensures.early

pub returns-in-Ok-add-clause-few : goal.returns-in-Ok-add-clause-few
returns-in-Ok-add-clause-few g c =
    fresh_few c.args.table.now.entries c.args.order.now.items c.args.name c.args.formula c.requires.kept c.requires.well c.requires.fresh c.requires.present
    (sym c.names.ensures ∙ c.if-names.false) c.in-Some.ensures.0 _ _ c.evaluate.ensures.few c.evaluate.ensures.early

pub returns-in-Err-add-clause-few : goal.returns-in-Err-add-clause-few
returns-in-Err-add-clause-few g c =
    fresh_few c.args.table.now.entries c.args.order.now.items c.args.name c.args.formula c.requires.kept c.requires.well c.requires.fresh c.requires.present
    (sym c.names.ensures ∙ c.if-names.false) c.in-Some.ensures.0 _ _ c.evaluate.ensures.few c.evaluate.ensures.early
