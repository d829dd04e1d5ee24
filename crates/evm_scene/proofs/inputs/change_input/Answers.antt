use Rattle.std.proofs.Common.{◌≡◌, Err, sym, subst, ap}
use Rattle.evm_delta.specs.declared.shapes.DeltaError.{DeltaError}
use Rattle.evm_scene.specs.declared.edit.Refusal.{Refusal}
use Rattle.evm_scene.specs.Tables.{scene_of}
use Rattle.evm_scene.specs.Applied.{Applies}
use Rattle.evm_scene.proofs.Followed.{planned_few}
use Rattle.evm_scene.proofs.Planned.{planned_done, planned_failed}
use Rattle.evm_scene.proofs.inputs.change_input.Goals as goal

pub returns-in-Ok-clause-applies : goal.returns-in-Ok-clause-applies
returns-in-Ok-clause-applies g c edit p =
    planned_done c.args.table.now.entries c.set_input.new.table.entries c.args.name.now edit c.args.change p c.in-Ok.names
    c.in-Ok.ensures.stays c.in-Ok.ensures.ok c.in-Ok.ensures.count

pub returns-in-Err-clause-applies : goal.returns-in-Err-clause-applies
returns-in-Err-clause-applies g c edit p =
    subst (λ (r : Refusal). Applies (Err r) (scene_of c.args.table.now.entries) (scene_of c.set_input.new.table.entries) edit) (sym c.from.ensures)
    (planned_failed c.args.table.now.entries c.set_input.new.table.entries c.args.name.now edit c.args.change p c.in-Err.e
    (λ (k : c.in-Err.e ≡ DeltaError.Range). c.in-Err.ensures.range (ap Err k)) c.in-Err.ensures.err)

pub returns-in-Ok-clause-few : goal.returns-in-Ok-clause-few
returns-in-Ok-clause-few g c edit p = planned_few _ _ edit c.args.change p _ _ c.set_input.ensures.few

pub returns-in-Err-clause-few : goal.returns-in-Err-clause-few
returns-in-Err-clause-few g c edit p = planned_few _ _ edit c.args.change p _ _ c.set_input.ensures.few
