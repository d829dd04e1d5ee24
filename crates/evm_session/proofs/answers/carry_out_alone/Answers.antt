use Rattle.std.proofs.Common.{◌+◌, ◌≤◌, sym, subst, Ok}
use Rattle.evm_script.specs.declared.command.Command.{Command}
use Rattle.evm_model.specs.Files.{no_files}
use Rattle.evm_model.specs.Steps.{turn_of}
use Rattle.evm_model.specs.LineWork.{command_work}
use Rattle.evm_session.specs.Carried.{Carries}
use Rattle.evm_session.proofs.Lines.{blank}
use Rattle.evm_session.proofs.answers.carry_out_alone.Goals as goal

pub returns-in-Blank-clause-carries : goal.returns-in-Blank-clause-carries
returns-in-Blank-clause-carries g c =
    subst (λ (k : Command). Carries (Ok tt) c.args.scene.now c.args.scene.now c.args.out.now.items c.args.out.now.items (turn_of no_files c.args.scene.now k))
    (sym c.in-Blank.is) (blank c.args.scene.now c.args.out.now.items)

pub returns-in-Toggle-clause-carries : goal.returns-in-Toggle-clause-carries
returns-in-Toggle-clause-carries g c =
    subst (λ (k : Command). Carries c.edit.result c.args.scene.now c.edit.new.scene c.args.out.now.items c.edit.new.out.items (turn_of no_files c.args.scene.now k))
    (sym c.in-Toggle.is) c.edit.ensures.carries

pub returns-in-Toggle-clause-few : goal.returns-in-Toggle-clause-few
returns-in-Toggle-clause-few g c =
    subst (λ (k : Command). c.edit.new.steps ≤ c.args.steps.now + command_work no_files c.args.scene.now k) (sym c.in-Toggle.is) c.edit.ensures.few

pub returns-in-Add-clause-carries : goal.returns-in-Add-clause-carries
returns-in-Add-clause-carries g c =
    subst (λ (k : Command). Carries c.edit-in-Add.result c.args.scene.now c.edit-in-Add.new.scene c.args.out.now.items c.edit-in-Add.new.out.items (turn_of no_files c.args.scene.now k))
    (sym c.in-Add.is) c.edit-in-Add.ensures.carries

pub returns-in-Add-clause-few : goal.returns-in-Add-clause-few
returns-in-Add-clause-few g c =
    subst (λ (k : Command). c.edit-in-Add.new.steps ≤ c.args.steps.now + command_work no_files c.args.scene.now k) (sym c.in-Add.is) c.edit-in-Add.ensures.few

pub returns-in-Cut-clause-carries : goal.returns-in-Cut-clause-carries
returns-in-Cut-clause-carries g c =
    subst (λ (k : Command). Carries c.edit-in-Cut.result c.args.scene.now c.edit-in-Cut.new.scene c.args.out.now.items c.edit-in-Cut.new.out.items (turn_of no_files c.args.scene.now k))
    (sym c.in-Cut.is) c.edit-in-Cut.ensures.carries

pub returns-in-Cut-clause-few : goal.returns-in-Cut-clause-few
returns-in-Cut-clause-few g c =
    subst (λ (k : Command). c.edit-in-Cut.new.steps ≤ c.args.steps.now + command_work no_files c.args.scene.now k) (sym c.in-Cut.is) c.edit-in-Cut.ensures.few

pub returns-in-Def-clause-carries : goal.returns-in-Def-clause-carries
returns-in-Def-clause-carries g c =
    subst (λ (k : Command). Carries c.edit-in-Def.result c.args.scene.now c.edit-in-Def.new.scene c.args.out.now.items c.edit-in-Def.new.out.items (turn_of no_files c.args.scene.now k))
    (sym c.in-Def.is) c.edit-in-Def.ensures.carries

pub returns-in-Def-clause-few : goal.returns-in-Def-clause-few
returns-in-Def-clause-few g c =
    subst (λ (k : Command). c.edit-in-Def.new.steps ≤ c.args.steps.now + command_work no_files c.args.scene.now k) (sym c.in-Def.is) c.edit-in-Def.ensures.few
