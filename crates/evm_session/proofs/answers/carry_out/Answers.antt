use Rattle.std.proofs.Common.{rules, refl}
use Rattle.evm_session.proofs.Shelved.{carried_command}
use Rattle.evm_session.proofs.answers.carry_out.Goals as goal

pub returns-in_default : goal.returns-in_default
returns-in_default g c =
    carried_command c.carry_out_alone.result c.args.scene.now c.carry_out_alone.new.scene c.args.out.now.items c.carry_out_alone.new.out.items _ _ c.args.command.now refl refl refl (search rules) c.carry_out_alone.ensures.few c.carry_out_alone.ensures.carries
