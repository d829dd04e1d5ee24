use Rattle.std.proofs.Common.{◌++◌, ◌∙◌, ap, List, ℕ}
use Rattle.evm_script.specs.Line.{command}
use Rattle.evm_script.specs.Printed.{printed}
use Rattle.evm_script.proofs.Again.{read_again}
use Rattle.evm_script.proofs.write.write_line.Goals as goal

pub returns-clause-back : goal.returns-clause-back
returns-clause-back c =
    let after = λ (t : List ℕ). t ++ printed c.args.command.now in
    let all = c.in_ok-put_command.ensures.text ∙ ap after c.in_ok-text.ensures.items in
    ap command all ∙ read_again c.args.command.now c.in_ok-put_command.ensures.rules
