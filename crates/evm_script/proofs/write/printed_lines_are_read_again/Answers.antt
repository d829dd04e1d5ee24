use Rattle.evm_script.proofs.FormulasAgain.{formula_again}
use Rattle.evm_script.proofs.Again.{read_again, same_command}
use Rattle.evm_script.proofs.write.printed_lines_are_read_again.Goals as goal

pub returns : goal.returns
returns c = record { again = read_again; told_apart = same_command; formulas = formula_again }
