use Rattle.evm_model.proofs.RunLaws.{run_length, run_front, run_later}
use Rattle.evm_model.proofs.LineLaws.{lines_make, lines_no_lf}
use Rattle.evm_model.proofs.runs_go_line_by_line.Goals as goal

pub returns-clause-each : goal.returns-clause-each
returns-clause-each c = run_length

pub returns-clause-front : goal.returns-clause-front
returns-clause-front c = run_front

pub returns-clause-later : goal.returns-clause-later
returns-clause-later c = run_later

pub returns-clause-no_lf : goal.returns-clause-no_lf
returns-clause-no_lf c = lines_no_lf

pub returns-clause-script : goal.returns-clause-script
returns-clause-script c = lines_make
