use Rattle.evm_worked.proofs.Beside.{work_beside}
use Rattle.evm_worked.proofs.Row.{cuts_of_row, work_in_row}
use Rattle.evm_worked.proofs.work_stays_near_the_change.Goals as goal

pub returns-clause-beside : goal.returns-clause-beside
returns-clause-beside c = work_beside

pub returns-clause-row : goal.returns-clause-row
returns-clause-row c = work_in_row

pub returns-clause-cuts : goal.returns-clause-cuts
returns-clause-cuts c = cuts_of_row
