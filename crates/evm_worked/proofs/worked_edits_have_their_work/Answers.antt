use Rattle.evm_worked.proofs.Lines.{lines_make_squares, work_of_line}
use Rattle.evm_worked.proofs.Squares.{work_of_cut}
use Rattle.evm_worked.proofs.worked_edits_have_their_work.Goals as goal

pub returns-clause-scene : goal.returns-clause-scene
returns-clause-scene c = lines_make_squares

pub returns-clause-cut : goal.returns-clause-cut
returns-clause-cut c = work_of_cut

pub returns-clause-line : goal.returns-clause-line
returns-clause-line c = work_of_line
