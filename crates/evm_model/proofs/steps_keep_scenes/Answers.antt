use Rattle.evm_model.proofs.EditLaws.{well_edit, out_of_limits}
use Rattle.evm_model.proofs.StepLaws.{mild_step, has_memory, question_leaves, well_start, well_step}
use Rattle.evm_model.proofs.steps_keep_scenes.Goals as goal

pub returns-clause-refused : goal.returns-clause-refused
returns-clause-refused c = λ fetched scene line. (mild_step fetched scene line).0

pub returns-clause-memory : goal.returns-clause-memory
returns-clause-memory c = has_memory

pub returns-clause-start : goal.returns-clause-start
returns-clause-start c = well_start

pub returns-clause-well : goal.returns-clause-well
returns-clause-well c = well_step

pub returns-clause-edits : goal.returns-clause-edits
returns-clause-edits c = well_edit

pub returns-clause-questions : goal.returns-clause-questions
returns-clause-questions c = question_leaves

pub returns-clause-limits : goal.returns-clause-limits
returns-clause-limits c = out_of_limits
