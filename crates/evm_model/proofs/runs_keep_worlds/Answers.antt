use Rattle.evm_model.proofs.RunLaws.{refused_leaves, well_answer, well_run, run_keeps, saved_there, fetched_told}
use Rattle.evm_model.proofs.runs_keep_worlds.Goals as goal

pub returns-clause-refused : goal.returns-clause-refused
returns-clause-refused c = refused_leaves

pub returns-clause-well : goal.returns-clause-well
returns-clause-well c = well_answer

pub returns-clause-always : goal.returns-clause-always
returns-clause-always c = well_run

pub returns-clause-files : goal.returns-clause-files
returns-clause-files c = run_keeps

pub returns-clause-there : goal.returns-clause-there
returns-clause-there c = saved_there

pub returns-clause-told : goal.returns-clause-told
returns-clause-told c = fetched_told
