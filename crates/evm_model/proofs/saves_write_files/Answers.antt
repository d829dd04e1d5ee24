use Rattle.evm_model.proofs.FileLaws.{told_apart, told_names, loaded_is_saved, boxes_load}
use Rattle.evm_model.proofs.StepLaws.{save_places, only_saves, asked_shelf}
use Rattle.evm_model.proofs.saves_write_files.Goals as goal

pub returns-clause-places : goal.returns-clause-places
returns-clause-places c = save_places

pub returns-clause-only : goal.returns-clause-only
returns-clause-only c = only_saves

pub returns-clause-solids : goal.returns-clause-solids
returns-clause-solids c = told_apart

pub returns-clause-names : goal.returns-clause-names
returns-clause-names c = told_names

pub returns-clause-loads : goal.returns-clause-loads
returns-clause-loads c = loaded_is_saved

pub returns-clause-boxes : goal.returns-clause-boxes
returns-clause-boxes c = boxes_load

pub returns-clause-asks : goal.returns-clause-asks
returns-clause-asks c = asked_shelf
