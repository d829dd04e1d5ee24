use Rattle.evm_model.proofs.EditLaws.{changed_reach, toggle_changes_some, toggle_counts}
use Rattle.evm_model.proofs.ChangeLaws.{new_changes_none, drop_changes_none, unread_changes, same_keeps}
use Rattle.evm_model.proofs.changes_are_counted.Goals as goal

pub returns-clause-reach : goal.returns-clause-reach
returns-clause-reach c = changed_reach

pub returns-clause-one : goal.returns-clause-one
returns-clause-one c = unread_changes

pub returns-clause-stays : goal.returns-clause-stays
returns-clause-stays c = same_keeps

pub returns-clause-toggle : goal.returns-clause-toggle
returns-clause-toggle c = toggle_changes_some

pub returns-clause-toggled : goal.returns-clause-toggled
returns-clause-toggled c = toggle_counts

pub returns-clause-made : goal.returns-clause-made
returns-clause-made c = new_changes_none

pub returns-clause-dropped : goal.returns-clause-dropped
returns-clause-dropped c = drop_changes_none
