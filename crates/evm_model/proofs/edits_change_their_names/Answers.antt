use Rattle.evm_model.proofs.EditLaws.{same_both, others_stay, boxes_combine, replaced}
use Rattle.evm_model.proofs.ChangeLaws.{others_stand, input_empty, definition_holds, drop_gone}
use Rattle.evm_model.proofs.edits_change_their_names.Goals as goal

pub returns-clause-others : goal.returns-clause-others
returns-clause-others c = others_stay

pub returns-clause-stand : goal.returns-clause-stand
returns-clause-stand c = others_stand

pub returns-clause-input : goal.returns-clause-input
returns-clause-input c = input_empty

pub returns-clause-own : goal.returns-clause-own
returns-clause-own c = boxes_combine

pub returns-clause-replaced : goal.returns-clause-replaced
returns-clause-replaced c = replaced

pub returns-clause-formula : goal.returns-clause-formula
returns-clause-formula c = definition_holds

pub returns-clause-dropped : goal.returns-clause-dropped
returns-clause-dropped c = drop_gone

pub returns-clause-same : goal.returns-clause-same
returns-clause-same c = same_both
