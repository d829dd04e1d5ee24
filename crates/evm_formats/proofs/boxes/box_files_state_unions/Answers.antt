use Rattle.evm_formats.proofs.BoxLaws.{boxes, pieces, blanks, wrong, two_rooms}
use Rattle.evm_formats.proofs.BoxTexts.{read_again}
use Rattle.evm_formats.proofs.boxes.box_files_state_unions.Goals as goal

pub returns-clause-boxes : goal.returns-clause-boxes
returns-clause-boxes c = boxes

pub returns-clause-pieces : goal.returns-clause-pieces
returns-clause-pieces c = pieces

pub returns-clause-blanks : goal.returns-clause-blanks
returns-clause-blanks c = blanks

pub returns-clause-wrong : goal.returns-clause-wrong
returns-clause-wrong c = wrong

pub returns-clause-again : goal.returns-clause-again
returns-clause-again c = read_again

pub returns-clause-worked : goal.returns-clause-worked
returns-clause-worked c = two_rooms
