use Rattle.evm_cells.proofs.Corners.{corners_are}
use Rattle.evm_cells.proofs.Boxes.{box_test, box_not_empty, toggle_changes}
use Rattle.evm_cells.proofs.boxes_have_corners.Goals as goal

pub returns-clause-corners : goal.returns-clause-corners
returns-clause-corners c = corners_are

pub returns-clause-box_test : goal.returns-clause-box_test
returns-clause-box_test c = box_test

pub returns-clause-not_empty : goal.returns-clause-not_empty
returns-clause-not_empty c = box_not_empty

pub returns-clause-toggle_changes : goal.returns-clause-toggle_changes
returns-clause-toggle_changes c = toggle_changes
