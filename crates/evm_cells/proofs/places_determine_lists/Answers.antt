use Rattle.evm_cells.specs.Limits.{every_cell, every_point}
use Rattle.evm_cells.proofs.Universe.{same_sets, has-cells, has-points, ascending-filter, ascending-every_cell, ascending-every_point}
use Rattle.evm_cells.proofs.Coords.{limit-falls}
use Rattle.evm_cells.proofs.places_determine_lists.Goals as goal

pub returns-clause-cells_that_pass : goal.returns-clause-cells_that_pass
returns-clause-cells_that_pass c = λ n test. (ascending-filter test (every_cell n) (ascending-every_cell n), has-cells n test)

pub returns-clause-points_that_pass : goal.returns-clause-points_that_pass
returns-clause-points_that_pass c = λ n test. (ascending-filter test (every_point n) (ascending-every_point n), has-points n test)

pub returns-clause-same_places : goal.returns-clause-same_places
returns-clause-same_places c = same_sets

pub returns-clause-limits : goal.returns-clause-limits
returns-clause-limits c = limit-falls
