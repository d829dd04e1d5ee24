use Rattle.evm_cells.proofs.Core.{vertices-evm, cells-evm, evm-cells, vertices_are}
use Rattle.evm_cells.proofs.Booleans.{equal_vertices}
use Rattle.evm_cells.proofs.SectionSums.{list_by_couplets}
use Rattle.evm_cells.proofs.vertices_determine_cells.Goals as goal

pub returns-clause-vertices_are_even : goal.returns-clause-vertices_are_even
returns-clause-vertices_are_even c = vertices-evm

pub returns-clause-cells_again : goal.returns-clause-cells_again
returns-clause-cells_again c = cells-evm

pub returns-clause-vertices_again : goal.returns-clause-vertices_again
returns-clause-vertices_again c = evm-cells

pub returns-clause-no_other_list : goal.returns-clause-no_other_list
returns-clause-no_other_list c = vertices_are

pub returns-clause-equal_vertices : goal.returns-clause-equal_vertices
returns-clause-equal_vertices c = equal_vertices

pub returns-clause-list_by_couplets : goal.returns-clause-list_by_couplets
returns-clause-list_by_couplets c = list_by_couplets
