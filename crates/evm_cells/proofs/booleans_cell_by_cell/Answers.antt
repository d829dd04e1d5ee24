use Rattle.evm_cells.proofs.Combine.{xor_vertices}
use Rattle.evm_cells.proofs.Booleans.{cell_sets, by_cells, xor_undone}
use Rattle.evm_cells.proofs.booleans_cell_by_cell.Goals as goal

pub returns-clause-vertices_of_xor : goal.returns-clause-vertices_of_xor
returns-clause-vertices_of_xor c = xor_vertices

pub returns-clause-cell_sets : goal.returns-clause-cell_sets
returns-clause-cell_sets c = cell_sets

pub returns-clause-by_cells : goal.returns-clause-by_cells
returns-clause-by_cells c = by_cells

pub returns-clause-xor_undone : goal.returns-clause-xor_undone
returns-clause-xor_undone c = xor_undone
