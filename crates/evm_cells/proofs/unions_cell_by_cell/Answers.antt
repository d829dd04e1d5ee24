use Rattle.evm_cells.proofs.Unions.{cell_set-or_all, has-or_all, or_all-permuted, or_all-append}
use Rattle.evm_cells.proofs.unions_cell_by_cell.Goals as goal

pub returns-clause-cell_set : goal.returns-clause-cell_set
returns-clause-cell_set c = cell_set-or_all

pub returns-clause-by_cells : goal.returns-clause-by_cells
returns-clause-by_cells c = has-or_all

pub returns-clause-any_order : goal.returns-clause-any_order
returns-clause-any_order c = or_all-permuted

pub returns-clause-of_unions : goal.returns-clause-of_unions
returns-clause-of_unions c = or_all-append
