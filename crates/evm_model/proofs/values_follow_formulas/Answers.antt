use Rattle.evm_model.proofs.WellScenes.{well_value, well_unique, well_reaches, well_order, ordered_stand, value_dim, value_cells, shift_cells, lift_cells}
use Rattle.evm_model.proofs.values_follow_formulas.Goals as goal

pub returns-clause-values : goal.returns-clause-values
returns-clause-values c = λ scene name well. well_value scene well name

pub returns-clause-only : goal.returns-clause-only
returns-clause-only c = λ scene figures well fixed name. well_unique scene well figures fixed name

pub returns-clause-reaching : goal.returns-clause-reaching
returns-clause-reaching c = λ scene name other well. well_reaches scene well name other

pub returns-clause-cycles : goal.returns-clause-cycles
returns-clause-cycles c = λ scene name well. well.acyclic name

pub returns-clause-operands : goal.returns-clause-operands
returns-clause-operands c = λ scene name operand well m. well.stand name operand m

pub returns-clause-dim : goal.returns-clause-dim
returns-clause-dim c = λ scene name well. value_dim scene well name

pub returns-clause-cells : goal.returns-clause-cells
returns-clause-cells c = λ scene name well. value_cells scene well name

pub returns-clause-shifts : goal.returns-clause-shifts
returns-clause-shifts c = λ scene name operand nums e well q f. shift_cells scene well name operand nums e q f

pub returns-clause-order : goal.returns-clause-order
returns-clause-order c = well_order

pub returns-clause-ordered : goal.returns-clause-ordered
returns-clause-ordered c = ordered_stand

pub returns-clause-lifts : goal.returns-clause-lifts
returns-clause-lifts c = λ scene name operand axis lo hi height cell e well q f long. lift_cells scene well name operand axis lo hi height cell e q f long
