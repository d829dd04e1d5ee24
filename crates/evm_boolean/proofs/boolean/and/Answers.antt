use Rattle.std.proofs.Common.{◌∙◌}
use Rattle.evm_rows.specs.View.{vertices_of}
use Rattle.evm_boolean.proofs.Answer.{and_is, cells_and}
use Rattle.evm_boolean.proofs.boolean.and.Goals as goal

pub returns-clause-vertices : goal.returns-clause-vertices
returns-clause-vertices c = and_is (vertices_of c.args.a) (vertices_of c.args.b) c.in_ok-solid.solid c.in_ok-solid.ensures.dim c.in_ok-solid.ensures.rows

pub returns-clause-cells : goal.returns-clause-cells
returns-clause-cells c = c.in_ok-solid.ensures.cells ∙ cells_and _ _ _
