use Rattle.evm_rows.specs.View.{vertices_of}
use Rattle.evm_boolean.specs.Tower.{fills}
use Rattle.evm_steps.proofs.Climb.{cells_given}
use Rattle.evm_steps.proofs.slabs.combine.Goals as goal

pub returns-clause-cells : goal.returns-clause-cells
returns-clause-cells g c =
    cells_given (fills c.args.op) (vertices_of c.args.a) (vertices_of c.args.b) c.in_ok-solid.solid c.in_ok-solid.ensures.dim c.in_ok-solid.ensures.rows
