use Rattle.std.proofs.Common.{map}
use Rattle.evm_cells.proofs.Unions.{union_cells}
use Rattle.evm_boxes.specs.BoxRows.{ends_of}
use Rattle.evm_boxes.proofs.union.join_rows.Goals as goal

pub returns-clause-cells : goal.returns-clause-cells
returns-clause-cells c =
    union_cells c.args.dim c.in_ok-all.all.dim c.in_ok-all.all.rows (map ends_of c.args.rows.items) c.in_ok-all.ensures.dim c.in_ok-all.ensures.rows
