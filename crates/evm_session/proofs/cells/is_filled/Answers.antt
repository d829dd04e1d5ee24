use Rattle.std.proofs.Common.{rules}
use Rattle.evm_session.proofs.CellWindows.{box_there, long_enough}
use Rattle.evm_session.proofs.cells.is_filled.Goals as goal

pub of_box-requires-clause-same : goal.of_box-requires-clause-same
of_box-requires-clause-same c = long_enough c.args.tree.now.dim _ c.args.cell.now _ c.requires c.dim-dim.ensures (search rules)

pub is_filled_in-requires-clause-is_box : goal.is_filled_in-requires-clause-is_box
is_filled_in-requires-clause-is_box c = box_there c.args.tree.now.dim c.args.cell.now _ _ c.requires c.in-Ok.ensures.range (λ p. let clash = p in cc)
