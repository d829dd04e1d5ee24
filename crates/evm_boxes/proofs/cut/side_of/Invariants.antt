use Rattle.std.proofs.Common.{take}
use Rattle.evm_boxes.specs.Cuts.{is_on, IsKept}
use Rattle.evm_boxes.proofs.cut.side_of.Given as goal

abbrev pub invariant-loop-row : goal.invariant-loop-row
invariant-loop-row l = IsKept l.dim (is_on l.side l.plane.axis l.plane.at) (take l.row-index l.rows) l.kept.items
