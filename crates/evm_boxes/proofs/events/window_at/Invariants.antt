use Rattle.std.proofs.Common.{take, ◌-◌}
use Rattle.evm_boxes.specs.Fills.{IsFound}
use Rattle.evm_boxes.proofs.events.window_at.Given as goal

abbrev pub invariant-loop-row : goal.invariant-loop-row
invariant-loop-row l = IsFound (l.dim - 1) l.height (take l.row-index l.rows) l.found
