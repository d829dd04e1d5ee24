use Rattle.std.proofs.Common.{take, ◌-◌}
use Rattle.evm_boxes.specs.Fills.{IsSection, level_of}
use Rattle.evm_boxes.proofs.events.bases_in.Given as goal

abbrev pub invariant-loop-row : goal.invariant-loop-row
invariant-loop-row l = IsSection (l.dim - 1) (level_of l.side l.height) l.window (take l.row-index l.rows) l.kept.items
