use Rattle.std.proofs.Common.{◌≡◌, take}
use Rattle.evm_boxes.specs.Fills.{events_of}
use Rattle.evm_boxes.proofs.heights.first_ends.Given as goal

abbrev pub invariant-loop-row : goal.invariant-loop-row
invariant-loop-row l = l.ends.items ≡ events_of (take l.row-index l.rows)
