use Rattle.std.proofs.Common.{◌≡◌, map, All}
use Rattle.evm_watch.specs.Slots.{seen_of, IsKept, seen_abandoned}
use Rattle.evm_watch.proofs.Lists.{first_done}
use Rattle.evm_watch.proofs.slots.Slots.abandon.Given as goal

abbrev pub invariant-loop-slot : goal.invariant-loop-slot
invariant-loop-slot g l = record {
  seen : map (seen_of g.M.Meter.kind g.M.Meter.reading g.M.Meter.pending) l.slot-items ≡ first_done seen_abandoned l.slot-index l.fn.self;
  kept : All (IsKept g.M.Meter.reading g.M.Meter.pending) l.slot-items;
}
