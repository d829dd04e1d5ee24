use Rattle.std.proofs.Common.{◌≡◌, map, All}
use Rattle.evm_watch.specs.Slots.{Free, seen_of, IsKept}
use Rattle.evm_watch.proofs.slots.Slots.new.Given as goal

abbrev pub invariant-loop-meter : goal.invariant-loop-meter
invariant-loop-meter g l = record {
  seen : map (seen_of g.M.Meter.kind g.M.Meter.reading g.M.Meter.pending) l.list.items ≡ map (λ m. Free (g.M.Meter.kind m)) l.yielded;
  kept : All (IsKept g.M.Meter.reading g.M.Meter.pending) l.list.items;
}
