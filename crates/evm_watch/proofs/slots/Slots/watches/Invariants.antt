use Rattle.std.proofs.Common.{◌≡◌, drop}
use Rattle.std.specs.List.{list_any}
use Rattle.evm_watch.specs.Slots.{seen_of, seen_watches}
use Rattle.evm_watch.proofs.slots.Slots.watches.Given as goal

abbrev pub invariant-loop-slot : goal.invariant-loop-slot
invariant-loop-slot g l =
    list_any (λ s. seen_watches l.name (seen_of g.M.Meter.kind g.M.Meter.reading g.M.Meter.pending s)) (drop l.slot-index l.slot-items)
    ≡ list_any (λ s. seen_watches l.name (seen_of g.M.Meter.kind g.M.Meter.reading g.M.Meter.pending s)) l.slot-items
