use Rattle.std.proofs.Common.{◌≡◌, map, All}
use Rattle.evm_watch.specs.Slots.{seen_of, IsKept, seen_prepared}
use Rattle.evm_watch.proofs.Lists.{first_done}
use Rattle.evm_watch.proofs.slots.Slots.prepare.Given as goal

abbrev pub invariant-loop-index : goal.invariant-loop-index
invariant-loop-index g l = record {
  seen : map (seen_of g.M.Meter.kind g.M.Meter.reading g.M.Meter.pending) l.self-inside.list.items ≡ first_done (seen_prepared l.fn.name l.fn.after) l.index l.fn.self;
  kept : All (IsKept g.M.Meter.reading g.M.Meter.pending) l.self-inside.list.items;
  size : l.self-inside.list.len ≡ l.index-end;
}
