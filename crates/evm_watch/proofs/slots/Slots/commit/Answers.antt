use Rattle.std.proofs.Common.{map, drop, length, sym, ap, ◌∙◌, arith}
use Rattle.std.proofs.lemmas.List.Elements.{All-set}
use Rattle.evm_watch.specs.Slots.{seen_of, IsKept, seen_committed}
use Rattle.evm_watch.proofs.Lists.{done_all, done_more, take_whole}
use Rattle.evm_watch.proofs.slots.Slots.commit.Goals as goal

pub loop-slot-preserved : goal.loop-slot-preserved
loop-slot-preserved g c =
    let seen = seen_of g.M.Meter.kind g.M.Meter.reading g.M.Meter.pending in
    let i = c.loop-slot.invariant in
    record {
      seen = done_more seen seen_committed c.loop-slot.slot-index c.loop-slot.slot-items c.args.self.now c.slot-item.result c.commit.new.self (omega arith) i.seen c.slot-item.is
          (c.commit.ensures.seen ∙ ap (λ s. seen_committed (seen s)) (sym c.slot-item.is));
      kept = All-set (IsKept g.M.Meter.reading g.M.Meter.pending) c.loop-slot.slot-items c.loop-slot.slot-index c.commit.new.self c.commit.ensures.kept i.kept;
    }

pub returns : goal.returns
returns g c =
    let seen = seen_of g.M.Meter.kind g.M.Meter.reading g.M.Meter.pending in
    let i = c.loop-slot.invariant in
    ap (map seen) (take_whole c.self.inside.list.len c.loop-slot.slot-items (drop (length c.loop-slot.slot-items) c.self.inside.list.items) (omega arith))
    ∙ done_all seen seen_committed c.loop-slot.slot-index c.loop-slot.slot-items c.args.self.now (omega arith) i.seen
