use Rattle.std.proofs.Common.{sym, ap, ◌∙◌, arith}
use Rattle.std.specs.List.{list_any}
use Rattle.evm_watch.specs.Slots.{seen_of, seen_watches}
use Rattle.evm_watch.proofs.Lists.{any_map, any_hit, any_end}
use Rattle.evm_watch.proofs.slots.Slots.watches.Goals as goal

pub returns-then-watches : goal.returns-then-watches
returns-then-watches g c =
    let seen = seen_of g.M.Meter.kind g.M.Meter.reading g.M.Meter.pending in
    let t = seen_watches c.args.name.now in
    sym (ap (list_any t) (sym c.self.view_is)
    ∙ any_map t seen c.self.inside.list.items
    ∙ ap (list_any (λ s. t (seen s))) (sym c.deref-slot-items.ensures.value)
    ∙ sym c.loop-slot.invariant
    ∙ any_hit (λ s. t (seen s)) c.deref-slot-items.result.now c.loop-slot.slot-index c.slot-item.result (omega arith) c.slot-item.is (sym c.watches.ensures ∙ c.if-watches.true))

pub returns : goal.returns
returns g c =
    let seen = seen_of g.M.Meter.kind g.M.Meter.reading g.M.Meter.pending in
    let t = seen_watches c.args.name.now in
    sym (ap (list_any t) (sym c.self.view_is)
    ∙ any_map t seen c.self.inside.list.items
    ∙ ap (list_any (λ s. t (seen s))) (sym c.deref-slot-items.ensures.value)
    ∙ sym c.loop-slot.invariant
    ∙ any_end (λ s. t (seen s)) c.deref-slot-items.result.now c.loop-slot.slot-index (omega arith))
