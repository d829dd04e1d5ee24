use Rattle.std.proofs.Common.{pos, option_map, sym, ap, ◌∙◌, arith}
use Rattle.std.specs.List.{slice_get}
use Rattle.evm_watch.specs.Slots.{seen_of, seen_reading, Gone}
use Rattle.evm_watch.proofs.Lists.{seen_past, gone_at}
use Rattle.evm_watch.proofs.slots.Slots.detach.Goals as goal

pub returns-then-slot-len-clause-gone : goal.returns-then-slot-len-clause-gone
returns-then-slot-len-clause-gone g c =
    let seen = seen_of g.M.Meter.kind g.M.Meter.reading g.M.Meter.pending in
    gone_at seen Gone c.detach.result c.self.inside.list.items c.args.self.now c.args.slot c.index_mut.result.now c.detach.new.self c.self.view_is (omega arith) c.index_mut.ensures.value c.detach.ensures.gone

pub returns-else-slot-len-clause-value : goal.returns-else-slot-len-clause-value
returns-else-slot-len-clause-value g c =
    let seen = seen_of g.M.Meter.kind g.M.Meter.reading g.M.Meter.pending in
    sym (ap (λ o. option_map pos (seen_reading o)) (ap (λ v. slice_get v c.args.slot) (sym c.self.view_is) ∙ seen_past seen c.self.inside.list.items c.args.slot (omega arith)))
