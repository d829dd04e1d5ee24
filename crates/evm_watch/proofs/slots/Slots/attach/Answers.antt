use Rattle.std.proofs.Common.{◌≡◌, Some, pos, option_map, set, map, sym, ap, ◌∙◌, arith}
use Rattle.std.specs.List.{slice_get}
use Rattle.std.proofs.lemmas.Result.{on_ok_weaker, on_err_weaker, IfOk-weaker}
use Rattle.evm_watch.specs.Slots.{seen_of, seen_reading, seen_is_free, seen_attached}
use Rattle.evm_watch.proofs.Lists.{set_at, seen_at, seen_set, new_at}
use Rattle.evm_watch.proofs.slots.Slots.attach.Goals as goal

pub returns-clause-ok : goal.returns-clause-ok
returns-clause-ok g c =
    let seen = seen_of g.M.Meter.kind g.M.Meter.reading g.M.Meter.pending in
    on_ok_weaker c.attach.result
    (set_at seen (seen_attached c.args.name.now c.args.solid.now) c.self.inside.list.items c.args.self.now c.args.slot c.index_mut.result.now c.attach.new.self c.self.view_is (omega arith) c.index_mut.ensures.value)
    c.attach.ensures.ok

pub returns-clause-read : goal.returns-clause-read
returns-clause-read g c =
    let seen = seen_of g.M.Meter.kind g.M.Meter.reading g.M.Meter.pending in
    let xs = c.self.inside.list.items in
    let y = c.attach.new.self in
    IfOk-weaker c.attach.result (λ n. Some n ≡ option_map pos (seen_reading (Some (seen y)))) (λ n. Some n ≡ option_map pos (seen_reading (slice_get (map seen (set xs c.args.slot y)) c.args.slot)))
    (λ n h. h ∙ ap (λ o. option_map pos (seen_reading o)) (sym (new_at seen xs c.args.slot y (omega arith))))
    c.attach.ensures.read

pub returns-clause-free : goal.returns-clause-free
returns-clause-free g c =
    let seen = seen_of g.M.Meter.kind g.M.Meter.reading g.M.Meter.pending in
    on_ok_weaker c.attach.result
    (λ h. ap (λ v. seen_is_free (slice_get v c.args.slot)) (sym c.self.view_is)
    ∙ ap seen_is_free (seen_at seen c.self.inside.list.items c.args.slot c.index_mut.result.now (omega arith) c.index_mut.ensures.value) ∙ h)
    c.attach.ensures.free

pub returns-clause-slot : goal.returns-clause-slot
returns-clause-slot g c =
    let seen = seen_of g.M.Meter.kind g.M.Meter.reading g.M.Meter.pending in
    λ e. ap (λ v. seen_is_free (slice_get v c.args.slot)) (sym c.self.view_is)
    ∙ ap seen_is_free (seen_at seen c.self.inside.list.items c.args.slot c.index_mut.result.now (omega arith) c.index_mut.ensures.value)
    ∙ c.attach.ensures.slot e

pub returns-clause-refused : goal.returns-clause-refused
returns-clause-refused g c =
    let seen = seen_of g.M.Meter.kind g.M.Meter.reading g.M.Meter.pending in
    λ e. c.attach.ensures.refused (sym (ap (λ v. seen_is_free (slice_get v c.args.slot)) (sym c.self.view_is)
    ∙ ap seen_is_free (seen_at seen c.self.inside.list.items c.args.slot c.index_mut.result.now (omega arith) c.index_mut.ensures.value)) ∙ e)

pub returns-clause-err : goal.returns-clause-err
returns-clause-err g c =
    let seen = seen_of g.M.Meter.kind g.M.Meter.reading g.M.Meter.pending in
    on_err_weaker c.attach.result
    (λ h. seen_set seen c.self.inside.list.items c.args.slot c.index_mut.result.now c.attach.new.self (omega arith) c.index_mut.ensures.value h ∙ c.self.view_is)
    c.attach.ensures.err
