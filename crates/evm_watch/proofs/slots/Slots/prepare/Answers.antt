use Rattle.std.proofs.Common.{◌≡◌, ◌<◌, ℕ, false, length, sym, ◌∙◌, arith, rules, subst}
use Rattle.std.proofs.lemmas.List.Elements.{All-set}
use Rattle.evm_rows.specs.Rows.{Vertices}
use Rattle.evm_watch.specs.Slots.{seen_of, IsKept, SeenReads, seen_prepared}
use Rattle.evm_watch.specs.Parts.{AreParts}
use Rattle.evm_watch.proofs.Lists.{done_all, done_more, not_reached, on_err}
use Rattle.evm_watch.proofs.Moved.{none_prepared, can_move, moves, failed_at}
use Rattle.evm_watch.proofs.slots.Slots.prepare.Goals as goal

pub returns-then-not-watches-clause-ok : goal.returns-then-not-watches-clause-ok
returns-then-not-watches-clause-ok g c =
    let h : c.watches.result ≡ false = search rules in
    none_prepared c.args.name.now c.args.after.now c.args.self.now (sym c.watches.ensures ∙ h)

pub prepare-requires-clause-near : goal.prepare-requires-clause-near
prepare-requires-clause-near g c =
    let seen = seen_of g.M.Meter.kind g.M.Meter.reading g.M.Meter.pending in
    let i = c.loop-index.invariant in
    let k : ℕ = c.loop-index.index in
    let xs = c.loop-index.self-inside.list.items in
    let size = i.size in
    let whole_list = c.loop-index.self-inside.list.ok.0 in
    let inside : k < length xs = omega (arith, size, whole_list) in
    let x = c.index_mut.result.now in
    let p = c.in_ok-near.near in
    let r : AreParts c.args.before.now c.args.delta.now p.before p.gained p.lost p.after = subst (λ (v : Vertices). AreParts c.args.before.now v p.before p.gained p.lost p.after) c.rows.ensures c.in_ok-near.ensures in
    let reads : SeenReads c.args.name.now c.args.before.now (seen x) = c.requires.reads k (seen x) (not_reached seen (seen_prepared c.args.name.now c.args.after.now) k xs c.args.self.now x inside i.seen c.index_mut.ensures.value) in
    can_move c.args.name.now c.args.before.now c.args.delta.now c.args.after.now p.before p.gained p.lost p.after (seen x) c.requires.moved r reads

pub invariant_of-self-in_err-prepare : goal.invariant_of-self-in_err-prepare
invariant_of-self-in_err-prepare g c =
    All-set (IsKept g.M.Meter.reading g.M.Meter.pending) c.loop-index.self-inside.list.items c.loop-index.index c.prepare.new.self c.prepare.ensures.kept c.loop-index.invariant.kept

pub returns-in_err-prepare-clause-err : goal.returns-in_err-prepare-clause-err
returns-in_err-prepare-clause-err g c =
    let seen = seen_of g.M.Meter.kind g.M.Meter.reading g.M.Meter.pending in
    let i = c.loop-index.invariant in
    let k : ℕ = c.loop-index.index in
    let xs = c.loop-index.self-inside.list.items in
    let size = i.size in
    let whole_list = c.loop-index.self-inside.list.ok.0 in
    let inside : k < length xs = omega (arith, size, whole_list) in
    let x = c.index_mut.result.now in
    on_err c.from_residual-in_err-prepare.result
    (failed_at seen c.args.name.now c.args.after.now k xs c.args.self.now x c.prepare.new.self inside i.seen c.index_mut.ensures.value c.in_err-prepare.ensures.err)

pub loop-index-preserved : goal.loop-index-preserved
loop-index-preserved g c =
    let seen = seen_of g.M.Meter.kind g.M.Meter.reading g.M.Meter.pending in
    let i = c.loop-index.invariant in
    let k : ℕ = c.loop-index.index in
    let xs = c.loop-index.self-inside.list.items in
    let size = i.size in
    let whole_list = c.loop-index.self-inside.list.ok.0 in
    let inside : k < length xs = omega (arith, size, whole_list) in
    let x = c.index_mut.result.now in
    let p = c.in_ok-near.near in
    let r : AreParts c.args.before.now c.args.delta.now p.before p.gained p.lost p.after = subst (λ (v : Vertices). AreParts c.args.before.now v p.before p.gained p.lost p.after) c.rows.ensures c.in_ok-near.ensures in
    let reads : SeenReads c.args.name.now c.args.before.now (seen x) = c.requires.reads k (seen x) (not_reached seen (seen_prepared c.args.name.now c.args.after.now) k xs c.args.self.now x inside i.seen c.index_mut.ensures.value) in
    record {
      seen = done_more seen (seen_prepared c.args.name.now c.args.after.now) k xs c.args.self.now x c.prepare.new.self inside i.seen c.index_mut.ensures.value
          (c.in_ok-prepare.ensures.ok ∙ moves c.args.name.now c.args.before.now c.args.delta.now c.args.after.now p.before p.gained p.lost p.after (seen x) c.requires.moved r reads);
      kept = All-set (IsKept g.M.Meter.reading g.M.Meter.pending) xs k c.prepare.new.self c.prepare.ensures.kept i.kept;
      size = i.size;
    }

pub returns-clause-ok : goal.returns-clause-ok
returns-clause-ok g c =
    let seen = seen_of g.M.Meter.kind g.M.Meter.reading g.M.Meter.pending in
    let i = c.loop-index.invariant in
    let size = i.size in
    let whole_list = c.loop-index.self-inside.list.ok.0 in
    done_all seen (seen_prepared c.args.name.now c.args.after.now) c.loop-index.index c.loop-index.self-inside.list.items c.args.self.now (omega (arith, size, whole_list)) i.seen
