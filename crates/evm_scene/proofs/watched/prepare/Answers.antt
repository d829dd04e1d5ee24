use Rattle.std.proofs.Common.{take, sym, arith}
use Rattle.evm_scene.proofs.Prepared.{none_yet, prepared_next, prepared_whole, each_reads, watched_stands, change_noted, all_abandoned}
use Rattle.evm_scene.proofs.watched.prepare.Goals as goal

pub loop-at-init : goal.loop-at-init
loop-at-init g c = none_yet c.args.slots.now

pub prepare_name-requires-clause-change : goal.prepare_name-requires-clause-change
prepare_name-requires-clause-change g c =
    change_noted c.args.table.now.entries c.args.pending.now.entries c.loop-at.at (c.in-Some.name.now, c.in-Some.change.now) c.requires.changes c.len-at-end.ensures.unique (sym c.in-Some.ensures.entry)

pub prepare_name-requires-clause-stands : goal.prepare_name-requires-clause-stands
prepare_name-requires-clause-stands g c =
    watched_stands c.args.table.now.entries (take c.loop-at.at c.args.pending.now.entries) c.args.slots.now c.loop-at.slots c.in-Some.name.now c.requires.watched c.loop-at.invariant

pub prepare_name-requires-clause-reads : goal.prepare_name-requires-clause-reads
prepare_name-requires-clause-reads g c =
    each_reads c.args.table.now.entries c.args.pending.now.entries c.loop-at.at (c.in-Some.name.now, c.in-Some.change.now) c.args.slots.now c.loop-at.slots c.requires.watched
    c.len-at-end.ensures.unique (sym c.in-Some.ensures.entry) c.loop-at.invariant

pub returns-in-Err-clause-err : goal.returns-in-Err-clause-err
returns-in-Err-clause-err g c =
    all_abandoned c.args.table.now.entries (take c.loop-at.at c.args.pending.now.entries) c.args.slots.now c.loop-at.slots c.prepare_name.new.slots c.abandon.new.self
    c.requires.watched c.loop-at.invariant c.in-Err.ensures.err c.abandon.ensures

pub loop-at-preserved : goal.loop-at-preserved
loop-at-preserved g c =
    prepared_next c.args.pending.now.entries c.loop-at.at (c.in-Some.name.now, c.in-Some.change.now) c.args.slots.now c.loop-at.slots c.prepare_name.new.slots c.len-at-end.ensures.unique
    (sym c.in-Some.ensures.entry) c.loop-at.invariant c.in-Ok.ensures.ok

pub returns-clause-ok : goal.returns-clause-ok
returns-clause-ok g c =
    prepared_whole c.args.pending.now.entries c.loop-at.at c.args.slots.now c.loop-at.slots (omega (arith, c.len-at-end.ensures.len, c.loop-at-test.false)) c.loop-at.invariant
