use Rattle.std.proofs.Common.{refl, arith, rules, ◌<◌}
use Rattle.evm_tool.proofs.Stands.{stands_start, stands_fault, stands_last, stands_over, stands_turn, stands_cut}
use Rattle.evm_tool.proofs.script.answer_script.Goals as goal

pub loop-taken-init : goal.loop-taken-init
loop-taken-init g c = record { stands = stands_start _ _; most = omega arith; room = omega arith; size = c.requires; reads = refl; sends = refl }

pub returns-in_default-clause-answered : goal.returns-in_default-clause-answered
returns-in_default-clause-answered g c = stands_fault _ _ _ _ _ _ _ _ c.loop-taken.invariant.stands c.in_default.ensures.bytes c.loop-taken.invariant.most

pub returns-then-count-eq0-clause-answered : goal.returns-then-count-eq0-clause-answered
returns-then-count-eq0-clause-answered g c =
    stands_last c.answer_last.result _ _ _ c.loop-taken.taken c.in-Ok.count c.loop-taken.kept c.min-want.result c.loop-taken.buffer c.read_behind.new.buffer c.loop-taken.refused _ _ _
    c.loop-taken.invariant.stands c.in-Ok.ensures.bytes c.if-count-eq0.true c.loop-taken.invariant.most c.answer_last.ensures.served

pub returns-in_default-answer_ended-clause-answered : goal.returns-in_default-answer_ended-clause-answered
returns-in_default-answer_ended-clause-answered g c =
    stands_cut _ _ _ c.loop-taken.taken c.in-Ok.count c.loop-taken.kept c.min-want.result c.loop-taken.buffer c.read_behind.new.buffer c.loop-taken.refused _ _ _
    c.loop-taken.invariant.stands c.in-Ok.ensures.bytes (omega (arith, c.min-want.ensures)) (omega (arith, c.min-want.ensures, c.loop-taken.invariant.most))
    c.in_default-answer_ended.ensures.answered

pub loop-taken-preserved : goal.loop-taken-preserved
loop-taken-preserved g c =
    let read = c.in-Ok.ensures.bytes in
    let want = c.min-want.ensures in
    let old = c.loop-taken.invariant in
    record {
      stands = stands_turn _ _ _ c.loop-taken.taken c.in-Ok.count c.loop-taken.kept c.min-want.result c.in-Ok-answer_ended.left c.keep-kept.result c.loop-taken.buffer c.read_behind.new.buffer
          c.keep-kept.new.buffer c.loop-taken.refused c.in-Ok-answer_ended.some _ _ _ _
          old.stands read (omega (arith, old.room, old.size, read.3, want, c.in-Ok.ensures.size)) c.in-Ok-answer_ended.ensures.answered c.keep-kept.ensures.count
          c.keep-kept.ensures.bytes refl;
      most = omega (arith, read.3, want, old.most);
      room = omega (arith, c.keep-kept.ensures.count);
      size = omega (arith, c.keep-kept.ensures.size, c.in-Ok.ensures.size, old.size);
      reads = omega (arith, c.in-Ok.ensures.cause.kept, old.reads);
      sends = omega (arith, c.in-Ok-answer_ended.ensures.cause.kept, old.sends);
    }

pub returns-in_default-read_behind-clause-answered : goal.returns-in_default-read_behind-clause-answered
returns-in_default-read_behind-clause-answered g c =
    stands_fault _ _ _ _ _ _ _ _ c.loop-taken.invariant.stands c.in_default-read_behind.ensures.bytes c.loop-taken.invariant.most

pub returns-then-count-eq0-2-clause-answered : goal.returns-then-count-eq0-2-clause-answered
returns-then-count-eq0-2-clause-answered g c =
    stands_last c.answer_last-then-count-eq0-2.result _ _ _ c.loop-taken.taken c.in-Ok-read_behind.count c.loop-taken.kept 1 c.loop-taken.buffer c.read_behind-2.new.buffer c.loop-taken.refused
    _ _ _ c.loop-taken.invariant.stands c.in-Ok-read_behind.ensures.bytes c.if-count-eq0-2.true c.loop-taken.invariant.most c.answer_last-then-count-eq0-2.ensures.served

pub returns-clause-answered : goal.returns-clause-answered
returns-clause-answered g c =
    let some : 0 < c.in-Ok-read_behind.count = let t = c.if-count-eq0-2.false in search rules in
    stands_over _ _ _ c.loop-taken.taken c.in-Ok-read_behind.count c.loop-taken.kept c.loop-taken.buffer c.read_behind-2.new.buffer c.loop-taken.refused _ _
    c.loop-taken.invariant.stands c.in-Ok-read_behind.ensures.bytes some (omega (arith, c.loop-taken-test.false, c.loop-taken.invariant.most))
