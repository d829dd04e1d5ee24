use Rattle.std.proofs.Common.{rules, ◌*◌, length, arith, zero-mul, sym, ◌∙◌}
use Rattle.std.proofs.lemmas.Bool.Decides.{nat_tests}
use Rattle.evm_formats.proofs.Lengths.{frame_takes, frames-take}
use Rattle.evm_voxels.specs.Streams.{stream_of, frame_of}
use Rattle.evm_voxels.proofs.Frames.{takes_of, whole_of, frames_refused, frames_missing, frames_all}
use Rattle.evm_voxels.proofs.Walking.{passed_none, passed_more, more_room}
use Rattle.evm_voxels.proofs.y4m.count_frames.Goals as goal

pub loop-rest-init : goal.loop-rest-init
loop-rest-init c = record { passed = passed_none (takes_of c.args.dim (stream_of c.args.of)) c.args.of.rest.now; room = omega (arith, zero-mul (c.args.of.size.height * c.args.of.size.width)); few = omega arith }

pub returns-in_err-frame-clause-refused : goal.returns-in_err-frame-clause-refused
returns-in_err-frame-clause-refused c =
    let h = frames_refused c.args.dim (stream_of c.args.of) c.loop-rest.number c.loop-rest.rest.now c.in_err-frame.field-0.0 c.loop-rest.invariant.passed (grind (arith, nat_tests)) (sym c.in_err-frame.ensures.exact) in
    search rules

pub loop-rest-preserved : goal.loop-rest-preserved
loop-rest-preserved c =
    let s = stream_of c.args.of in
    let t = frame_of c.in_ok-frame.frame in
    let there = sym c.in_ok-frame.ensures.exact in
    record {
      passed = passed_more (whole_of c.args.dim s) (takes_of c.args.dim s) (frames-take c.args.dim s.width s.height s.extra) c.loop-rest.number c.loop-rest.rest.now t c.loop-rest.invariant.passed (grind (arith, nat_tests)) there;
      room = more_room c.loop-rest.number (s.height * s.width) (length c.loop-rest.rest.now) _ _ c.loop-rest.invariant.room (omega (arith, frame_takes c.args.dim c.loop-rest.number s.width s.height s.extra c.loop-rest.rest.now t there));
      few = let h = c.in_ok-frame.ensures.number in omega arith;
    }

pub returns-then-is_missing-clause-refused : goal.returns-then-is_missing-clause-refused
returns-then-is_missing-clause-refused c =
    frames_missing c.args.dim (stream_of c.args.of) c.loop-rest.number c.loop-rest.rest.now c.loop-rest.invariant.passed (grind (arith, nat_tests)) (sym c.is_missing.ensures ∙ c.if-is_missing.true)

pub returns-clause-count : goal.returns-clause-count
returns-clause-count c =
    let i = c.loop-rest.invariant.passed in
    (i.images, frames_all c.args.dim (stream_of c.args.of) c.loop-rest.number c.loop-rest.rest.now i (grind (arith, nat_tests)) (sym c.is_missing.ensures ∙ c.if-is_missing.false), i.count)

pub returns-clause-room : goal.returns-clause-room
returns-clause-room c = omega (arith, c.loop-rest.invariant.room)
