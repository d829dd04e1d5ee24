use Rattle.std.proofs.Common.{rules, ◌*◌, arith, sym}
use Rattle.std.proofs.lemmas.Bool.Decides.{nat_tests}
use Rattle.evm_formats.proofs.Lengths.{frames-take}
use Rattle.evm_voxels.specs.Streams.{stream_of, frame_of}
use Rattle.evm_voxels.proofs.Marking.{words_fit}
use Rattle.evm_voxels.proofs.Frames.{takes_of, whole_of, frames_refused, frames_marked_all}
use Rattle.evm_voxels.proofs.Walking.{marked_none, marked_next}
use Rattle.evm_voxels.proofs.y4m.mark_frames.Goals as goal

pub overflow_mul-depth : goal.overflow_mul-depth
overflow_mul-depth c = let h = words_fit c.args.depth (c.args.of.size.height * c.args.of.size.width) c.div_ceil.result c.requires.room c.div_ceil.ensures in search rules

pub loop-rest-init : goal.loop-rest-init
loop-rest-init c =
    record { marked = marked_none (takes_of c.args.dim (stream_of c.args.of)) c.args.of.rest.now (c.args.of.size.height * c.args.of.size.width) c.args.threshold _ c.in_ok-marks.ensures.items; few = omega arith }

pub returns-in_err-frame-clause-refused : goal.returns-in_err-frame-clause-refused
returns-in_err-frame-clause-refused c =
    let h = frames_refused c.args.dim (stream_of c.args.of) c.loop-rest.number c.loop-rest.rest.now c.in_err-frame.field-0.0 c.loop-rest.invariant.marked.passed (grind (arith, nat_tests)) (sym c.in_err-frame.ensures.exact) in
    search rules

pub loop-rest-preserved : goal.loop-rest-preserved
loop-rest-preserved c =
    let s = stream_of c.args.of in
    record {
      marked = marked_next (whole_of c.args.dim s) (takes_of c.args.dim s) (frames-take c.args.dim s.width s.height s.extra) c.loop-rest.number c.loop-rest.rest.now (frame_of c.in_ok-frame.frame) (s.height * s.width) c.args.threshold
          c.loop-rest.marks.items _ c.loop-rest.invariant.marked (grind (arith, nat_tests)) (sym c.in_ok-frame.ensures.exact) c.in_ok-mark_image.ensures;
      few = let h = c.in_ok-frame.ensures.number in omega arith;
    }

pub returns-clause-marked : goal.returns-clause-marked
returns-clause-marked c =
    frames_marked_all c.args.dim (stream_of c.args.of) c.loop-rest.number c.loop-rest.rest.now c.args.threshold c.loop-rest.marks.items c.loop-rest.invariant.marked (grind (arith, nat_tests))
