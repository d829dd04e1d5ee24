use Rattle.std.proofs.Common.{rules, ◌≡◌, ℕ, ◌+◌, ◌*◌, ◌<◌, length, None, Some, Err, arith, sym, refl, ap}
use Rattle.std.proofs.lemmas.Bool.Decides.{nat_tests}
use Rattle.evm_formats.specs.Pgm.{images_from, later_image, taken, pgm_cells}
use Rattle.evm_formats.proofs.Lengths.{image_takes, later-takes, length-white}
use Rattle.evm_voxels.specs.Shots.{pair_of, shot_of}
use Rattle.evm_formats.proofs.Limits.{limit_small}
use Rattle.evm_voxels.proofs.Outcome.{first_refused, later_refused}
use Rattle.evm_voxels.proofs.Walking.{passed_at, stack_first, passed_more, passed_all, passed_refused, more_room, later_is, later_refused as not_taken}
use Rattle.evm_voxels.proofs.pgm.measure.Goals as goal

pub returns-in_err-first-clause-refused : goal.returns-in_err-first-clause-refused
returns-in_err-first-clause-refused c =
    let h : (threshold : ℕ) → pgm_cells c.args.dim threshold c.args.bytes.now ≡ Err c.in_err-first.field-0.0 = λ t. first_refused c.args.dim t c.args.bytes.now c.in_err-first.field-0.0 (sym c.in_err-first.ensures.exact) in
    search rules

pub loop-rest-init : goal.loop-rest-init
loop-rest-init c =
    let s = shot_of c.in_ok-first.first in
    record {
      passed = stack_first c.args.dim s c.skip_white-rest.result.now c.skip_white-rest.ensures;
      room = omega (arith, image_takes c.args.dim 0 None c.args.bytes.now s (sym c.in_ok-first.ensures.exact), length-white s.rest, ap length c.skip_white-rest.ensures);
      few = let h = c.in_ok-first.ensures.number in omega arith;
    }

pub returns-in_err-shot-clause-refused : goal.returns-in_err-shot-clause-refused
returns-in_err-shot-clause-refused c =
    let some : 0 < length c.loop-rest.rest.now = grind (arith, nat_tests) in
    let s = shot_of c.in_ok-first.first in
    let size = pair_of c.in_ok-first.first.size in
    let whole : images_from c.args.dim s ≡ Err c.in_err-shot.field-0.0 =
    passed_refused (images_from c.args.dim s) (later_image c.args.dim size) c.loop-rest.depth c.loop-rest.rest.now c.in_err-shot.field-0.0 c.loop-rest.invariant.passed some
    (not_taken c.args.dim c.loop-rest.depth size c.loop-rest.rest.now c.in_err-shot.field-0.0 (sym c.in_err-shot.ensures.exact)) in
    let h : (threshold : ℕ) → pgm_cells c.args.dim threshold c.args.bytes.now ≡ Err c.in_err-shot.field-0.0 =
    λ t. later_refused c.args.dim t c.args.bytes.now s c.in_err-shot.field-0.0 (sym c.in_ok-first.ensures.exact) whole in
    search rules

pub overflow_add-depth : goal.overflow_add-depth
overflow_add-depth c = let h = c.in_ok-shot.ensures.number in omega (arith, limit_small c.args.dim)

pub loop-rest-smaller : goal.loop-rest-smaller
loop-rest-smaller c =
    let s = shot_of c.in_ok-shot.shot in
    omega (arith, image_takes c.args.dim c.loop-rest.depth (Some (pair_of c.in_ok-first.first.size)) c.loop-rest.rest.now s (sym c.in_ok-shot.ensures.exact), length-white s.rest, ap length c.skip_white-rest-in-loop-rest.ensures)

pub loop-rest-preserved : goal.loop-rest-preserved
loop-rest-preserved c =
    let first = shot_of c.in_ok-first.first in
    let size = pair_of c.in_ok-first.first.size in
    let s = shot_of c.in_ok-shot.shot in
    let there = sym c.in_ok-shot.ensures.exact in
    let more = passed_more (images_from c.args.dim first) (later_image c.args.dim size) (later-takes c.args.dim size) c.loop-rest.depth c.loop-rest.rest.now (taken s) c.loop-rest.invariant.passed (grind (arith, nat_tests))
    (later_is c.args.dim c.loop-rest.depth size c.loop-rest.rest.now s there) in
    let same : s.height * s.width ≡ first.height * first.width = ap (λ (p : ℕ × ℕ). p.1 * p.0) (sym c.in_ok-shot.ensures.same) in
    record {
      passed = passed_at (images_from c.args.dim first) (later_image c.args.dim size) (c.loop-rest.depth + 1) _ _ c.skip_white-rest-in-loop-rest.ensures more;
      room = more_room c.loop-rest.depth (first.height * first.width) (length c.loop-rest.rest.now) _ _ c.loop-rest.invariant.room
          (omega (arith, same, image_takes c.args.dim c.loop-rest.depth (Some size) c.loop-rest.rest.now s there, length-white s.rest, ap length c.skip_white-rest-in-loop-rest.ensures));
      few = let h = c.in_ok-shot.ensures.number in omega arith;
    }

pub returns-clause-stack : goal.returns-clause-stack
returns-clause-stack c =
    let h = c.loop-rest.invariant.passed in
    record {
      first = shot_of c.in_ok-first.first;
      images = h.images;
      begins = sym c.in_ok-first.ensures.exact;
      goes_on = passed_all (images_from c.args.dim (shot_of c.in_ok-first.first)) (later_image c.args.dim (pair_of c.in_ok-first.first.size)) c.loop-rest.depth c.loop-rest.rest.now h (grind (arith, nat_tests));
      count = h.count;
      width = refl;
      height = refl;
    }

pub returns-clause-room : goal.returns-clause-room
returns-clause-room c = omega (arith, c.loop-rest.invariant.room)
