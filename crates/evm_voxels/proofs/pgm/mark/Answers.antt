use Rattle.std.proofs.Common.{rules, ◌≡◌, ℕ, ◌+◌, ◌*◌, ◌<◌, length, Some, Ok, Err, arith, sym, ap, subst, ◌∙◌}
use Rattle.std.specs.Prelude.{Result}
use Rattle.std.proofs.lemmas.Bool.Decides.{nat_tests}
use Rattle.evm_formats.specs.declared.voxels.VoxelError.{VoxelError}
use Rattle.evm_formats.specs.Pgm.{Shot, images_from, later_image, taken, pgm_cells}
use Rattle.evm_formats.proofs.Lengths.{image_takes, later-takes, length-white}
use Rattle.evm_voxels.specs.Shots.{AreMarked, pair_of, shot_of}
use Rattle.evm_formats.proofs.Limits.{limit_small}
use Rattle.evm_voxels.proofs.Marking.{words_fit}
use Rattle.evm_voxels.proofs.Outcome.{first_refused, later_refused}
use Rattle.evm_voxels.proofs.Walking.{marked_at, stack_marked, marked_next, marked_all, passed_refused, later_is, later_refused as not_taken}
use Rattle.evm_voxels.proofs.pgm.mark.Goals as goal

pub returns-in_err-first-clause-refused : goal.returns-in_err-first-clause-refused
returns-in_err-first-clause-refused c =
    let h : (level : ℕ) → pgm_cells c.args.dim level c.args.bytes.now ≡ Err c.in_err-first.field-0.0 = λ t. first_refused c.args.dim t c.args.bytes.now c.in_err-first.field-0.0 (sym c.in_err-first.ensures.exact) in
    search rules

pub overflow_mul-depth : goal.overflow_mul-depth
overflow_mul-depth c =
    let s = c.in_ok-first.first.size in
    let h = words_fit c.args.depth (s.height * s.width) c.div_ceil.result (c.requires.room (shot_of c.in_ok-first.first) (sym c.in_ok-first.ensures.exact)) c.div_ceil.ensures in
    search rules

pub loop-first-init : goal.loop-first-init
loop-first-init c = record {
  marked = stack_marked c.args.dim (shot_of c.in_ok-first.first) c.skip_white-rest.result.now c.args.threshold _ _ c.skip_white-rest.ensures c.in_ok-marks.ensures.items c.in_ok-mark_image.ensures;
  few = let h = c.in_ok-first.ensures.number in omega arith;
}

pub returns-in_err-shot-clause-refused : goal.returns-in_err-shot-clause-refused
returns-in_err-shot-clause-refused c =
    let some : 0 < length c.loop-first.rest.now = grind (arith, nat_tests) in
    let s = shot_of c.in_ok-first.first in
    let size = pair_of c.in_ok-first.first.size in
    let whole : images_from c.args.dim s ≡ Err c.in_err-shot.field-0.0 =
    passed_refused (images_from c.args.dim s) (later_image c.args.dim size) c.loop-first.number c.loop-first.rest.now c.in_err-shot.field-0.0 c.loop-first.invariant.marked.passed some
    (not_taken c.args.dim c.loop-first.number size c.loop-first.rest.now c.in_err-shot.field-0.0 (sym c.in_err-shot.ensures.exact)) in
    let h : (level : ℕ) → pgm_cells c.args.dim level c.args.bytes.now ≡ Err c.in_err-shot.field-0.0 =
    λ t. later_refused c.args.dim t c.args.bytes.now s c.in_err-shot.field-0.0 (sym c.in_ok-first.ensures.exact) whole in
    search rules

pub overflow_add-number : goal.overflow_add-number
overflow_add-number c = let h = c.in_ok-shot.ensures.number in omega (arith, limit_small c.args.dim)

pub loop-first-smaller : goal.loop-first-smaller
loop-first-smaller c =
    let s = shot_of c.in_ok-shot.shot in
    omega (arith, image_takes c.args.dim c.loop-first.number (Some (pair_of c.in_ok-first.first.size)) c.loop-first.rest.now s (sym c.in_ok-shot.ensures.exact), length-white s.rest, ap length c.skip_white-rest-in-loop-first.ensures)

pub loop-first-preserved : goal.loop-first-preserved
loop-first-preserved c =
    let first = shot_of c.in_ok-first.first in
    let size = pair_of c.in_ok-first.first.size in
    let s = shot_of c.in_ok-shot.shot in
    let more = marked_next (images_from c.args.dim first) (later_image c.args.dim size) (later-takes c.args.dim size) c.loop-first.number c.loop-first.rest.now (taken s) (first.height * first.width) c.args.threshold c.loop-first.marks.items _
    c.loop-first.invariant.marked (grind (arith, nat_tests)) (later_is c.args.dim c.loop-first.number size c.loop-first.rest.now s (sym c.in_ok-shot.ensures.exact)) c.in_ok-mark_image-2.ensures in
    record {
      marked = marked_at (images_from c.args.dim first) (later_image c.args.dim size) (c.loop-first.number + 1) _ _ (first.height * first.width) c.args.threshold _ c.skip_white-rest-in-loop-first.ensures more;
      few = let h = c.in_ok-shot.ensures.number in omega arith;
    }

pub returns-clause-marked : goal.returns-clause-marked
returns-clause-marked c s ps e h =
    let first = shot_of c.in_ok-first.first in
    let size = pair_of c.in_ok-first.first.size in
    let same : first ≡ s = ok_same first s _ c.in_ok-first.ensures.exact e in
    subst (λ (t : Shot). AreMarked c.loop-first.marks.items (t.height * t.width) (length ps) c.args.threshold ps) same
    (marked_all (images_from c.args.dim first) (later_image c.args.dim size) c.loop-first.number c.loop-first.rest.now (first.height * first.width) c.args.threshold c.loop-first.marks.items c.loop-first.invariant.marked (grind (arith, nat_tests)) ps
    (ap (images_from c.args.dim) same ∙ h))
  where
    ok_same : (a b : Shot) (r : Result Shot VoxelError) → Ok a ≡ r → r ≡ Ok b → a ≡ b
    ok_same a b r p q = cc (p, q)
