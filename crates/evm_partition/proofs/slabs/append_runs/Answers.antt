use Rattle.std.proofs.Common.{◌-◌, ◌++◌, [], ◌∷◌, ap, ◌∙◌, sym, rules, w32, subst}
use mir.Val.{SFits}
use Rattle.evm_rows.specs.Rows.{rows_of}
use Rattle.evm_sections.proofs.Bits.{same32}
use Rattle.evm_sections.specs.Couplets.{AreSingle, first_height, rest_of, slabs_left}
use Rattle.evm_partition.specs.BoxLists.{front_of, numbers_of, prefixed}
use Rattle.evm_partition.proofs.SlabBoxes.{slab_boxes, runs_start, runs_done, runs_cut, run_more, single_rest, all_done}
use Rattle.evm_partition.proofs.slabs.append_runs.Goals as goal

pub loop-low-init : goal.loop-low-init
loop-low-init c =
    let a = c.args.a in
    record {
      single = c.of-marks.ensures.single;
      so_far = ap (λ bs. c.args.out.now.items ++ numbers_of (prefixed (front_of c.args.front) bs)) (runs_start (a.width - a.skip) (rows_of a.flat.now a.width a.skip) c.of-marks.result c.requires.line a.vertices c.of-marks.ensures.left);
    }

pub loop-low-preserved : goal.loop-low-preserved
loop-low-preserved c =
    let i = c.loop-low.invariant in
    let f = front_of c.args.front in
    let low_fits : SFits w32 c.in-Some.low = search rules in
    let high_fits : SFits w32 c.in-Some-height.high = search rules in
    let low = c.then.ensures.lo ∙ ap (λ z. f.lo ++ z ∷ []) (same32 c.in-Some.low low_fits) in
    let high = c.then.ensures.hi ∙ ap (λ z. f.hi ++ z ∷ []) (same32 c.in-Some-height.high high_fits) in
    let later = c.step-in-Some.ensures ∙ ap rest_of c.step.ensures in
    record {
      single = subst AreSingle (sym later) (single_rest (rest_of c.loop-low.marks) (single_rest c.loop-low.marks i.single));
      so_far = ap (λ m. c.append_to.new.out.items ++ numbers_of (prefixed f (slab_boxes 0 (slabs_left 0 [] m)))) later
          ∙ run_more f (front_of c.then.result) c.in-Some.low c.in-Some-height.high c.loop-low.marks c.loop-low.out.items c.append_to.new.out.items _
          i.single c.in-Some.ensures (c.in-Some-height.ensures ∙ ap first_height c.step.ensures) low high c.in_ok-append_to.ensures i.so_far;
    }

pub returns-in_default-height : goal.returns-in_default-height
returns-in_default-height c =
    let i = c.loop-low.invariant in
    all_done (front_of c.args.front) _ c.loop-low.out.items _ (runs_cut c.loop-low.marks (c.in_default-height.ensures ∙ ap first_height c.step.ensures)) i.so_far

pub returns-in_default : goal.returns-in_default
returns-in_default c =
    let i = c.loop-low.invariant in
    all_done (front_of c.args.front) _ c.loop-low.out.items _ (runs_done c.loop-low.marks c.in_default.ensures) i.so_far
