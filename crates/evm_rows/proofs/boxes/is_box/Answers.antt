use Rattle.std.proofs.Common.{◌≡◌, ◌<◌, ◌+◌, false, ◌&&◌, drop, get_or, length, pos, sym, ap, ◌∙◌, arith, rules, w32}
use mir.Val.{SFits}
use Rattle.std.proofs.lemmas.Int.{ints}
use Rattle.evm_cells.specs.Limits.{limit}
use Rattle.evm_rows.proofs.BoxTests.{sides_pass, side_passes, sides_start, sides-drop, sides_end, side_good, side_low, side_high, side_none}
use Rattle.evm_rows.proofs.boxes.is_box.Goals as goal
use Rattle.evm_rows.proofs.boxes.is_box.Goals.{then-lo-axis-via-then-lo-axis, then-lo-axis-via-else-lo-axis+then-limit-hi, then-lo-axis-via-else-lo-axis+else-limit-hi+then-hi-axis}

pub loop-axis-init : goal.loop-axis-init
loop-axis-init c = sides_start (length c.args.lo.now) c.args.lo.now c.args.hi.now (omega arith) c.requires.same

pub returns-then-lo-axis : goal.returns-then-lo-axis
returns-then-lo-axis c =
    let lo = c.args.lo.now in
    let hi = c.args.hi.now in
    let i = c.loop-axis.axis in
    let n = length lo in
    let f : SFits w32 (get_or lo i (pos 0)) = search rules in
    let here : i < length lo = omega arith in
    let inside : i < length hi = let e = c.requires.same in omega arith in
    let m : c.limit-limit.result ≡ pos (limit n) = c.limit-limit.ensures in
    let h : SFits w32 c.limit-limit.result = search rules in
    let bad : side_passes n (get_or lo i (pos 0)) (get_or hi i (pos 0)) ≡ false =
    elim c.then-lo-axis.branch [
      | then-lo-axis-via-then-lo-axis w ↦ side_low n (get_or lo i (pos 0)) (get_or hi i (pos 0)) (omega (arith, ints))
      | then-lo-axis-via-else-lo-axis+then-limit-hi w ↦ let g : SFits w32 (get_or hi i (pos 0)) = search rules in side_high n (get_or lo i (pos 0)) (get_or hi i (pos 0)) (omega (arith, ints))
      | then-lo-axis-via-else-lo-axis+else-limit-hi+then-hi-axis w ↦ let g : SFits w32 (get_or hi i (pos 0)) = search rules in side_none n (get_or lo i (pos 0)) (get_or hi i (pos 0)) (omega (arith, ints))
    ] in
    sym (c.loop-axis.invariant ∙ sides-drop n i lo hi (pos 0) (omega arith) (omega (arith, c.requires.same))
    ∙ ap (λ t. t && sides_pass n (drop (i + 1) lo) (drop (i + 1) hi)) bad)

pub loop-axis-preserved : goal.loop-axis-preserved
loop-axis-preserved c =
    let lo = c.args.lo.now in
    let hi = c.args.hi.now in
    let i = c.loop-axis.axis in
    let n = length lo in
    let f : SFits w32 (get_or lo i (pos 0)) = search rules in
    let here : i < length lo = omega arith in
    let inside : i < length hi = let e = c.requires.same in omega arith in
    let g : SFits w32 (get_or hi i (pos 0)) = search rules in
    let m : c.limit-limit.result ≡ pos (limit n) = c.limit-limit.ensures in
    let h : SFits w32 c.limit-limit.result = search rules in
    c.loop-axis.invariant ∙ sides-drop n i lo hi (pos 0) (omega arith) (omega (arith, c.requires.same))
    ∙ ap (λ t. t && sides_pass n (drop (i + 1) lo) (drop (i + 1) hi))
    (side_good n (get_or lo i (pos 0)) (get_or hi i (pos 0)) (omega (arith, ints)) (omega (arith, ints)) (omega (arith, ints)))

pub returns : goal.returns
returns c = sym (c.loop-axis.invariant ∙ sides_end (length c.args.lo.now) c.loop-axis.axis c.args.lo.now c.args.hi.now (omega arith) (omega (arith, c.requires.same)))
