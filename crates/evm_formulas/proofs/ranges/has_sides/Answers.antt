use Rattle.std.proofs.Common.{◌≡◌, ◌<◌, ◌+◌, false, ◌&&◌, drop, get_or, length, pos, sym, ap, ◌∙◌, arith, rules, w64}
use mir.Val.{SFits}
use Rattle.std.proofs.lemmas.Int.{ints}
use Rattle.evm_cells.specs.Limits.{limit}
use Rattle.evm_rows.proofs.BoxTests.{sides_pass, side_passes, sides_start, sides-drop, sides_end, side_good, side_low, side_high, side_none}
use Rattle.evm_formulas.proofs.ranges.has_sides.Goals as goal
use Rattle.evm_formulas.proofs.ranges.has_sides.Goals.{then-low-axis-via-then-low-axis, then-low-axis-via-else-low-axis+then-limit-high, then-low-axis-via-else-low-axis+else-limit-high+then-high-axis}

pub loop-axis-init : goal.loop-axis-init
loop-axis-init c = sides_start (length c.args.low.now) c.args.low.now c.args.high.now (omega arith) c.requires.same

pub returns-then-low-axis : goal.returns-then-low-axis
returns-then-low-axis c =
    let lo = c.args.low.now in
    let hi = c.args.high.now in
    let i = c.loop-axis.axis in
    let n = length lo in
    let f : SFits w64 (get_or lo i (pos 0)) = search rules in
    let here : i < length lo = omega arith in
    let inside : i < length hi = let e = c.requires.same in omega arith in
    let m : c.from-limit.result ≡ pos (limit n) = search rules in
    let h : SFits w64 c.from-limit.result = search rules in
    let bad : side_passes n (get_or lo i (pos 0)) (get_or hi i (pos 0)) ≡ false =
    elim c.then-low-axis.branch [
      | then-low-axis-via-then-low-axis w ↦ side_low n (get_or lo i (pos 0)) (get_or hi i (pos 0)) (omega (arith, ints))
      | then-low-axis-via-else-low-axis+then-limit-high w ↦ let g : SFits w64 (get_or hi i (pos 0)) = search rules in side_high n (get_or lo i (pos 0)) (get_or hi i (pos 0)) (omega (arith, ints))
      | then-low-axis-via-else-low-axis+else-limit-high+then-high-axis w ↦ let g : SFits w64 (get_or hi i (pos 0)) = search rules in side_none n (get_or lo i (pos 0)) (get_or hi i (pos 0)) (omega (arith, ints))
    ] in
    sym (c.loop-axis.invariant ∙ sides-drop n i lo hi (pos 0) (omega arith) (omega (arith, c.requires.same))
    ∙ ap (λ t. t && sides_pass n (drop (i + 1) lo) (drop (i + 1) hi)) bad)

pub loop-axis-preserved : goal.loop-axis-preserved
loop-axis-preserved c =
    let lo = c.args.low.now in
    let hi = c.args.high.now in
    let i = c.loop-axis.axis in
    let n = length lo in
    let f : SFits w64 (get_or lo i (pos 0)) = search rules in
    let here : i < length lo = omega arith in
    let inside : i < length hi = let e = c.requires.same in omega arith in
    let g : SFits w64 (get_or hi i (pos 0)) = search rules in
    let m : c.from-limit.result ≡ pos (limit n) = search rules in
    let h : SFits w64 c.from-limit.result = search rules in
    c.loop-axis.invariant ∙ sides-drop n i lo hi (pos 0) (omega arith) (omega (arith, c.requires.same))
    ∙ ap (λ t. t && sides_pass n (drop (i + 1) lo) (drop (i + 1) hi))
    (side_good n (get_or lo i (pos 0)) (get_or hi i (pos 0)) (omega (arith, ints)) (omega (arith, ints)) (omega (arith, ints)))

pub returns : goal.returns
returns c = sym (c.loop-axis.invariant ∙ sides_end (length c.args.low.now) c.loop-axis.axis c.args.low.now c.args.high.now (omega arith) (omega (arith, c.requires.same)))
