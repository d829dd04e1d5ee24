use Rattle.std.proofs.Common.{◌≡◌, ◌<◌, ◌≤ℤ◌, ◌<ℤ◌, pos, get_or, ap₂, refl, ◌∙◌, ap, set, arith, rules, w32, to_z, of_z}
use Rattle.std.specs.Int.{int_min, int_max}
use mir.Val.{SFits}
use Rattle.std.proofs.lemmas.Int.{ints}
use Rattle.evm_boxes.specs.Fills.{low_of, high_of}
use Rattle.evm_boxes.proofs.Meets.{meeting_none, meeting_more, meeting_all}
use Rattle.evm_boxes.proofs.events.meet.Goals as goal

pub returns-then-high-low : goal.returns-then-high-low
returns-then-high-low c =
    let i = c.loop-axis.axis in
    let p = c.loop-axis.part in
    let r = c.args.right.now in
    let a : to_z w32 (of_z w32 (low_of i p)) ≡ low_of i p = search rules in
    let b : to_z w32 (of_z w32 (low_of i r)) ≡ low_of i r = search rules in
    let d : to_z w32 (of_z w32 (high_of i p)) ≡ high_of i p = search rules in
    let e : to_z w32 (of_z w32 (high_of i r)) ≡ high_of i r = search rules in
    let x : to_z w32 (of_z w32 c.max-low.result) ≡ c.max-low.result = search rules in
    let y : to_z w32 (of_z w32 c.min-high.result) ≡ c.min-high.result = search rules in
    meeting_none c.args.dim i c.args.left.now r p c.max-low.result c.min-high.result (omega arith) c.requires.right c.loop-axis.invariant
    (c.max-low.ensures.value ∙ ap₂ int_max a b) (c.min-high.ensures.value ∙ ap₂ int_min d e) (omega (arith, ints))

pub loop-axis-preserved : goal.loop-axis-preserved
loop-axis-preserved c =
    let i = c.loop-axis.axis in
    let p = c.loop-axis.part in
    let r = c.args.right.now in
    let a : to_z w32 (of_z w32 (low_of i p)) ≡ low_of i p = search rules in
    let b : to_z w32 (of_z w32 (low_of i r)) ≡ low_of i r = search rules in
    let d : to_z w32 (of_z w32 (high_of i p)) ≡ high_of i p = search rules in
    let e : to_z w32 (of_z w32 (high_of i r)) ≡ high_of i r = search rules in
    let x : to_z w32 (of_z w32 c.max-low.result) ≡ c.max-low.result = search rules in
    let y : to_z w32 (of_z w32 c.min-high.result) ≡ c.min-high.result = search rules in
    meeting_more c.args.dim i c.args.left.now r p _ (to_z w32 (of_z w32 c.max-low.result)) (to_z w32 (of_z w32 c.min-high.result)) (omega arith) c.requires.high c.requires.right c.loop-axis.invariant
    (x ∙ c.max-low.ensures.value ∙ ap₂ int_max a b) (y ∙ c.min-high.ensures.value ∙ ap₂ int_min d e) (omega (arith, ints)) refl refl refl

pub returns : goal.returns
returns c = meeting_all c.args.dim c.loop-axis.axis c.args.left.now c.args.right.now c.loop-axis.part (omega arith) c.requires.right c.loop-axis.invariant
