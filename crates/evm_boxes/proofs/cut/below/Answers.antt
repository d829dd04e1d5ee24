use Rattle.std.proofs.Common.{◌≡◌, pos, refl, ap, ap₂, ◌∙◌, arith, rules, get_or, set, w32, to_z, of_z}
use Rattle.std.specs.Int.{int_min}
use Rattle.std.proofs.lemmas.Int.{ints}
use Rattle.evm_boxes.proofs.Cuts.{below_kept, none_below}
use Rattle.evm_boxes.proofs.cut.below.Goals as goal

pub returns-then-row-plane : goal.returns-then-row-plane
returns-then-row-plane c n l b =
    let i = c.args.plane.axis in
    let row = c.args.row.now in
    let low_is : to_z w32 (of_z w32 (get_or row.lo i (pos 0))) ≡ get_or row.lo i (pos 0) = search rules in
    let high_is : to_z w32 (of_z w32 (get_or row.hi i (pos 0))) ≡ get_or row.hi i (pos 0) = search rules in
    let at_is : to_z w32 (of_z w32 c.args.plane.at) ≡ c.args.plane.at = search rules in
    let end_is : to_z w32 (of_z w32 c.min-end.result) ≡ c.min-end.result = search rules in
    below_kept n i c.args.plane.at c.min-end.result row _ l b (c.min-end.ensures.value ∙ ap₂ int_min high_is at_is) (omega (arith, ints, c.if-row-plane.true)) refl refl (ap (set row.hi i) end_is)

pub returns-else-row-plane : goal.returns-else-row-plane
returns-else-row-plane c n l b =
    let i = c.args.plane.axis in
    let row = c.args.row.now in
    let low_is : to_z w32 (of_z w32 (get_or row.lo i (pos 0))) ≡ get_or row.lo i (pos 0) = search rules in
    let high_is : to_z w32 (of_z w32 (get_or row.hi i (pos 0))) ≡ get_or row.hi i (pos 0) = search rules in
    let at_is : to_z w32 (of_z w32 c.args.plane.at) ≡ c.args.plane.at = search rules in
    let end_is : to_z w32 (of_z w32 c.min-end.result) ≡ c.min-end.result = search rules in
    none_below n i c.args.plane.at c.min-end.result row l b (c.min-end.ensures.value ∙ ap₂ int_min high_is at_is) (omega (arith, ints, c.if-row-plane.false))
