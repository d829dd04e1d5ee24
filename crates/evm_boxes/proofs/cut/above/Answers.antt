use Rattle.std.proofs.Common.{◌≡◌, pos, refl, ap, ap₂, ◌∙◌, arith, rules, get_or, set, w32, to_z, of_z}
use Rattle.std.specs.Int.{int_max}
use Rattle.std.proofs.lemmas.Int.{ints}
use Rattle.evm_boxes.proofs.Cuts.{above_kept, none_above}
use Rattle.evm_boxes.proofs.cut.above.Goals as goal

pub returns-then-start-row : goal.returns-then-start-row
returns-then-start-row c n l b =
    let i = c.args.plane.axis in
    let row = c.args.row.now in
    let low_is : to_z w32 (of_z w32 (get_or row.lo i (pos 0))) ≡ get_or row.lo i (pos 0) = search rules in
    let high_is : to_z w32 (of_z w32 (get_or row.hi i (pos 0))) ≡ get_or row.hi i (pos 0) = search rules in
    let at_is : to_z w32 (of_z w32 c.args.plane.at) ≡ c.args.plane.at = search rules in
    let start_is : to_z w32 (of_z w32 c.max-start.result) ≡ c.max-start.result = search rules in
    above_kept n i c.args.plane.at c.max-start.result row _ l b (c.max-start.ensures.value ∙ ap₂ int_max low_is at_is) (omega (arith, ints, c.if-start-row.true)) refl (ap (set row.lo i) start_is) refl

pub returns-else-start-row : goal.returns-else-start-row
returns-else-start-row c n l b =
    let i = c.args.plane.axis in
    let row = c.args.row.now in
    let low_is : to_z w32 (of_z w32 (get_or row.lo i (pos 0))) ≡ get_or row.lo i (pos 0) = search rules in
    let high_is : to_z w32 (of_z w32 (get_or row.hi i (pos 0))) ≡ get_or row.hi i (pos 0) = search rules in
    let at_is : to_z w32 (of_z w32 c.args.plane.at) ≡ c.args.plane.at = search rules in
    let start_is : to_z w32 (of_z w32 c.max-start.result) ≡ c.max-start.result = search rules in
    none_above n i c.args.plane.at c.max-start.result row l b (c.max-start.ensures.value ∙ ap₂ int_max low_is at_is) (omega (arith, ints, c.if-start-row.false))
