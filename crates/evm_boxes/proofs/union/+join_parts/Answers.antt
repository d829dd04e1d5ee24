use Rattle.std.proofs.Common.{ap₂, ◌∙◌}
use Rattle.evm_rows.specs.Rows.{Vertices, xor_rows}
use Rattle.evm_boxes.specs.Cuts.{AreSides}
use Rattle.evm_boxes.proofs.Cuts.{sides_joined}
use Rattle.evm_boxes.proofs.union.+join_parts.Goals as goal

pub returns-in_ok-both-in-Some-clause-rows : goal.returns-in_ok-both-in-Some-clause-rows
returns-in_ok-both-in-Some-clause-rows t c =
    let found = rw c.in-Some.is at c.in_ok-divide.ensures in
    let sides : AreSides c.args.dim c.args.rows.items c.in-Some.field-0.low.items c.in-Some.field-0.high.items = rw (← c.as_slice.ensures.value) found in
    sides_joined c.args.dim c.in_ok-below-in-Some.below c.in_ok-above-in-Some.above c.in_ok-both-in-Some.both c.args.rows.items
    c.in-Some.field-0.low.items c.in-Some.field-0.high.items c.in_ok-below-in-Some.ensures.dim sides c.in_ok-below-in-Some.ensures.rows c.in_ok-above-in-Some.ensures.rows
    (c.in_ok-both-in-Some.ensures.rows ∙ ap₂ (λ (a b : Vertices). xor_rows a.dim a.rows b.rows) c.rows.ensures c.rows-in-Some.ensures)
