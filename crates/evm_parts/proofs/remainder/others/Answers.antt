use Rattle.std.proofs.Common.{ℕ, length, ◌%◌, ap, sym, ◌∙◌, subst}
use Rattle.evm_rows.specs.Rows.{AreRows, rows_of}
use Rattle.evm_parts.specs.Labels.{unlabelled}
use Rattle.evm_parts.proofs.OtherBoxes.{others_apart}
use Rattle.evm_parts.proofs.PartLists.{whole_rows, odd_union}
use Rattle.evm_parts.proofs.remainder.others.Goals as goal

pub reduced-requires-clause-whole : goal.reduced-requires-clause-whole
reduced-requires-clause-whole c =
    let n = c.args.boxes.now.dim in
    ap (λ (k : ℕ). length c.as_slice.result.now % k) c.dim-dim.ensures
    ∙ whole_rows n (unlabelled c.args.label c.args.labels.now c.args.boxes.now.boxes) c.as_slice.result.now (c.as_slice.ensures.value ∙ c.in_ok-rows.ensures)

pub from_rows-requires : goal.from_rows-requires
from_rows-requires c =
    let n = c.args.boxes.now.dim in
    let bs = unlabelled c.args.label c.args.labels.now c.args.boxes.now.boxes in
    let h = odd_union n c.dim-dim.result bs c.as_slice.result.now c.in_ok-odd.odd.items c.requires.low c.requires.high c.dim-dim.ensures
    (others_apart n c.args.label c.args.labels.now c.args.boxes.now.boxes c.requires.apart)
    (c.as_slice.ensures.value ∙ c.in_ok-rows.ensures) c.in_ok-odd.ensures.whole c.in_ok-odd.ensures.rows in
    subst (λ (k : ℕ). AreRows c.in_ok-odd.odd.items k 0) (sym c.dim-dim.ensures) h.are_rows

pub returns-clause-rows : goal.returns-clause-rows
returns-clause-rows c =
    let n = c.args.boxes.now.dim in
    let bs = unlabelled c.args.label c.args.labels.now c.args.boxes.now.boxes in
    let h = odd_union n c.dim-dim.result bs c.as_slice.result.now c.in_ok-odd.odd.items c.requires.low c.requires.high c.dim-dim.ensures
    (others_apart n c.args.label c.args.labels.now c.args.boxes.now.boxes c.requires.apart)
    (c.as_slice.ensures.value ∙ c.in_ok-rows.ensures) c.in_ok-odd.ensures.whole c.in_ok-odd.ensures.rows in
    c.from_rows.ensures.rows ∙ ap (λ (k : ℕ). rows_of c.in_ok-odd.odd.items k 0) c.dim-dim.ensures ∙ h.rows
