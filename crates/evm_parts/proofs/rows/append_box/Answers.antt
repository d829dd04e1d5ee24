use Rattle.std.proofs.Common.{◌≡◌, ◌++◌, ℕ, length, true, Err, sym, ap, ◌∙◌, subst, arith}
use Rattle.std.proofs.lemmas.Bool.{true≢false}
use Rattle.evm_cells.specs.Boxes.{is_box, box_cells}
use Rattle.evm_cells.specs.Vertices.{evm}
use Rattle.evm_cells.proofs.Universe.{point_parts}
use Rattle.evm_cells.proofs.Boxes.{box_test}
use Rattle.evm_rows.specs.Rows.{flat_of}
use Rattle.evm_parts.specs.Labels.{no_box}
use Rattle.evm_parts.specs.PartRows.{cells_in}
use Rattle.evm_parts.proofs.rows.append_box.Goals as goal

pub of_box-requires-clause-same : goal.of_box-requires-clause-same
of_box-requires-clause-same c =
    let n = c.args.boxes.now.dim in
    let b = c.ends.ensures.is_box in
    (point_parts n c.ends.result.1.now b.high).0 ∙ sym (point_parts n c.ends.result.0.now b.low).0

pub of_box-requires-clause-high : goal.of_box-requires-clause-high
of_box-requires-clause-high c =
    let e = (point_parts c.args.boxes.now.dim c.ends.result.0.now c.ends.ensures.is_box.low).0 in
    omega (arith, e, c.requires.high)

pub unreachable-requires : goal.unreachable-requires
unreachable-requires c =
    let n = c.args.boxes.now.dim in
    let lo = c.ends.result.0.now in
    let hi = c.ends.result.1.now in
    let e = (point_parts n lo c.ends.ensures.is_box.low).0 in
    let passes : is_box (length lo) lo hi ≡ true = subst (λ (m : ℕ). is_box m lo hi ≡ true) (sym e) ((box_test n lo hi).1 c.ends.ensures.is_box) in
    true≢false (sym passes ∙ c.in-Err-Range.ensures.range.0 (ap Err c.in-Err-Range.field-0-is))

pub returns-in_ok-extend_from_slice-in-Ok : goal.returns-in_ok-extend_from_slice-in-Ok
returns-in_ok-extend_from_slice-in-Ok c =
    let n = c.args.boxes.now.dim in
    let lo = c.ends.result.0.now in
    let hi = c.ends.result.1.now in
    let e = (point_parts n lo c.ends.ensures.is_box.low).0 in
    let rows = c.in-Ok.ensures.rows in
    c.in_ok-extend_from_slice-in-Ok.ensures.items
    ∙ ap (λ xs. c.args.out.now.items ++ xs)
    (c.flat.ensures ∙ ap flat_of (rows ∙ ap (λ (m : ℕ). evm m (box_cells m lo hi)) e)
    ∙ ap (λ b. flat_of (evm n (cells_in n b))) (sym (c.ends.ensures.ends no_box)))
