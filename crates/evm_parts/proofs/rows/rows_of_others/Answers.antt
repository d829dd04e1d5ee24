use Rattle.std.proofs.Common.{◌++◌, ap, sym, ◌∙◌}
use Rattle.evm_cells.specs.Vertices.{evm}
use Rattle.evm_rows.specs.Rows.{flat_of}
use Rattle.evm_parts.specs.Labels.{box_at}
use Rattle.evm_parts.specs.PartRows.{cells_in}
use Rattle.evm_parts.proofs.OtherBoxes.{others_start, others_next, others_same}
use Rattle.evm_parts.proofs.rows.rows_of_others.Goals as goal
use Rattle.evm_parts.proofs.rows.rows_of_others.Goals.{then-other-label+in_ok-append_box, else-other-label}

pub loop-index-init : goal.loop-index-init
loop-index-init c = c.new-rows.ensures.items ∙ sym (others_start c.args.boxes.now.dim c.args.label c.args.labels.now c.args.boxes.now.boxes)

pub loop-index-preserved : goal.loop-index-preserved
loop-index-preserved c =
    let n = c.args.boxes.now.dim in
    let boxes = c.args.boxes.now.boxes in
    let labels = c.args.labels.now in
    let i = c.loop-index.index in
    elim c.if-other-label.branch [
      | then-other-label+in_ok-append_box w ↦
          ap (λ v. v.items) w.rows-is ∙ w.in_ok-append_box.ensures
          ∙ ap (λ xs. xs ++ flat_of (evm n (cells_in n (box_at boxes i)))) c.loop-index.invariant
          ∙ sym (others_next n c.args.label labels boxes i c.loop-index-test.true c.requires.many w.if-other-label.true)
      | else-other-label w ↦
          ap (λ v. v.items) w.rows-is ∙ c.loop-index.invariant
          ∙ sym (others_same n c.args.label labels boxes i c.loop-index-test.true c.requires.many w.if-other-label.false)
    ]
