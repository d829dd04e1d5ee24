use Rattle.std.proofs.Common.{◌+◌, ◌<◌, ◌++◌, length, ap, sym, ◌∙◌, subst, arith, refl}
use Rattle.std.proofs.lemmas.Bool.{true≢false}
use Rattle.evm_cells.specs.Vertices.{evm}
use Rattle.evm_rows.specs.Rows.{flat_of}
use Rattle.evm_parts.specs.Labels.{box_at, label_at}
use Rattle.evm_parts.specs.PartRows.{cells_in}
use Rattle.evm_parts.proofs.Gathered.{IsGatheredTo, gathered_start, gathered_more, gathered_same, gathered_all, numbers_in-read}
use Rattle.evm_parts.proofs.rows.rows_by_label.Goals as goal
use Rattle.evm_parts.proofs.rows.rows_by_label.Goals.{then-not-is_main+in_ok-append_box, else-not-is_main}

pub loop-index-init : goal.loop-index-init
loop-index-init c =
    gathered_start c.args.boxes.now.dim c.args.boxes.now.boxes c.args.labels.now c.args.main c.in_ok-lists.lists.items c.in_ok-lists.ensures.many c.in_ok-lists.ensures.empty

pub loop-index-preserved : goal.loop-index-preserved
loop-index-preserved c =
    let n = c.args.boxes.now.dim in
    let boxes = c.args.boxes.now.boxes in
    let labels = c.args.labels.now in
    let main = c.args.main in
    let lists = c.loop-index.lists.items in
    let i = c.loop-index.index in
    let label = label_at labels i in
    let low : label < length labels = c.requires.within i 0 c.loop-index-test.true in
    let many = c.loop-index.invariant.many in
    elim c.if-not-is_main.branch [
      | then-not-is_main+in_ok-append_box w ↦
          subst (λ v. IsGatheredTo n boxes labels main v.items (i + 1)) (sym w.lists-is)
          (gathered_more n boxes labels main lists _ i label w.append_box.new.out c.loop-index.invariant c.requires.many c.loop-index-test.true refl low
          (w.in_ok-append_box.ensures
          ∙ ap (λ xs. xs ++ flat_of (evm n (cells_in n (box_at boxes i)))) (numbers_in-read lists label w.index_mut.result.now (omega (arith, low, many)) w.index_mut.ensures.value))
          refl (λ e. true≢false (sym (c.is_main.ensures.1 e) ∙ w.if-not-is_main.true)))
      | else-not-is_main w ↦
          subst (λ v. IsGatheredTo n boxes labels main v.items (i + 1)) (sym w.lists-is)
          (gathered_same n boxes labels main lists i c.loop-index.invariant c.requires.many c.loop-index-test.true (c.is_main.ensures.0 w.if-not-is_main.false))
    ]

pub returns : goal.returns
returns c =
    gathered_all c.args.boxes.now.dim c.args.boxes.now.boxes c.args.labels.now c.args.main c.loop-index.lists.items c.loop-index.index c.loop-index.invariant c.requires.many c.loop-index-test.false
