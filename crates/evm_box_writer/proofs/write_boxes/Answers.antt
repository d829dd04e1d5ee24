use Rattle.std.proofs.Common.{◌≡◌, ◌-◌, ap, ◌∙◌, arith}
use Rattle.evm_cells.proofs.Universe.{cell_set-cells}
use Rattle.evm_rows.specs.Rows.{Vertices, cells_of}
use Rattle.evm_formats.specs.BoxFile.{file_cells}
use Rattle.evm_partition.specs.BoxLists.{partition_of}
use Rattle.evm_box_writer.proofs.Lines.{whole_text}
use Rattle.evm_formats.proofs.BoxTexts.{read_again}
use Rattle.evm_box_writer.proofs.write_boxes.Goals as goal

pub returns-clause-text : goal.returns-clause-text
returns-clause-text c =
    let a = c.args.a.now in
    let e = ap (λ (v : Vertices). v.dim) c.rows.ensures in
    let f = ap partition_of c.rows.ensures in
    let h = c.in_ok-put_boxes.ensures in
    let k = c.in_ok-put_head.ensures in
    whole_text c.in_ok-boxes.boxes.dim a.dim c.dim-2.result (cells_of a) c.in_ok-boxes.boxes.boxes c.in_ok-text.text.items c.put_head.new.text.items c.put_boxes.new.text.items
    (c.in_ok-boxes.ensures.dim ∙ e) c.dim-2.ensures (c.in_ok-boxes.ensures.boxes ∙ f) c.in_ok-text.ensures.items k h

pub returns-clause-again : goal.returns-clause-again
returns-clause-again c =
    let a = c.args.a.now in
    let r = c.rows.result in
    let e : r.width - r.skip ≡ a.dim = ap (λ (v : Vertices). v.dim) c.rows.ensures in
    let f = ap partition_of c.rows.ensures in
    let text = whole_text c.in_ok-boxes.boxes.dim a.dim c.dim-2.result (cells_of a) c.in_ok-boxes.boxes.boxes c.in_ok-text.text.items c.put_head.new.text.items c.put_boxes.new.text.items
    (c.in_ok-boxes.ensures.dim ∙ e) c.dim-2.ensures (c.in_ok-boxes.ensures.boxes ∙ f) c.in_ok-text.ensures.items c.in_ok-put_head.ensures c.in_ok-put_boxes.ensures in
    ap (file_cells a.dim) text ∙ read_again a.dim (cells_of a) (omega (arith, e, r.left)) (omega (arith, e, r.narrow)) (cell_set-cells a.dim a.rows)
