use Rattle.std.proofs.Common.{◌-◌, ap₂, sym, ◌∙◌, arith, subst}
use Rattle.evm_cells.specs.Vertices.{cells}
use Rattle.evm_cells.proofs.Universe.{cell_set-cells}
use Rattle.evm_rows.specs.Rows.{rows_of}
use Rattle.evm_partition.specs.BoxLists.{AreBoxes, boxes_of, front_of}
use Rattle.evm_partition.specs.Partition.{IsPartition, partition}
use Rattle.evm_partition.proofs.Numbers.{are_boxes, boxes_again}
use Rattle.evm_partition.proofs.SlabBoxes.{all_numbers}
use Rattle.evm_partition.proofs.Stated.{list_is_partition}
use Rattle.evm_partition.proofs.Within.{boxes_have_room}
use Rattle.evm_partition.proofs.slabs.split.Goals as goal

pub of_flat-requires : goal.of_flat-requires
of_flat-requires c =
    let a = c.args.a in
    let n = a.width - a.skip in
    let S = cells n (rows_of a.flat.now a.width a.skip) in
    let h = all_numbers (front_of c.start.result) (partition n S) c.in_ok-flat.flat.items c.append_boxes.new.out.items c.start.ensures.ends c.in_ok-flat.ensures.items c.in_ok-append_boxes.ensures in
    subst (λ m. AreBoxes m c.append_boxes.new.out.items) (sym c.dim-dim.ensures)
    (are_boxes n c.append_boxes.new.out.items (partition n S) (omega (arith, a.left)) (omega (arith, a.narrow)) (boxes_have_room n S (cell_set-cells n (rows_of a.flat.now a.width a.skip))) h)

pub returns-clause-boxes : goal.returns-clause-boxes
returns-clause-boxes c =
    let a = c.args.a in
    let n = a.width - a.skip in
    let S = cells n (rows_of a.flat.now a.width a.skip) in
    let h = all_numbers (front_of c.start.result) (partition n S) c.in_ok-flat.flat.items c.append_boxes.new.out.items c.start.ensures.ends c.in_ok-flat.ensures.items c.in_ok-append_boxes.ensures in
    c.of_flat.ensures.boxes ∙ ap₂ boxes_of c.dim-dim.ensures h ∙ boxes_again n (partition n S) (omega (arith, a.left)) (boxes_have_room n S (cell_set-cells n (rows_of a.flat.now a.width a.skip)))

pub returns-clause-stated : goal.returns-clause-stated
returns-clause-stated c =
    let a = c.args.a in
    let n = a.width - a.skip in
    let S = cells n (rows_of a.flat.now a.width a.skip) in
    let h = all_numbers (front_of c.start.result) (partition n S) c.in_ok-flat.flat.items c.append_boxes.new.out.items c.start.ensures.ends c.in_ok-flat.ensures.items c.in_ok-append_boxes.ensures in
    let e = c.of_flat.ensures.boxes ∙ ap₂ boxes_of c.dim-dim.ensures h ∙ boxes_again n (partition n S) (omega (arith, a.left)) (boxes_have_room n S (cell_set-cells n (rows_of a.flat.now a.width a.skip))) in
    subst (IsPartition n S) (sym e) (list_is_partition n S (cell_set-cells n (rows_of a.flat.now a.width a.skip)))
