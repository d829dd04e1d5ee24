use Rattle.std.proofs.Common.{◌≡◌, length, ap₂, ◌∙◌}
use Rattle.evm_cells.specs.Boxes.{IsBox, box_cells, corners}
use Rattle.evm_cells.specs.Vertices.{cells}
use Rattle.evm_cells.proofs.Core.{cells-evm}
use Rattle.evm_cells.proofs.Corners.{cell_set-box}
use Rattle.evm_rows.specs.Rows.{flat_of}
use Rattle.evm_rows.proofs.BoxTests.{box_rows, box_vertices, box_from, corners_alone}
use Rattle.evm_rows.proofs.solid.Solid.of_box.Goals as goal

box_is : (c : goal.In_ok-append_corners) → IsBox (length c.args.lo.now) c.args.lo.now c.args.hi.now
box_is c = box_from (length c.args.lo.now) c.args.lo.now c.args.hi.now c.if-not-is_box.ensures

numbers : (c : goal.In_ok-append_corners) → c.append_corners.new.out.items ≡ flat_of (corners c.args.lo.now c.args.hi.now)
numbers c = corners_alone _ _ _ c.args.lo.now c.args.hi.now c.in_ok-flat.ensures.items c.in_ok-front.ensures.items c.in_ok-append_corners.ensures.out

pub from_rows-requires : goal.from_rows-requires
from_rows-requires c = box_rows (length c.args.lo.now) _ c.args.lo.now c.args.hi.now c.requires.low c.requires.high (box_is c) (numbers c)

pub returns-clause-rows : goal.returns-clause-rows
returns-clause-rows c =
    let n = length c.args.lo.now in
    let box : IsBox n c.args.lo.now c.args.hi.now = box_from n c.args.lo.now c.args.hi.now c.if-not-is_box.ensures in
    let flat = corners_alone _ _ _ c.args.lo.now c.args.hi.now c.in_ok-flat.ensures.items c.in_ok-front.ensures.items c.in_ok-append_corners.ensures.out in
    c.from_rows.ensures.rows ∙ box_vertices n _ c.args.lo.now c.args.hi.now c.requires.low box flat

pub returns-clause-cells : goal.returns-clause-cells
returns-clause-cells c =
    let n = length c.args.lo.now in
    ap₂ cells c.from_rows.ensures.dim (returns-clause-rows c) ∙ cells-evm n (box_cells n c.args.lo.now c.args.hi.now) (cell_set-box n c.args.lo.now c.args.hi.now)
