-- The boxes have these cells, and the cells of the exclusive or are told by those of the two.
use Rattle.evm_rows.specs.View.{vertices_of}
use Rattle.evm_meter.specs.Beside.{Shows, half, comer}
use Rattle.evm_meter.proofs.Beside.{after_shown}
use Rattle.evm_meter.proofs.tests.cell_beside.Goals as goal

pub returns : goal.returns
returns c =
    let left : Shows c.in-Ok-of_box.before half = (c.in-Ok-of_box.ensures.dim, c.in-Ok-of_box.ensures.cells) in
    let right : Shows c.in-Ok-of_box-2.gained comer = (c.in-Ok-of_box-2.ensures.dim, c.in-Ok-of_box-2.ensures.cells) in
    record {
      whole_is = (c.in-Ok.ensures.dim, c.in-Ok.ensures.cells);
      before_is = left;
      gained_is = right;
      lost_is = (c.empty-lost.ensures.dim, c.empty-lost.ensures.cells);
      after_is = after_shown _ _ _ (vertices_of c.rows.result) (vertices_of c.rows-2.result) left right c.rows.ensures c.rows-2.ensures c.in-Ok-xor.ensures.dim c.in-Ok-xor.ensures.cells;
    }
