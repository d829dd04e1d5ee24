use Rattle.std.proofs.Common.{◌≡◌, ◌+◌, ◌<◌, ◌≤◌, ◌^◌, length}
use Rattle.evm_cells.specs.Vertices.{cells}
use Rattle.evm_cells.specs.Measures.{content, boundary}
use Rattle.evm_rows.specs.Rows.{AreRows, rows_of}
use Rattle.evm_measure.proofs.Sums.{slab_sum, face_sum}
use Rattle.evm_measure.proofs.plane.sweep_plane.Given as goal

abbrev pub invariant-loop-high : goal.invariant-loop-high
invariant-loop-high l = record {
  dims : l.walk.dim ≡ 1;
  line_is : AreRows l.line.items 1 0;
  long : l.length ≡ length (cells 1 (rows_of l.line.items 1 0));
  fits : length (cells 2 (rows_of l.fn.a.flat.now l.fn.a.width l.fn.a.skip)) ≤ 2 ^ 120;
  faces_fit : boundary 2 (cells 2 (rows_of l.fn.a.flat.now l.fn.a.width l.fn.a.skip)) < 2 ^ 124;
  so_far : l.cells + slab_sum content 1 l.low (rows_of l.line.items 1 0) l.walk.left ≡ length (cells 2 (rows_of l.fn.a.flat.now l.fn.a.width l.fn.a.skip));
  faces_so_far : l.faces + (slab_sum (boundary 1) 1 l.low (rows_of l.line.items 1 0) l.walk.left + face_sum 1 l.walk.left) ≡ boundary 2 (cells 2 (rows_of l.fn.a.flat.now l.fn.a.width l.fn.a.skip));
}

abbrev pub decreases-loop-high : goal.decreases-loop-high
decreases-loop-high l = length l.walk.left
