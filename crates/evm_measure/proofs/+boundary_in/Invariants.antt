use Rattle.std.proofs.Common.{◌≡◌, ◌+◌, ◌-◌, ◌<◌, ◌^◌, length}
use Rattle.evm_cells.specs.Vertices.{cells}
use Rattle.evm_cells.specs.Measures.{boundary}
use Rattle.evm_rows.specs.Rows.{rows_of}
use Rattle.evm_measure.proofs.Steps.{IsLevel}
use Rattle.evm_measure.proofs.Sums.{slab_sum, face_sum}
use Rattle.evm_measure.proofs.+boundary_in.Given as goal

abbrev pub decreases-boundary_in : goal.decreases-boundary_in
decreases-boundary_in l = l.a.width - l.a.skip

abbrev pub invariant-loop-high : goal.invariant-loop-high
invariant-loop-high l = record {
  level : IsLevel l.section.dim l.walk.dim (l.fn.a.width - l.fn.a.skip);
  fits : boundary (l.fn.a.width - l.fn.a.skip) (cells (l.fn.a.width - l.fn.a.skip) (rows_of l.fn.a.flat.now l.fn.a.width l.fn.a.skip)) < 2 ^ 124;
  so_far : l.total + (slab_sum (boundary l.section.dim) l.section.dim l.low l.section.rows l.walk.left + face_sum l.section.dim l.walk.left)
      ≡ boundary (l.fn.a.width - l.fn.a.skip) (cells (l.fn.a.width - l.fn.a.skip) (rows_of l.fn.a.flat.now l.fn.a.width l.fn.a.skip));
}

abbrev pub decreases-loop-high : goal.decreases-loop-high
decreases-loop-high l = length l.walk.left
