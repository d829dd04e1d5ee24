use Rattle.std.proofs.Common.{◌≡◌, ◌+◌, ◌-◌, ◌≤◌, ◌^◌, length}
use Rattle.evm_cells.specs.Vertices.{cells}
use Rattle.evm_cells.specs.Measures.{content}
use Rattle.evm_rows.specs.Rows.{rows_of}
use Rattle.evm_measure.proofs.Steps.{IsLevel}
use Rattle.evm_measure.proofs.Sums.{slab_sum}
use Rattle.evm_measure.proofs.+content_in.Given as goal

abbrev pub decreases-content_in : goal.decreases-content_in
decreases-content_in l = l.a.width - l.a.skip

abbrev pub invariant-loop-high : goal.invariant-loop-high
invariant-loop-high l = record {
  level : IsLevel l.section.dim l.walk.dim (l.fn.a.width - l.fn.a.skip);
  fits : length (cells (l.fn.a.width - l.fn.a.skip) (rows_of l.fn.a.flat.now l.fn.a.width l.fn.a.skip)) ≤ 2 ^ 120;
  so_far : l.total + slab_sum content l.section.dim l.low l.section.rows l.walk.left ≡ length (cells (l.fn.a.width - l.fn.a.skip) (rows_of l.fn.a.flat.now l.fn.a.width l.fn.a.skip));
}

abbrev pub decreases-loop-high : goal.decreases-loop-high
decreases-loop-high l = length l.walk.left
