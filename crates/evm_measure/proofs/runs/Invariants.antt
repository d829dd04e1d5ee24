use Rattle.std.proofs.Common.{◌≡◌, ◌+◌, ◌≤◌, ◌^◌, length}
use Rattle.evm_cells.specs.Vertices.{cells}
use Rattle.evm_cells.specs.Measures.{content}
use Rattle.evm_rows.specs.Rows.{rows_of}
use Rattle.evm_sections.specs.Couplets.{AreSingle}
use Rattle.evm_sections.specs.Couplets.{mark}
use Rattle.evm_measure.proofs.Sums.{slab_sum}
use Rattle.evm_measure.proofs.runs.Given as goal

abbrev pub invariant-loop-high : goal.invariant-loop-high
invariant-loop-high l = record {
  single : AreSingle l.walk;
  fits : length (cells 1 (rows_of l.fn.a.flat.now l.fn.a.width l.fn.a.skip)) ≤ 2 ^ 120;
  so_far : l.total + slab_sum content 0 l.low (mark l.on) l.walk ≡ length (cells 1 (rows_of l.fn.a.flat.now l.fn.a.width l.fn.a.skip));
}

abbrev pub decreases-loop-high : goal.decreases-loop-high
decreases-loop-high l = length l.walk
