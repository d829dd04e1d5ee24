use Rattle.std.proofs.Common.{ℕ, ◌<◌, ◌≤ℤ◌}
use Rattle.evm_boxes.specs.Fills.{low_of, high_of}
use Rattle.evm_boxes.proofs.events.is_inside.Given as goal

abbrev pub invariant-loop-axis : goal.invariant-loop-axis
invariant-loop-axis l = record {
  low : (j : ℕ) → j < l.axis → low_of j l.other ≤ℤ low_of j l.row;
  high : (j : ℕ) → j < l.axis → high_of j l.row ≤ℤ high_of j l.other;
}
