use Rattle.std.proofs.Common.{◌-◌, ◌<◌, ◌≤◌, ◌<ℤ◌, ◌≤ℤ◌, ℕ}
use Rattle.evm_parts.specs.Stretches.{high_at}
use Rattle.evm_parts.proofs.neighbours.first_above.Given as goal

abbrev pub invariant-loop-start : goal.invariant-loop-start
invariant-loop-start l = record {
  from : l.fn.stretch.start ≤ l.start;
  ordered : l.start ≤ l.end;
  to : l.end ≤ l.fn.stretch.end;
  below : (i : ℕ) → l.fn.stretch.start ≤ i → i < l.start → high_at l.boxes.boxes i l.axis ≤ℤ l.fn.bound;
  above : (i : ℕ) → l.end ≤ i → i < l.fn.stretch.end → l.fn.bound <ℤ high_at l.boxes.boxes i l.axis;
}

abbrev pub decreases-loop-start : goal.decreases-loop-start
decreases-loop-start l = l.end - l.start
