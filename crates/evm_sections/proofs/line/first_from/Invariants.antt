use Rattle.std.proofs.Common.{◌≡◌, ◌-◌, ◌≤◌, length, take, drop, true, int_lt, int_le}
use Rattle.std.specs.List.{list_all}
use Rattle.evm_sections.proofs.line.first_from.Given as goal

abbrev pub invariant-loop-from : goal.invariant-loop-from
invariant-loop-from l = record {
  order : l.from ≤ l.to;
  within : l.to ≤ length l.numbers;
  below : list_all (λ y. int_lt y l.low) (take l.from l.numbers) ≡ true;
  above : list_all (int_le l.low) (drop l.to l.numbers) ≡ true;
}

abbrev pub decreases-loop-from : goal.decreases-loop-from
decreases-loop-from l = l.to - l.from
