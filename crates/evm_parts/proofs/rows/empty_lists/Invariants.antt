use Rattle.std.proofs.Common.{◌≡◌, [], length, All}
use Rattle.evm_parts.proofs.rows.empty_lists.Given as goal

abbrev pub invariant-loop : goal.invariant-loop
invariant-loop l = record {
  many : length l.lists.items ≡ l.counter;
  empty : All (λ w. w.items ≡ []) l.lists.items;
}
