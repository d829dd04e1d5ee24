use Rattle.std.proofs.Common.{◌≡◌, length}
use Rattle.evm_watch.proofs.Opened.{IsOpened}
use Rattle.evm_watch.proofs.near.round.Given as goal

abbrev pub invariant-loop-axis : goal.invariant-loop-axis
invariant-loop-axis l = record {
  opened : IsOpened l.dim l.axis l.least.lo l.least.hi l.ends.lo l.ends.hi;
  low : length l.ends.lo ≡ 6;
  high : length l.ends.hi ≡ 6;
}
