use Rattle.std.proofs.Common.{◌≡◌, length, int_le}
use Rattle.evm_cells.specs.Places.{each}
use Rattle.evm_member.proofs.compare.is_below.Given as goal

abbrev pub invariant-loop-x : goal.invariant-loop-x
invariant-loop-x l = record {
  as_long : length l.x-iterator.a.rest.now ≡ length l.x-iterator.b.rest.now;
  so_far : each int_le l.x-iterator.a.rest.now l.x-iterator.b.rest.now ≡ each int_le l.row l.place;
}
