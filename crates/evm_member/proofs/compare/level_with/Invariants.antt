use Rattle.std.proofs.Common.{◌≡◌, ◌+◌, ◌*◌, ◌^◌, ◌<◌, ◌≤◌, length, int_le}
use Rattle.evm_cells.specs.Places.{each}
use Rattle.evm_member.specs.Levels.{level_axes}
use Rattle.evm_member.proofs.compare.level_with.Given as goal

abbrev pub invariant-loop-x : goal.invariant-loop-x
invariant-loop-x l = record {
  as_long : length l.x-iterator.a.rest.now ≡ length l.x-iterator.b.rest.now;
  small : l.axes < l.bit;
  light : l.bit * 2 ^ length l.x-iterator.b.rest.now ≤ 64;
  below : each int_le l.x-iterator.a.rest.now l.x-iterator.b.rest.now ≡ each int_le l.row l.point;
  so_far : l.axes + level_axes l.bit l.x-iterator.a.rest.now l.x-iterator.b.rest.now ≡ level_axes 1 l.row l.point;
}
