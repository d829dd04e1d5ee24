use Rattle.std.proofs.Common.{◌≡◌, ◌<◌, ◌++◌, drop}
use Rattle.evm_cells.specs.Windows.{clamped}
use Rattle.evm_shapes.specs.Keys.{unpacked, room}
use Rattle.evm_shapes.proofs.inside.moved_key.Given as goal

abbrev pub invariant-loop-k : goal.invariant-loop-k
invariant-loop-k l = record {
  room : l.key < room l.k;
  row : unpacked l.k l.key ++ clamped (drop l.k l.lo) (drop l.k l.hi) (drop l.k l.row) ≡ clamped l.lo l.hi l.row;
}
