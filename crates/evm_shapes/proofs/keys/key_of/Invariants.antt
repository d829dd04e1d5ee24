use Rattle.std.proofs.Common.{◌≡◌, ◌<◌, take}
use Rattle.evm_shapes.specs.Keys.{unpacked, room}
use Rattle.evm_shapes.proofs.keys.key_of.Given as goal

abbrev pub invariant-loop-k : goal.invariant-loop-k
invariant-loop-k l = record {
  room : l.key < room l.k;
  row : unpacked l.k l.key ≡ take l.k l.row;
}
