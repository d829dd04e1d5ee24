use Rattle.std.proofs.Common.{◌≡◌, ◌≤◌, ◌-◌, ◌++◌, length, drop, map}
use Rattle.evm_rows.specs.Rows.{flat_of}
use Rattle.evm_shapes.specs.Keys.{unpacked}
use Rattle.evm_shapes.specs.Order.{unpaired}
use Rattle.evm_shapes.proofs.keys.append_unpaired_of.Given as goal

abbrev pub invariant-loop-i : goal.invariant-loop-i
invariant-loop-i l = record {
  within : l.i ≤ length l.keys;
  so_far : l.out.items ++ flat_of (unpaired (map (unpacked l.width) (drop l.i l.keys))) ≡ l.initial.out.items ++ flat_of (unpaired (map (unpacked l.width) l.keys));
}

abbrev pub decreases-loop-i : goal.decreases-loop-i
decreases-loop-i l = length l.keys - l.i
