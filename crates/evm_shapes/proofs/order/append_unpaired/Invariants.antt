use Rattle.std.proofs.Common.{◌≡◌, ◌≤◌, ◌-◌, ◌++◌, length, drop}
use Rattle.evm_rows.specs.Rows.{flat_of}
use Rattle.evm_rows.specs.Groups.{targets}
use Rattle.evm_shapes.specs.Order.{unpaired}
use Rattle.evm_shapes.proofs.order.append_unpaired.Given as goal

abbrev pub invariant-loop-i : goal.invariant-loop-i
invariant-loop-i l = record {
  within : l.i ≤ length l.rows;
  so_far : l.out.items ++ flat_of (unpaired (targets (drop l.i l.rows))) ≡ l.initial.out.items ++ flat_of (unpaired (targets l.rows));
}

abbrev pub decreases-loop-i : goal.decreases-loop-i
decreases-loop-i l = length l.rows - l.i
