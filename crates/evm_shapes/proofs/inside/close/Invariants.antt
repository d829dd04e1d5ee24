use Rattle.std.proofs.Common.{◌≡◌, ◌+◌, ◌-◌, ◌%◌, ◌++◌, map, take}
use Rattle.evm_shapes.specs.Keys.{room}
use Rattle.evm_shapes.proofs.inside.close.Given as goal

abbrev pub invariant-loop-i : goal.invariant-loop-i
invariant-loop-i l = l.keys.items ≡ l.initial.keys.items ++ map (λ k. l.top + k % room (l.width - 1)) (take l.i l.initial.keys.items)
