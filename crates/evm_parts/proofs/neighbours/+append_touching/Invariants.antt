use Rattle.std.proofs.Common.{◌-◌}
use Rattle.evm_parts.specs.Stretches.{AreAppended}
use Rattle.evm_parts.proofs.Walks.{IsPassedFrom, IsTail}
use Rattle.evm_parts.proofs.neighbours.+append_touching.Given as goal

abbrev pub decreases-append_touching : goal.decreases-append_touching
decreases-append_touching l = l.boxes.now.dim - l.axis

abbrev pub invariant-loop-left : goal.invariant-loop-left
invariant-loop-left l = record {
  left : IsTail l.fn.stretch l.left;
  so_far : AreAppended (IsPassedFrom l.boxes.boxes l.axis l.fn.stretch l.left.start) l.fn.out.items l.out.items;
}

abbrev pub decreases-loop-left : goal.decreases-loop-left
decreases-loop-left l = l.left.end - l.left.start
