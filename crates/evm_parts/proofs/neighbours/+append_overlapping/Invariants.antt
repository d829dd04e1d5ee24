use Rattle.std.proofs.Common.{◌-◌, ◌+◌}
use Rattle.evm_parts.specs.Stretches.{AreAppended}
use Rattle.evm_parts.proofs.Walks.{IsPassed, IsTail}
use Rattle.evm_parts.proofs.neighbours.+append_overlapping.Given as goal

abbrev pub decreases-append_overlapping : goal.decreases-append_overlapping
decreases-append_overlapping l = l.boxes.now.dim - l.axis

abbrev pub invariant-loop-left : goal.invariant-loop-left
invariant-loop-left l = record {
  left : IsTail l.fn.one l.left;
  right : IsTail l.fn.other l.right;
  so_far : AreAppended (IsPassed l.boxes.boxes l.axis l.fn.one l.fn.other l.left.start l.right.start) l.fn.out.items l.out.items;
}

abbrev pub decreases-loop-left : goal.decreases-loop-left
decreases-loop-left l = (l.left.end - l.left.start) + (l.right.end - l.right.start)
