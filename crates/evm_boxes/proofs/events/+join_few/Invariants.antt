use Rattle.std.proofs.Common.{drop, ◌-◌, ◌<◌}
use Rattle.evm_boxes.proofs.EventSteps.{Rising}
use Rattle.evm_boxes.proofs.events.+join_few.Given as goal

abbrev pub decreases-join_few : goal.decreases-join_few
decreases-join_few l = l.dim

abbrev pub invariant-loop-height : goal.invariant-loop-height
invariant-loop-height l = record {
  deep : 2 < l.dim;
  rises : Rising (l.dim - 1) l.view l.out.items (drop l.height-index l.height-items);
}
