use Rattle.std.proofs.Common.{◌≡◌, drop}
use Rattle.evm_boxes.proofs.SweepSteps.{Swept}
use Rattle.evm_boxes.proofs.sweep.sweep.Given as goal

abbrev pub invariant-loop-height : goal.invariant-loop-height
invariant-loop-height l = record {
  dim : l.below.dim ≡ 1;
  swept : Swept l.rows l.below.rows l.out.items (drop l.height-index l.height-items);
}
