use Rattle.evm_boxes.proofs.Meets.{Meeting}
use Rattle.evm_boxes.proofs.events.meet.Given as goal

abbrev pub invariant-loop-axis : goal.invariant-loop-axis
invariant-loop-axis l = Meeting l.dim l.axis l.left l.right l.part
