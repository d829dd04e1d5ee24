use Rattle.std.proofs.Common.{◌<◌, IfSome}
use Rattle.evm_boxes.proofs.plane.plane_of.Given as goal

abbrev pub invariant-loop-axis : goal.invariant-loop-axis
invariant-loop-axis l = IfSome l.best (λ plane. plane.axis < l.dim)
