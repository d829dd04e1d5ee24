use Rattle.evm_boxes.proofs.SweepSteps.{Gathered}
use Rattle.evm_boxes.proofs.sweep.section.Given as goal

abbrev pub invariant-loop-row : goal.invariant-loop-row
invariant-loop-row l = Gathered l.rows l.height l.row-index l.line.items
