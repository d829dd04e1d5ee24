use Rattle.std.proofs.Common.{take}
use Rattle.evm_boxes.proofs.NumberRuns.{HasNumbers}
use Rattle.evm_boxes.proofs.line.read_numbers.Given as goal

abbrev pub invariant-loop-place : goal.invariant-loop-place
invariant-loop-place l = HasNumbers l.line l.rest (take l.place-index l.into)
