use Rattle.std.proofs.Common.{◌-◌, ◌<◌, length}
use Rattle.evm_rows.specs.Rows.{rows_of}
use Rattle.evm_cutting.proofs.measures.turns_over.Given as goal

abbrev pub invariant-loop-row : goal.invariant-loop-row
invariant-loop-row l = record { moves : 0 < l.step; few : l.met < 3 }

abbrev pub decreases-loop-row : goal.decreases-loop-row
decreases-loop-row l = length (rows_of l.a.flat.now l.a.width l.a.skip) - l.row
