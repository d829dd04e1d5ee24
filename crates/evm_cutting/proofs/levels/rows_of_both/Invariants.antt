use Rattle.std.proofs.Common.{◌≡◌, ◌%◌, length}
use Rattle.evm_rows.specs.Rows.{rows_of}
use Rattle.evm_cutting.proofs.Closed.{IsCutSoFar}
use Rattle.evm_cutting.proofs.Above.{IsOtherSoFar}
use Rattle.evm_cutting.proofs.levels.rows_of_both.Given as goal

abbrev pub invariant-loop-rest : goal.invariant-loop-rest
invariant-loop-rest l = record {
  whole : length l.rest % l.width ≡ 0;
  low_made : length l.below.items % l.width ≡ 0;
  high_made : length l.above.items % l.width ≡ 0;
  low : IsCutSoFar l.width l.axis l.at (rows_of l.flat l.width 0) (rows_of l.below.items l.width 0) (rows_of l.rest l.width 0);
  high : IsOtherSoFar l.width l.axis (rows_of l.flat l.width 0) (rows_of l.below.items l.width 0) (rows_of l.above.items l.width 0) (rows_of l.rest l.width 0);
}

abbrev pub decreases-loop-rest : goal.decreases-loop-rest
decreases-loop-rest l = length l.rest
