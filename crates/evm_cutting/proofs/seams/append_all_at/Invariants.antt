use Rattle.std.proofs.Common.{◌≡◌, ◌%◌, ◌++◌, length}
use Rattle.evm_cells.specs.Sections.{rows_at}
use Rattle.evm_rows.specs.Rows.{rows_of, flat_of}
use Rattle.evm_cutting.proofs.seams.append_all_at.Given as goal

abbrev pub invariant-loop-left : goal.invariant-loop-left
invariant-loop-left l = record {
  whole : length l.left % l.a.width ≡ 0;
  so_far : l.out.items ++ flat_of (rows_at l.axis l.at (rows_of l.left l.a.width l.a.skip)) ≡ l.initial.out.items ++ flat_of (rows_at l.axis l.at (rows_of l.a.flat.now l.a.width l.a.skip));
}

abbrev pub decreases-loop-left : goal.decreases-loop-left
decreases-loop-left l = length l.left
