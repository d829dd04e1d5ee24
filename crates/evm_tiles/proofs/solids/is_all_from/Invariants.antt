use Rattle.std.proofs.Common.{◌≡◌, ◌%◌, length, get_or, pos, int_le}
use Rattle.std.specs.List.{list_all}
use Rattle.evm_rows.specs.Rows.{rows_of}
use Rattle.evm_tiles.proofs.solids.is_all_from.Given as goal

abbrev pub invariant-loop-left : goal.invariant-loop-left
invariant-loop-left l = record {
  whole : length l.left % l.a.width ≡ 0;
  so_far : list_all (λ q. int_le l.at (get_or q l.axis (pos 0))) (rows_of l.left l.a.width l.a.skip) ≡ list_all (λ q. int_le l.at (get_or q l.axis (pos 0))) (rows_of l.a.flat.now l.a.width l.a.skip);
}

abbrev pub decreases-loop-left : goal.decreases-loop-left
decreases-loop-left l = length l.left
