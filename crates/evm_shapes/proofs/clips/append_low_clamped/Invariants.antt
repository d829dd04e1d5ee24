use Rattle.std.proofs.Common.{◌≡◌, ◌%◌, ◌++◌, length, map, get_or, pos}
use Rattle.evm_rows.specs.Rows.{rows_of, flat_of}
use Rattle.evm_cells.specs.Windows.{clamped}
use Rattle.evm_shapes.specs.Moves.{low_rows}
use Rattle.evm_shapes.proofs.clips.append_low_clamped.Given as goal

abbrev pub invariant-loop-left : goal.invariant-loop-left
invariant-loop-left l = record {
  whole : length l.left % l.a.width ≡ 0;
  so_far : l.out.items ++ flat_of (map (clamped l.lo l.hi) (low_rows (get_or l.hi 0 (pos 0)) (rows_of l.left l.a.width l.a.skip)))
      ≡ l.initial.out.items ++ flat_of (map (clamped l.lo l.hi) (low_rows (get_or l.hi 0 (pos 0)) (rows_of l.a.flat.now l.a.width l.a.skip)));
}

abbrev pub decreases-loop-left : goal.decreases-loop-left
decreases-loop-left l = length l.left
