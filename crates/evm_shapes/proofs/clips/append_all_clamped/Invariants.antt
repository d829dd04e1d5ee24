use Rattle.std.proofs.Common.{◌≡◌, ◌%◌, ◌++◌, length, map}
use Rattle.evm_rows.specs.Rows.{rows_of, flat_of}
use Rattle.evm_cells.specs.Windows.{clamped}
use Rattle.evm_shapes.proofs.clips.append_all_clamped.Given as goal

abbrev pub invariant-loop-left : goal.invariant-loop-left
invariant-loop-left l = record {
  whole : length l.left % l.a.width ≡ 0;
  so_far : l.out.items ++ flat_of (map (clamped l.lo l.hi) (rows_of l.left l.a.width l.a.skip)) ≡ l.initial.out.items ++ flat_of (map (clamped l.lo l.hi) (rows_of l.a.flat.now l.a.width l.a.skip));
}

abbrev pub decreases-loop-left : goal.decreases-loop-left
decreases-loop-left l = length l.left
