use Rattle.std.proofs.Common.{◌≡◌, ◌%◌, ◌++◌, length, map}
use Rattle.evm_rows.specs.Rows.{rows_of, flat_of}
use Rattle.evm_cutting.specs.Levels.{put}
use Rattle.evm_cutting.proofs.levels.append_put.Given as goal

abbrev pub invariant-loop-left : goal.invariant-loop-left
invariant-loop-left l = record {
  whole : length l.left % l.width ≡ 0;
  so_far : l.out.items ++ flat_of (map (put l.head l.at) (rows_of l.left l.width 0)) ≡ l.initial.out.items ++ flat_of (map (put l.head l.at) (rows_of l.places l.width 0));
}

abbrev pub decreases-loop-left : goal.decreases-loop-left
decreases-loop-left l = length l.left
