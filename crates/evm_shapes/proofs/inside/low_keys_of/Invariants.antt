use Rattle.std.proofs.Common.{◌≡◌, ◌%◌, ◌-◌, ◌<◌, length, map, get_or, pos}
use Rattle.std.specs.List.{All}
use Rattle.evm_cells.specs.Windows.{clamped}
use Rattle.evm_rows.specs.Rows.{rows_of}
use Rattle.evm_shapes.specs.Keys.{unpacked, room}
use Rattle.evm_shapes.specs.Moves.{low_rows}
use Rattle.evm_shapes.proofs.Lone.{Gathered}
use Rattle.evm_shapes.proofs.inside.low_keys_of.Given as goal

abbrev pub invariant-loop-left : goal.invariant-loop-left
invariant-loop-left l = record {
  whole : length l.left % l.a.width ≡ 0;
  room : All (λ k. k < room (l.a.width - l.a.skip)) l.keys.items;
  so_far : Gathered (l.a.width - l.a.skip) (map (unpacked (l.a.width - l.a.skip)) l.keys.items) (map (clamped l.lo l.hi) (low_rows (get_or l.hi 0 (pos 0)) (rows_of l.left l.a.width l.a.skip)))
      (map (clamped l.lo l.hi) (low_rows (get_or l.hi 0 (pos 0)) (rows_of l.a.flat.now l.a.width l.a.skip)));
  all : low_rows (get_or l.hi 0 (pos 0)) (rows_of l.left l.a.width l.a.skip) ≡ rows_of l.left l.a.width l.a.skip → low_rows (get_or l.hi 0 (pos 0)) (rows_of l.a.flat.now l.a.width l.a.skip) ≡ rows_of l.a.flat.now l.a.width l.a.skip;
}

abbrev pub decreases-loop-left : goal.decreases-loop-left
decreases-loop-left l = length l.left
