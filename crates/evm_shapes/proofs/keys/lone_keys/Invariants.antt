use Rattle.std.proofs.Common.{◌≡◌, ◌-◌, ◌%◌, ◌<◌, length, map}
use Rattle.std.specs.List.{All}
use Rattle.evm_rows.specs.Rows.{rows_of}
use Rattle.evm_shapes.specs.Keys.{unpacked, room}
use Rattle.evm_shapes.proofs.Lone.{Gathered}
use Rattle.evm_shapes.proofs.keys.lone_keys.Given as goal

abbrev pub invariant-loop-left : goal.invariant-loop-left
invariant-loop-left l = record {
  whole : length l.left % l.width ≡ 0;
  room : All (λ k. k < room (l.width - l.skip)) l.keys.items;
  so_far : Gathered (l.width - l.skip) (map (unpacked (l.width - l.skip)) l.keys.items) (rows_of l.left l.width l.skip) (rows_of l.flat l.width l.skip);
}

abbrev pub decreases-loop-left : goal.decreases-loop-left
decreases-loop-left l = length l.left
