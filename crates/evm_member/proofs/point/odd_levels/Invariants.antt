use Rattle.std.proofs.Common.{◌≡◌, ◌+◌, ◌%◌, ℕ, true, length, count_by}
use Rattle.std.specs.Int.{bit_at}
use Rattle.evm_cells.specs.Places.{ascending}
use Rattle.evm_rows.specs.Rows.{rows_of}
use Rattle.evm_member.specs.Levels.{is_level}
use Rattle.evm_member.proofs.point.odd_levels.Given as goal

abbrev pub invariant-loop-left : goal.invariant-loop-left
invariant-loop-left l = record {
  whole : length l.left % l.a.width ≡ 0;
  ascends : ascending (rows_of l.left l.a.width l.a.skip) ≡ true;
  so_far : (axes : ℕ) → (bit_at l.odd axes + count_by (is_level l.point axes) (rows_of l.left l.a.width l.a.skip)) % 2
      ≡ count_by (is_level l.point axes) (rows_of l.a.flat.now l.a.width l.a.skip) % 2;
}

abbrev pub decreases-loop-left : goal.decreases-loop-left
decreases-loop-left l = length l.left
