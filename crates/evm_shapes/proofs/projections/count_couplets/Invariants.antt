use Rattle.std.proofs.Common.{◌≡◌, ◌+◌, ◌≤◌, length}
use Rattle.evm_rows.specs.Rows.{rows_of}
use Rattle.evm_sections.specs.Couplets.{couplets_of}
use Rattle.evm_shapes.proofs.projections.count_couplets.Given as goal

abbrev pub invariant-loop-walk : goal.invariant-loop-walk
invariant-loop-walk l = record {
  so_far : l.count + length l.walk.left ≡ length (couplets_of (rows_of l.a.flat.now l.a.width l.a.skip));
  few : l.count + length l.walk.left ≤ length l.a.flat.now;
}

abbrev pub decreases-loop-walk : goal.decreases-loop-walk
decreases-loop-walk l = length l.walk.left
