use Rattle.std.proofs.Common.{◌≡◌, ◌+◌, ◌++◌, length}
use Rattle.evm_rows.specs.Rows.{rows_of, flat_of, combined_rows}
use Rattle.evm_sections.specs.Couplets.{AreSingle}
use Rattle.evm_boolean.specs.Tower.{fills}
use Rattle.evm_sections.specs.Couplets.{mark}
use Rattle.evm_boolean.proofs.TowerSteps.{tower, cuts_of}
use Rattle.evm_boolean.proofs.runs.combine_runs.Given as goal

abbrev pub invariant-loop-height : goal.invariant-loop-height
invariant-loop-height l = record {
  left_single : AreSingle l.left;
  right_single : AreSingle l.right;
  so_far : l.out.items ++ flat_of (tower 0 (combined_rows (fills l.op) 0) (cuts_of l.left l.right) (mark l.on_a) (mark l.on_b) (mark l.below) l.left l.right)
      ≡ flat_of (combined_rows (fills l.op) 1 (rows_of l.fn.a.flat.now l.fn.a.width l.fn.a.skip) (rows_of l.fn.b.flat.now l.fn.b.width l.fn.b.skip));
}

abbrev pub decreases-loop-height : goal.decreases-loop-height
decreases-loop-height l = length l.left + length l.right
