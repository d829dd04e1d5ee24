use Rattle.std.proofs.Common.{ℕ, zero, suc, ◌<◌, [], ◌∷◌, get_or, pos, refl, arith}
use Rattle.evm_cells.specs.Places.{each}
use Rattle.evm_cells.specs.Limits.{limit, is_point_coord, is_point}
use Rattle.evm_boxes.specs.BoxRows.{IsBoxRow}
use Rattle.evm_boxes.specs.declared.BoxRow.{BoxRow}
use Rattle.evm_boxes.proofs.tests.two_squares.Goals as goal

upper : BoxRow
upper = record {
  dim = 2;
  lo = pos 1 ∷ pos 1 ∷ pos 0 ∷ pos 0 ∷ pos 0 ∷ pos 0 ∷ [];
  hi = pos 3 ∷ pos 3 ∷ pos 0 ∷ pos 0 ∷ pos 0 ∷ pos 0 ∷ [];
}

lower : BoxRow
lower = record {
  dim = 2;
  lo = pos 0 ∷ pos 0 ∷ pos 0 ∷ pos 0 ∷ pos 0 ∷ pos 0 ∷ [];
  hi = pos 2 ∷ pos 2 ∷ pos 0 ∷ pos 0 ∷ pos 0 ∷ pos 0 ∷ [];
}

fit : (k : ℕ) (d : BoxRow) → k < 2 → IsBoxRow 2 (get_or (upper ∷ lower ∷ []) k d)
unfolding upper lower each limit is_point_coord is_point
fit zero d h = record { dim = refl; box = refl }
fit (suc zero) d h = record { dim = refl; box = refl }
fit (suc (suc k)) d h = absurd (omega arith)

pub join-requires-clause-boxes : goal.join-requires-clause-boxes
unfolding upper lower
join-requires-clause-boxes c = fit
