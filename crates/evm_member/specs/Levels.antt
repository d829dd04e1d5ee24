-- How a row stands to a point.
use Rattle.std.specs.Prelude.{ℕ, ◌+◌, ◌*◌, Bool, false, ◌&&◌, ◌==◌, ℤ, int_lt, int_le, List, [], ◌∷◌, if◌then◌else◌}
use Rattle.std.specs.Ordering.{int_eq}
use Rattle.evm_cells.specs.Places.{each}

-- the row q is above the point p on the first axis
abbrev pub starts_above : List ℤ → List ℤ → Bool
starts_above [] p = false
starts_above (x ∷ q) [] = false
starts_above (x ∷ q) (y ∷ p) = int_lt y x

-- the axes on which the row q has the coordinate of the point p, as bits: the first axis has the weight `bit`, each
-- further axis twice the weight of the one before (this project's own)
unfoldable pub level_axes : ℕ → List ℤ → List ℤ → ℕ
level_axes bit [] p = 0
level_axes bit (x ∷ q) [] = 0
level_axes bit (x ∷ q) (y ∷ p) = (if int_eq x y then bit else 0) + level_axes (2 * bit) q p

-- the row q is above the point p on no axis, and has its coordinate on exactly these axes
unfoldable pub is_level : List ℤ → ℕ → List ℤ → Bool
is_level p axes q = each int_le q p && (level_axes 1 q p == axes)
