-- Boxes: their cells, and their corners.
use Rattle.std.specs.Prelude.{◌≡◌, ℕ, Bool, true, ◌&&◌, ℤ, int_le, int_lt, List, [], ◌∷◌, ◌++◌, map}
use Rattle.evm_cells.specs.Places.{each}
use Rattle.evm_cells.specs.Limits.{is_point, cells_where}

-- the cells of the box from lo up to, but not at, hi on each axis (this project's own)
unfoldable pub box_cells : ℕ → List ℤ → List ℤ → List (List ℤ)
box_cells n lo hi = cells_where n (λ c. each int_le lo c && each int_lt c hi)

-- a box of dimension n: its two ends are points, and lo is below hi on each axis (this project's own)
pub record IsBox (n : ℕ) (lo hi : List ℤ) : Type 0 where
  pub low : is_point n lo ≡ true
  pub high : is_point n hi ≡ true
  pub room : each int_lt lo hi ≡ true

-- a box of dimension n, as a test
abbrev pub is_box : ℕ → List ℤ → List ℤ → Bool
is_box n lo hi = is_point n lo && is_point n hi && each int_lt lo hi

-- the corners of a box: each choice of the number of lo or of hi on each axis, ascending where lo is below hi
unfoldable pub corners : List ℤ → List ℤ → List (List ℤ)
corners [] hi = [] ∷ []
corners (a ∷ lo) [] = []
corners (a ∷ lo) (b ∷ hi) = map (λ t. a ∷ t) (corners lo hi) ++ map (λ t. b ∷ t) (corners lo hi)
