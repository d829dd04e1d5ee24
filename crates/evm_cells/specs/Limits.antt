-- Cells and points of a dimension: the places within its limit.
--     A cell c stands for the closed unit cube from c to c + 1 on each axis; a point is a corner that such cubes may have.
use Rattle.std.specs.Prelude.{◌≡◌, ℕ, zero, suc, ◌+◌, ◌*◌, Bool, true, ◌&&◌, ◌==◌, nat_le, nat_eq, if◌then◌else◌, ℤ, pos, neg_ℤ, ◌+ℤ◌, int_le, int_lt, List, [], ◌∷◌, map, flat_map, filter, length}
use Rattle.std.specs.List.{list_all}
use Rattle.evm_cells.specs.Places.{ascending}

-- the limit of all coordinates in dimension n: it never grows with the dimension, and leaves (2 limit) ^ n, the number of all cells,
-- at most 2 ^ 120 up to dimension 6 (this project's own)
unfoldable pub limit : ℕ → ℕ
limit n =
    if nat_le n 3 then 1073741824
    else if nat_eq n 4 then 268435456
    else if nat_eq n 5 then 4194304
    else 524288

-- the coordinates of cells of dimension n: from -limit n up to limit n - 1
unfoldable pub is_cell_coord : ℕ → ℤ → Bool
is_cell_coord n x = int_le (neg_ℤ (pos (limit n))) x && int_lt x (pos (limit n))

-- the coordinates of points of dimension n: from -limit n up to limit n
unfoldable pub is_point_coord : ℕ → ℤ → Bool
is_point_coord n x = int_le (neg_ℤ (pos (limit n))) x && int_le x (pos (limit n))

-- a cell of dimension n: n coordinates of cells. Dimension 0 has the one cell [] (this project's own)
unfoldable pub is_cell : ℕ → List ℤ → Bool
is_cell n c = length c == n && list_all (is_cell_coord n) c

-- a point of dimension n: n coordinates of points
unfoldable pub is_point : ℕ → List ℤ → Bool
is_point n p = length p == n && list_all (is_point_coord n) p

-- n whole numbers in a row, from a on
unfoldable pub ints : ℤ → ℕ → List ℤ
ints a zero = []
ints a (suc n) = a ∷ ints (a +ℤ pos 1) n

-- each list of n numbers of xs, in lexicographic order where xs ascends
unfoldable pub tuples : List ℤ → ℕ → List (List ℤ)
tuples xs zero = [] ∷ []
tuples xs (suc n) = flat_map (λ x. map (λ t. x ∷ t) (tuples xs n)) xs

-- the coordinates of cells of dimension n, ascending
unfoldable pub cell_coords : ℕ → List ℤ
cell_coords n = ints (neg_ℤ (pos (limit n))) (2 * limit n)

-- the coordinates of points of dimension n, ascending
unfoldable pub point_coords : ℕ → List ℤ
point_coords n = ints (neg_ℤ (pos (limit n))) (2 * limit n + 1)

-- all cells of dimension n, ascending. It is folded, so that no proof computes it
unfoldable pub every_cell : ℕ → List (List ℤ)
every_cell n = tuples (cell_coords n) n

-- all points of dimension n, ascending, and folded likewise
unfoldable pub every_point : ℕ → List (List ℤ)
every_point n = tuples (point_coords n) n

-- the ascending list of the cells of dimension n that pass a test
abbrev pub cells_where : ℕ → (List ℤ → Bool) → List (List ℤ)
cells_where n test = filter test (every_cell n)

-- the ascending list of the points of dimension n that pass a test
abbrev pub points_where : ℕ → (List ℤ → Bool) → List (List ℤ)
points_where n test = filter test (every_point n)

-- a cell set of dimension n: a finite ascending list of cells (this project's own)
pub record IsCellSet (n : ℕ) (S : List (List ℤ)) : Type 0 where
  pub ascends : ascending S ≡ true
  pub cells : list_all (is_cell n) S ≡ true
