-- Shapes of cell sets, cell by cell, and the moves of points that go with them. The number n is the dimension of the result;
-- axes are counted from 0.
use Rattle.std.specs.Prelude.{ℕ, zero, suc, ◌*◌, Bool, ◌&&◌, ◌==◌, ℤ, pos, negsuc, neg_ℤ, ◌+ℤ◌, ◌-ℤ◌, int_le, int_lt, List, [], ◌∷◌, length, map, filter, get_or, swap, nat_abs}
use Rattle.std.specs.List.{list_any, list_all}
use Rattle.evm_cells.specs.Places.{has, same, without, with_at}
use Rattle.evm_cells.specs.Limits.{cells_where, is_cell, ints, limit}
use Rattle.evm_cells.specs.Booleans.{and_cells}
use Rattle.evm_cells.specs.Boxes.{box_cells}

-- the place c moved by d, coordinate by coordinate
unfoldable pub added : List ℤ → List ℤ → List ℤ
added [] c = []
added (a ∷ d) [] = []
added (a ∷ d) (x ∷ c) = (x +ℤ a) ∷ added d c

-- a shift of dimension n: n numbers, each at most twice the limit in size
unfoldable pub is_shift : ℕ → List ℤ → Bool
is_shift n d = length d == n && list_all (λ a. int_le (neg_ℤ (pos (2 * limit n))) a && int_le a (pos (2 * limit n))) d

-- the shift of S by d: the places c + d of its cells c that are cells (this project's own)
unfoldable pub shift : ℕ → List ℤ → List (List ℤ) → List (List ℤ)
shift n d S = filter (is_cell n) (map (added d) S)

-- the shift is in range: each place c + d is a cell
unfoldable pub shift_fits : ℕ → List ℤ → List (List ℤ) → Bool
shift_fits n d S = list_all (λ c. is_cell n (added d c)) S

-- the cell on the other side of the hyperplane through the origin across axis i: its coordinate x there becomes -1 - x
unfoldable pub mirrored : ℕ → List ℤ → List ℤ
mirrored i [] = []
mirrored zero (x ∷ c) = (negsuc 0 -ℤ x) ∷ c
mirrored (suc i) (x ∷ c) = x ∷ mirrored i c

-- the mirror image of S across axis i (this project's own)
unfoldable pub mirror : ℕ → ℕ → List (List ℤ) → List (List ℤ)
mirror n i S = cells_where n (λ c. has S (mirrored i c))

-- the point on the other side of that hyperplane: its coordinate x there becomes -x
unfoldable pub negated : ℕ → List ℤ → List ℤ
negated i [] = []
negated zero (x ∷ p) = neg_ℤ x ∷ p
negated (suc i) (x ∷ p) = x ∷ negated i p

-- S with the axes i and j exchanged (this project's own)
unfoldable pub swap_axes : ℕ → ℕ → ℕ → List (List ℤ) → List (List ℤ)
swap_axes n i j S = cells_where n (λ c. has S (swap c i j))

-- the cells of S in the box from lo up to, but not at, hi on each axis (this project's own)
unfoldable pub clip : ℕ → List ℤ → List ℤ → List (List ℤ) → List (List ℤ)
clip n lo hi S = and_cells n S (box_cells n lo hi)

-- the projection along axis i: the cells that are some cell of S without its coordinate there (this project's own)
unfoldable pub proj : ℕ → ℕ → List (List ℤ) → List (List ℤ)
proj n i S = cells_where n (λ c. list_any (λ s. same (without i s) c) S)

-- the prism over S: the cells that are a cell of S with some height from lo up to, but not at, hi put in at axis i (this project's own).
-- Places past the limit of dimension n are left out
unfoldable pub lift : ℕ → ℕ → ℤ → ℤ → List (List ℤ) → List (List ℤ)
lift n i lo hi S = cells_where n (λ c. has S (without i c) && (int_le lo (get_or c i (pos 0)) && int_lt (get_or c i (pos 0)) hi))

-- the prism is in range: each cell of S with each of these heights put in is a cell of dimension n
unfoldable pub lift_fits : ℕ → ℕ → ℤ → ℤ → List (List ℤ) → Bool
lift_fits n i lo hi S = list_all (λ c. list_all (λ k. is_cell n (with_at i k c)) (ints lo (nat_abs (hi -ℤ lo)))) S

-- a place with its coordinate on axis i put first
unfoldable pub fronted : ℕ → List ℤ → List ℤ
fronted i c = get_or c i (pos 0) ∷ without i c

-- a place with its first coordinate put at axis i
unfoldable pub unfronted : ℕ → List ℤ → List ℤ
unfronted i [] = []
unfronted i (k ∷ c) = with_at i k c

-- S with axis i put first
unfoldable pub front : ℕ → ℕ → List (List ℤ) → List (List ℤ)
front n i S = cells_where n (λ c. has S (unfronted i c))
