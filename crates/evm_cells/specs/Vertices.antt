-- Extreme vertices, and the two ways between a cell set and its extreme vertices.
use Rattle.std.specs.Prelude.{◌≡◌, ℕ, ◌%◌, ◌<◌, Bool, true, false, ◌||◌, ◌==◌, ℤ, pos, ◌-ℤ◌, int_le, List, count_by}
use Rattle.std.specs.List.{list_all}
use Rattle.std.specs.Ordering.{int_eq}
use Rattle.evm_cells.specs.Places.{each, same, ascending, without}
use Rattle.evm_cells.specs.Limits.{is_point, cells_where, points_where}

-- the number is odd
unfoldable pub odd : ℕ → Bool
odd n = n % 2 == 1

-- on one axis: the unit interval that begins at c has p as an end, so c is p or one less
unfoldable pub touch : ℤ → ℤ → Bool
touch c p = int_eq c (p -ℤ pos 1) || int_eq c p

-- the cell c touches the point p: on each axis c is p or one less, so p is a corner of the cube of c (this project's own)
unfoldable pub touches : List ℤ → List ℤ → Bool
touches p c = each touch c p

-- how many cells of S have the point p as a corner
unfoldable pub around : List (List ℤ) → List ℤ → ℕ
around S p = count_by (touches p) S

-- the extreme vertices of S: the points round which an odd number of cells of S stand (after Aguilera and Ayala 1997, and
-- Pérez-Aguila for n dimensions; the counting of cells is this project's own wording)
unfoldable pub evm : ℕ → List (List ℤ) → List (List ℤ)
evm n S = points_where n (λ p. odd (around S p))

-- the point p is below the cell c: no coordinate of p is above that of c (this project's own)
unfoldable pub below : List ℤ → List ℤ → Bool
below c p = each int_le p c

-- the cells of a vertex list: those that an odd number of its points are below (this project's own)
unfoldable pub cells : ℕ → List (List ℤ) → List (List ℤ)
cells n V = cells_where n (λ c. odd (count_by (below c) V))

-- each line parallel to an axis i, given by the other coordinates, holds an even number of points of V (Aguilera and Ayala 1997)
abbrev pub IsEven : ℕ → List (List ℤ) → Type 0
IsEven n V = (i : ℕ) (line : List ℤ) → i < n → odd (count_by (λ p. same (without i p) line) V) ≡ false

-- a vertex list of dimension n: an ascending list of points that is even (this project's own)
pub record IsVertexList (n : ℕ) (V : List (List ℤ)) : Type 0 where
  pub ascends : ascending V ≡ true
  pub points : list_all (is_point n) V ≡ true
  pub even : IsEven n V
