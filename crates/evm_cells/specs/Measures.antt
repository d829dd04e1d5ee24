-- Measures of a cell set, and the place of a point.
use Rattle.std.specs.Prelude.{ℕ, zero, suc, ◌+◌, ◌^◌, ◌==◌, Bool, not, ◌&&◌, ℤ, pos, negsuc, ◌+ℤ◌, ◌-ℤ◌, List, [], ◌∷◌, map, count_by, sum_by, length}
use Rattle.std.specs.List.{range_with_len}
use Rattle.evm_cells.specs.Places.{has}
use Rattle.evm_cells.specs.Vertices.{around, evm}
use Rattle.evm_cells.specs.Boxes.{corners}

-- the content: the number of cells, which is the area, the volume and so on
abbrev pub content : List (List ℤ) → ℕ
content S = length S

-- the number of extreme vertices
abbrev pub vertex_count : ℕ → List (List ℤ) → ℕ
vertex_count n S = length (evm n S)

-- a place moved by d along axis i
unfoldable pub moved : ℕ → ℤ → List ℤ → List ℤ
moved i d [] = []
moved zero d (x ∷ c) = (x +ℤ d) ∷ c
moved (suc i) d (x ∷ c) = x ∷ moved i d c

-- the number of cells of S whose neighbour at the distance d along axis i is not in S
unfoldable pub open_faces : ℕ → ℤ → List (List ℤ) → ℕ
open_faces i d S = count_by (λ c. not (has S (moved i d c))) S

-- the boundary content: the number of pairs of neighbouring places of which just one is in S, over all axes. Each such pair is
-- counted at its place in S, so places past the limits count as empty (this project's own)
unfoldable pub boundary : ℕ → List (List ℤ) → ℕ
boundary n S = sum_by (λ i. open_faces i (pos 1) S + open_faces i (negsuc 0) S) (range_with_len 0 n)

-- the 2 ^ n cells that touch a point, ascending
unfoldable pub neighbours : List ℤ → List (List ℤ)
neighbours p = corners (map (λ x. x -ℤ pos 1) p) p

-- a point is inside where all the 2 ^ n cells round it are filled (this project's own)
unfoldable pub is_inside : ℕ → List (List ℤ) → List ℤ → Bool
is_inside n S p = around S p == 2 ^ n

-- a point is outside where no cell round it is filled (this project's own)
unfoldable pub is_outside : List (List ℤ) → List ℤ → Bool
is_outside S p = around S p == 0

-- a point is on the boundary where it is neither inside nor outside (this project's own)
unfoldable pub is_on_boundary : ℕ → List (List ℤ) → List ℤ → Bool
is_on_boundary n S p = not (is_inside n S p) && not (is_outside S p)
