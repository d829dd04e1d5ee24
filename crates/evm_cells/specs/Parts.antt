-- Parts: what hangs together by faces.
use Rattle.std.specs.Prelude.{ℕ, zero, suc, Bool, true, false, ◌&&◌, ◌||◌, ℤ, pos, ◌+ℤ◌, List, [], ◌∷◌, map, filter, length}
use Rattle.std.specs.List.{list_any}
use Rattle.std.specs.Ordering.{int_eq}
use Rattle.evm_cells.specs.Places.{has, same}

-- one number follows the other
abbrev pub are_next : ℤ → ℤ → Bool
are_next x y = int_eq (x +ℤ pos 1) y || int_eq (y +ℤ pos 1) x

-- two cells share a face: on one axis their numbers are neighbours, and on the others they are the same
unfoldable pub share_face : List ℤ → List ℤ → Bool
share_face [] ys = false
share_face (x ∷ xs) [] = false
share_face (x ∷ xs) (y ∷ ys) = (are_next x y && same xs ys) || (int_eq x y && share_face xs ys)

-- the cells of S that are there already, or share a face with one that is
unfoldable pub spread : List (List ℤ) → List (List ℤ) → List (List ℤ)
spread S there = filter (λ c. has there c || list_any (share_face c) there) S

-- what is there after so many rounds
unfoldable pub spread_rounds : ℕ → List (List ℤ) → List (List ℤ) → List (List ℤ)
spread_rounds zero S there = there
spread_rounds (suc k) S there = spread_rounds k S (spread S there)

-- the part of S that holds the cell c: all that is reached from c over cells of S that share a face. Each round but the last adds a
-- cell, so as many rounds as S has cells reach all (this project's own)
unfoldable pub flood : List (List ℤ) → List ℤ → List (List ℤ)
flood S c = spread_rounds (length S) S (c ∷ [])

-- c is the first of the cells
unfoldable pub begins_with : List ℤ → List (List ℤ) → Bool
begins_with c [] = false
begins_with c (d ∷ ds) = same c d

-- the parts of a cell set, each once, ascending by their least cells: the floods of those cells that come first in their own
unfoldable pub parts : List (List ℤ) → List (List (List ℤ))
parts S = map (flood S) (filter (λ c. begins_with c (flood S c)) S)
