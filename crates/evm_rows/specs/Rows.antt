-- Rows of whole numbers in a flat list, and their exclusive or
use Rattle.std.specs.Prelude.{◌≡◌, ℕ, ◌-◌, ◌%◌, ◌<◌, ◌≤◌, suc, zero, Bool, true, ◌&&◌, ℤ, Option, Some, None, List, [], ◌∷◌, ◌++◌, map, length, take, drop, ◌||◌, not, false}
use Rattle.std.specs.declared.cmp.Ordering.{Ordering}
use Rattle.std.specs.declared.cmp.Ordering.TheVariants.{Less, Equal, Greater}
use Rattle.std.specs.Ordering.{int_cmp, is_lt, is_eq}
use Rattle.std.specs.Cmp.Lexicographic.{slice_cmp}
use Rattle.evm_cells.specs.Booleans.{combine, xor}
use Rattle.evm_cells.specs.Vertices.{evm, cells, IsVertexList}

-- the rows of a flat list from the place after the next `wait` numbers on: each run of `width` numbers without its first `skip`
abbrev pub rows_after : ℕ → ℕ → ℕ → List ℤ → List (List ℤ)
rows_after width skip wait [] = []
rows_after width skip zero (x ∷ xs) = drop skip (take width (x ∷ xs)) ∷ rows_after width skip (width - 1) xs
rows_after width skip (suc wait) (x ∷ xs) = rows_after width skip wait xs

-- the rows of a flat list: each run of `width` numbers without its first `skip`
unfoldable pub rows_of : List ℤ → ℕ → ℕ → List (List ℤ)
rows_of flat width skip = rows_after width skip 0 flat

-- the numbers of rows, one row after another
abbrev pub flat_of : List (List ℤ) → List ℤ
flat_of [] = []
flat_of (r ∷ rs) = r ++ flat_of rs

-- the rows of a couplet at a height, with the height before each; the rows as they are where there is none
abbrev pub raised : Option ℤ → List (List ℤ) → List (List ℤ)
raised None rs = rs
raised (Some h) rs = map (λ r. h ∷ r) rs

-- the order of rows
abbrev pub row_cmp : List ℤ → List ℤ → Ordering
row_cmp = slice_cmp int_cmp

-- x is below the first of the rows, if there is one
abbrev pub is_below_first : List ℤ → List (List ℤ) → Bool
is_below_first x [] = true
is_below_first x (y ∷ ys) = is_lt (row_cmp x y)

-- each row is below the next
abbrev pub ascends : List (List ℤ) → Bool
ascends [] = true
ascends (x ∷ xs) = is_below_first x xs && ascends xs

-- one of three, by an order
abbrev pub by_order : {A : Type 0} → Ordering → A → A → A → A
by_order Less a b c = a
by_order Equal a b c = b
by_order Greater a b c = c

-- the row x and then xs, merged with ys without the rows that both have; `rest` merges xs
abbrev pub merge_row : List ℤ → List (List ℤ) → (List (List ℤ) → List (List ℤ)) → List (List ℤ) → List (List ℤ)
merge_row x xs rest [] = x ∷ xs
merge_row x xs rest (y ∷ ys) =
    by_order (row_cmp x y) (x ∷ rest (y ∷ ys)) (rest ys) (y ∷ merge_row x xs rest ys)

-- the exclusive or of two ascending lists of rows, ascending
unfoldable pub merge_xor : List (List ℤ) → List (List ℤ) → List (List ℤ)
merge_xor [] ys = ys
merge_xor (x ∷ xs) ys = merge_row x xs (merge_xor xs) ys

-- what a clause sees of a solid or a view of rows
pub record Vertices : Type 0 where
  pub dim : ℕ
  pub rows : List (List ℤ)

-- the cells that vertices stand for
abbrev pub cells_of : Vertices → List (List ℤ)
cells_of v = cells v.dim v.rows

-- the vertices of a solid: a vertex list of dimension 1 to 6
pub record IsSolid (v : Vertices) : Type 0 where
  pub low : 0 < v.dim
  pub high : v.dim ≤ 6
  pub vertices : IsVertexList v.dim v.rows

-- a flat list has whole rows of 1 to 6 numbers that are left after the skip, and they are a vertex list
pub record AreRows (flat : List ℤ) (width skip : ℕ) : Type 0 where
  pub narrow : width ≤ 6
  pub left : skip < width
  pub whole : length flat % width ≡ 0
  pub vertices : IsVertexList (width - skip) (rows_of flat width skip)

-- the vertices of two vertex lists' cells, combined cell by cell
unfoldable pub combined_rows : (Bool → Bool → Bool) → ℕ → List (List ℤ) → List (List ℤ) → List (List ℤ)
combined_rows op n V W = evm n (combine op n (cells n V) (cells n W))

-- the vertices of the exclusive or of two vertex lists' cells
unfoldable pub xor_rows : ℕ → List (List ℤ) → List (List ℤ) → List (List ℤ)
xor_rows n V W = combined_rows xor n V W

-- whether a row is among rows
abbrev pub has_row : List ℤ → List (List ℤ) → Bool
has_row r [] = false
has_row r (x ∷ xs) = is_eq (row_cmp r x) || has_row r xs

-- one of the two, and not both
abbrev pub differ : Bool → Bool → Bool
differ true q = not q
differ false q = q
