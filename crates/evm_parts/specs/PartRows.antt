-- The rows of the boxes of each label.
use Rattle.std.specs.Prelude.{◌≡◌, ◌≢◌, ℕ, ◌<◌, ◌≤◌, ℤ, Option, Some, List, [], ◌∷◌, ◌++◌, map, flat_map, length, count_by, slice_index_or}
use Rattle.std.specs.Global.{Vec}
use Rattle.evm_cells.specs.Places.{has}
use Rattle.evm_cells.specs.Boxes.{box_cells}
use Rattle.evm_cells.specs.Unions.{Ends, union_of}
use Rattle.evm_cells.specs.Vertices.{evm}
use Rattle.evm_rows.specs.Rows.{AreRows, flat_of, rows_of}
use Rattle.evm_parts.specs.Labels.{labelled, roots}

-- the cells of a box
abbrev pub cells_in : ℕ → Ends → List (List ℤ)
cells_in n b = box_cells n b.lo b.hi

-- the extreme vertices of each box of a list, one box after another: a row may stand in several
abbrev pub rows_of_boxes : ℕ → List Ends → List (List ℤ)
rows_of_boxes n boxes = flat_map (λ b. evm n (cells_in n b)) boxes

-- no cell stands in two of the boxes
pub record AreApart (n : ℕ) (boxes : List Ends) : Type 0 where
  pub once : (c : List ℤ) → count_by (λ b. has (cells_in n b) c) boxes ≤ 1

-- the numbers in the list i
abbrev pub numbers_in : List (Vec ℤ) → ℕ → List ℤ
numbers_in lists i = slice_index_or (map (λ v. v.items) lists) i []

-- the list of each label but the main one has the rows of the boxes of the label; no more lists are there
pub record AreGathered (n : ℕ) (boxes : List Ends) (labels : List ℕ) (main : Option ℕ) (lists : List (Vec ℤ)) : Type 0 where
  pub many : length lists ≡ length labels
  pub rows : (root : ℕ) → root < length labels → main ≢ Some root
      → numbers_in lists root ≡ flat_of (rows_of_boxes n (labelled root labels boxes))

-- the extreme vertices of the union of the boxes of one label
abbrev pub part_at : ℕ → List Ends → List ℕ → ℕ → List (List ℤ)
part_at n boxes labels root = evm n (union_of n (labelled root labels boxes))

-- the same for each box that is its own label, in order
abbrev pub parts_at : ℕ → List Ends → List ℕ → List (List (List ℤ))
parts_at n boxes labels = map (part_at n boxes labels) (roots labels)

-- the numbers are the extreme vertices of the union of the boxes
pub record IsUnion (n : ℕ) (boxes : List Ends) (flat : List ℤ) : Type 0 where
  pub are_rows : AreRows flat n 0
  pub rows : rows_of flat n 0 ≡ evm n (union_of n boxes)

-- the numbers of a part were appended, and where they end
pub record IsPartAppended (part flat new : List ℤ) (ends later : List ℕ) : Type 0 where
  pub numbers : new ≡ flat ++ part
  pub end : later ≡ ends ++ length new ∷ []
