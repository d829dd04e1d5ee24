-- The union of many cell sets, and of boxes; and its laws.
use Rattle.std.specs.Prelude.{◌≡◌, ℕ, ◌&&◌, ℤ, List, ◌++◌, map}
use Rattle.std.specs.List.{list_any}
use Rattle.std.specs.List.Sorted.{IsPermutation}
use Rattle.evm_cells.specs.Places.{has}
use Rattle.evm_cells.specs.Limits.{is_cell, cells_where, IsCellSet}
use Rattle.evm_cells.specs.Booleans.{or_cells}
use Rattle.evm_cells.specs.Boxes.{box_cells}

-- the union of the cell sets of a list: the cells that stand in some of them (this project's own)
unfoldable pub or_all : ℕ → List (List (List ℤ)) → List (List ℤ)
or_all n As = cells_where n (λ c. list_any (λ A. has A c) As)

-- a box, by its two ends
pub record Ends : Type 0 where
  pub lo : List ℤ
  pub hi : List ℤ

-- the union of the cells of boxes of dimension n
unfoldable pub union_of : ℕ → List Ends → List (List ℤ)
union_of n boxes = or_all n (map (λ ends. box_cells n ends.lo ends.hi) boxes)

-- ---- laws

-- the union is a cell set
abbrev pub UnionIsCellSet : Type 0
UnionIsCellSet = (n : ℕ) (As : List (List (List ℤ))) → IsCellSet n (or_all n As)

-- a cell stands in the union exactly where it stands in some of the sets
abbrev pub UnionByCells : Type 0
UnionByCells = (n : ℕ) (As : List (List (List ℤ))) (c : List ℤ) → has (or_all n As) c ≡ (is_cell n c && list_any (λ A. has A c) As)

-- the union is the same in any order
abbrev pub UnionInAnyOrder : Type 0
UnionInAnyOrder = (n : ℕ) (As Bs : List (List (List ℤ))) → IsPermutation As Bs → or_all n Bs ≡ or_all n As

-- the union of two lists of sets is that of their unions
abbrev pub UnionOfUnions : Type 0
UnionOfUnions = (n : ℕ) (As Bs : List (List (List ℤ))) → or_cells n (or_all n As) (or_all n Bs) ≡ or_all n (As ++ Bs)
