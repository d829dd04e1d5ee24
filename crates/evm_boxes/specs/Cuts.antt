-- Boxes that a plane cuts.
use Rattle.std.specs.Prelude.{◌≡◌, ℕ, ◌<◌, Bool, ℤ, List, filter, length, map}
use Rattle.std.specs.List.{All}
use Rattle.evm_cells.specs.Booleans.{xor_cells}
use Rattle.evm_cells.specs.Unions.{union_of}
use Rattle.evm_cells.specs.Windows.{is_under, is_over}
use Rattle.evm_boxes.specs.BoxRows.{ends_of, IsBoxRow}
use Rattle.evm_boxes.specs.declared.BoxRow.{BoxRow}
use Rattle.evm_boxes.specs.declared.cut.Side.{Side}
use Rattle.evm_boxes.specs.declared.cut.Side.TheVariants.{Low, High}

-- whether a cell is on a side of the plane at a height of an axis, counted from 0
abbrev pub is_on : Side → ℕ → ℤ → List ℤ → Bool
is_on Low axis at = is_under axis at
is_on High axis at = is_over axis at

-- the kept rows are boxes of dimension n, and their union is what the union of the rows has of the cells that pass the test
pub record IsKept (n : ℕ) (test : List ℤ → Bool) (rows kept : List BoxRow) : Type 0 where
  pub boxes : All (IsBoxRow n) kept
  pub union : union_of n (map ends_of kept) ≡ filter test (union_of n (map ends_of rows))

-- two lists of boxes, each shorter than the rows, that together cover what the rows cover, and share no cell
pub record AreSides (n : ℕ) (rows low high : List BoxRow) : Type 0 where
  pub low_boxes : All (IsBoxRow n) low
  pub high_boxes : All (IsBoxRow n) high
  pub fewer_low : length low < length rows
  pub fewer_high : length high < length rows
  pub union : xor_cells n (union_of n (map ends_of low)) (union_of n (map ends_of high)) ≡ union_of n (map ends_of rows)
