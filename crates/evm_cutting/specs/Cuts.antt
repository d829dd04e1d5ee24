-- The two sides of a plane.
use Rattle.std.specs.Prelude.{ℕ, ◌<◌, ◌<ℤ◌, ℤ, pos, neg_ℤ, List, filter}
use Rattle.evm_cells.specs.Limits.{limit}
use Rattle.evm_cells.specs.Windows.{is_under, is_over}
use Rattle.evm_rows.specs.Rows.{Vertices, cells_of}

-- the cells of a solid below a height of an axis, and those above
abbrev pub cells_under : ℕ → ℤ → Vertices → List (List ℤ)
cells_under axis at v = filter (is_under axis at) (cells_of v)

abbrev pub cells_over : ℕ → ℤ → Vertices → List (List ℤ)
cells_over axis at v = filter (is_over axis at) (cells_of v)

-- a plane across an axis that dimension n has, strictly within the limits
pub record IsBetween (n i : ℕ) (at : ℤ) : Type 0 where
  pub axis : i < n
  pub low : neg_ℤ (pos (limit n)) <ℤ at
  pub high : at <ℤ pos (limit n)
