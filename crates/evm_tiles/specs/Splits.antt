-- Two solids, apart by a plane.
use Rattle.evm_cells.specs.Windows.{is_under, is_over}
use Rattle.std.specs.Prelude.{◌≡◌, ℤ, true}
use Rattle.std.specs.List.{list_all}
use Rattle.evm_rows.specs.Rows.{Vertices, cells_of}
use Rattle.evm_cutting.specs.Cuts.{IsBetween}

-- a height of the first axis with all cells of one solid below it, and all of another above
pub record IsApart (v w : Vertices) (at : ℤ) : Type 0 where
  pub between : IsBetween v.dim 0 at
  pub under : list_all (is_under 0 at) (cells_of v) ≡ true
  pub over : list_all (is_over 0 at) (cells_of w) ≡ true
