-- Solids, cut in two by a plane.
use Rattle.std.specs.Prelude.{◌≡◌, ℕ, ℤ}
use Rattle.evm_rows.specs.Rows.{Vertices, cells_of}
use Rattle.evm_cutting.specs.Cuts.{cells_under, cells_over, IsBetween}
use Rattle.evm_cutting.specs.declared.halves.Split.{Split}
use Rattle.evm_cutting.specs.declared.booleans.Pair.{Pair}

-- the two sides of a plane
pub record IsSplit (v : Vertices) (s : Split) : Type 0 where
  pub between : IsBetween v.dim s.axis s.at
  pub low_dim : s.low.dim ≡ v.dim
  pub high_dim : s.high.dim ≡ v.dim
  pub low_cells : cells_of s.low ≡ cells_under s.axis s.at v
  pub high_cells : cells_of s.high ≡ cells_over s.axis s.at v

-- the two sides of this plane
pub record IsSplitAt (v : Vertices) (axis : ℕ) (at : ℤ) (s : Split) : Type 0 where
  pub split : IsSplit v s
  pub axis_is : s.axis ≡ axis
  pub at_is : s.at ≡ at

-- the two sides that one plane has of two solids
pub record AreSplit (v w : Vertices) (p : Pair) : Type 0 where
  pub left : IsSplit v p.left
  pub right : IsSplit w p.right
  pub same_axis : p.right.axis ≡ p.left.axis
  pub same_at : p.right.at ≡ p.left.at
