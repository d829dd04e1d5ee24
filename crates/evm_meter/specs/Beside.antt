-- For the tests: a square of 2 x 2 cells in the plane, to which the cell beside its low right corner comes.
use Rattle.std.specs.Prelude.{◌≡◌, ℤ, pos, List, [], ◌∷◌}
use Rattle.evm_cells.specs.Booleans.{xor_cells}
use Rattle.evm_cells.specs.Boxes.{box_cells}
use Rattle.evm_cells.specs.Vertices.{cells}
use Rattle.evm_rows.specs.Rows.{Vertices}

-- the cells of the plane from the one place up to, but not at, the other
abbrev pub plane_box : ℤ → ℤ → ℤ → ℤ → List (List ℤ)
plane_box a b a' b' = box_cells 2 (a ∷ b ∷ []) (a' ∷ b' ∷ [])

-- vertices of the plane that stand for these cells
abbrev pub Shows : Vertices → List (List ℤ) → Type 0
Shows v S = (v.dim ≡ 2) × (cells v.dim v.rows ≡ S)

-- the square
abbrev pub square : List (List ℤ)
square = plane_box (pos 0) (pos 0) (pos 2) (pos 2)

-- what the square has within 1 of the cell: its right half
abbrev pub half : List (List ℤ)
half = plane_box (pos 1) (pos 0) (pos 2) (pos 2)

-- the cell that comes
abbrev pub comer : List (List ℤ)
comer = plane_box (pos 2) (pos 0) (pos 3) (pos 1)

-- the square before the change; and the change in the box of the places within 1 of the cell
pub record IsBeside (whole before gained lost after : Vertices) : Type 0 where
  pub whole_is : Shows whole square
  pub before_is : Shows before half
  pub gained_is : Shows gained comer
  pub lost_is : Shows lost []
  pub after_is : Shows after (xor_cells 2 half comer)
