-- The heights at which the section of a solid changes, and the two parts of its couplet there. Axes are counted from 1.
use Rattle.std.specs.Prelude.{ℕ, ◌-◌, ℤ, pos, List, map, get_or}
use Rattle.evm_cells.specs.Booleans.{sub_cells}
use Rattle.evm_cells.specs.Sections.{cuts, rising, falling}
use Rattle.evm_rows.specs.Rows.{Vertices, cells_of}
use Rattle.evm_shapes.specs.Shapes.{sliced_cells}

-- the cells of the section at one height that are not in the section at another
abbrev pub only_cells : ℕ → ℤ → ℤ → Vertices → List (List ℤ)
only_cells axis here there a =
    sub_cells (a.dim - 1) (sliced_cells axis here a) (sliced_cells axis there a)

-- what rises at a height: the cells just above it that are not just below it
abbrev pub rising_cells : ℕ → ℤ → Vertices → List (List ℤ)
rising_cells axis at a = rising (a.dim - 1) (axis - 1) at (cells_of a)

-- what falls at a height: the cells just below it that are not just above it
abbrev pub falling_cells : ℕ → ℤ → Vertices → List (List ℤ)
falling_cells axis at a = falling (a.dim - 1) (axis - 1) at (cells_of a)

-- the heights at which the sections just below and just above differ
abbrev pub cut_heights : ℕ → Vertices → List ℤ
cut_heights axis a = cuts (a.dim - 1) (axis - 1) (cells_of a)

-- the coordinates of rows on an axis, counted from 0
abbrev pub heights_on : ℕ → List (List ℤ) → List ℤ
heights_on i V = map (λ p. get_or p i (pos 0)) V
