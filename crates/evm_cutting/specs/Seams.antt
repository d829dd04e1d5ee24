-- Where the two sides of a plane meet.
use Rattle.std.specs.Prelude.{ℕ, ◌-◌, ℤ, List}
use Rattle.evm_cells.specs.Booleans.{and_cells}
use Rattle.evm_cells.specs.Sections.{couplet}
use Rattle.evm_rows.specs.Rows.{Vertices, cells_of}

-- the couplet of a solid at a height of an axis, counted from 0
abbrev pub couplet_cells : ℕ → ℤ → Vertices → List (List ℤ)
couplet_cells axis at v = couplet (v.dim - 1) axis at (cells_of v)

-- what two solids share of their couplets at a height
abbrev pub shared_cells : ℕ → ℤ → Vertices → Vertices → List (List ℤ)
shared_cells axis at v w = and_cells (v.dim - 1) (couplet_cells axis at v) (couplet_cells axis at w)
