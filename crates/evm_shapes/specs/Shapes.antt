-- The shapes of a solid or of a view of one, by what its vertices stand for. Axes are counted from 1 here.
use Rattle.std.specs.Prelude.{ℕ, ◌+◌, ◌-◌, Bool, ℤ, List}
use Rattle.evm_cells.specs.Sections.{slice}
use Rattle.evm_cells.specs.Shapes.{shift, shift_fits, mirror, swap_axes, front, clip, proj, lift, lift_fits}
use Rattle.evm_rows.specs.Rows.{Vertices, cells_of}

-- the cells moved by d
abbrev pub shifted_cells : List ℤ → Vertices → List (List ℤ)
shifted_cells d a = shift a.dim d (cells_of a)

-- each cell moved by d is a cell
abbrev pub is_shift_in_range : List ℤ → Vertices → Bool
is_shift_in_range d a = shift_fits a.dim d (cells_of a)

-- the mirror image
abbrev pub mirrored_cells : ℕ → Vertices → List (List ℤ)
mirrored_cells axis a = mirror a.dim (axis - 1) (cells_of a)

-- the cells with two axes exchanged
abbrev pub swapped_cells : ℕ → ℕ → Vertices → List (List ℤ)
swapped_cells i j a = swap_axes a.dim (i - 1) (j - 1) (cells_of a)

-- the cells with an axis put first
abbrev pub fronted_cells : ℕ → Vertices → List (List ℤ)
fronted_cells axis a = front a.dim (axis - 1) (cells_of a)

-- the cells in a box
abbrev pub clipped_cells : List ℤ → List ℤ → Vertices → List (List ℤ)
clipped_cells lo hi a = clip a.dim lo hi (cells_of a)

-- the section at a height
abbrev pub sliced_cells : ℕ → ℤ → Vertices → List (List ℤ)
sliced_cells axis at a = slice (a.dim - 1) (axis - 1) at (cells_of a)

-- the projection
abbrev pub projected_cells : ℕ → Vertices → List (List ℤ)
projected_cells axis a = proj (a.dim - 1) (axis - 1) (cells_of a)

-- the prism along a new axis
abbrev pub lifted_cells : ℕ → ℤ → ℤ → Vertices → List (List ℤ)
lifted_cells axis lo hi a = lift (a.dim + 1) (axis - 1) lo hi (cells_of a)

-- each place of the prism is a cell
abbrev pub is_lift_in_range : ℕ → ℤ → ℤ → Vertices → Bool
is_lift_in_range axis lo hi a = lift_fits (a.dim + 1) (axis - 1) lo hi (cells_of a)
