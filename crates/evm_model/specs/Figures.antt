-- Figures: the solids of a scene, each a cell set with its dimension.
use Rattle.std.specs.Prelude.{ℕ, ◌+◌, ◌-◌, ◌==◌, Bool, ◌&&◌, if◌then◌else◌, ℤ, List, [], length, map, take, drop}
use Rattle.std.specs.List.{list_all}
use Rattle.evm_cells.specs.Places.{has}
use Rattle.evm_cells.specs.Booleans.{or_cells, and_cells, sub_cells, xor_cells}
use Rattle.evm_cells.specs.Vertices.{evm}
use Rattle.evm_cells.specs.Boxes.{box_cells, is_box}
use Rattle.evm_cells.specs.Sections.{slice, cuts, rising, falling}
use Rattle.evm_cells.specs.Parts.{parts}
use Rattle.evm_cells.specs.Shapes.{shift, shift_fits, mirror, swap_axes, clip, proj, lift, lift_fits}
use Rattle.evm_cells.specs.Measures.{content, boundary, is_inside, is_outside}

-- a dimension, and cells of it in ascending order
pub record Figure : Type 0 where
  pub dim : ℕ
  pub cells : List (List ℤ)

-- no cell
unfoldable pub nothing : ℕ → Figure
nothing n = record { dim = n; cells = [] }

-- the cells from the corner lo up to, but not at, hi on each axis
unfoldable pub box_of : List ℤ → List ℤ → Figure
box_of lo hi = record { dim = length lo; cells = box_cells (length lo) lo hi }

-- the lower corner that 2n numbers state
abbrev pub low_of : ℕ → List ℤ → List ℤ
low_of n nums = take n nums

-- the upper corner
abbrev pub high_of : ℕ → List ℤ → List ℤ
high_of n nums = drop n nums

-- the box between them
abbrev pub box_at : ℕ → List ℤ → Figure
box_at n nums = box_of (low_of n nums) (high_of n nums)

-- the two corners are in the limits, and the box has room on each axis
unfoldable pub box_fits : List ℤ → List ℤ → Bool
box_fits lo hi = is_box (length lo) lo hi

-- the cells of just one of two figures
unfoldable pub xor_of : Figure → Figure → Figure
xor_of a b = record { dim = a.dim; cells = xor_cells a.dim a.cells b.cells }

-- the cells of either
unfoldable pub or_of : Figure → Figure → Figure
or_of a b = record { dim = a.dim; cells = or_cells a.dim a.cells b.cells }

-- the cells of both
unfoldable pub and_of : Figure → Figure → Figure
and_of a b = record { dim = a.dim; cells = and_cells a.dim a.cells b.cells }

-- the cells of the first that are not of the second
unfoldable pub sub_of : Figure → Figure → Figure
sub_of a b = record { dim = a.dim; cells = sub_cells a.dim a.cells b.cells }

-- each cell moved by these numbers, one an axis; a place that is no cell is left out
unfoldable pub shift_of : List ℤ → Figure → Figure
shift_of by a = record { dim = a.dim; cells = shift a.dim by a.cells }

-- each moved cell is a cell
unfoldable pub shift_stays : List ℤ → Figure → Bool
shift_stays by a = shift_fits a.dim by a.cells

-- the mirror image across an axis; here and below axes are counted from 1
unfoldable pub mirror_of : ℕ → Figure → Figure
mirror_of axis a = record { dim = a.dim; cells = mirror a.dim (axis - 1) a.cells }

-- with two axes exchanged
unfoldable pub swap_of : ℕ → ℕ → Figure → Figure
swap_of i j a = record { dim = a.dim; cells = swap_axes a.dim (i - 1) (j - 1) a.cells }

-- the cells in the box between the corners that the numbers state
unfoldable pub clip_of : List ℤ → Figure → Figure
clip_of nums a = record { dim = a.dim; cells = clip a.dim (low_of a.dim nums) (high_of a.dim nums) a.cells }

-- the cells at a height on an axis, without that coordinate
unfoldable pub slice_of : ℕ → ℤ → Figure → Figure
slice_of axis at a = record { dim = a.dim - 1; cells = slice (a.dim - 1) (axis - 1) at a.cells }

-- the cells without their coordinate on an axis
unfoldable pub proj_of : ℕ → Figure → Figure
proj_of axis a = record { dim = a.dim - 1; cells = proj (a.dim - 1) (axis - 1) a.cells }

-- the cells with each height from lo up to, but not at, hi put in at an axis
unfoldable pub lift_of : ℕ → ℤ → ℤ → Figure → Figure
lift_of axis lo hi a = record { dim = a.dim + 1; cells = lift (a.dim + 1) (axis - 1) lo hi a.cells }

-- each place that it makes is a cell
unfoldable pub lift_stays : ℕ → ℤ → ℤ → Figure → Bool
lift_stays axis lo hi a = lift_fits (a.dim + 1) (axis - 1) lo hi a.cells

-- the extreme vertices, ascending
unfoldable pub vertices_in : Figure → List (List ℤ)
vertices_in a = evm a.dim a.cells

-- equal dimensions and the same cells
unfoldable pub same_figure : Figure → Figure → Bool
same_figure a b = a.dim == b.dim && list_all (has b.cells) a.cells && list_all (has a.cells) b.cells

-- the number of cells
unfoldable pub content_of : Figure → ℕ
content_of a = content a.cells

-- the number of pairs of neighbouring places of which just one is a cell
unfoldable pub boundary_of : Figure → ℕ
boundary_of a = boundary a.dim a.cells

-- the parts, each a figure of its own, ascending by their least cells: two cells are in one part where a chain of cells that share
-- faces leads from one to the other
unfoldable pub parts_of : Figure → List Figure
parts_of a = map (λ c. record { dim = a.dim; cells = c }) (parts a.cells)

-- the faces at a cut of an axis: its height, the content of what rises there, and of what falls there
pub record CutFaces : Type 0 where
  pub at : ℤ
  pub rises : ℕ
  pub falls : ℕ

-- those at a height
abbrev pub faces_at : ℕ → Figure → ℤ → CutFaces
faces_at axis a h = record {
  at = h;
  rises = content (rising (a.dim - 1) (axis - 1) h a.cells);
  falls = content (falling (a.dim - 1) (axis - 1) h a.cells);
}

-- those at each cut of the axis, ascending
unfoldable pub faces_of : ℕ → Figure → List CutFaces
faces_of axis a = map (faces_at axis a) (cuts (a.dim - 1) (axis - 1) a.cells)

-- whether a place is one of the cells
unfoldable pub fills : Figure → List ℤ → Bool
fills a cell = has a.cells cell

-- where a point stands: all cells round it are filled, or some, or none
pub data Place : Type 0 where
  Inside : Place
  Boundary : Place
  Outside : Place

-- the place of a point in a figure
unfoldable pub place_of : Figure → List ℤ → Place
place_of a point =
    if is_inside a.dim a.cells point then Inside else if is_outside a.cells point then Outside else Boundary
