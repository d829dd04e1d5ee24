-- Shapes of one solid, and the change of a shape where the solid changes.
--     Axes are counted from 1 here, as in scripts. A solid A that changes by DA becomes A xor DA.
use Rattle.std.specs.Prelude.{◌≡◌, ℕ, ◌+◌, ◌-◌, ◌*◌, ◌<◌, ◌≤◌, Bool, true, ℤ, pos, neg_ℤ, ◌≤ℤ◌, ◌<ℤ◌, List, length, take, drop}
use Rattle.evm_cells.specs.Limits.{limit, is_cell_coord}
use Rattle.evm_cells.specs.Booleans.{xor_cells}
use Rattle.evm_cells.specs.Boxes.{is_box}
use Rattle.evm_cells.specs.Sections.{slice}
use Rattle.evm_cells.specs.Shapes.{is_shift, shift, shift_fits, mirror, swap_axes, clip, proj, lift, lift_fits}
use Rattle.evm_cells.specs.Vertices.{evm}
use Rattle.evm_rows.specs.Rows.{Vertices, cells_of}
use Rattle.evm_shapes.specs.declared.shifts.ShapeError.{ShapeError}
use Rattle.evm_shapes.specs.declared.shifts.ShapeError.TheVariants as shapes
use Rattle.evm_delta.specs.declared.shapes.Op1.{Op1}
use Rattle.evm_delta.specs.declared.shapes.Op1.TheVariants.{Shift, Mirror, Swap, Clip, Slice, Proj, Lift}
use Rattle.evm_delta.specs.declared.shapes.DeltaError.{DeltaError}
use Rattle.evm_delta.specs.declared.shapes.DeltaError.TheVariants as errors

-- the shape may be made of a solid of dimension n
abbrev pub Fits : Op1 → ℕ → Type 0
Fits (Shift by) n = is_shift n by ≡ true
Fits (Mirror axis) n = (0 < axis) × (axis ≤ n)
Fits (Swap i j) n = (0 < i) × (i ≤ n) × (0 < j) × (j ≤ n)
Fits (Clip nums) n = (length nums ≡ 2 * n) × (is_box n (take n nums) (drop n nums) ≡ true)
Fits (Slice axis at) n = (2 ≤ n) × (0 < axis) × (axis ≤ n) × (is_cell_coord n at ≡ true)
Fits (Proj axis) n = (2 ≤ n) × (0 < axis) × (axis ≤ n)
Fits (Lift axis lo hi) n = (n ≤ 5) × (0 < axis) × (axis ≤ n + 1) × (neg_ℤ (pos (limit (n + 1))) ≤ℤ lo) × (lo <ℤ hi) × (hi ≤ℤ pos (limit (n + 1)))

-- the dimension of the shape of a solid of dimension n
abbrev pub op1_dim : Op1 → ℕ → ℕ
op1_dim (Shift by) n = n
op1_dim (Mirror axis) n = n
op1_dim (Swap i j) n = n
op1_dim (Clip nums) n = n
op1_dim (Slice axis at) n = n - 1
op1_dim (Proj axis) n = n - 1
op1_dim (Lift axis lo hi) n = n + 1

-- the cells of the shape of a cell set of dimension n
abbrev pub op1_cells : Op1 → ℕ → List (List ℤ) → List (List ℤ)
op1_cells (Shift by) n S = shift n by S
op1_cells (Mirror axis) n S = mirror n (axis - 1) S
op1_cells (Swap i j) n S = swap_axes n (i - 1) (j - 1) S
op1_cells (Clip nums) n S = clip n (take n nums) (drop n nums) S
op1_cells (Slice axis at) n S = slice (n - 1) (axis - 1) at S
op1_cells (Proj axis) n S = proj (n - 1) (axis - 1) S
op1_cells (Lift axis lo hi) n S = lift (n + 1) (axis - 1) lo hi S

-- no cell leaves the limits: only a shift and a lift can make one of a place that is no cell
abbrev pub in_range : Op1 → ℕ → List (List ℤ) → Bool
in_range (Shift by) n S = shift_fits n by S
in_range (Mirror axis) n S = true
in_range (Swap i j) n S = true
in_range (Clip nums) n S = true
in_range (Slice axis at) n S = true
in_range (Proj axis) n S = true
in_range (Lift axis lo hi) n S = lift_fits (n + 1) (axis - 1) lo hi S

-- the vertices of the shape of a solid
unfoldable pub shape_vertices : Op1 → Vertices → Vertices
shape_vertices op a = record { dim = op1_dim op a.dim; rows = evm (op1_dim op a.dim) (op1_cells op a.dim (cells_of a)) }

-- the shape before the solid changes
abbrev pub shape_before : Op1 → Vertices → List (List ℤ)
shape_before op a = op1_cells op a.dim (cells_of a)

-- the cells that the solid becomes
abbrev pub changed_cells : Vertices → Vertices → List (List ℤ)
changed_cells a da = xor_cells a.dim (cells_of a) (cells_of da)

-- the shape after, where a becomes a xor da
abbrev pub shape_after : Op1 → Vertices → Vertices → List (List ℤ)
shape_after op a da = op1_cells op a.dim (changed_cells a da)

-- the vertices of the cells of just one of the two
unfoldable pub shape_change : Op1 → Vertices → Vertices → Vertices
shape_change op a da =
    record { dim = op1_dim op a.dim; rows = evm (op1_dim op a.dim) (xor_cells (op1_dim op a.dim) (shape_before op a) (shape_after op a da)) }

-- the solid s is the exclusive or of the shape before and after
abbrev pub IsShapeChange : Op1 → Vertices → Vertices → Vertices → Type 0
IsShapeChange op a da s = cells_of s ≡ xor_cells s.dim (shape_before op a) (shape_after op a da)

-- the shape before, changed by s, is the shape after
abbrev pub CarriesShape : Op1 → Vertices → Vertices → Vertices → Type 0
CarriesShape op a da s = xor_cells s.dim (shape_before op a) (cells_of s) ≡ shape_after op a da

-- where a shape gives no solid
abbrev pub of_shape_error : ShapeError → DeltaError
of_shape_error shapes.Range = errors.Range
of_shape_error shapes.NoMemory = errors.NoMemory
