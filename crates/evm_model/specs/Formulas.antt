-- What formulas are made of, a Boolean of two names, a box, or a shape of one name: its value, its dimension, and where its
-- numbers fit.
use Rattle.std.specs.Prelude.{ℕ, ◌+◌, ◌-◌, ◌*◌, ◌==◌, Bool, true, not, ◌&&◌, ℤ, pos, nat_abs, int_le, int_lt, List, [], ◌∷◌, length}
use Rattle.evm_cells.specs.Limits.{is_cell_coord, is_point_coord}
use Rattle.evm_cells.specs.Shapes.{is_shift}
use Rattle.evm_script.specs.declared.formula.Formula.{Formula}
use Rattle.evm_script.specs.declared.formula.Formula.TheVariants as formulas
use Rattle.evm_model.specs.Figures.{Figure, box_at, box_fits, low_of, high_of, or_of, and_of, sub_of, xor_of, shift_of, shift_stays, mirror_of, swap_of, clip_of, slice_of, proj_of, lift_of, lift_stays}

-- ---- Booleans

pub data Boolean : Type 0 where
  Or : Boolean
  And : Boolean
  Sub : Boolean
  Xor : Boolean

-- a Boolean of two figures
abbrev pub boolean_of : Boolean → Figure → Figure → Figure
boolean_of Or a b = or_of a b
boolean_of And a b = and_of a b
boolean_of Sub a b = sub_of a b
boolean_of Xor a b = xor_of a b

-- ---- shapes

-- a shape, with the numbers that a command states; axes are counted from 1
pub data Shape : Type 0 where
  Shift : List ℤ → Shape
  Mirror : ℤ → Shape
  Swap : ℤ → ℤ → Shape
  Clip : List ℤ → Shape
  Slice : ℤ → ℤ → Shape
  Proj : ℤ → Shape
  Lift : ℤ → ℤ → ℤ → Shape

-- a dimension that a named solid may have
abbrev pub is_dim : ℤ → Bool
is_dim n = int_le (pos 2) n && int_le n (pos 6)

-- an axis of a solid of this dimension
abbrev pub is_axis : ℕ → ℤ → Bool
is_axis n axis = int_le (pos 1) axis && int_le axis (pos n)

-- heights that a prism can run between
abbrev pub is_range : ℕ → ℤ → ℤ → Bool
is_range n lo hi = is_point_coord n lo && is_point_coord n hi && int_lt lo hi

-- the shape of a figure
abbrev pub shape_of : Shape → Figure → Figure
shape_of (Shift nums) a = shift_of nums a
shape_of (Mirror axis) a = mirror_of (nat_abs axis) a
shape_of (Swap i j) a = swap_of (nat_abs i) (nat_abs j) a
shape_of (Clip nums) a = clip_of nums a
shape_of (Slice axis at) a = slice_of (nat_abs axis) at a
shape_of (Proj axis) a = proj_of (nat_abs axis) a
shape_of (Lift axis lo hi) a = lift_of (nat_abs axis) lo hi a

-- whether a shape makes no place that is no cell; a shift and a lift alone can
abbrev pub shape_stays : Shape → Figure → Bool
shape_stays (Shift nums) a = shift_stays nums a
shape_stays (Lift axis lo hi) a = lift_stays (nat_abs axis) lo hi a
shape_stays _ a = true

-- the dimension of a shape of a figure of dimension n
abbrev pub shape_dim : Shape → ℕ → ℕ
shape_dim (Slice axis at) n = n - 1
shape_dim (Proj axis) n = n - 1
shape_dim (Lift axis lo hi) n = n + 1
shape_dim _ n = n

-- a shape states as many numbers and such axes as dimension n allows, and makes no solid of dimension 1 or 7
abbrev pub shape_fits : Shape → ℕ → Bool
shape_fits (Shift nums) n = length nums == n
shape_fits (Mirror axis) n = is_axis n axis
shape_fits (Swap i j) n = is_axis n i && is_axis n j
shape_fits (Clip nums) n = length nums == 2 * n
shape_fits (Slice axis at) n = not (n == 2) && is_axis n axis
shape_fits (Proj axis) n = not (n == 2) && is_axis n axis
shape_fits (Lift axis lo hi) n = not (n == 6) && is_axis (n + 1) axis

-- the numbers of a shape of a figure of dimension n are in their limits
abbrev pub shape_in_range : Shape → ℕ → Bool
shape_in_range (Shift nums) n = is_shift n nums
shape_in_range (Clip nums) n = box_fits (low_of n nums) (high_of n nums)
shape_in_range (Slice axis at) n = is_cell_coord n at
shape_in_range (Lift axis lo hi) n = is_range (n + 1) lo hi
shape_in_range _ n = true

-- ---- formulas

-- a Boolean of two names, the box of a dimension, or a shape of one name
pub data Parts : Type 0 where
  Both : Boolean → List ℕ → List ℕ → Parts
  Block : ℤ → List ℤ → Parts
  Shaped : Shape → List ℕ → Parts

-- what a formula is made of
abbrev pub parts_of : Formula → Parts
parts_of (formulas.Or a b) = Both Or a b
parts_of (formulas.And a b) = Both And a b
parts_of (formulas.Sub a b) = Both Sub a b
parts_of (formulas.Xor a b) = Both Xor a b
parts_of (formulas.Box dim nums) = Block dim nums
parts_of (formulas.Shift a nums) = Shaped (Shift nums) a
parts_of (formulas.Mirror a axis) = Shaped (Mirror axis) a
parts_of (formulas.Swap a i j) = Shaped (Swap i j) a
parts_of (formulas.Clip a nums) = Shaped (Clip nums) a
parts_of (formulas.Slice a axis at) = Shaped (Slice axis at) a
parts_of (formulas.Proj a axis) = Shaped (Proj axis) a
parts_of (formulas.Lift a axis lo hi) = Shaped (Lift axis lo hi) a

-- the names that it reads
abbrev pub parts_operands : Parts → List (List ℕ)
parts_operands (Both op a b) = a ∷ b ∷ []
parts_operands (Block dim nums) = []
parts_operands (Shaped shape a) = a ∷ []

-- its value, at the values of names
abbrev pub parts_value : Parts → (List ℕ → Figure) → Figure
parts_value (Both op a b) at = boolean_of op (at a) (at b)
parts_value (Block dim nums) at = box_at (nat_abs dim) nums
parts_value (Shaped shape a) at = shape_of shape (at a)

-- whether it makes no place that is no cell
abbrev pub parts_stay : Parts → (List ℕ → Figure) → Bool
parts_stay (Shaped shape a) at = shape_stays shape (at a)
parts_stay _ at = true

-- its dimension, by those of names: for a Boolean that of its first
abbrev pub parts_dim : Parts → (List ℕ → ℕ) → ℕ
parts_dim (Both op a b) dims = dims a
parts_dim (Block dim nums) dims = nat_abs dim
parts_dim (Shaped shape a) dims = shape_dim shape (dims a)

-- the names of a Boolean have one dimension; a box states a dimension and twice as many numbers
abbrev pub parts_fit : Parts → (List ℕ → ℕ) → Bool
parts_fit (Both op a b) dims = dims a == dims b
parts_fit (Block dim nums) dims = is_dim dim && length nums == 2 * nat_abs dim
parts_fit (Shaped shape a) dims = shape_fits shape (dims a)

-- the numbers that it states are in their limits
abbrev pub parts_in_range : Parts → (List ℕ → ℕ) → Bool
parts_in_range (Both op a b) dims = true
parts_in_range (Block dim nums) dims = box_fits (low_of (nat_abs dim) nums) (high_of (nat_abs dim) nums)
parts_in_range (Shaped shape a) dims = shape_in_range shape (dims a)

-- it fits, its numbers are in range, and n is its dimension
abbrev pub parts_are_sound : ℕ → Parts → (List ℕ → ℕ) → Bool
parts_are_sound n parts dims = parts_fit parts dims && parts_in_range parts dims && parts_dim parts dims == n

-- the names that a formula reads: its operands
abbrev pub operands : Formula → List (List ℕ)
operands formula = parts_operands (parts_of formula)

-- a formula at the values of its operands
abbrev pub formula_value : Formula → (List ℕ → Figure) → Figure
formula_value formula at = parts_value (parts_of formula) at

-- whether a formula makes no place that is no cell of the values of its operands
abbrev pub formula_stays : Formula → (List ℕ → Figure) → Bool
formula_stays formula at = parts_stay (parts_of formula) at
