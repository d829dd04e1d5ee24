-- Figures of extreme vertices, and the numbers that formulas state.
use Rattle.std.specs.Prelude.{ℕ, ◌≡◌, ◌+◌, ◌-◌, ◌*◌, true, nat_abs, length}
use Rattle.evm_cells.specs.Limits.{is_cell_coord}
use Rattle.evm_cells.specs.Shapes.{is_shift}
use Rattle.evm_cells.specs.Vertices.{cells}
use Rattle.evm_rows.specs.Rows.{Vertices}
use Rattle.evm_script.specs.declared.formula.Formula.{Formula}
use Rattle.evm_script.specs.declared.formula.Formula.TheVariants.{Or, And, Sub, Xor, Box, Shift, Mirror, Swap, Clip, Slice, Proj, Lift}
use Rattle.evm_model.specs.Figures.{Figure, box_fits, low_of, high_of}
use Rattle.evm_model.specs.Scene.{is_dim, is_axis, is_range}

-- the figure that extreme vertices stand for
abbrev pub figure_of : Vertices → Figure
figure_of v = record { dim = v.dim; cells = cells v.dim v.rows }

-- the dimension that the operands of a formula of dimension n have
abbrev pub operand_dim : ℕ → Formula → ℕ
operand_dim n (Or a b) = n
operand_dim n (And a b) = n
operand_dim n (Sub a b) = n
operand_dim n (Xor a b) = n
operand_dim n (Box dim nums) = n
operand_dim n (Shift a nums) = n
operand_dim n (Mirror a axis) = n
operand_dim n (Swap a i j) = n
operand_dim n (Clip a nums) = n
operand_dim n (Slice a axis at) = n + 1
operand_dim n (Proj a axis) = n + 1
operand_dim n (Lift a axis lo hi) = n - 1

-- the numbers that a formula of dimension n states are as many as it asks for, and in their limits
abbrev pub FormulaStated : ℕ → Formula → Type 0
FormulaStated n (Or a b) = Unit {0}
FormulaStated n (And a b) = Unit {0}
FormulaStated n (Sub a b) = Unit {0}
FormulaStated n (Xor a b) = Unit {0}
FormulaStated n (Box dim nums) = (is_dim dim ≡ true) × (nat_abs dim ≡ n) × (length nums ≡ 2 * n) × (box_fits (low_of n nums) (high_of n nums) ≡ true)
FormulaStated n (Shift a nums) = is_shift n nums ≡ true
FormulaStated n (Mirror a axis) = is_axis n axis ≡ true
FormulaStated n (Swap a i j) = (is_axis n i ≡ true) × (is_axis n j ≡ true)
FormulaStated n (Clip a nums) = (length nums ≡ 2 * n) × (box_fits (low_of n nums) (high_of n nums) ≡ true)
FormulaStated n (Slice a axis at) = (is_axis (n + 1) axis ≡ true) × (is_cell_coord (n + 1) at ≡ true)
FormulaStated n (Proj a axis) = is_axis (n + 1) axis ≡ true
FormulaStated n (Lift a axis lo hi) = (is_axis n axis ≡ true) × (is_range n lo hi ≡ true)
