-- What formulas do: Booleans of two names, shapes of one name, and boxes.
use Rattle.std.specs.Prelude.{Bool, true, nat_abs}
use Rattle.evm_delta.specs.declared.shapes.Op1.{Op1}
use Rattle.evm_delta.specs.declared.shapes.Op1.TheVariants as shapes
use Rattle.evm_boolean.specs.declared.boolean.Op2.TheVariants as ops
use Rattle.evm_script.specs.declared.formula.Formula.{Formula}
use Rattle.evm_script.specs.declared.formula.Formula.TheVariants.{Or, And, Sub, Xor, Box, Shift, Mirror, Swap, Clip, Slice, Proj, Lift}
use Rattle.evm_model.specs.Figures.{Figure, shift_of, shift_stays, mirror_of, swap_of, clip_of, slice_of, proj_of, lift_of, lift_stays}
use Rattle.evm_formulas.specs.declared.operations.Operation.{Operation}
use Rattle.evm_formulas.specs.declared.operations.Operation.TheVariants as does

-- what a formula does
abbrev pub operation_of : Formula → Operation
operation_of (Or a b) = does.Both ops.Or a b
operation_of (And a b) = does.Both ops.And a b
operation_of (Sub a b) = does.Both ops.Sub a b
operation_of (Xor a b) = does.Both ops.Xor a b
operation_of (Box dim nums) = does.Block nums
operation_of (Shift a nums) = does.Shape (shapes.Shift nums) a
operation_of (Mirror a axis) = does.Shape (shapes.Mirror (nat_abs axis)) a
operation_of (Swap a i j) = does.Shape (shapes.Swap (nat_abs i) (nat_abs j)) a
operation_of (Clip a nums) = does.Shape (shapes.Clip nums) a
operation_of (Slice a axis at) = does.Shape (shapes.Slice (nat_abs axis) at) a
operation_of (Proj a axis) = does.Shape (shapes.Proj (nat_abs axis)) a
operation_of (Lift a axis lo hi) = does.Shape (shapes.Lift (nat_abs axis) lo hi) a

-- a shape of a figure
abbrev pub shape_of : Op1 → Figure → Figure
shape_of (shapes.Shift by) a = shift_of by a
shape_of (shapes.Mirror axis) a = mirror_of axis a
shape_of (shapes.Swap i j) a = swap_of i j a
shape_of (shapes.Clip nums) a = clip_of nums a
shape_of (shapes.Slice axis at) a = slice_of axis at a
shape_of (shapes.Proj axis) a = proj_of axis a
shape_of (shapes.Lift axis lo hi) a = lift_of axis lo hi a

-- whether it moves no cell out of the limits
abbrev pub shape_stays : Op1 → Figure → Bool
shape_stays (shapes.Shift by) a = shift_stays by a
shape_stays (shapes.Mirror axis) a = true
shape_stays (shapes.Swap i j) a = true
shape_stays (shapes.Clip nums) a = true
shape_stays (shapes.Slice axis at) a = true
shape_stays (shapes.Proj axis) a = true
shape_stays (shapes.Lift axis lo hi) a = lift_stays axis lo hi a
