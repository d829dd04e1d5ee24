-- The names that a formula reads.
use Rattle.std.specs.Prelude.{ℕ, List, [], ◌∷◌}
use Rattle.evm_script.specs.declared.formula.Formula.{Formula}
use Rattle.evm_script.specs.declared.formula.Formula.TheVariants as formulas
use Rattle.evm_script.specs.declared.formula.Operands.{Operands}
use Rattle.evm_script.specs.declared.formula.Operands.TheVariants as operands

-- the operands of a formula
abbrev pub operands_of : Formula → Operands
operands_of (formulas.Or a b) = operands.Two a b
operands_of (formulas.And a b) = operands.Two a b
operands_of (formulas.Sub a b) = operands.Two a b
operands_of (formulas.Xor a b) = operands.Two a b
operands_of (formulas.Box dim nums) = operands.None
operands_of (formulas.Shift a nums) = operands.One a
operands_of (formulas.Mirror a axis) = operands.One a
operands_of (formulas.Swap a i j) = operands.One a
operands_of (formulas.Clip a nums) = operands.One a
operands_of (formulas.Slice a axis at) = operands.One a
operands_of (formulas.Proj a axis) = operands.One a
operands_of (formulas.Lift a axis lo hi) = operands.One a

-- their names
abbrev pub names_in : Operands → List (List ℕ)
names_in (operands.Two a b) = a ∷ b ∷ []
names_in (operands.One a) = a ∷ []
names_in operands.None = []
