use Rattle.std.proofs.Common.{subst}
use Rattle.evm_script.specs.declared.formula.Formula.{Formula}
use Rattle.evm_formulas.specs.Stated.{FormulaStated}
use Rattle.evm_formulas.proofs.Stated.{cell_point}
use Rattle.evm_formulas.proofs.operations.operation_of.Goals as goal

pub height_of-requires : goal.height_of-requires
height_of-requires c = cell_point c.args.dim c.in-Slice.at (subst (λ (f : Formula). FormulaStated c.args.dim f) c.in-Slice.is c.requires).1
