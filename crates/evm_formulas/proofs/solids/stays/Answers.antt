use Rattle.evm_model.proofs.FigureLaws.{same_itself}
use Rattle.evm_formulas.specs.Stated.{figure_of}
use Rattle.evm_formulas.proofs.Figures.{figure_set, xor_stays}
use Rattle.evm_formulas.proofs.solids.stays.Goals as goal

pub returns-clause-empty : goal.returns-clause-empty
returns-clause-empty c = xor_stays (figure_of c.args.solid.now) (figure_set c.args.solid.now)

pub returns-clause-same : goal.returns-clause-same
returns-clause-same c = same_itself (figure_of c.args.solid.now)
