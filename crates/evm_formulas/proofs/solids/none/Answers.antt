use Rattle.evm_formulas.proofs.Figures.{none_figure}
use Rattle.evm_formulas.proofs.solids.none.Goals as goal

pub returns-clause-value : goal.returns-clause-value
returns-clause-value c = none_figure c.empty.result c.args.dim c.empty.ensures.dim c.empty.ensures.cells
