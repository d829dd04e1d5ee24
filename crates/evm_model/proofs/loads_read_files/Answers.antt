use Rattle.evm_model.proofs.FileLaws.{figures_are}
use Rattle.evm_model.proofs.LoadLaws.{load_reads, takes_figure, missing_is, form_is}
use Rattle.evm_model.proofs.StepLaws.{others_read_none, missing_fetched}
use Rattle.evm_model.proofs.loads_read_files.Goals as goal

pub returns-clause-own : goal.returns-clause-own
returns-clause-own c = λ f g scene line name file form e same. load_reads f g scene line name file form e same

pub returns-clause-others : goal.returns-clause-others
returns-clause-others c = others_read_none

pub returns-clause-takes : goal.returns-clause-takes
returns-clause-takes c = takes_figure

pub returns-clause-missing : goal.returns-clause-missing
returns-clause-missing c = missing_is

pub returns-clause-fetched : goal.returns-clause-fetched
returns-clause-fetched c = missing_fetched

pub returns-clause-form : goal.returns-clause-form
returns-clause-form c = form_is

pub returns-clause-cells : goal.returns-clause-cells
returns-clause-cells c = figures_are
