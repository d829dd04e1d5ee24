use Rattle.evm_tool.proofs.Answered.{completes_run}
use Rattle.evm_tool.proofs.top.evm_main.Goals as goal

pub returns-in-Ok-Run-clause-complete : goal.returns-in-Ok-Run-clause-complete
returns-in-Ok-Run-clause-complete g c = completes_run _ _ _ _ _ _ _ _ _ _ c.answer_input.ensures.complete
