use Rattle.evm_tool.proofs.Answered.{runs_of, finishes_of}
use Rattle.evm_tool.proofs.top.answer_input.Goals as goal

pub returns-clause-run : goal.returns-clause-run
returns-clause-run g c = runs_of _ _ _ _ _ _ c.in-Ok.ensures c.answer_script.ensures.answered

pub returns-clause-complete : goal.returns-clause-complete
returns-clause-complete g c =
    finishes_of _ _ _ _ _ _ _ _ _ c.answer_script.ensures.answered c.answer_script.ensures.reads c.answer_script.ensures.sends
