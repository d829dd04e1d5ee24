use Rattle.evm_model.proofs.ReplyLaws.{begins, are_lines}
use Rattle.evm_model.proofs.replies_show_refusals.Goals as goal

pub returns-clause-begins : goal.returns-clause-begins
returns-clause-begins c = begins

pub returns-clause-lines : goal.returns-clause-lines
returns-clause-lines c = are_lines
