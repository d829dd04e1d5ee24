use Rattle.std.proofs.Common.{◌∙◌}
use Rattle.evm_sections.proofs.LineSteps.{firsts-numbers, odd_is}
use Rattle.evm_sections.proofs.line.Line.of.Goals as goal

pub returns-clause-left : goal.returns-clause-left
returns-clause-left c = firsts-numbers c.split_at.result.1.now ∙ c.split_at.ensures.back

pub returns-clause-on : goal.returns-clause-on
returns-clause-on c = odd_is c.args.from
