use Rattle.std.proofs.Common.{sym, rules}
use Rattle.evm_text.proofs.LineCuts.{lines_none, lines_at, lines_end}
use Rattle.evm_text.proofs.lines.first_line.Goals as goal

pub returns-then-is_empty-clause-line : goal.returns-then-is_empty-clause-line
returns-then-is_empty-clause-line c = lines_none c.args.text.now (search rules)

pub returns-in-Some-clause-line : goal.returns-in-Some-clause-line
returns-in-Some-clause-line c = lines_at c.args.text.now c.in-Some.at (sym c.in-Some.ensures.place)

pub returns-in-None-clause-line : goal.returns-in-None-clause-line
returns-in-None-clause-line c = lines_end c.args.text.now (sym c.in-None.ensures.place) (search rules)
