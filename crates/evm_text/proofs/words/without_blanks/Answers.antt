use Rattle.std.proofs.Common.{sym}
use Rattle.evm_text.proofs.WordCuts.{words_from, begins_seen, words_of_blanks}
use Rattle.evm_text.proofs.words.without_blanks.Goals as goal

pub returns-in-Some-clause-same : goal.returns-in-Some-clause-same
returns-in-Some-clause-same c = words_from c.args.line.now c.in-Some.start (sym c.in-Some.ensures.place)

pub returns-in-Some-clause-begins : goal.returns-in-Some-clause-begins
returns-in-Some-clause-begins c = λ some. begins_seen c.args.line.now c.in-Some.start (sym c.in-Some.ensures.place)

pub returns-in-None-clause-same : goal.returns-in-None-clause-same
returns-in-None-clause-same c = words_of_blanks c.args.line.now (sym c.in-None.ensures.place)
