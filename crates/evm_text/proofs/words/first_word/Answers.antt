use Rattle.std.proofs.Common.{◌≡◌, ◌<◌, length, sym, ◌∙◌, rules}
use Rattle.evm_text.proofs.WordCuts.{words_none, words_at, words_end}
use Rattle.evm_text.proofs.words.first_word.Goals as goal

pub returns-then-is_empty : goal.returns-then-is_empty
returns-then-is_empty c =
    let empty : length c.without_blanks-line.result.now ≡ 0 = search rules in
    sym c.without_blanks-line.ensures.same ∙ words_none c.without_blanks-line.result.now empty

pub returns-in-Some : goal.returns-in-Some
returns-in-Some c =
    let some : 0 < length c.without_blanks-line.result.now = search rules in
    sym c.without_blanks-line.ensures.same
    ∙ words_at c.without_blanks-line.result.now c.in-Some.end (c.without_blanks-line.ensures.begins some) (sym c.in-Some.ensures.place)

pub returns-in-None : goal.returns-in-None
returns-in-None c =
    let some : 0 < length c.without_blanks-line.result.now = search rules in
    sym c.without_blanks-line.ensures.same ∙ words_end c.without_blanks-line.result.now (sym c.in-None.ensures.place) some
