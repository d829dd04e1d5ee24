use Rattle.std.proofs.Common.{ℕ, List, ◌∷◌, ◌++◌, sym, ◌∙◌, ap, take, ◌+◌}
use Rattle.evm_text.proofs.LineCuts.{tail_is}
use Rattle.evm_tool.proofs.Cuts.{first_is_lf, none_is_lf}
use Rattle.evm_tool.proofs.answers.first_ended.Goals as goal

pub returns-in-Some : goal.returns-in-Some
returns-in-Some c =
    let xs = c.args.text.now in
    let first = first_is_lf xs c.in-Some.at (sym c.in-Some.ensures.place) in
    (first.whole ∙ ap (λ (t : List ℕ). take c.in-Some.at xs ++ 10 ∷ t) (sym (tail_is xs (c.in-Some.at + 1))), first.before)

pub returns-in-None : goal.returns-in-None
returns-in-None c = none_is_lf c.args.text.now (sym c.in-None.ensures.place)
