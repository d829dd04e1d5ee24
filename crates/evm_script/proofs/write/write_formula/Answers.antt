use Rattle.std.proofs.Common.{◌++◌, ◌∙◌, ap, List, ℕ}
use Rattle.evm_text.specs.Words.{words}
use Rattle.evm_script.specs.Formulas.{formula_of}
use Rattle.evm_text.specs.Spaced.{spaced}
use Rattle.evm_script.specs.Printed.{formula_words}
use Rattle.evm_script.proofs.FormulasAgain.{formula_again}
use Rattle.evm_script.proofs.write.write_formula.Goals as goal

pub returns-clause-back : goal.returns-clause-back
returns-clause-back c =
    let after = λ (t : List ℕ). t ++ spaced (formula_words c.args.formula.now) in
    let all = c.in_ok-put_formula.ensures.text ∙ ap after c.in_ok-text.ensures.items in
    ap (λ (t : List ℕ). formula_of (words t)) all ∙ formula_again c.args.formula.now c.in_ok-put_formula.ensures.rules
