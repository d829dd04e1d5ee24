use Rattle.std.proofs.Common.{sym, ap, ◌∙◌}
use Rattle.std.specs.Prelude.{option_map}
use Rattle.evm_script.specs.Operands.{names_in}
use Rattle.evm_formulas.proofs.Stated.{names_read}
use Rattle.evm_session.specs.Reported.{operands_by}
use Rattle.evm_session.proofs.reports.operands_of.Goals as goal

pub returns-in-Some : goal.returns-in-Some
returns-in-Some c =
    ap names_in c.operands.ensures ∙ names_read c.in-Some.formula.now
    ∙ ap (λ o. operands_by (option_map (λ f. f.now) o)) (sym c.in-Some.is)
