use Rattle.std.proofs.Common.{◌∙◌, ap}
use Rattle.std.proofs.lemmas.Result.{IfOk-weaker}
use Rattle.serde_json.specs.Written.{compact_text, has_float}
use Rattle.evm_report.specs.Report.{facts_of, report_text}
use Rattle.evm_report.proofs.Floats.{none}
use Rattle.evm_report.proofs.report_text.Goals as goal

pub returns : goal.returns
unfolding report_text
returns c =
    let same = c.in_ok-value.ensures in
    IfOk-weaker c.to_string.result _ _ (λ s h. h (ap has_float same ∙ none (facts_of c.args.report.now)) ∙ ap compact_text same) c.to_string.ensures.text
