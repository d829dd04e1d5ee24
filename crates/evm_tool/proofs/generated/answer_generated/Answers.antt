use Rattle.evm_tool.proofs.Summaries.{summary_sent, summary_cut}
use Rattle.evm_tool.proofs.generated.answer_generated.Goals as goal

pub returns-in-Err-clause-text : goal.returns-in-Err-clause-text
returns-in-Err-clause-text g c =
    let laws = c.generated_lines_lack_memory_alone.ensures in
    summary_cut laws.just laws.some c.args.seed c.args.edits _ _ _ _ _ _ _ _ _ c.in-Ok.ensures.some c.in-Ok-summary.ensures c.as_slice.ensures.value c.in-Err.ensures.part

pub returns-clause-text : goal.returns-clause-text
returns-clause-text g c =
    let laws = c.generated_lines_lack_memory_alone.ensures in
    summary_sent laws.just laws.some c.args.seed c.args.edits _ _ _ _ _ _ _ c.status.result _ _ c.in-Ok.ensures.some c.in-Ok-summary.ensures c.as_slice.ensures.value c.in-Ok-send.ensures.whole
    c.status.ensures
