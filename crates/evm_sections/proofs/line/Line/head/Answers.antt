use Rattle.std.proofs.Common.{sym, arith, rules, w32}
use mir.Val.{SFits}
use Rattle.evm_rows.specs.Rows.{rows_of}
use Rattle.evm_rows.proofs.RowsLaws.{rows_of-none}
use Rattle.evm_sections.proofs.Bits.{same32}
use Rattle.evm_sections.proofs.LineSteps.{firsts-first, firsts-none, head-first, head-none}
use Rattle.evm_sections.proofs.line.Line.head.Goals as goal

pub returns-then-self-eq0 : goal.returns-then-self-eq0
returns-then-self-eq0 c =
    let r = c.self.inside in
    sym (rw (← c.self.view_is) (head-none _ (firsts-none (rows_of r.flat.now r.width r.skip) (rows_of-none r.flat.now r.width r.skip (omega arith)))))

pub returns : goal.returns
returns c =
    let r = c.self.inside in
    let fits : SFits w32 c.first_of.result = search rules in
    sym (rw (← c.self.view_is, same32 c.first_of.result fits)
    (head-first _ c.first_of.result _ (firsts-first (rows_of r.flat.now r.width r.skip) c.split_row.result.0.now (rows_of c.split_row.result.1.now r.width r.skip) c.first_of.result c.split_row.ensures.first c.first_of.ensures)))
