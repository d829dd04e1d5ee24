use Rattle.std.proofs.Common.{◌≡◌, sym, arith, rules, w32, of_z, ap, ◌∙◌}
use mir.Val.{SFits}
use Rattle.evm_rows.specs.Rows.{rows_of}
use Rattle.evm_rows.proofs.RowsLaws.{rows_of-none}
use Rattle.evm_sections.proofs.Bits.{same_bits}
use Rattle.evm_sections.specs.Lines.{LineRest, firsts}
use Rattle.evm_sections.proofs.LineSteps.{firsts-first, firsts-none, passed-none, passed-yes, passed-no}
use Rattle.evm_sections.proofs.line.Line.pass.Goals as goal

pub returns-then-self-eq0 : goal.returns-then-self-eq0
returns-then-self-eq0 c =
    let r = c.self.inside in
    passed-none c.args.height c.args.self.now (ap (λ (l : LineRest). l.left) (sym c.self.view_is) ∙ firsts-none (rows_of r.flat.now r.width r.skip) (rows_of-none r.flat.now r.width r.skip (omega arith)))

pub returns-then-first_of-height : goal.returns-then-first_of-height
returns-then-first_of-height c =
    let r = c.self.inside in
    let fits : SFits w32 c.first_of.result = search rules in
    let same : c.first_of.result ≡ c.args.height = same_bits c.first_of.result c.args.height fits c.ranges.height c.if-first_of-height.true in
    rw (← c.self.view_is)
    (passed-yes c.args.height c.first_of.result (record { left = firsts (rows_of r.flat.now r.width r.skip); on = r.on }) (firsts (rows_of c.split_row.result.1.now r.width r.skip))
    (firsts-first (rows_of r.flat.now r.width r.skip) c.split_row.result.0.now (rows_of c.split_row.result.1.now r.width r.skip) c.first_of.result c.split_row.ensures.first c.first_of.ensures) same)

pub returns-else-first_of-height : goal.returns-else-first_of-height
returns-else-first_of-height c =
    let r = c.self.inside in
    passed-no c.args.height c.first_of.result c.args.self.now (firsts (rows_of c.split_row.result.1.now r.width r.skip))
    (ap (λ (l : LineRest). l.left) (sym c.self.view_is)
    ∙ firsts-first (rows_of r.flat.now r.width r.skip) c.split_row.result.0.now (rows_of c.split_row.result.1.now r.width r.skip) c.first_of.result c.split_row.ensures.first c.first_of.ensures)
    (λ e. c.if-first_of-height.false (ap (of_z w32) e))
