use Rattle.std.proofs.Common.{ℕ, List, map, length, decimal, ap, ◌∙◌}
use Rattle.evm_report.specs.Report.{report_text}
use Rattle.evm_rows.specs.Rows.{Vertices}
use Rattle.evm_cells.specs.Measures.{content, boundary}
use Rattle.evm_cells.specs.Vertices.{cells}
use Rattle.evm_parts.specs.PartLists.{parts_of as parts_in}
use Rattle.evm_session.proofs.Reporting.{facts_said}
use Rattle.evm_session.proofs.reports.text_on.Goals as goal

pub returns : goal.returns
returns c =
    let v = c.args.solid.now in
    let of_cells : Vertices → ℕ = λ a. content (cells a.dim a.rows) in
    let of_faces : Vertices → ℕ = λ a. boundary a.dim (cells a.dim a.rows) in
    let filled = c.in_ok-cells.ensures ∙ ap of_cells c.rows.ensures in
    let faces = c.in_ok-faces.ensures ∙ ap of_faces c.rows-2.ensures in
    let count = c.len-2.ensures ∙ ap (λ (found : List (List (List _))). length found) (c.in_ok-parts.ensures.parts ∙ ap parts_in c.rows-3.ensures) in
    let operands = ap (map _) c.as_slice.ensures.value ∙ c.in_ok-operands.ensures ∙ c.operands_of-read.ensures in
    c.in_ok-text.ensures
    ∙ ap report_text (facts_said c.args.name.now _ _ _ _ _ _ _ _ _ _ _ v c.facts.ensures.vertices
    c.text_of.ensures c.kind_of.ensures operands c.dim.ensures c.len.ensures
    (c.format.ensures.text ∙ ap decimal filled) (c.format-2.ensures.text ∙ ap decimal faces) count
    (c.as_slice-2.ensures.value ∙ c.in_ok-low.ensures) (c.as_slice-3.ensures.value ∙ c.in_ok-high.ensures))
