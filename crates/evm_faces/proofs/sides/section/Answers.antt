use Rattle.std.proofs.Common.{◌≡◌, ◌-◌, ◌+◌, ℕ, ℤ, List, false, sym, ap₂, ◌∙◌, arith}
use Rattle.evm_cells.specs.Limits.{is_cell_coord}
use Rattle.evm_rows.specs.Rows.{rows_of}
use Rattle.evm_rows.proofs.BoxTests.{same32}
use Rattle.evm_faces.proofs.Beyond.{slice-beyond_at}
use Rattle.evm_faces.proofs.sides.section.Goals as goal

pub returns-clause-cells : goal.returns-clause-cells
returns-clause-cells c =
    let a = c.args.a in
    let m : ℕ = a.width - a.skip in
    let V : List (List ℤ) = rows_of a.flat.now a.width a.skip in
    let one : m - 1 + 1 ≡ m = omega (arith, c.requires.deep) in
    let out : is_cell_coord m c.args.at ≡ false = sym (c.is_in_range.ensures ∙ ap₂ is_cell_coord c.dim.ensures (same32 c.args.at c.ranges.at)) ∙ c.if-is_in_range.false in
    c.empty.ensures.cells ∙ sym (slice-beyond_at m (m - 1) (c.args.axis - 1) c.args.at V one out)
