use Rattle.std.proofs.Common.{◌≡◌, ◌-◌, ◌++◌, ℕ, ℤ, List, ap, ap₂, ◌∙◌, arith}
use Rattle.evm_cells.specs.Sections.{rows_at}
use Rattle.evm_cells.specs.Vertices.{cells}
use Rattle.evm_rows.specs.Rows.{rows_of, flat_of}
use Rattle.evm_sections.proofs.Bits.{same32}
use Rattle.evm_cutting.proofs.SeamRows.{couplet_made}
use Rattle.evm_cutting.proofs.seams.couplet_at.Goals as goal

pub from_rows-requires : goal.from_rows-requires
from_rows-requires c =
    let a = c.args.a in
    let V : List (List ℤ) = rows_of a.flat.now a.width a.skip in
    let n : ℕ = a.width - a.skip - 1 in
    let written : c.append_all_at.new.out.items ≡ flat_of (rows_at c.args.axis c.args.at V) =
    (rw (same32 c.args.at c.ranges.at) at c.in_ok-append_all_at.ensures) ∙ ap (λ (u : List ℤ). u ++ flat_of (rows_at c.args.axis c.args.at V)) c.new-flat.ensures.items in
    let made = couplet_made (a.width - a.skip) n c.args.axis c.args.at V c.append_all_at.new.out.items (omega (arith, c.requires.deep)) (omega (arith, a.narrow)) (omega (arith, c.requires.deep)) c.requires.axis a.vertices written in
    rw c.dim-dim.ensures made.0

pub returns-clause-cells : goal.returns-clause-cells
returns-clause-cells c =
    let a = c.args.a in
    let V : List (List ℤ) = rows_of a.flat.now a.width a.skip in
    let n : ℕ = a.width - a.skip - 1 in
    let written : c.append_all_at.new.out.items ≡ flat_of (rows_at c.args.axis c.args.at V) =
    (rw (same32 c.args.at c.ranges.at) at c.in_ok-append_all_at.ensures) ∙ ap (λ (u : List ℤ). u ++ flat_of (rows_at c.args.axis c.args.at V)) c.new-flat.ensures.items in
    let made = couplet_made (a.width - a.skip) n c.args.axis c.args.at V c.append_all_at.new.out.items (omega (arith, c.requires.deep)) (omega (arith, a.narrow)) (omega (arith, c.requires.deep)) c.requires.axis a.vertices written in
    ap₂ (λ (m : ℕ) (W : List (List ℤ)). cells m W) (c.from_rows.ensures.dim ∙ ap (λ (m : ℕ). m - 1) c.dim-dim.ensures)
    (c.from_rows.ensures.rows ∙ ap (λ (m : ℕ). rows_of c.append_all_at.new.out.items (m - 1) 0) c.dim-dim.ensures)
    ∙ made.1
