use Rattle.std.proofs.Common.{arith, ◌≡◌, ◌+◌, ◌*◌, ◌-◌, ◌∙◌, ap, ap₂, sym}
use Rattle.evm_cells.specs.Booleans.{xor_cells}
use Rattle.evm_cells.specs.Measures.{content}
use Rattle.evm_cells.specs.Vertices.{cells}
use Rattle.evm_measure.proofs.Sums.{content-fits}
use Rattle.evm_sections.proofs.Bits.{same32}
use Rattle.evm_rows.specs.Rows.{Vertices, cells_of, rows_of}
use Rattle.evm_cutting.specs.Seams.{couplet_cells, shared_cells}
use Rattle.evm_cutting.proofs.Measured.{seam_content}
use Rattle.evm_cutting.proofs.seams.faces_between.Goals as goal

pub overflow_add-result : goal.overflow_add-result
overflow_add-result c =
    let a = c.rows-6.result in
    let b = c.rows-7.result in
    omega (
      arith,
      c.in_ok-first.ensures,
      c.in_ok-second.ensures,
      content-fits (a.width - a.skip) (rows_of a.flat.now a.width a.skip) (omega (arith, a.narrow)),
      content-fits (b.width - b.skip) (rows_of b.flat.now b.width b.skip) (omega (arith, b.narrow)),
    )

pub overflow_sub-result : goal.overflow_sub-result
overflow_sub-result c =
    let v = c.args.low.now in
    let w = c.args.high.now in
    let p = c.in_ok-below.below in
    let q = c.in_ok-above.above in
    let r = c.in_ok-change.change in
    let d : p.dim ≡ v.dim - 1 = c.in_ok-below.ensures.dim ∙ ap (λ (x : Vertices). x.dim - 1) c.rows.ensures in
    let f : q.dim ≡ w.dim - 1 = c.in_ok-above.ensures.dim ∙ ap (λ (x : Vertices). x.dim - 1) c.rows-2.ensures in
    let a : cells_of p ≡ couplet_cells c.args.axis c.args.at v = (rw (same32 c.args.at c.ranges.at) at c.in_ok-below.ensures.cells) ∙ ap (couplet_cells c.args.axis c.args.at) c.rows.ensures in
    let b : cells_of q ≡ couplet_cells c.args.axis c.args.at w = (rw (same32 c.args.at c.ranges.at) at c.in_ok-above.ensures.cells) ∙ ap (couplet_cells c.args.axis c.args.at) c.rows-2.ensures in
    let x : cells_of r ≡ xor_cells p.dim (cells_of p) (cells p.dim q.rows) =
    c.in_ok-change.ensures.cells ∙ ap₂ (λ (y z : Vertices). xor_cells y.dim (cells_of y) (cells y.dim z.rows)) c.rows-3.ensures c.rows-4.ensures in
    let e : c.in_ok-first.first + c.in_ok-second.second ≡ c.in_ok-apart.apart + 2 * content (shared_cells c.args.axis c.args.at v w) =
    ap₂ (λ m n. m + n) (c.in_ok-first.ensures ∙ ap (λ (y : Vertices). content (cells_of y)) c.rows-6.ensures) (c.in_ok-second.ensures ∙ ap (λ (y : Vertices). content (cells_of y)) c.rows-7.ensures)
    ∙ seam_content c.args.axis c.args.at v w p q r c.requires.dim d f a b x
    ∙ ap (λ m. m + 2 * content (shared_cells c.args.axis c.args.at v w)) (sym (c.in_ok-apart.ensures ∙ ap (λ (y : Vertices). content (cells_of y)) c.rows-5.ensures)) in
    omega (arith, e)

pub returns : goal.returns
returns c =
    let v = c.args.low.now in
    let w = c.args.high.now in
    let p = c.in_ok-below.below in
    let q = c.in_ok-above.above in
    let r = c.in_ok-change.change in
    let d : p.dim ≡ v.dim - 1 = c.in_ok-below.ensures.dim ∙ ap (λ (x : Vertices). x.dim - 1) c.rows.ensures in
    let f : q.dim ≡ w.dim - 1 = c.in_ok-above.ensures.dim ∙ ap (λ (x : Vertices). x.dim - 1) c.rows-2.ensures in
    let a : cells_of p ≡ couplet_cells c.args.axis c.args.at v = (rw (same32 c.args.at c.ranges.at) at c.in_ok-below.ensures.cells) ∙ ap (couplet_cells c.args.axis c.args.at) c.rows.ensures in
    let b : cells_of q ≡ couplet_cells c.args.axis c.args.at w = (rw (same32 c.args.at c.ranges.at) at c.in_ok-above.ensures.cells) ∙ ap (couplet_cells c.args.axis c.args.at) c.rows-2.ensures in
    let x : cells_of r ≡ xor_cells p.dim (cells_of p) (cells p.dim q.rows) =
    c.in_ok-change.ensures.cells ∙ ap₂ (λ (y z : Vertices). xor_cells y.dim (cells_of y) (cells y.dim z.rows)) c.rows-3.ensures c.rows-4.ensures in
    let e : c.in_ok-first.first + c.in_ok-second.second ≡ c.in_ok-apart.apart + 2 * content (shared_cells c.args.axis c.args.at v w) =
    ap₂ (λ m n. m + n) (c.in_ok-first.ensures ∙ ap (λ (y : Vertices). content (cells_of y)) c.rows-6.ensures) (c.in_ok-second.ensures ∙ ap (λ (y : Vertices). content (cells_of y)) c.rows-7.ensures)
    ∙ seam_content c.args.axis c.args.at v w p q r c.requires.dim d f a b x
    ∙ ap (λ m. m + 2 * content (shared_cells c.args.axis c.args.at v w)) (sym (c.in_ok-apart.ensures ∙ ap (λ (y : Vertices). content (cells_of y)) c.rows-5.ensures)) in
    omega (arith, e)
