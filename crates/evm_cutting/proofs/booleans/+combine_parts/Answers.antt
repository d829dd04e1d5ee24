use Rattle.std.proofs.Common.{◌≡◌, ◌∙◌, ℕ, IfSome, sym, ap, ap₂, subst}
use Rattle.evm_boolean.specs.Tower.{fills}
use Rattle.evm_cells.specs.Booleans.{combine, xor_cells}
use Rattle.evm_cells.specs.Vertices.{cells}
use Rattle.evm_rows.specs.Rows.{Vertices, xor_rows}
use Rattle.evm_rows.specs.View.{vertices_of}
use Rattle.evm_cutting.specs.Splits.{AreSplit}
use Rattle.evm_cutting.proofs.Combined.{combined_cells, rows_from}
use Rattle.evm_cutting.proofs.booleans.+combine_parts.Goals as goal

pub returns-in_ok-both-in-Some-clause-rows : goal.returns-in_ok-both-in-Some-clause-rows
returns-in_ok-both-in-Some-clause-rows t c =
    let f = fills c.args.op in
    let v : Vertices = vertices_of c.args.a in
    let w : Vertices = vertices_of c.args.b in
    let p = c.in-Some.pair in
    let l : Vertices = c.in_ok-low-in-Some.low in
    let h : Vertices = c.in_ok-high-in-Some.high in
    let s : AreSplit v w p = subst (λ o. IfSome o (AreSplit v w)) c.in-Some.is c.in_ok-cuts.ensures in
    let dl : l.dim ≡ v.dim = c.in_ok-low-in-Some.ensures.dim ∙ ap (λ (x : Vertices). x.dim) c.rows.ensures ∙ s.left.low_dim in
    let dh : h.dim ≡ v.dim = c.in_ok-high-in-Some.ensures.dim ∙ ap (λ (x : Vertices). x.dim) c.rows-in-Some-2.ensures ∙ s.left.high_dim in
    c.in_ok-both-in-Some.ensures.rows
    ∙ ap₂ (λ (x y : Vertices). xor_rows x.dim x.rows y.rows) c.rows-in-Some-4.ensures c.rows-in-Some-5.ensures
    ∙ ap (λ (m : ℕ). xor_rows m l.rows h.rows) dl
    ∙ rows_from f v.dim l.rows h.rows v.rows w.rows
    (combined_cells c.args.op v w l h p (sym c.requires) s dl dh
    (c.in_ok-low-in-Some.ensures.cells ∙ ap₂ (λ (x y : Vertices). combine f l.dim (cells l.dim x.rows) (cells l.dim y.rows)) c.rows.ensures c.rows-in-Some.ensures)
    (c.in_ok-high-in-Some.ensures.cells ∙ ap₂ (λ (x y : Vertices). combine f h.dim (cells h.dim x.rows) (cells h.dim y.rows)) c.rows-in-Some-2.ensures c.rows-in-Some-3.ensures))

pub returns-in_ok-both-in-Some-clause-cells : goal.returns-in_ok-both-in-Some-clause-cells
returns-in_ok-both-in-Some-clause-cells t c =
    let f = fills c.args.op in
    let v : Vertices = vertices_of c.args.a in
    let w : Vertices = vertices_of c.args.b in
    let p = c.in-Some.pair in
    let l : Vertices = c.in_ok-low-in-Some.low in
    let h : Vertices = c.in_ok-high-in-Some.high in
    let b : Vertices = c.in_ok-both-in-Some.both in
    let s : AreSplit v w p = subst (λ o. IfSome o (AreSplit v w)) c.in-Some.is c.in_ok-cuts.ensures in
    let dl : l.dim ≡ v.dim = c.in_ok-low-in-Some.ensures.dim ∙ ap (λ (x : Vertices). x.dim) c.rows.ensures ∙ s.left.low_dim in
    let dh : h.dim ≡ v.dim = c.in_ok-high-in-Some.ensures.dim ∙ ap (λ (x : Vertices). x.dim) c.rows-in-Some-2.ensures ∙ s.left.high_dim in
    let db : b.dim ≡ v.dim = c.in_ok-both-in-Some.ensures.dim ∙ ap (λ (x : Vertices). x.dim) c.rows-in-Some-4.ensures ∙ dl in
    c.in_ok-both-in-Some.ensures.cells
    ∙ ap₂ (λ (x y : Vertices). xor_cells x.dim (cells x.dim x.rows) (cells x.dim y.rows)) c.rows-in-Some-4.ensures c.rows-in-Some-5.ensures
    ∙ ap (λ (m : ℕ). xor_cells m (cells m l.rows) (cells m h.rows)) dl
    ∙ combined_cells c.args.op v w l h p (sym c.requires) s dl dh
    (c.in_ok-low-in-Some.ensures.cells ∙ ap₂ (λ (x y : Vertices). combine f l.dim (cells l.dim x.rows) (cells l.dim y.rows)) c.rows.ensures c.rows-in-Some.ensures)
    (c.in_ok-high-in-Some.ensures.cells ∙ ap₂ (λ (x y : Vertices). combine f h.dim (cells h.dim x.rows) (cells h.dim y.rows)) c.rows-in-Some-2.ensures c.rows-in-Some-3.ensures)
    ∙ ap (λ (m : ℕ). combine f m (cells m v.rows) (cells m w.rows)) (sym db)
