use Rattle.std.proofs.Common.{◌≡◌, ◌-◌, ◌/◌, ◌≤◌, ℕ, length, take, ap, ap₂, ◌∙◌, sym, arith, refl, subst}
use Rattle.evm_rows.specs.Rows.{Vertices}
use Rattle.evm_rows.specs.View.{vertices_of}
use Rattle.evm_cells.specs.Vertices.{evm, cells, IsVertexList}
use Rattle.evm_cells.specs.Booleans.{or_cells}
use Rattle.evm_sections.specs.declared.sweep.Slab.{Slab}
use Rattle.evm_shapes.specs.Unions.{united, sections_of}
use Rattle.evm_shapes.proofs.United.{advanced, two_halves, or_rows, or_dim}
use Rattle.evm_shapes.proofs.projections.+unite.Goals as goal

pub returns-then-count-eq1-clause-rows : goal.returns-then-count-eq1-clause-rows
returns-then-count-eq1-clause-rows t c =
    let n : ℕ = c.args.sweep.now.dim in
    let d : c.section.result.width - c.section.result.skip ≡ n = c.section.ensures.dim ∙ c.in_ok-advance.ensures.dim in
    let v : IsVertexList n (vertices_of c.section.result).rows = subst (λ (k : ℕ). IsVertexList k (vertices_of c.section.result).rows) d c.section.result.vertices in
    let e = c.if-count-eq1.true in
    let l : 1 ≤ length c.args.sweep.now.left = let w = c.requires.within in omega arith in
    advanced c.in_ok-advance.field-0 (λ (s : Slab). (s.low, (s.high, c.advance.new.self.section))) c.args.sweep.now.left c.advance.new.self.left n c.advance.new.self.section c.in_ok-section.section.rows (vertices_of c.section.result).rows
    (λ s. refl) c.in_ok-advance.ensures.some c.in_ok-advance.ensures.none l c.in_ok-section.ensures.rows c.section.ensures.rows v
    ∙ ap (λ (k : ℕ). united n (sections_of (take k c.args.sweep.now.left))) (sym e)

pub returns-clause-dim : goal.returns-clause-dim
returns-clause-dim t c =
    or_dim (vertices_of c.rows.result) (vertices_of c.rows-2.result) c.in_ok-all.all c.in_ok-all.ensures.vertices ∙ ap (λ (p : Vertices). p.dim) c.rows.ensures ∙ c.in_ok-low.ensures.dim

pub returns-clause-rows : goal.returns-clause-rows
returns-clause-rows t c =
    let n : ℕ = c.args.sweep.now.dim in
    let half : ℕ = c.args.count / 2 in
    let left = c.args.sweep.now.left in
    let d : (vertices_of c.rows.result).dim ≡ n = ap (λ (p : Vertices). p.dim) c.rows.ensures ∙ c.in_ok-low.ensures.dim in
    let low : (vertices_of c.rows.result).rows ≡ c.in_ok-low.low.rows = ap (λ (p : Vertices). p.rows) c.rows.ensures in
    let high : (vertices_of c.rows-2.result).rows ≡ c.in_ok-high.high.rows = ap (λ (p : Vertices). p.rows) c.rows-2.ensures in
    let w : c.in_ok-all.all.rows ≡ evm n (or_cells n (cells n c.in_ok-low.low.rows) (cells n c.in_ok-high.high.rows)) =
    or_rows (vertices_of c.rows.result) (vertices_of c.rows-2.result) c.in_ok-all.all c.in_ok-all.ensures.vertices
    ∙ ap (λ (k : ℕ). evm k (or_cells k (cells k (vertices_of c.rows.result).rows) (cells k (vertices_of c.rows-2.result).rows))) d
    ∙ ap₂ (λ X Y. evm n (or_cells n (cells n X) (cells n Y))) low high in
    let v : c.in_ok-high.high.rows ≡ united n (sections_of (take (c.args.count - half) c.unite.new.sweep.left)) =
    c.in_ok-high.ensures.rows ∙ ap (λ (k : ℕ). united k (sections_of (take (c.args.count - half) c.unite.new.sweep.left))) c.unite.ensures.same_dim in
    two_halves n half (c.args.count - half) c.args.count left c.unite.new.sweep.left _ _ _ (omega arith) c.in_ok-low.ensures.left c.in_ok-low.ensures.rows v w
