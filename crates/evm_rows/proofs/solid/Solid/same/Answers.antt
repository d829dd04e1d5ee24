use Rattle.std.proofs.Common.{◌≡◌, ◌∙◌, ap₂, subst}
use Rattle.std.specs.Cmp.Lexicographic.{pointwise}
use Rattle.std.specs.Ordering.{int_eq}
use Rattle.evm_cells.specs.Vertices.{IsVertexList}
use Rattle.evm_rows.specs.Rows.{Vertices}
use Rattle.evm_rows.proofs.Solids.{same_vertices, same_cells, vertices_shown, by_way}
use Rattle.evm_rows.proofs.solid.Solid.same.Goals as goal

pub returns-then-self-other-clause-rows : goal.returns-then-self-other-clause-rows
returns-then-self-other-clause-rows c =
    let s = c.self.inside in
    let o = c.other.inside in
    let test : c.eq.result ≡ pointwise int_eq s.flat.items o.flat.items =
    c.eq.ensures ∙ ap₂ (pointwise int_eq) c.as_slice.ensures.value c.as_slice-then-self-other.ensures.value in
    rw (← c.self.view_is, ← c.other.view_is) (same_vertices c.eq.result s.dim o.dim s.flat.items o.flat.items c.self.invariant c.other.invariant c.if-self-other.true test)

pub returns-then-self-other-clause-cells : goal.returns-then-self-other-clause-cells
returns-then-self-other-clause-cells c =
    let s = c.self.inside in
    let o = c.other.inside in
    let v : IsVertexList c.args.self.now.dim c.args.self.now.rows =
    subst (λ (w : Vertices). IsVertexList w.dim w.rows) c.self.view_is (vertices_shown s.flat.items s.dim c.self.invariant) in
    let w : IsVertexList c.args.other.now.dim c.args.other.now.rows =
    subst (λ (w : Vertices). IsVertexList w.dim w.rows) c.other.view_is (vertices_shown o.flat.items o.dim c.other.invariant) in
    by_way (returns-then-self-other-clause-rows c) (same_cells c.args.self.now c.args.other.now v w)
