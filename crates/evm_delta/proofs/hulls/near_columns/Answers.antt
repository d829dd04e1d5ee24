use Rattle.std.proofs.Common.{◌-◌, ℕ, ℤ, List, take, refl, ap, ◌∙◌, arith}
use Rattle.evm_cells.specs.Boxes.{is_box}
use Rattle.evm_cells.specs.Shapes.{clip}
use Rattle.evm_rows.specs.Rows.{Vertices, cells_of}
use Rattle.evm_rows.specs.View.{vertices_of}
use Rattle.evm_delta.proofs.OpenWindows.{open_is_box, open_agrees, open_cuts}
use Rattle.evm_delta.proofs.hulls.near_columns.Goals as goal

pub window-requires : goal.window-requires
window-requires c =
    let t : Vertices = c.args.tree.now in
    let lo : List ℤ = c.open_box-ends.result.lo in
    let hi : List ℤ = c.open_box-ends.result.hi in
    let narrow = c.args.d.narrow in
    let same = c.requires.same_dim in
    ap (λ (m : ℕ). is_box t.dim (take m lo) (take m hi)) (c.dim-dim.ensures ∙ same)
    ∙ open_is_box t.dim (c.args.axis - 1) lo hi (vertices_of c.args.d) same (omega (arith, narrow, same)) c.args.d.vertices c.requires.some c.open_box-ends.ensures

pub returns-clause-agrees : goal.returns-clause-agrees
returns-clause-agrees c =
    let t : Vertices = c.args.tree.now in
    let lo : List ℤ = c.open_box-ends.result.lo in
    let hi : List ℤ = c.open_box-ends.result.hi in
    let narrow = c.args.d.narrow in
    let same = c.requires.same_dim in
    let first = c.requires.low in
    let last = c.requires.high in
    open_agrees t.dim (c.args.axis - 1) lo hi (vertices_of c.args.d) t c.in_ok-columns.columns same refl (omega (arith, first, last)) (omega (arith, narrow, same)) c.args.d.vertices
    c.open_box-ends.ensures (c.in_ok-columns.ensures.cells ∙ ap (λ (m : ℕ). clip t.dim (take m lo) (take m hi) (cells_of t)) (c.dim-dim.ensures ∙ same))

pub returns-clause-cuts : goal.returns-clause-cuts
returns-clause-cuts c =
    let t : Vertices = c.args.tree.now in
    let lo : List ℤ = c.open_box-ends.result.lo in
    let hi : List ℤ = c.open_box-ends.result.hi in
    let narrow = c.args.d.narrow in
    let same = c.requires.same_dim in
    let deep = c.requires.deep in
    open_cuts t.dim (c.args.axis - 1) lo hi (vertices_of c.args.d) t c.in_ok-columns.columns same refl c.in_ok-columns.ensures.dim (omega (arith, deep)) (omega (arith, narrow, same))
    c.open_box-ends.ensures (c.in_ok-columns.ensures.cells ∙ ap (λ (m : ℕ). clip t.dim (take m lo) (take m hi) (cells_of t)) (c.dim-dim.ensures ∙ same))
