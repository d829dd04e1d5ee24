use Rattle.std.proofs.Common.{◌-◌, ℕ, ℤ, List, length, take, refl, sym, ap, ◌∙◌, arith}
use Rattle.evm_cells.specs.Boxes.{is_box}
use Rattle.evm_cells.specs.Shapes.{clip}
use Rattle.evm_cells.specs.Vertices.{cells}
use Rattle.evm_rows.specs.Rows.{Vertices, cells_of}
use Rattle.evm_rows.specs.View.{vertices_of}
use Rattle.evm_cutting.proofs.HullLaws.{is_hull, hull_agrees}
use Rattle.evm_delta.proofs.NearHeights.{near_cuts_are}
use Rattle.evm_delta.proofs.hulls.near.Goals as goal

pub window-requires : goal.window-requires
window-requires c =
    let d = c.args.d in
    let n : ℕ = d.width - d.skip in
    let lo : List ℤ = c.least_box-ends.result.lo in
    let hi : List ℤ = c.least_box-ends.result.hi in
    let narrow = d.narrow in
    let low = c.least_box-ends.ensures.low in
    let high = c.least_box-ends.ensures.high in
    let some = c.requires.some in
    ap (λ (m : ℕ). is_box c.args.tree.now.dim (take m lo) (take m hi)) c.dim-dim.ensures
    ∙ ap (λ (m : ℕ). is_box m (take n lo) (take n hi)) (sym c.requires.same_dim)
    ∙ is_hull n lo hi (vertices_of d) refl (omega (arith, narrow, low)) (omega (arith, narrow, high)) d.vertices (λ e. let z = ap length e in absurd (omega (arith, some, z))) c.least_box-ends.ensures.around

pub returns-clause-agrees : goal.returns-clause-agrees
returns-clause-agrees c =
    let d = c.args.d in
    let n : ℕ = d.width - d.skip in
    let v : Vertices = vertices_of d in
    let t : Vertices = c.args.tree.now in
    let lo : List ℤ = c.least_box-ends.result.lo in
    let hi : List ℤ = c.least_box-ends.result.hi in
    let narrow = d.narrow in
    let low = c.least_box-ends.ensures.low in
    let high = c.least_box-ends.ensures.high in
    hull_agrees n lo hi v t c.in_ok-part.part refl (sym c.requires.same_dim) (omega (arith, narrow, low)) (omega (arith, narrow, high)) d.vertices c.least_box-ends.ensures.around
    (c.in_ok-part.ensures.cells
    ∙ ap (λ (m : ℕ). clip t.dim (take m lo) (take m hi) (cells_of t)) c.dim-dim.ensures
    ∙ ap (λ (m : ℕ). clip m (take n lo) (take n hi) (cells m t.rows)) (sym c.requires.same_dim))

pub returns-clause-cuts : goal.returns-clause-cuts
returns-clause-cuts c =
    let d = c.args.d in
    let n : ℕ = d.width - d.skip in
    let v : Vertices = vertices_of d in
    let t : Vertices = c.args.tree.now in
    let lo : List ℤ = c.least_box-ends.result.lo in
    let hi : List ℤ = c.least_box-ends.result.hi in
    let narrow = d.narrow in
    let left = d.left in
    let low = c.least_box-ends.ensures.low in
    let high = c.least_box-ends.ensures.high in
    near_cuts_are n lo hi v t c.in_ok-part.part (omega (arith, left)) refl (sym c.requires.same_dim) (c.in_ok-part.ensures.dim ∙ sym c.requires.same_dim) (omega (arith, narrow, low)) (omega (arith, narrow, high))
    c.least_box-ends.ensures.first c.least_box-ends.ensures.last
    (c.in_ok-part.ensures.cells
    ∙ ap (λ (m : ℕ). clip t.dim (take m lo) (take m hi) (cells_of t)) c.dim-dim.ensures
    ∙ ap (λ (m : ℕ). clip m (take n lo) (take n hi) (cells m t.rows)) (sym c.requires.same_dim))
