use Rattle.std.proofs.Common.{◌-◌, ℕ, ℤ, List, length, take, refl, sym, ap, ◌∙◌, arith}
use Rattle.evm_cells.specs.Boxes.{is_box}
use Rattle.evm_cells.specs.Shapes.{clip}
use Rattle.evm_cells.specs.Vertices.{cells}
use Rattle.evm_rows.specs.Rows.{Vertices}
use Rattle.evm_rows.specs.View.{vertices_of}
use Rattle.evm_cutting.proofs.HullLaws.{is_hull, hull_agrees, none_agrees}
use Rattle.evm_cutting.proofs.hulls.window.Goals as goal

pub returns-then-len-eq0-clause-agrees : goal.returns-then-len-eq0-clause-agrees
returns-then-len-eq0-clause-agrees c = none_agrees (vertices_of c.args.d) (vertices_of c.args.a) c.empty.result (sym c.len.ensures ∙ c.if-len-eq0.true)

pub clip-requires : goal.clip-requires
clip-requires c =
    let d = c.args.d in
    let n : ℕ = d.width - d.skip in
    let lo : List ℤ = c.hull-ends.result.lo in
    let hi : List ℤ = c.hull-ends.result.hi in
    let a = c.args.a in
    let narrow = d.narrow in
    let low = c.hull-ends.ensures.low in
    let high = c.hull-ends.ensures.high in
    let count = c.len.ensures in
    let some = c.if-len-eq0.false in
    ap (λ (m : ℕ). is_box (a.width - a.skip) (take m lo) (take m hi)) c.dim-dim.ensures
    ∙ ap (λ (m : ℕ). is_box m (take n lo) (take n hi)) c.requires
    ∙ is_hull n lo hi (vertices_of d) refl (omega (arith, narrow, low)) (omega (arith, narrow, high)) d.vertices (λ e. some (count ∙ ap length e)) c.hull-ends.ensures.around

pub returns-clause-agrees : goal.returns-clause-agrees
returns-clause-agrees c =
    let d = c.args.d in
    let n : ℕ = d.width - d.skip in
    let t : Vertices = vertices_of c.args.a in
    let lo : List ℤ = c.hull-ends.result.lo in
    let hi : List ℤ = c.hull-ends.result.hi in
    let narrow = d.narrow in
    let low = c.hull-ends.ensures.low in
    let high = c.hull-ends.ensures.high in
    hull_agrees n lo hi (vertices_of d) t c.in_ok-part.part refl c.requires (omega (arith, narrow, low)) (omega (arith, narrow, high)) d.vertices c.hull-ends.ensures.around
    (c.in_ok-part.ensures.cells
    ∙ ap (λ (m : ℕ). clip t.dim (take m lo) (take m hi) (cells t.dim t.rows)) c.dim-dim.ensures
    ∙ ap (λ (m : ℕ). clip m (take n lo) (take n hi) (cells m t.rows)) c.requires)
