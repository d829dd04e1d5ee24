use Rattle.evm_cells.proofs.Insides.{box_lengths}
use Rattle.std.proofs.Common.{◌≡◌, ℕ, length, ap, sym, ◌∙◌, arith}
use Rattle.evm_cells.specs.Boxes.{is_box}
use Rattle.evm_cells.specs.Vertices.{evm}
use Rattle.evm_rows.specs.Rows.{Vertices, cells_of}
use Rattle.evm_tiles.specs.Trees.{is_well}
use Rattle.evm_tiles.proofs.Showing.{window_shown}
use Rattle.evm_tiles.proofs.tiles.Tiles.window.Goals as goal

pub window-requires-clause-few : goal.window-requires-clause-few
window-requires-clause-few c =
    let l = box_lengths c.args.self.now.dim c.args.lo.now c.args.hi.now c.requires in
    let e : length c.args.lo.now ≡ c.self.inside.dim = l.0 ∙ sym (ap (λ (v : Vertices). v.dim) c.self.view_is) in
    let h = c.self.invariant.high in
    omega (arith, e, h)

pub window-requires-clause-well : goal.window-requires-clause-well
window-requires-clause-well c =
    let l = box_lengths c.args.self.now.dim c.args.lo.now c.args.hi.now c.requires in
    let e : length c.args.lo.now ≡ c.self.inside.dim = l.0 ∙ sym (ap (λ (v : Vertices). v.dim) c.self.view_is) in
    ap (λ (m : ℕ). is_well m c.deref.result.now) e ∙ ap (is_well c.self.inside.dim) c.deref.ensures ∙ c.self.invariant.well

pub window-requires-clause-inside : goal.window-requires-clause-inside
window-requires-clause-inside c =
    let l = box_lengths c.args.self.now.dim c.args.lo.now c.args.hi.now c.requires in
    ap (λ (m : ℕ). is_box m c.args.lo.now c.args.hi.now) l.0 ∙ c.requires

pub returns-clause-dim : goal.returns-clause-dim
returns-clause-dim c =
    let l = box_lengths c.args.self.now.dim c.args.lo.now c.args.hi.now c.requires in
    c.in_ok-part.ensures.dim ∙ l.0

pub returns-clause-rows : goal.returns-clause-rows
returns-clause-rows c =
    let l = box_lengths c.args.self.now.dim c.args.lo.now c.args.hi.now c.requires in
    let e : length c.args.lo.now ≡ c.self.inside.dim = l.0 ∙ sym (ap (λ (v : Vertices). v.dim) c.self.view_is) in
    c.facts.ensures.vertices ∙ ap (λ (m : ℕ). evm m (cells_of c.in_ok-part.part)) (c.in_ok-part.ensures.dim ∙ l.0)
    ∙ ap (evm c.args.self.now.dim) (c.in_ok-part.ensures.cells ∙ window_shown c.self.inside.dim (length c.args.lo.now) c.self.inside.root.value c.deref.result.now c.args.self.now c.args.lo.now c.args.hi.now e c.deref.ensures c.self.view_is)

pub returns-clause-cells : goal.returns-clause-cells
returns-clause-cells c =
    let l = box_lengths c.args.self.now.dim c.args.lo.now c.args.hi.now c.requires in
    let e : length c.args.lo.now ≡ c.self.inside.dim = l.0 ∙ sym (ap (λ (v : Vertices). v.dim) c.self.view_is) in
    c.in_ok-part.ensures.cells ∙ window_shown c.self.inside.dim (length c.args.lo.now) c.self.inside.root.value c.deref.result.now c.args.self.now c.args.lo.now c.args.hi.now e c.deref.ensures c.self.view_is
