use Rattle.std.proofs.Common.{◌≡◌, ◌-◌, ◌<◌, ◌≤◌, ℕ, ℤ, List, take, refl, arith, sym, ap, ap₂, ◌∙◌, subst}
use Rattle.evm_cells.specs.Booleans.{xor_cells}
use Rattle.evm_cells.specs.Boxes.{is_box}
use Rattle.evm_cells.specs.Shapes.{clip, proj}
use Rattle.evm_cells.specs.Vertices.{cells}
use Rattle.evm_rows.specs.Rows.{Vertices, cells_of}
use Rattle.evm_rows.specs.View.{vertices_of}
use Rattle.evm_delta.proofs.OpenWindows.{box_below, open_is_box, open_agrees, open_cuts, shows_below}
use Rattle.evm_delta.proofs.Shadows.{Shows, own_cells, shows_proj, shows_xor, shadow_is}
use Rattle.evm_delta.proofs.ShapeHeights.{shadow_steps_after}
use Rattle.evm_delta.proofs.shape_changes.projection_once.Goals as goal

pub window-requires : goal.window-requires
window-requires g c =
    let a : Vertices = c.args.a.now in
    let da : Vertices = vertices_of c.args.da in
    let n : ℕ = a.dim in
    let i : ℕ = c.args.axis - 1 in
    let lo : List ℤ = c.open_box-ends.result.lo in
    let hi : List ℤ = c.open_box-ends.result.hi in
    let narrow = c.args.da.narrow in
    let same = c.requires.same_dim in
    let small : n ≤ 6 = omega (arith, narrow, same) in
    ap (λ (m : ℕ). is_box n (take m lo) (take m hi)) (c.dim-dim.ensures ∙ same) ∙ open_is_box n i lo hi da same small c.args.da.vertices c.requires.some c.open_box-ends.ensures

pub window-requires-2 : goal.window-requires-2
window-requires-2 g c =
    let a : Vertices = c.args.a.now in
    let da : Vertices = vertices_of c.args.da in
    let n : ℕ = a.dim in
    let i : ℕ = c.args.axis - 1 in
    let lo : List ℤ = c.open_box-ends.result.lo in
    let hi : List ℤ = c.open_box-ends.result.hi in
    let narrow = c.args.da.narrow in
    let same = c.requires.same_dim in
    let small : n ≤ 6 = omega (arith, narrow, same) in
    let first = c.requires.low in
    let last = c.requires.high in
    let base = c.without_axis-base.ensures in
    let p : List ℤ = c.without_axis-base.result.lo in
    let q : List ℤ = c.without_axis-base.result.hi in
    ap (λ (m : ℕ). is_box c.args.own.now.dim (take (m - 1) p) (take (m - 1) q)) (c.dim-dim.ensures ∙ same)
    ∙ ap (λ (m : ℕ). is_box m (take (n - 1) p) (take (n - 1) q)) c.requires.own_dim ∙ ap₂ (is_box (n - 1)) (base.lo n last small) (base.hi n last small)
    ∙ box_below n i (take n lo) (take n hi) (omega (arith, first, last)) (open_is_box n i lo hi da same small c.args.da.vertices c.requires.some c.open_box-ends.ensures)

pub returns-clause-part : goal.returns-clause-part
returns-clause-part g c =
    let a : Vertices = c.args.a.now in
    let n : ℕ = a.dim in
    let da : Vertices = vertices_of c.args.da in
    let i : ℕ = c.args.axis - 1 in
    let lo : List ℤ = c.open_box-ends.result.lo in
    let hi : List ℤ = c.open_box-ends.result.hi in
    let narrow = c.args.da.narrow in
    let same = c.requires.same_dim in
    let small : n ≤ 6 = omega (arith, narrow, same) in
    let first = c.requires.low in
    let last = c.requires.high in
    let inside : i < n = omega (arith, first, last) in
    let base = c.without_axis-base.ensures in
    let b : Vertices = c.in_ok-columns.columns in
    let D : List (List ℤ) = cells n da.rows in
    let R : List (List ℤ) = cells n b.rows in
    let RD : List (List ℤ) = xor_cells n R D in
    let cut : cells_of b ≡ clip n (take n lo) (take n hi) (cells n a.rows) =
    c.in_ok-columns.ensures.cells ∙ ap (λ (m : ℕ). clip n (take m lo) (take m hi) (cells n a.rows)) (c.dim-dim.ensures ∙ same) in
    let columns : Shows n R (vertices_of c.rows.result) = subst (λ (v : Vertices). Shows n R v) (sym c.rows.ensures) (own_cells n b c.in_ok-columns.ensures.dim) in
    let after : Shows n RD c.in_ok-after.after = shows_xor n R D (vertices_of c.rows.result) da c.in_ok-after.after columns (own_cells n da same) c.in_ok-after.ensures.dim c.in_ok-after.ensures.cells in
    let after_view : Shows n RD (vertices_of c.rows-2.result) = subst (λ (v : Vertices). Shows n RD v) (sym c.rows-2.ensures) after in
    let new : Shows (n - 1) (proj (n - 1) i RD) c.in_ok-shadow.shadow = shows_proj n i RD (vertices_of c.rows-2.result) c.in_ok-shadow.shadow after_view c.in_ok-shadow.ensures.dim c.in_ok-shadow.ensures.cells in
    let old : Shows (n - 1) (proj (n - 1) i R) c.in_ok-kept.kept =
    shows_below n i lo hi (take (n - 1) c.without_axis-base.result.lo) (take (n - 1) c.without_axis-base.result.hi) da a c.args.own.now b c.in_ok-kept.kept same inside small c.open_box-ends.ensures
    c.requires.own_dim c.requires.own_cells (base.lo n last small) (base.hi n last small) (ap (λ (m : ℕ). cells m b.rows) (sym c.in_ok-columns.ensures.dim) ∙ cut) c.in_ok-kept.ensures.dim
    (c.in_ok-kept.ensures.cells
    ∙ ap (λ (m : ℕ). clip c.args.own.now.dim (take (m - 1) c.without_axis-base.result.lo) (take (m - 1) c.without_axis-base.result.hi) (cells_of c.args.own.now)) (c.dim-dim.ensures ∙ same)) in
    let o : Vertices = vertices_of c.rows-3.result in
    let w : Vertices = vertices_of c.rows-4.result in
    shadow_is c.args.axis a da b o w c.in_ok-made.made same c.in_ok-columns.ensures.dim first last (open_agrees n i lo hi da a b same refl inside small c.args.da.vertices c.open_box-ends.ensures cut)
    (subst (λ (v : Vertices). Shows (n - 1) (proj (n - 1) i R) v) (sym c.rows-3.ensures) old) (subst (λ (v : Vertices). Shows (n - 1) (proj (n - 1) i RD) v) (sym c.rows-4.ensures) new)
    c.in_ok-made.ensures.dim c.in_ok-made.ensures.rows

pub returns-in_err-shadow-clause-few : goal.returns-in_err-shadow-clause-few
returns-in_err-shadow-clause-few g c =
    let a : Vertices = c.args.a.now in
    let da : Vertices = vertices_of c.args.da in
    let n : ℕ = a.dim in
    let i : ℕ = c.args.axis - 1 in
    let lo : List ℤ = c.open_box-ends.result.lo in
    let hi : List ℤ = c.open_box-ends.result.hi in
    let narrow = c.args.da.narrow in
    let same = c.requires.same_dim in
    let small : n ≤ 6 = omega (arith, narrow, same) in
    let deep = c.requires.deep in
    let some : 0 < n = omega (arith, deep) in
    let cut : cells_of c.in_ok-columns.columns ≡ clip n (take n lo) (take n hi) (cells n a.rows) =
    c.in_ok-columns.ensures.cells ∙ ap (λ (m : ℕ). clip n (take m lo) (take m hi) (cells n a.rows)) (c.dim-dim.ensures ∙ same) in
    shadow_steps_after n c.args.axis c.args.steps.now c.shadow_of.new.steps a da c.in_ok-columns.columns (vertices_of c.rows.result) c.in_ok-after.after (vertices_of c.rows-2.result)
    some c.requires.low refl same c.in_ok-columns.ensures.dim
    (open_cuts n i lo hi da a c.in_ok-columns.columns same refl c.in_ok-columns.ensures.dim some small c.open_box-ends.ensures cut)
    c.rows.ensures c.in_ok-after.ensures.dim c.in_ok-after.ensures.cells c.rows-2.ensures c.shadow_of.ensures.passed

pub returns-in_err-made-clause-few : goal.returns-in_err-made-clause-few
returns-in_err-made-clause-few g c =
    let a : Vertices = c.args.a.now in
    let da : Vertices = vertices_of c.args.da in
    let n : ℕ = a.dim in
    let i : ℕ = c.args.axis - 1 in
    let lo : List ℤ = c.open_box-ends.result.lo in
    let hi : List ℤ = c.open_box-ends.result.hi in
    let narrow = c.args.da.narrow in
    let same = c.requires.same_dim in
    let small : n ≤ 6 = omega (arith, narrow, same) in
    let deep = c.requires.deep in
    let some : 0 < n = omega (arith, deep) in
    let cut : cells_of c.in_ok-columns.columns ≡ clip n (take n lo) (take n hi) (cells n a.rows) =
    c.in_ok-columns.ensures.cells ∙ ap (λ (m : ℕ). clip n (take m lo) (take m hi) (cells n a.rows)) (c.dim-dim.ensures ∙ same) in
    shadow_steps_after n c.args.axis c.args.steps.now c.shadow_of.new.steps a da c.in_ok-columns.columns (vertices_of c.rows.result) c.in_ok-after.after (vertices_of c.rows-2.result)
    some c.requires.low refl same c.in_ok-columns.ensures.dim
    (open_cuts n i lo hi da a c.in_ok-columns.columns same refl c.in_ok-columns.ensures.dim some small c.open_box-ends.ensures cut)
    c.rows.ensures c.in_ok-after.ensures.dim c.in_ok-after.ensures.cells c.rows-2.ensures c.shadow_of.ensures.passed

pub returns-clause-few : goal.returns-clause-few
returns-clause-few g c =
    let a : Vertices = c.args.a.now in
    let da : Vertices = vertices_of c.args.da in
    let n : ℕ = a.dim in
    let i : ℕ = c.args.axis - 1 in
    let lo : List ℤ = c.open_box-ends.result.lo in
    let hi : List ℤ = c.open_box-ends.result.hi in
    let narrow = c.args.da.narrow in
    let same = c.requires.same_dim in
    let small : n ≤ 6 = omega (arith, narrow, same) in
    let deep = c.requires.deep in
    let some : 0 < n = omega (arith, deep) in
    let cut : cells_of c.in_ok-columns.columns ≡ clip n (take n lo) (take n hi) (cells n a.rows) =
    c.in_ok-columns.ensures.cells ∙ ap (λ (m : ℕ). clip n (take m lo) (take m hi) (cells n a.rows)) (c.dim-dim.ensures ∙ same) in
    shadow_steps_after n c.args.axis c.args.steps.now c.shadow_of.new.steps a da c.in_ok-columns.columns (vertices_of c.rows.result) c.in_ok-after.after (vertices_of c.rows-2.result)
    some c.requires.low refl same c.in_ok-columns.ensures.dim
    (open_cuts n i lo hi da a c.in_ok-columns.columns same refl c.in_ok-columns.ensures.dim some small c.open_box-ends.ensures cut)
    c.rows.ensures c.in_ok-after.ensures.dim c.in_ok-after.ensures.cells c.rows-2.ensures c.shadow_of.ensures.passed
