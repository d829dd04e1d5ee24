use Rattle.std.proofs.Common.{◌-◌, ℕ, ℤ, List, refl, arith, sym, subst}
use Rattle.evm_cells.specs.Booleans.{xor_cells}
use Rattle.evm_cells.specs.Shapes.{proj}
use Rattle.evm_cells.specs.Vertices.{cells}
use Rattle.evm_rows.specs.Rows.{Vertices}
use Rattle.evm_rows.specs.View.{vertices_of}
use Rattle.evm_delta.proofs.Shadows.{Shows, own_cells, shows_proj, shows_xor, shadow_is}
use Rattle.evm_delta.proofs.ShapeHeights.{shadow_steps, shadow_steps_after}
use Rattle.evm_delta.proofs.shape_changes.projection_near.Goals as goal

pub returns-clause-part : goal.returns-clause-part
returns-clause-part g c =
    let a : Vertices = c.args.a.now in
    let da : Vertices = vertices_of c.args.da in
    let n : ℕ = a.dim in
    let i : ℕ = c.args.axis - 1 in
    let b : Vertices = c.in_ok-before.before in
    let D : List (List ℤ) = cells n da.rows in
    let R : List (List ℤ) = cells n b.rows in
    let RD : List (List ℤ) = xor_cells n R D in
    let change : Shows n D da = own_cells n da c.requires.same_dim in
    let before : Shows n R b = own_cells n b c.in_ok-before.ensures.dim in
    let before_view : Shows n R (vertices_of c.rows.result) = subst (λ (v : Vertices). Shows n R v) (sym c.rows.ensures) before in
    let after : Shows n RD c.in_ok-after.after = shows_xor n R D (vertices_of c.rows.result) da c.in_ok-after.after before_view change c.in_ok-after.ensures.dim c.in_ok-after.ensures.cells in
    let before_again : Shows n R (vertices_of c.rows-2.result) = subst (λ (v : Vertices). Shows n R v) (sym c.rows-2.ensures) before in
    let after_view : Shows n RD (vertices_of c.rows-3.result) = subst (λ (v : Vertices). Shows n RD v) (sym c.rows-3.ensures) after in
    let old : Shows (n - 1) (proj (n - 1) i R) c.in_ok-old_shadow.old_shadow = shows_proj n i R (vertices_of c.rows-2.result) c.in_ok-old_shadow.old_shadow before_again c.in_ok-old_shadow.ensures.dim c.in_ok-old_shadow.ensures.cells in
    let new : Shows (n - 1) (proj (n - 1) i RD) c.in_ok-new_shadow.new_shadow = shows_proj n i RD (vertices_of c.rows-3.result) c.in_ok-new_shadow.new_shadow after_view c.in_ok-new_shadow.ensures.dim c.in_ok-new_shadow.ensures.cells in
    let o : Vertices = vertices_of c.rows-4.result in
    let w : Vertices = vertices_of c.rows-5.result in
    shadow_is c.args.axis a da b o w c.in_ok-made.made c.requires.same_dim c.in_ok-before.ensures.dim c.requires.low c.requires.high c.in_ok-before.ensures.agrees
    (subst (λ (v : Vertices). Shows (n - 1) (proj (n - 1) i R) v) (sym c.rows-4.ensures) old) (subst (λ (v : Vertices). Shows (n - 1) (proj (n - 1) i RD) v) (sym c.rows-5.ensures) new)
    c.in_ok-made.ensures.dim c.in_ok-made.ensures.rows

pub returns-in_err-old_shadow-clause-few : goal.returns-in_err-old_shadow-clause-few
returns-in_err-old_shadow-clause-few g c =
    let deep = c.requires.deep in
    let p = shadow_steps c.args.a.now.dim c.args.axis c.args.steps.now c.shadow_of.new.steps c.args.a.now (vertices_of c.args.da) c.in_ok-before.before (vertices_of c.rows-2.result) (omega (arith, deep)) c.requires.low refl c.requires.same_dim
    c.in_ok-before.ensures.dim c.in_ok-before.ensures.cuts c.rows-2.ensures c.shadow_of.ensures.passed in
    omega (arith, p)

pub returns-in_err-new_shadow-clause-few : goal.returns-in_err-new_shadow-clause-few
returns-in_err-new_shadow-clause-few g c =
    let deep = c.requires.deep in
    let p = shadow_steps c.args.a.now.dim c.args.axis c.args.steps.now c.shadow_of.new.steps c.args.a.now (vertices_of c.args.da) c.in_ok-before.before (vertices_of c.rows-2.result) (omega (arith, deep)) c.requires.low refl c.requires.same_dim
    c.in_ok-before.ensures.dim c.in_ok-before.ensures.cuts c.rows-2.ensures c.shadow_of.ensures.passed in
    let q = shadow_steps_after c.args.a.now.dim c.args.axis c.shadow_of.new.steps c.shadow_of-2.new.steps c.args.a.now (vertices_of c.args.da) c.in_ok-before.before (vertices_of c.rows.result) c.in_ok-after.after (vertices_of c.rows-3.result)
    (omega (arith, deep)) c.requires.low refl c.requires.same_dim c.in_ok-before.ensures.dim c.in_ok-before.ensures.cuts c.rows.ensures
    c.in_ok-after.ensures.dim c.in_ok-after.ensures.cells c.rows-3.ensures c.shadow_of-2.ensures.passed in
    omega (arith, p, q)

pub returns-in_err-made-clause-few : goal.returns-in_err-made-clause-few
returns-in_err-made-clause-few g c =
    let deep = c.requires.deep in
    let p = shadow_steps c.args.a.now.dim c.args.axis c.args.steps.now c.shadow_of.new.steps c.args.a.now (vertices_of c.args.da) c.in_ok-before.before (vertices_of c.rows-2.result) (omega (arith, deep)) c.requires.low refl c.requires.same_dim
    c.in_ok-before.ensures.dim c.in_ok-before.ensures.cuts c.rows-2.ensures c.shadow_of.ensures.passed in
    let q = shadow_steps_after c.args.a.now.dim c.args.axis c.shadow_of.new.steps c.shadow_of-2.new.steps c.args.a.now (vertices_of c.args.da) c.in_ok-before.before (vertices_of c.rows.result) c.in_ok-after.after (vertices_of c.rows-3.result)
    (omega (arith, deep)) c.requires.low refl c.requires.same_dim c.in_ok-before.ensures.dim c.in_ok-before.ensures.cuts c.rows.ensures
    c.in_ok-after.ensures.dim c.in_ok-after.ensures.cells c.rows-3.ensures c.shadow_of-2.ensures.passed in
    omega (arith, p, q)

pub returns-clause-few : goal.returns-clause-few
returns-clause-few g c =
    let deep = c.requires.deep in
    let p = shadow_steps c.args.a.now.dim c.args.axis c.args.steps.now c.shadow_of.new.steps c.args.a.now (vertices_of c.args.da) c.in_ok-before.before (vertices_of c.rows-2.result) (omega (arith, deep)) c.requires.low refl c.requires.same_dim
    c.in_ok-before.ensures.dim c.in_ok-before.ensures.cuts c.rows-2.ensures c.shadow_of.ensures.passed in
    let q = shadow_steps_after c.args.a.now.dim c.args.axis c.shadow_of.new.steps c.shadow_of-2.new.steps c.args.a.now (vertices_of c.args.da) c.in_ok-before.before (vertices_of c.rows.result) c.in_ok-after.after (vertices_of c.rows-3.result)
    (omega (arith, deep)) c.requires.low refl c.requires.same_dim c.in_ok-before.ensures.dim c.in_ok-before.ensures.cuts c.rows.ensures
    c.in_ok-after.ensures.dim c.in_ok-after.ensures.cells c.rows-3.ensures c.shadow_of-2.ensures.passed in
    omega (arith, p, q)
