use Rattle.std.proofs.Common.{◌-◌, refl, arith, sym, ap, ◌∙◌, subst}
use Rattle.evm_rows.specs.Rows.{Vertices}
use Rattle.evm_rows.specs.View.{vertices_of}
use Rattle.evm_delta.specs.Changes.{left_change, after_change}
use Rattle.evm_cutting.specs.Hulls.{AgreesOn}
use Rattle.evm_delta.proofs.Deltas.{no_rows}
use Rattle.evm_delta.proofs.Near.{no_left, left_near_is, left_near_stays}
use Rattle.evm_delta.proofs.ChangeHeights.{left_steps, left_steps_after}
use Rattle.evm_delta.proofs.boolean_changes.left_near.Goals as goal

pub returns-then-len-eq0-clause-part : goal.returns-then-len-eq0-clause-part
returns-then-len-eq0-clause-part g c =
    let da : Vertices = vertices_of c.args.da in
    no_left c.args.op da (after_change c.args.b.now (vertices_of c.args.db)) c.empty-none.result (no_rows da (sym c.len.ensures ∙ c.if-len-eq0.true)) (c.empty-none.ensures.dim ∙ c.dim.ensures) c.empty-none.ensures.rows

pub returns-then-len-eq0-2-clause-part : goal.returns-then-len-eq0-2-clause-part
returns-then-len-eq0-2-clause-part g c =
    let da : Vertices = vertices_of c.args.da in
    let db : Vertices = vertices_of c.args.db in
    left_near_stays c.args.op da c.args.b.now db c.in_ok-before.before c.in_ok-same.same (no_rows db (sym c.len-2.ensures ∙ c.if-len-eq0-2.true)) c.requires.other c.requires.right
    c.in_ok-before.ensures.dim c.in_ok-before.ensures.agrees (c.in_ok-same.ensures.part ∙ ap (left_change c.args.op da) c.rows.ensures)

pub returns-clause-part : goal.returns-clause-part
returns-clause-part g c =
    let da : Vertices = vertices_of c.args.da in
    let b : Vertices = c.args.b.now in
    let v : Vertices = vertices_of c.rows-2.result in
    left_near_is c.args.op da b (vertices_of c.args.db) v c.in_ok-after.after c.in_ok-part.part c.requires.other c.requires.right
    (ap (λ (w : Vertices). w.dim) c.rows-2.ensures ∙ c.in_ok-before.ensures.dim) (subst (λ (w : Vertices). AgreesOn da b w) (sym c.rows-2.ensures) c.in_ok-before.ensures.agrees)
    c.in_ok-after.ensures.dim c.in_ok-after.ensures.cells (c.in_ok-part.ensures.part ∙ ap (left_change c.args.op da) c.rows-3.ensures)

pub returns-in_err-same-clause-few : goal.returns-in_err-same-clause-few
returns-in_err-same-clause-few g c a e =
    let da = c.args.da in
    let left = da.left in
    left_steps (da.width - da.skip) c.args.steps.now c.left_change.new.steps a (vertices_of da) c.args.b.now (vertices_of c.args.db) c.in_ok-before.before (vertices_of c.rows.result)
    (omega (arith, left)) e refl c.requires.other c.requires.right c.in_ok-before.ensures.dim c.in_ok-before.ensures.cuts c.rows.ensures c.left_change.ensures.few

pub returns-then-len-eq0-2-clause-few : goal.returns-then-len-eq0-2-clause-few
returns-then-len-eq0-2-clause-few g c a e =
    let da = c.args.da in
    let left = da.left in
    left_steps (da.width - da.skip) c.args.steps.now c.left_change.new.steps a (vertices_of da) c.args.b.now (vertices_of c.args.db) c.in_ok-before.before (vertices_of c.rows.result)
    (omega (arith, left)) e refl c.requires.other c.requires.right c.in_ok-before.ensures.dim c.in_ok-before.ensures.cuts c.rows.ensures c.left_change.ensures.few

pub returns-in_err-part-clause-few : goal.returns-in_err-part-clause-few
returns-in_err-part-clause-few g c a e =
    let da = c.args.da in
    let left = da.left in
    left_steps_after (da.width - da.skip) c.args.steps.now c.left_change-2.new.steps a (vertices_of da) c.args.b.now (vertices_of c.args.db) c.in_ok-before.before (vertices_of c.rows-2.result)
    c.in_ok-after.after (vertices_of c.rows-3.result)
    (omega (arith, left)) e refl c.requires.other c.requires.right c.in_ok-before.ensures.dim c.in_ok-before.ensures.cuts c.rows-2.ensures
    c.in_ok-after.ensures.dim c.in_ok-after.ensures.cells c.rows-3.ensures c.left_change-2.ensures.few

pub returns-clause-few : goal.returns-clause-few
returns-clause-few g c a e =
    let da = c.args.da in
    let left = da.left in
    left_steps_after (da.width - da.skip) c.args.steps.now c.left_change-2.new.steps a (vertices_of da) c.args.b.now (vertices_of c.args.db) c.in_ok-before.before (vertices_of c.rows-2.result)
    c.in_ok-after.after (vertices_of c.rows-3.result)
    (omega (arith, left)) e refl c.requires.other c.requires.right c.in_ok-before.ensures.dim c.in_ok-before.ensures.cuts c.rows-2.ensures
    c.in_ok-after.ensures.dim c.in_ok-after.ensures.cells c.rows-3.ensures c.left_change-2.ensures.few
