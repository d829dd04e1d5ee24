use Rattle.std.proofs.Common.{refl, arith, sym, ap, ◌∙◌}
use Rattle.evm_rows.specs.Rows.{Vertices}
use Rattle.evm_rows.specs.View.{vertices_of}
use Rattle.evm_delta.specs.Changes.{right_change}
use Rattle.evm_delta.proofs.Deltas.{no_rows}
use Rattle.evm_delta.proofs.Near.{no_right, right_agrees}
use Rattle.evm_delta.proofs.ChangeHeights.{right_steps}
use Rattle.evm_delta.proofs.boolean_changes.right_near.Goals as goal

pub returns-then-len-eq0-clause-part : goal.returns-then-len-eq0-clause-part
returns-then-len-eq0-clause-part g c =
    let db : Vertices = vertices_of c.args.db in
    no_right c.args.op c.args.a.now db c.empty-none.result (no_rows db (sym c.len.ensures ∙ c.if-len-eq0.true)) (c.empty-none.ensures.dim ∙ c.dim.ensures) c.empty-none.ensures.rows

pub returns-clause-part : goal.returns-clause-part
returns-clause-part g c =
    let a : Vertices = c.args.a.now in
    let db : Vertices = vertices_of c.args.db in
    c.in_ok-part.ensures.part ∙ ap (λ (w : Vertices). right_change c.args.op w db) c.rows.ensures
    ∙ right_agrees c.args.op a db c.in_ok-before.before (sym c.requires) (c.in_ok-before.ensures.dim ∙ sym c.requires) c.in_ok-before.ensures.agrees

pub returns-in_err-part-clause-few : goal.returns-in_err-part-clause-few
returns-in_err-part-clause-few g c da b e f =
    let db = c.args.db in
    let left = db.left in
    let same = c.requires in
    right_steps c.args.a.now.dim c.args.steps.now c.right_change.new.steps c.args.a.now da b (vertices_of db) c.in_ok-before.before (vertices_of c.rows.result)
    (omega (arith, left, same)) refl e f same c.in_ok-before.ensures.dim c.in_ok-before.ensures.cuts c.rows.ensures c.right_change.ensures.few

pub returns-clause-few : goal.returns-clause-few
returns-clause-few g c da b e f =
    let db = c.args.db in
    let left = db.left in
    let same = c.requires in
    right_steps c.args.a.now.dim c.args.steps.now c.right_change.new.steps c.args.a.now da b (vertices_of db) c.in_ok-before.before (vertices_of c.rows.result)
    (omega (arith, left, same)) refl e f same c.in_ok-before.ensures.dim c.in_ok-before.ensures.cuts c.rows.ensures c.right_change.ensures.few
