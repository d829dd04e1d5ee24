use Rattle.std.proofs.Common.{◌≡◌, ◌++◌, [], nat_abs, ◌∙◌, refl, ap}
use Rattle.std.proofs.lemmas.Result.{err_from_is_err_and}
use Rattle.evm_rows.specs.View.{vertices_of}
use Rattle.evm_model.specs.Figures.{Figure, proj_of}
use Rattle.evm_model.specs.Scene.{value}
use Rattle.evm_model.specs.Edits.{axis_causes}
use Rattle.evm_model.specs.Replies.{Shown, reply_text}
use Rattle.evm_formulas.specs.Stated.{figure_of}
use Rattle.evm_session.proofs.Turns.{carried, asked_refused, asked_passed}
use Rattle.evm_session.proofs.Slicing.{deep_rows, proj_found}
use Rattle.evm_session.proofs.sections.project.Goals as goal

pub returns-in_err-found : goal.returns-in_err-found
returns-in_err-found g c =
    let p = err_from_is_err_and c.from_residual.result c.from_residual.ensures.1 in
    rw (p.1, p.2)
    (asked_refused c.in_err-found.field-0.0 c.args.scene.now (axis_causes c.args.scene.now c.args.name.now c.args.axis.now) [] _ c.args.out.now.items c.in_err-found.ensures.tests)

pub project-requires-clause-deep : goal.project-requires-clause-deep
project-requires-clause-deep g c =
    deep_rows (vertices_of c.rows.result) c.in_ok-found.found.0.now (c.rows.ensures ∙ c.in_ok-solid.ensures) c.in_ok-found.ensures.tree.deep

pub returns : goal.returns
returns g c =
    let scene = c.args.scene.now in
    let shadow = proj_of (nat_abs c.args.axis.now) (value scene c.args.name.now) in
    let made : figure_of c.in_ok-shadow.shadow ≡ shadow =
    proj_found (vertices_of c.rows.result) c.in_ok-found.found.0.now c.in_ok-shadow.shadow c.in_ok-found.found.1 c.args.axis.now
    (c.rows.ensures ∙ c.in_ok-solid.ensures) c.in_ok-shadow.ensures.dim c.in_ok-shadow.ensures.cells c.in_ok-found.ensures.axis.2
    ∙ ap (proj_of (nat_abs c.args.axis.now)) c.in_ok-found.ensures.tree.figure in
    carried scene scene c.args.out.now.items c.say_solid.new.out.items (Shown shadow) _
    (asked_passed scene (axis_causes scene c.args.name.now c.args.axis.now) (Shown shadow) c.in_ok-found.ensures.tests)
    (c.in_ok-say_solid.ensures ∙ ap (λ (a : Figure). c.args.out.now.items ++ reply_text (Shown a)) made) refl
