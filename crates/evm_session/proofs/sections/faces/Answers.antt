use Rattle.std.proofs.Common.{◌≡◌, ◌++◌, [], ℕ, List, nat_abs, ◌∙◌, refl, ap}
use Rattle.std.proofs.lemmas.Result.{err_from_is_err_and}
use Rattle.evm_rows.specs.View.{vertices_of}
use Rattle.evm_faces.specs.Counts.{faces_by_cut}
use Rattle.evm_faces.specs.declared.counts.CutFaces.{CutFaces}
use Rattle.evm_model.specs.Figures.{Figure, faces_of}
use Rattle.evm_model.specs.Scene.{value}
use Rattle.evm_model.specs.Edits.{axis_causes}
use Rattle.evm_model.specs.Replies.{Faced, reply_text}
use Rattle.evm_session.specs.Counted.{cuts_reply}
use Rattle.evm_session.proofs.Turns.{carried, asked_refused, asked_passed}
use Rattle.evm_session.proofs.Slicing.{deep_rows}
use Rattle.evm_session.proofs.Counting.{cuts_said}
use Rattle.evm_session.proofs.sections.faces.Goals as goal

pub returns-in_err-found : goal.returns-in_err-found
returns-in_err-found g c =
    let p = err_from_is_err_and c.from_residual.result c.from_residual.ensures.1 in
    rw (p.1, p.2)
    (asked_refused c.in_err-found.field-0.0 c.args.scene.now (axis_causes c.args.scene.now c.args.name.now c.args.axis.now) [] _ c.args.out.now.items c.in_err-found.ensures.tests)

pub cut_faces-requires-clause-deep : goal.cut_faces-requires-clause-deep
cut_faces-requires-clause-deep g c =
    deep_rows (vertices_of c.rows.result) c.in_ok-found.found.0.now (c.rows.ensures ∙ c.in_ok-solid.ensures) c.in_ok-found.ensures.tree.deep

pub returns : goal.returns
returns g c =
    let scene = c.args.scene.now in
    let axis = nat_abs c.args.axis.now in
    let reply = Faced (faces_of axis (value scene c.args.name.now)) in
    let v = c.in_ok-found.found.0.now in
    let counted : c.in_ok-cuts.cuts.items ≡ faces_by_cut axis v =
    c.in_ok-cuts.ensures
    ∙ ap (λ (k : ℕ). faces_by_cut k (vertices_of c.rows.result)) c.in_ok-found.ensures.axis.2
    ∙ ap (faces_by_cut axis) (c.rows.ensures ∙ c.in_ok-solid.ensures) in
    let said = cuts_said axis v c.in_ok-cuts.cuts.items counted
    ∙ ap (λ (a : Figure). reply_text (Faced (faces_of axis a))) c.in_ok-found.ensures.tree.figure in
    let text = c.in_ok-say_cuts.ensures ∙ ap (λ (cuts : List CutFaces). c.args.out.now.items ++ cuts_reply cuts) c.as_slice.ensures.value
    ∙ ap (λ (t : List ℕ). c.args.out.now.items ++ t) said in
    carried scene scene c.args.out.now.items c.say_cuts.new.out.items reply _
    (asked_passed scene (axis_causes scene c.args.name.now c.args.axis.now) reply c.in_ok-found.ensures.tests) text refl
