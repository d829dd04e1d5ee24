use Rattle.std.proofs.Common.{◌≡◌, ◌++◌, true, false, not, [], ◌∷◌, ℕ, nat_abs, to_z, of_z, w32, sym, ◌∙◌, refl, ap, rules}
use Rattle.std.proofs.lemmas.Result.{err_from_is_err_and}
use Rattle.evm_cells.specs.Limits.{is_cell_coord}
use Rattle.evm_model.specs.Figures.{Figure, slice_of}
use Rattle.evm_model.specs.Scene.{value, dim_of}
use Rattle.evm_model.specs.Edits.{Range, axis_causes}
use Rattle.evm_model.specs.Replies.{Shown, reply_text}
use Rattle.evm_formulas.specs.Stated.{figure_of}
use Rattle.evm_session.proofs.Turns.{carried, asked_refused, asked_last}
use Rattle.evm_session.proofs.Slicing.{slice_found}
use Rattle.evm_session.proofs.sections.section.Goals as goal

pub returns-in_err-found : goal.returns-in_err-found
returns-in_err-found g c =
    let p = err_from_is_err_and c.from_residual.result c.from_residual.ensures.1 in
    rw (p.1, p.2)
    (asked_refused c.in_err-found.field-0.0 c.args.scene.now (axis_causes c.args.scene.now c.args.name.now c.args.axis.now)
    ((not (is_cell_coord (dim_of c.args.scene.now c.args.name.now) c.args.at.now), Range) ∷ []) _ c.args.out.now.items c.in_err-found.ensures.tests)

pub returns-in_default : goal.returns-in_default
returns-in_default g c =
    let scene = c.args.scene.now in
    let past : is_cell_coord (dim_of scene c.args.name.now) c.args.at.now ≡ false =
    ap (λ (n : ℕ). is_cell_coord n c.args.at.now) (sym (c.dim.ensures ∙ c.in_ok-found.ensures.tree.dim)) ∙ c.in_default.ensures in
    (asked_last scene (axis_causes scene c.args.name.now c.args.axis.now) _ false _ c.in_ok-found.ensures.tests past, refl, refl)

pub returns : goal.returns
returns g c =
    let scene = c.args.scene.now in
    let at = c.args.at.now in
    let slice = slice_of (nat_abs c.args.axis.now) at (value scene c.args.name.now) in
    let height = to_z w32 (of_z w32 c.in-Some.at) in
    let same : height ≡ c.in-Some.at = search rules in
    let made : figure_of c.in_ok-section.section ≡ slice =
    slice_found c.in_ok-found.found.0.now c.in_ok-found.found.0.now c.in_ok-section.section c.in_ok-found.found.1 c.args.axis.now height at
    refl c.in_ok-section.ensures.dim c.in_ok-section.ensures.cells c.in_ok-found.ensures.axis.2 (same ∙ c.in-Some.ensures.1)
    ∙ ap (slice_of (nat_abs c.args.axis.now) at) c.in_ok-found.ensures.tree.figure in
    let within : is_cell_coord (dim_of scene c.args.name.now) at ≡ true =
    ap (λ (n : ℕ). is_cell_coord n at) (sym (c.dim.ensures ∙ c.in_ok-found.ensures.tree.dim)) ∙ c.in-Some.ensures.0 in
    carried scene scene c.args.out.now.items c.say_solid.new.out.items (Shown slice) _
    (asked_last scene (axis_causes scene c.args.name.now c.args.axis.now) _ true (Shown slice) c.in_ok-found.ensures.tests within)
    (c.in_ok-say_solid.ensures ∙ ap (λ (a : Figure). c.args.out.now.items ++ reply_text (Shown a)) made) refl
