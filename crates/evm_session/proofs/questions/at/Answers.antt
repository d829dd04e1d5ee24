use Rattle.std.proofs.Common.{◌≡◌, ◌++◌, List, ℕ, [], ◌∷◌, not, true, false, pos, neg_ℤ, ◌-ℤ◌, to_z, of_z, w32, sym, ◌∙◌, refl, ap, subst, rules}
use Rattle.std.specs.List.{list_all}
use Rattle.std.proofs.lemmas.Result.{err_from_is_err_and}
use Rattle.evm_cells.specs.Limits.{limit, is_cell_coord}
use Rattle.evm_cells.specs.Places.{has}
use Rattle.evm_cells.specs.Vertices.{cells}
use Rattle.evm_model.specs.Figures.{Figure, fills}
use Rattle.evm_model.specs.Scene.{value, dim_of}
use Rattle.evm_model.specs.Edits.{Range}
use Rattle.evm_model.specs.Replies.{Filled}
use Rattle.evm_session.specs.Named.{many_causes}
use Rattle.evm_session.specs.Questions.{filled_text}
use Rattle.evm_session.proofs.Turns.{carried, asked_refused, asked_last}
use Rattle.evm_session.proofs.Answering.{filled_found, between_cells, is_a_cell}
use Rattle.evm_session.proofs.questions.at.Goals as goal

pub returns-in_err-tree : goal.returns-in_err-tree
returns-in_err-tree g c =
    let p = err_from_is_err_and c.from_residual.result c.from_residual.ensures.1 in
    rw (p.1, p.2)
    (asked_refused c.in_err-tree.field-0.0 c.args.scene.now (many_causes c.args.scene.now c.args.name.now c.args.nums.now)
    ((not (list_all (is_cell_coord (dim_of c.args.scene.now c.args.name.now)) c.args.nums.now), Range) ∷ []) _ c.args.out.now.items c.in_err-tree.ensures.tests)

pub returns-in_default : goal.returns-in_default
returns-in_default g c =
    let nums = c.args.nums.now in
    let high : to_z w32 (of_z w32 (to_z w32 (of_z w32 c.limit-limit.result) -ℤ pos 1)) ≡ pos (limit c.dim.result) -ℤ pos 1 = search rules in
    let low : to_z w32 (of_z w32 (pos 0 -ℤ to_z w32 (of_z w32 c.limit-limit.result))) ≡ neg_ℤ (pos (limit c.dim.result)) = search rules in
    let past : list_all (is_cell_coord (dim_of c.args.scene.now c.args.name.now)) nums ≡ false =
    subst (λ (n : ℕ). list_all (is_cell_coord n) nums ≡ false) (c.dim.ensures ∙ c.in_ok-tree.ensures.tree.dim)
    (sym (between_cells c.dim.result nums _ _ low high) ∙ c.in_default.ensures) in
    (asked_last c.args.scene.now (many_causes c.args.scene.now c.args.name.now nums) _ false _ c.in_ok-tree.ensures.tests past, refl, refl)

pub is_filled-requires : goal.is_filled-requires
is_filled-requires g c =
    let high : to_z w32 (of_z w32 (to_z w32 (of_z w32 c.limit-limit.result) -ℤ pos 1)) ≡ pos (limit c.dim.result) -ℤ pos 1 = search rules in
    let low : to_z w32 (of_z w32 (pos 0 -ℤ to_z w32 (of_z w32 c.limit-limit.result))) ≡ neg_ℤ (pos (limit c.dim.result)) = search rules in
    is_a_cell c.dim.result _ c.args.nums.now _ (c.values.ensures ∙ c.in-Some.ensures.1) (c.in_ok-tree.ensures.many ∙ sym c.dim.ensures) (sym c.dim.ensures)
    (sym (between_cells c.dim.result c.args.nums.now _ _ low high) ∙ c.in-Some.ensures.0)

pub returns : goal.returns
returns g c =
    let nums = c.args.nums.now in
    let fill = fills (value c.args.scene.now c.args.name.now) nums in
    let high : to_z w32 (of_z w32 (to_z w32 (of_z w32 c.limit-limit.result) -ℤ pos 1)) ≡ pos (limit c.dim.result) -ℤ pos 1 = search rules in
    let low : to_z w32 (of_z w32 (pos 0 -ℤ to_z w32 (of_z w32 c.limit-limit.result))) ≡ neg_ℤ (pos (limit c.dim.result)) = search rules in
    let within : list_all (is_cell_coord (dim_of c.args.scene.now c.args.name.now)) nums ≡ true =
    subst (λ (n : ℕ). list_all (is_cell_coord n) nums ≡ true) (c.dim.ensures ∙ c.in_ok-tree.ensures.tree.dim)
    (sym (between_cells c.dim.result nums _ _ low high) ∙ c.in-Some.ensures.0) in
    let v = c.in_ok-tree.tree.now in
    let filled : c.in_ok-filled.filled ≡ fill =
    filled_found v nums c.in_ok-filled.filled (c.in_ok-filled.ensures ∙ ap (has (cells v.dim v.rows)) (c.values.ensures ∙ c.in-Some.ensures.1))
    ∙ ap (λ (a : Figure). fills a nums) c.in_ok-tree.ensures.tree.figure in
    carried c.args.scene.now c.args.scene.now c.args.out.now.items c.say.new.out.items (Filled fill) _
    (asked_last c.args.scene.now (many_causes c.args.scene.now c.args.name.now nums) _ true (Filled fill) c.in_ok-tree.ensures.tests within)
    (c.in_ok-say.ensures ∙ ap (λ (t : List ℕ). c.args.out.now.items ++ t) (c.filled_text.ensures ∙ ap filled_text filled)) refl
