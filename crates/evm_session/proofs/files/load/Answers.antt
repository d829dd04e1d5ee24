use Rattle.std.proofs.Common.{◌≡◌, ℕ, ◌+◌, ◌≤◌, Some, List, Err, subst, arith}
use Rattle.std.proofs.lemmas.Result.{err_from_is_err_and}
use Rattle.evm_outside.specs.Shelves.{HasFile}
use Rattle.evm_model.specs.Edits.{Replace, changed}
use Rattle.evm_model.specs.Files.{figure_in}
use Rattle.evm_model.specs.Replies.{Changed}
use Rattle.evm_model.specs.Steps.{Turn, edited}
use Rattle.evm_formulas.specs.Stated.{figure_of}
use Rattle.evm_session.specs.Carried.{Carries}
use Rattle.evm_session.specs.Loads.{ReadsFigure}
use Rattle.evm_session.proofs.Loading.{load_early, load_edits, load_works, load_over, unread_carries}
use Rattle.evm_session.proofs.files.load.Goals as goal

pub returns-in_err-dim : goal.returns-in_err-dim
returns-in_err-dim g c =
    let p = err_from_is_err_and c.from_residual.result c.from_residual.ensures.1 in
    rw (p.1, p.2)
    (load_early c.in_err-dim.field-0.0 c.args.scene.now c.args.name c.args.form.now c.args.file.now c.args.out.now.items _ c.in_err-dim.ensures.found)

pub returns-in_err-solid : goal.returns-in_err-solid
returns-in_err-solid g c =
    let p = err_from_is_err_and c.from_residual-in_err-solid.result c.from_residual-in_err-solid.ensures.1 in
    let scene = c.args.scene.now in
    let form = c.args.form.now in
    let bytes = c.in_ok-bytes.bytes.items in
    let refusal = c.in_err-solid.field-0.0 in
    let first = c.in_ok-dim.ensures.found.1 in
    let has = subst (λ (name : List ℕ). HasFile (g.S.Shelf.files c.args.shelf.now) name (Some bytes)) c.bytes.ensures.value c.in_ok-bytes.ensures.found in
    let read = subst (λ (n : ℕ). ReadsFigure (Err refusal) (figure_in form n bytes)) c.in_ok-dim.ensures.found.0
    (subst (λ (bs : List ℕ). ReadsFigure (Err refusal) (figure_in form c.in_ok-dim.dim bs)) c.as_slice.ensures.value c.in_err-solid.ensures) in
    rw (p.1, p.2)
    (load_over (Err refusal) scene scene c.args.out.now.items c.reserve_number.new.out.items _ _ c.args.name form c.args.file.now bytes first has
    c.in_ok-bytes.ensures.kept c.in_ok-bytes.ensures.faults c.in_ok-bytes.ensures.misses (omega arith)
    (unread_carries refusal scene c.args.name form c.args.file.now bytes c.args.out.now.items c.reserve_number.new.out.items first c.in_ok-reserve_number.ensures.items read))

pub returns : goal.returns
returns g c =
    let scene = c.args.scene.now in
    let name = c.args.name in
    let form = c.args.form.now in
    let bytes = c.in_ok-bytes.bytes.items in
    let figure = figure_of c.in_ok-solid.solid in
    let first = c.in_ok-dim.ensures.found.1 in
    let has = subst (λ (file : List ℕ). HasFile (g.S.Shelf.files c.args.shelf.now) file (Some bytes)) c.bytes.ensures.value c.in_ok-bytes.ensures.found in
    let read = subst (λ (n : ℕ). figure_in form n bytes ≡ Some figure) c.in_ok-dim.ensures.found.0
    (subst (λ (bs : List ℕ). figure_in form c.in_ok-dim.dim bs ≡ Some figure) c.as_slice.ensures.value c.in_ok-solid.ensures) in
    let carried = subst (λ (text : List ℕ). Carries c.edit.result scene c.edit.new.scene text c.edit.new.out.items (edited scene (Replace name figure) (Changed (changed scene (Replace name figure)))))
    c.in_ok-reserve_number.ensures.items c.edit.ensures.carries in
    let works = load_works scene name form c.args.file.now bytes figure first read in
    load_over c.edit.result scene c.edit.new.scene c.args.out.now.items c.edit.new.out.items _ _ name form c.args.file.now bytes first has
    c.in_ok-bytes.ensures.kept c.in_ok-bytes.ensures.faults c.in_ok-bytes.ensures.misses
    (subst (λ (n : ℕ). c.edit.new.steps ≤ c.args.steps.now + n) works c.edit.ensures.few)
    (subst (λ (turn : Turn). Carries c.edit.result scene c.edit.new.scene c.args.out.now.items c.edit.new.out.items turn)
    (load_edits scene name form c.args.file.now bytes figure first read) carried)
