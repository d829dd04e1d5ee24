use Rattle.std.proofs.Common.{◌≡◌, ℕ, true, false, List, ◌++◌, ◌≤◌, length, ◌∙◌, sym, ap, subst, rules, arith}
use Rattle.evm_outside.specs.Shelves.{PlacesFile}
use Rattle.evm_rows.specs.Rows.{Vertices}
use Rattle.evm_model.specs.Files.{bytes_in, save_fits}
use Rattle.evm_model.specs.Scene.{dim_of}
use Rattle.evm_model.specs.Replies.{Measured, reply_text}
use Rattle.evm_formulas.specs.Stated.{figure_of}
use Rattle.evm_session.proofs.Loading.{save_done, save_unfit}
use Rattle.evm_session.proofs.Slicing.{deep_enough}
use Rattle.evm_session.proofs.files.save.Goals as goal

pub returns-then-not-can_save : goal.returns-then-not-can_save
returns-then-not-can_save g c =
    let form = c.args.form.now in
    let unfit : save_fits form (dim_of c.args.scene.now c.args.name.now) ≡ false =
    ap (save_fits form) (sym (c.dim.ensures ∙ c.in-Some.ensures.dim)) ∙ sym c.can_save.ensures ∙ c.if-not-can_save.true in
    λ (steps : ℕ). save_unfit c.args.scene.now c.args.name.now form c.args.file.now c.args.out.now.items _ c.in-Some.ensures.value.0 unfit

pub write_form-requires-clause-deep : goal.write_form-requires-clause-deep
write_form-requires-clause-deep g c =
    subst (λ (n : ℕ). 2 ≤ n) (sym (ap (λ (a : Vertices). a.dim) c.in_ok-solid.ensures ∙ c.in-Some.ensures.dim))
    (deep_enough c.args.scene.now c.args.name.now c.facts.ensures c.in-Some.ensures.value.0)

pub returns : goal.returns
returns g c =
    let form = c.args.form.now in
    let fits : save_fits form (dim_of c.args.scene.now c.args.name.now) ≡ true =
    ap (save_fits form) (sym (c.dim.ensures ∙ c.in-Some.ensures.dim)) ∙ sym c.can_save.ensures ∙ c.if-not-can_save.false in
    let bytes = c.in_ok-bytes.bytes.items in
    let many : c.len.result ≡ length bytes = search rules in
    let text = c.put_number.ensures.measured
    ∙ ap (λ (before : List ℕ). before ++ reply_text (Measured c.len.result)) c.in_ok-reserve_number.ensures.items
    ∙ ap (λ (n : ℕ). c.args.out.now.items ++ reply_text (Measured n)) many in
    let placed = subst (λ (file : List ℕ). PlacesFile (g.S.Shelf.files c.args.shelf.now) (g.S.Shelf.files c.place.new.self) file bytes) c.bytes.ensures.value
    (subst (λ (bs : List ℕ). PlacesFile (g.S.Shelf.files c.args.shelf.now) (g.S.Shelf.files c.place.new.self) c.bytes.result.now bs) c.as_slice.ensures.value c.in_ok-place.ensures.placed) in
    λ (steps : ℕ). save_done c.args.scene.now c.args.name.now c.args.form.now c.args.file.now bytes c.args.out.now.items c.put_number.new.out.items _ _
    c.in-Some.ensures.value.0 fits (c.in_ok-bytes.ensures ∙ ap (λ (v : Vertices). bytes_in c.args.form.now (figure_of v)) c.in_ok-solid.ensures ∙ ap (bytes_in c.args.form.now) c.in-Some.ensures.value.1) text placed
    c.in_ok-place.ensures.faults c.in_ok-place.ensures.misses (omega arith)
