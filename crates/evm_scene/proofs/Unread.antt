-- Names that no formula reads.
use Rattle.std.proofs.Common.{◌≡◌, ℕ, Bool, true, false, not, ◌&&◌, List, [], ◌∷◌, Option, refl, sym, ap, ◌∙◌, true≢false, is_some, bytes_eq}
use Rattle.std.specs.List.{list_any, list_all}
use Rattle.evm_cells.proofs.Xor.{and_first, and_second}
use Rattle.evm_model.specs.Figures.{Figure, same_figure}
use Rattle.evm_model.specs.Orders.{is_among}
use Rattle.evm_model.specs.Scene.{Scene, Entry, stands, is_read, what_operands, entry_operands, operands_of, value, IsWell}
use Rattle.evm_model.specs.Edits as model
use Rattle.evm_model.proofs.Names.{by_name, by_test, not_both, neither, among_none, passes_none, none_passes}
use Rattle.evm_model.proofs.Counts.{changed_count}
use Rattle.evm_model.proofs.FigureLaws.{same_itself}
use Rattle.evm_model.proofs.WellScenes.{all_entries}
use Rattle.evm_model.proofs.WellEdits.{unread}
use Rattle.evm_model.proofs.EditLaws.{others_stay}
use Rattle.evm_model.proofs.Stays.{unread_unreached}
use Rattle.evm_scene.specs.Tables.{Table, reads_at, entries_of, scene_of}
use Rattle.evm_scene.specs.Orders.{IsKept}
use Rattle.evm_scene.proofs.Views.{operands_at, entries_whole}

not_true : (b : Bool) → not b ≡ true → b ≡ false
not_true true q = absurd (true≢false (sym q))
not_true false q = refl

none_any : (p : Entry → Bool) (es : List Entry) → list_all (λ e. not (p e)) es ≡ true → list_any p es ≡ false
none_any p [] h = refl
none_any p (e ∷ es) h =
    neither (p e) (list_any p es) (not_true (p e) (and_first (not (p e)) (list_all (λ x. not (p x)) es) h)) (none_any p es (and_second (not (p e)) (list_all (λ x. not (p x)) es) h))

-- a name is read by no entry where the operands of each name are others
pub not_read : (s : Scene) → IsWell s → (name : List ℕ) → ((x : List ℕ) → stands s x ≡ true → is_among name (operands_of s.entries x) ≡ false) → is_read s name ≡ false
not_read s well name h =
    none_any (λ (e : Entry). is_among name (what_operands e.what)) s.entries
    (all_entries (λ (e : Entry). not (is_among name (what_operands e.what))) s.entries well.names
    (λ x e q. ap not (ap (λ (o : Option Entry). is_among name (entry_operands o)) (sym q) ∙ h x (ap (λ (o : Option Entry). is_some o) q))))

-- a name that does not stand is read by none
pub absent_unread : (s : Scene) → IsWell s → (name : List ℕ) → stands s name ≡ false → is_read s name ≡ false
absent_unread s well name out =
    not_read s well name
    (λ x st. by_test (is_among name (operands_of s.entries x)) (λ m. not_both (stands s name) (well.stand x name m) out) (λ f. f))

and_false : (b : Bool) → (b && false) ≡ false
and_false true = refl
and_false false = refl

-- an edit of a name that is not read changes no other value
other_still : (s : Scene) (edit : model.Edit) → IsWell s → is_read s (model.name_of edit) ≡ false → (x : List ℕ) → bytes_eq x (model.name_of edit) ≡ false
    → (stands (model.after s edit) x && not (same_figure (value s x) (value (model.after s edit) x))) ≡ false
other_still s edit well free x d =
    ap (λ (v : Figure). stands (model.after s edit) x && not (same_figure (value s x) v)) (others_stay s edit x well d (unread_unreached s (model.name_of edit) x well (unread s (model.name_of edit) free)))
    ∙ ap (λ (b : Bool). stands (model.after s edit) x && not b) (same_itself (value s x))
    ∙ and_false (stands (model.after s edit) x)

-- so where the name did not stand before, or does not afterwards, nothing changes
pub none_changed : (s : Scene) (edit : model.Edit) → IsWell s → is_read s (model.name_of edit) ≡ false
    → (stands s (model.name_of edit) ≡ true → stands (model.after s edit) (model.name_of edit) ≡ false) → 0 ≡ model.changed s edit
none_changed s edit well free gone =
    sym (changed_count s (model.after s edit) [] well.names tt (λ k m. among_none k m)
    (λ x st. by_name x (model.name_of edit)
    (λ e. ap (λ (b : Bool). b && not (same_figure (value s x) (value (model.after s edit) x)))
    (ap (λ (y : List ℕ). stands (model.after s edit) y) e ∙ gone (ap (λ (y : List ℕ). stands s y) (sym e) ∙ st)))
    (λ d. other_still s edit well free x d)))

pub new_changes_none : (s : Scene) (edit : model.Edit) → IsWell s → stands s (model.name_of edit) ≡ false → 0 ≡ model.changed s edit
new_changes_none s edit well out = none_changed s edit well (absent_unread s well (model.name_of edit) out) (λ st. not_both (stands s (model.name_of edit)) st out)

-- the search for readers in an order finds one exactly where one reads
pub used_is_read : (t : Table) (order : List (List ℕ)) → IsKept t order → IsWell (scene_of t) → (name : List ℕ) → list_any (λ x. is_among name (reads_at t x)) order ≡ is_read (scene_of t) name
used_is_read t order k well name =
    by_test (is_read (scene_of t) name)
    (λ r. by_test (list_any (λ x. is_among name (reads_at t x)) order)
    (λ a. a ∙ sym r)
    (λ a. not_both (is_read (scene_of t) name) r (not_read (scene_of t) well name (λ x st. at x ∙ passes_none (λ y. is_among name (reads_at t y)) order a x (entries_whole t order k x ∙ st)))))
    (λ r. none_passes (λ x. is_among name (reads_at t x)) order (λ x m. sym (at x) ∙ unread (scene_of t) name r x) ∙ sym r)
  where
    at : (x : List ℕ) → is_among name (operands_of (entries_of t) x) ≡ is_among name (reads_at t x)
    at x = ap (λ (l : List (List ℕ)). is_among name l) (operands_at t x)
