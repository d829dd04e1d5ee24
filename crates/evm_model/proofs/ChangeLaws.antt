-- The values that an edit leaves under its name, and what changes where no formula reads the name.
use Rattle.std.proofs.Common.{◌≡◌, ℕ, Bool, true, false, not, cond, ◌&&◌, List, [], ◌∷◌, Option, Some, None, ℤ, refl, sym, ap, ◌∙◌, subst, is_some, bytes_eq}
use Rattle.std.specs.Prelude.{nat_abs}
use Rattle.std.proofs.lemmas.Bool.{false≢true}
use Rattle.evm_cells.proofs.Xor.{and-false}
use Rattle.evm_cells.proofs.Order.{refuted}
use Rattle.evm_script.specs.declared.formula.Formula.{Formula}
use Rattle.evm_model.specs.Figures.{Figure, nothing, same_figure}
use Rattle.evm_model.specs.Orders.{is_among}
use Rattle.evm_model.specs.Scene.{Scene, Entry, Given, Made, entry_of, stands, operands_of, formula_value, value, entry_value, is_read, with_entry, with_figure, with_new, formula_dim, IsWell, IsOrderOf, entry_operands, given_entry, made_entry}
use Rattle.evm_model.specs.Edits.{Edit, Input, Def, Drop, name_of, refusal, after, changed, changed_names}
use Rattle.evm_model.proofs.Names.{by_name, by_test, not_both, or_left, neither, name_itself, among_none}
use Rattle.evm_model.proofs.Lookups.{with_other, with_own, with_none, with_stands, without_own, push_own, length-with}
use Rattle.evm_model.proofs.Levels.{value_unique, formula_same}
use Rattle.evm_model.proofs.Counts.{changed_count}
use Rattle.evm_model.proofs.FigureLaws.{same_itself}
use Rattle.evm_model.proofs.WellScenes.{well_value, well_order}
use Rattle.evm_model.proofs.Stays.{IsAt, before_parts, at_edit, at_figure, value_stays, unread_unreached}
use Rattle.evm_model.proofs.WellEdits.{unread}
use Rattle.evm_model.proofs.Orders.{ordered_less}
use Rattle.evm_model.proofs.Refusals.{new_input, definition, drops}
use Rattle.evm_model.proofs.EditLaws.{well_edit, others_stay, value_own}

-- another name stands as it did
pub others_stand : (scene : Scene) (edit : Edit) (other : List ℕ) → bytes_eq other (name_of edit) ≡ false → stands (after scene edit) other ≡ stands scene other
others_stand scene edit other d = ap (λ (t : Option Entry). is_some t) ((at_edit scene edit).0 other d)

-- a new input has no cell
pub input_empty : (scene : Scene) (name : List ℕ) (dim : ℤ) → IsWell scene → refusal scene (Input name dim) ≡ None → value (after scene (Input name dim)) name ≡ nothing (nat_abs dim)
unfolding nothing
input_empty scene name dim well r =
    well_value (after scene (Input name dim)) (well_edit scene (Input name dim) well tt r) name
    ∙ ap (λ (t : Option Entry). entry_value t (value (after scene (Input name dim)))) (push_own scene.entries (record { name = name; dim = nat_abs dim; what = Given [] }) (new_input scene name dim r).fresh)

-- a name has what its formula makes of the values of the operands, which stay
formula_entry : (scene : Scene) (name : List ℕ) (formula : Formula) → entry_of (after scene (Def name formula)).entries name ≡ Some (made_entry scene name formula)
formula_entry scene name formula = by (stands scene name) refl
  where
    new : Entry
    new = made_entry scene name formula

    by : (b : Bool) → stands scene name ≡ b
        → entry_of (cond {A = Scene} b (record scene { entries = with_entry scene.entries name new }) (with_new scene name (formula_dim scene formula) (Made formula))).entries name ≡ Some new
    by true h = with_own scene.entries name new refl h
    by false h = push_own scene.entries new h

pub definition_holds : (scene : Scene) (name : List ℕ) (formula : Formula) → IsWell scene → refusal scene (Def name formula) ≡ None
    → value (after scene (Def name formula)) name ≡ formula_value formula (value scene)
definition_holds scene name formula well r =
    well_value u (well_edit scene (Def name formula) well tt r) name
    ∙ ap (λ (t : Option Entry). entry_value t (value u)) (formula_entry scene name formula)
    ∙ formula_same formula (value u) (value scene)
    (λ o m. let parts = before_parts scene name o ((definition scene name formula r).free o m) in others_stay scene (Def name formula) o well parts.0 parts.1)
  where
    u : Scene
    u = after scene (Def name formula)

-- a name that was taken out does not stand
pub drop_gone : (scene : Scene) (name : List ℕ) → IsWell scene → stands (after scene (Drop name)) name ≡ false
drop_gone scene name well = ap (λ (t : Option Entry). is_some t) (without_own scene.entries name well.names)

-- a name that gets the figure that it has: all values stay
pub same_keeps : (scene : Scene) (name other : List ℕ) → IsWell scene → value (with_figure scene name (value scene name)) other ≡ value scene other
same_keeps scene name other well =
    by_test (stands scene name)
    (λ h. sym (value_unique u order (ordered_less (operands_of scene.entries) (operands_of u.entries) [] order (λ x m o r. less h x o r) is.ordered)
    (λ x. is.whole x ∙ sym (with_stands scene.entries name x entry refl)) (is.size ∙ sym (length-with scene.entries name entry)) (value scene) (fixed h) other))
    (λ h. ap (λ (s : Scene). value s other) (λ i. record scene { entries = with_none scene.entries name entry h i }))
  where
    entry : Entry
    entry = record { name = name; dim = (value scene name).dim; what = Given (value scene name).cells }

    u : Scene
    u = with_figure scene name (value scene name)

    order : List (List ℕ)
    order = (well_order scene well).0

    is : IsOrderOf scene order
    is = (well_order scene well).1

    less : stands scene name ≡ true → (x o : List ℕ) → is_among o (operands_of u.entries x) ≡ true → is_among o (operands_of scene.entries x) ≡ true
    less h x o r =
        by_name x name
        (λ e. among_none o (subst (λ (t : Option Entry). is_among o (entry_operands t) ≡ true) (ap (λ (z : List ℕ). entry_of u.entries z) e ∙ with_own scene.entries name entry refl h) r))
        (λ d. subst (λ (t : Option Entry). is_among o (entry_operands t) ≡ true) (with_other scene.entries name x entry refl d) r)

    fixed : stands scene name ≡ true → (x : List ℕ) → value scene x ≡ entry_value (entry_of u.entries x) (value scene)
    fixed h x =
        by_name x name
        (λ e. subst (λ (z : List ℕ). value scene z ≡ entry_value (entry_of u.entries z) (value scene)) (sym e)
        (sym (ap (λ (t : Option Entry). entry_value t (value scene)) (with_own scene.entries name entry refl h))))
        (λ d. well_value scene well x ∙ ap (λ (t : Option Entry). entry_value t (value scene)) (sym (with_other scene.entries name x entry refl d)))

-- where a name is no operand, another name has the same value after a change of its entry
unread_other : (s : Scene) (name : List ℕ) (u : Scene) → IsWell s → IsAt s name u → ((y : List ℕ) → is_among name (operands_of s.entries y) ≡ false)
    → (x : List ℕ) → bytes_eq x name ≡ false → (stands u x && not (same_figure (value s x) (value u x))) ≡ false
unread_other s name u well at free x d =
    ap (λ (a : Figure). stands u x && not (same_figure (value s x) a)) (value_stays s well name u at x d (unread_unreached s name x well free))
    ∙ ap (λ (b : Bool). stands u x && not b) (same_itself (value s x))
    ∙ and-false (stands u x)

-- where the name does not stand before and after, no name changes
unread_none : (s : Scene) (name : List ℕ) (u : Scene) → IsWell s → IsAt s name u → ((y : List ℕ) → is_among name (operands_of s.entries y) ≡ false)
    → (stands s name ≡ true → stands u name ≡ false) → changed_names s u ≡ 0
unread_none s name u well at free gone =
    changed_count s u [] well.names tt (λ x m. among_none x m)
    (λ x h. by_name x name
    (λ e. ap (λ (b : Bool). b && not (same_figure (value s x) (value u x))) (ap (λ (z : List ℕ). stands u z) e ∙ gone (sym (ap (λ (z : List ℕ). stands s z) e) ∙ h)))
    (λ d. unread_other s name u well at free x d))

-- an edit that makes its name changes no other
pub new_changes_none : (scene : Scene) (edit : Edit) → IsWell scene → stands scene (name_of edit) ≡ false → changed scene edit ≡ 0
new_changes_none scene edit well fresh =
    unread_none scene (name_of edit) (after scene edit) well (at_edit scene edit)
    (λ y. refuted (is_among (name_of edit) (operands_of scene.entries y)) (λ m. not_both (stands scene (name_of edit)) (well.stand y (name_of edit) m) fresh))
    (λ h. not_both (stands scene (name_of edit)) h fresh)

-- nor does one that takes it out
pub drop_changes_none : (scene : Scene) (name : List ℕ) → IsWell scene → refusal scene (Drop name) ≡ None → changed scene (Drop name) ≡ 0
drop_changes_none scene name well r =
    unread_none scene name (after scene (Drop name)) well (at_edit scene (Drop name)) (unread scene name (drops scene name r).unread) (λ h. drop_gone scene name well)

-- another figure under a name that is not read changes that name alone, if the figures differ
pub unread_changes : (scene : Scene) (name : List ℕ) (new : Figure) → IsWell scene → stands scene name ≡ true → is_read scene name ≡ false
    → changed_names scene (with_figure scene name new) ≡ cond (same_figure (value scene name) new) 0 1
unread_changes scene name new well s free = by (same_figure (value scene name) new) refl
  where
    u : Scene
    u = with_figure scene name new

    own : (stands u name && not (same_figure (value scene name) (value u name))) ≡ not (same_figure (value scene name) new)
    own =
        ap (λ (b : Bool). b && not (same_figure (value scene name) (value u name))) (with_stands scene.entries name name (given_entry name new) refl ∙ s)
        ∙ ap (λ (a : Figure). not (same_figure (value scene name) a)) (value_own scene name new s)

    other : (x : List ℕ) → bytes_eq x name ≡ false → (stands u x && not (same_figure (value scene x) (value u x))) ≡ false
    other x d = unread_other scene name u well (at_figure scene name new) (unread scene name free) x d

    at_name : (x : List ℕ) → x ≡ name → (stands u x && not (same_figure (value scene x) (value u x))) ≡ not (same_figure (value scene name) new)
    at_name x e = ap (λ (z : List ℕ). stands u z && not (same_figure (value scene z) (value u z))) e ∙ own

    by : (b : Bool) → same_figure (value scene name) new ≡ b → changed_names scene u ≡ cond b 0 1
    by true k =
        changed_count scene u [] well.names tt (λ x m. among_none x m)
        (λ x h. by_name x name (λ e. at_name x e ∙ ap not k) (λ d. other x d))
    by false k =
        changed_count scene u (name ∷ []) well.names (refl, tt)
        (λ x m. by_name x name (λ e. ap (λ (z : List ℕ). stands scene z) e ∙ s) (λ d. absurd (false≢true (sym (neither (bytes_eq x name) false d refl) ∙ m))))
        (λ x h. by_name x name
        (λ e. at_name x e ∙ ap not k ∙ sym (or_left (bytes_eq x name) false (ap (λ (z : List ℕ). bytes_eq z name) e ∙ name_itself name)))
        (λ d. other x d ∙ sym (neither (bytes_eq x name) false d refl)))
