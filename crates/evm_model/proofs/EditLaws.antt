-- What an edit keeps and changes.
use Rattle.std.proofs.Common.{◌≡◌, ℕ, zero, suc, ◌*◌, ◌≤◌, Bool, true, false, not, cond, ◌&&◌, ◌||◌, List, [], ◌∷◌, length, take, drop, Option, Some, None, ℤ, refl, sym, ap, ◌∙◌, subst, is_some, bytes_eq, count_by, arith}
use Rattle.std.specs.Prelude.{nat_abs}
use Rattle.std.specs.List.{list_any}
use Rattle.std.proofs.lemmas.Bool.{false≢true}
use Rattle.std.proofs.lemmas.List.{length-take-le}
use Rattle.evm_cells.specs.Places.{ascending}
use Rattle.evm_cells.specs.Limits.{IsCellSet}
use Rattle.evm_cells.specs.Booleans.{xor_cells}
use Rattle.evm_cells.specs.Boxes.{IsBox, is_box, box_cells}
use Rattle.evm_cells.proofs.Booleans.{cell_sets}
use Rattle.evm_cells.proofs.Boxes.{toggle_changes, box_test}
use Rattle.evm_cells.proofs.Order.{refuted}
use Rattle.evm_cells.proofs.Xor.{and_both, and-false}
use Rattle.evm_script.specs.declared.formula.Formula.{Formula}
use Rattle.evm_model.specs.Figures.{Figure, nothing, box_of, box_at, xor_of, or_of, sub_of, box_fits, same_figure}
use Rattle.evm_model.specs.Formulas.{Boolean, Or, Sub, Xor, boolean_of}
use Rattle.evm_model.specs.Scene.{Scene, Entry, Given, Made, has_name, entry_of, stands, dim_of, value, value_within, entry_value, reaches, with_entry, with_figure, with_new, formula_dim, what_is_sound, all_stay, IsWell, given_entry, made_entry}
use Rattle.evm_model.specs.Edits.{Edit, Input, Toggle, Add, Cut, Replace, Def, Drop, EditFits, name_of, refusal, with_box, after, changed, changed_names}
use Rattle.evm_model.specs.Laws.{is_or_reaches}
use Rattle.evm_model.proofs.Names.{by_test, not_both, same_name, or_left, or_right, or_none, among_none}
use Rattle.evm_model.proofs.Lookups.{with_own, with_stands}
use Rattle.evm_model.proofs.Counts.{count_fewer, count_some}
use Rattle.evm_model.proofs.FigureLaws.{same_itself, same_equal}
use Rattle.evm_model.proofs.WellScenes.{boolean_dim, boolean_set, value_dim, value_cells, sound_made}
use Rattle.evm_model.proofs.Stays.{at_edit, value_stays}
use Rattle.evm_model.proofs.WellEdits.{well_figure, stay_new, well_new, well_formula, well_without}
use Rattle.evm_model.proofs.Refusals.{IsBoxFor, IsDefinition, new_input, box_for, replacement, definition, drops, dim_stated, formula_dim_fits}

-- equal figures
pub same_both : (a b : Figure) → IsCellSet a.dim a.cells → IsCellSet b.dim b.cells → (same_figure a b ≡ true → a ≡ b) × (a ≡ b → same_figure a b ≡ true)
same_both a b s t = (same_equal a b s.ascends t.ascends, λ e. ap (λ (x : Figure). same_figure x b) e ∙ same_itself b)

-- each edit that is not refused keeps a scene well
well_box : (op : Boolean) (scene : Scene) (name : List ℕ) (nums : List ℤ) → IsWell scene → all_stay (with_box (boolean_of op) scene name nums) ≡ true
    → IsWell (with_box (boolean_of op) scene name nums)
well_box op scene name nums well stay =
    let a = value scene name in
    let b = box_at (dim_of scene name) nums in
    well_figure scene name (boolean_of op a b) well (value_dim scene well name ∙ sym (boolean_dim op a b)) (boolean_set op a b) stay

well_input : (scene : Scene) (name : List ℕ) (dim : ℤ) → IsWell scene → refusal scene (Input name dim) ≡ None → IsWell (after scene (Input name dim))
unfolding ascending
well_input scene name dim well r =
    let new = new_input scene name dim r in
    well_new scene name (nat_abs dim) (Given []) well new.fresh (dim_stated dim new.fits) refl (λ o m. among_none o m) refl

well_def : (scene : Scene) (name : List ℕ) (formula : Formula) → IsWell scene → refusal scene (Def name formula) ≡ None → IsWell (after scene (Def name formula))
well_def scene name formula well r = by (stands scene name) refl d.stay
  where
    d : IsDefinition scene name formula
    d = definition scene name formula r

    changed_scene : Scene
    changed_scene = record scene { entries = with_entry scene.entries name (made_entry scene name formula) }

    new_scene : Scene
    new_scene = with_new scene name (formula_dim scene formula) (Made formula)

    sound : what_is_sound scene (formula_dim scene formula) (Made formula) ≡ true
    sound = sound_made scene (formula_dim scene formula) formula d.fits d.range refl

    by : (b : Bool) → stands scene name ≡ b → all_stay (cond b changed_scene new_scene) ≡ true → IsWell (cond b changed_scene new_scene)
    by true h stay = well_formula scene name formula well h (d.dim h) sound d.stand d.free stay
    by false h stay =
        well_new scene name (formula_dim scene formula) (Made formula) well h (formula_dim_fits scene well formula d.stand d.fits) sound d.stand
        (sym (stay_new scene name (formula_dim scene formula) (Made formula) well h d.stand) ∙ stay)

well_replace : (scene : Scene) (name : List ℕ) (figure : Figure) → IsWell scene → IsCellSet figure.dim figure.cells → refusal scene (Replace name figure) ≡ None → IsWell (after scene (Replace name figure))
well_replace scene name figure well fits r = let new = replacement scene name figure r in well_figure scene name figure well (sym new.dim) fits new.stay

pub well_edit : (scene : Scene) (edit : Edit) → IsWell scene → EditFits edit → refusal scene edit ≡ None → IsWell (after scene edit)
well_edit scene (Input name dim) well fits r = well_input scene name dim well r
well_edit scene (Toggle name nums) well fits r = well_box Xor scene name nums well (box_for xor_of scene name nums r).stay
well_edit scene (Add name nums) well fits r = well_box Or scene name nums well (box_for or_of scene name nums r).stay
well_edit scene (Cut name nums) well fits r = well_box Sub scene name nums well (box_for sub_of scene name nums r).stay
well_edit scene (Replace name figure) well fits r = well_replace scene name figure well fits r
well_edit scene (Def name formula) well fits r = well_def scene name formula well r
well_edit scene (Drop name) well fits r = let d = drops scene name r in well_without scene name well d.standing d.unread d.unwatched

-- an edit that is not refused leaves no formula that makes a place out of the limits, whatever figure it states
stay_edit : (scene : Scene) (edit : Edit) → IsWell scene → refusal scene edit ≡ None → all_stay (after scene edit) ≡ true
stay_edit scene (Input name dim) well r = (well_edit scene (Input name dim) well tt r).stay
stay_edit scene (Toggle name nums) well r = (box_for xor_of scene name nums r).stay
stay_edit scene (Add name nums) well r = (box_for or_of scene name nums r).stay
stay_edit scene (Cut name nums) well r = (box_for sub_of scene name nums r).stay
stay_edit scene (Replace name figure) well r = (replacement scene name figure r).stay
stay_edit scene (Def name formula) well r = (definition scene name formula r).stay
stay_edit scene (Drop name) well r = (well_edit scene (Drop name) well tt r).stay

-- an edit after which a formula would make a place out of the limits is refused
pub out_of_limits : (scene : Scene) (edit : Edit) → IsWell scene → all_stay (after scene edit) ≡ false → refusal scene edit ≡ None → ⊥
out_of_limits scene edit well out r = not_both (all_stay (after scene edit)) (stay_edit scene edit well r) out

pub others_stay : (scene : Scene) (edit : Edit) (other : List ℕ) → IsWell scene → bytes_eq other (name_of edit) ≡ false → reaches scene other (name_of edit) ≡ false
    → value (after scene edit) other ≡ value scene other
others_stay scene edit other well d r = value_stays scene well (name_of edit) (after scene edit) (at_edit scene edit) other d r

-- the value of a name that has another figure
pub value_own : (scene : Scene) (name : List ℕ) (new : Figure) → stands scene name ≡ true → value (with_figure scene name new) name ≡ new
value_own scene name new s = by (length (with_figure scene name new).entries)
  where
    here : entry_of (with_figure scene name new).entries name ≡ Some (given_entry name new)
    here = with_own scene.entries name (given_entry name new) refl s

    by : (n : ℕ) → value_within n (with_figure scene name new).entries name ≡ new
    by zero = ap (λ (e : Option Entry). entry_value e (λ o. nothing 0)) here
    by (suc n) = ap (λ (e : Option Entry). entry_value e (λ o. value_within n (with_figure scene name new).entries o)) here

pub boxes_combine : (scene : Scene) (name : List ℕ) (nums : List ℤ) → stands scene name ≡ true
    → (value (after scene (Toggle name nums)) name ≡ xor_of (value scene name) (box_at (dim_of scene name) nums))
    × (value (after scene (Add name nums)) name ≡ or_of (value scene name) (box_at (dim_of scene name) nums))
    × (value (after scene (Cut name nums)) name ≡ sub_of (value scene name) (box_at (dim_of scene name) nums))
boxes_combine scene name nums s = (value_own scene name _ s, value_own scene name _ s, value_own scene name _ s)

-- another figure for an input is the value of its name
pub replaced : (scene : Scene) (name : List ℕ) (figure : Figure) → stands scene name ≡ true → value (after scene (Replace name figure)) name ≡ figure
replaced scene name figure s = value_own scene name figure s

-- an edit changes no more than its name and those that reach it
pub changed_reach : (scene : Scene) (edit : Edit) → IsWell scene
    → changed scene edit ≤ count_by (is_or_reaches scene (name_of edit)) scene.entries
changed_reach scene edit well =
    count_fewer (λ (e : Entry). stands u e.name && not (same_figure (value scene e.name) (value u e.name))) (λ (e : Entry). bytes_eq e.name name || reaches scene e.name name)
    (λ e h. by_test (bytes_eq e.name name || reaches scene e.name name) (λ t. t) (λ t. not_both (stands u e.name && not (same_figure (value scene e.name) (value u e.name))) h (unchanged e.name t)))
    scene.entries
  where
    u : Scene
    u = after scene edit

    name : List ℕ
    name = name_of edit

    unchanged : (x : List ℕ) → (bytes_eq x name || reaches scene x name) ≡ false → (stands u x && not (same_figure (value scene x) (value u x))) ≡ false
    unchanged x t =
        let parts = or_none (bytes_eq x name) (reaches scene x name) t in
        ap (λ (a : Figure). stands u x && not (same_figure (value scene x) a)) (others_stay scene edit x well parts.0 parts.1)
        ∙ ap (λ (b : Bool). stands u x && not b) (same_itself (value scene x))
        ∙ and-false (stands u x)

-- a test of names that a name passes which stands
found_any : (p : List ℕ → Bool) (es : List Entry) (name : List ℕ) → is_some (entry_of es name) ≡ true → p name ≡ true → list_any (λ (e : Entry). p e.name) es ≡ true
found_any p [] name s h = absurd (false≢true s)
found_any p (e ∷ es) name s h =
    elim (has_name name e) as (λ b. has_name name e ≡ b → is_some (cond b (Some e) (entry_of es name)) ≡ true → list_any (λ (x : Entry). p x.name) (e ∷ es) ≡ true) [
      | true ↦ λ q k. or_left (p e.name) (list_any (λ (x : Entry). p x.name) es) (ap p (sym (same_name name e.name q)) ∙ h)
      | false ↦ λ q k. or_right (p e.name) (list_any (λ (x : Entry). p x.name) es) (found_any p es name k h)
    ] refl s

-- another figure under a name that stands changes that name
pub changed_own : (scene : Scene) (name : List ℕ) (new : Figure) → stands scene name ≡ true → same_figure (value scene name) new ≡ false → 1 ≤ changed_names scene (with_figure scene name new)
changed_own scene name new s d =
    count_some (λ (e : Entry). stands u e.name && not (same_figure (value scene e.name) (value u e.name))) scene.entries
    (found_any (λ x. stands u x && not (same_figure (value scene x) (value u x))) scene.entries name s
    (and_both (stands u name) (not (same_figure (value scene name) (value u name)))
    (with_stands scene.entries name name (given_entry name new) refl ∙ s)
    (ap (λ (a : Figure). not (same_figure (value scene name) a)) (value_own scene name new s) ∙ ap not d)))
  where
    u : Scene
    u = with_figure scene name new

-- what a box that is not refused is
box_stated : (n : ℕ) (nums : List ℤ) → length nums ≡ 2 * n → box_fits (take n nums) (drop n nums) ≡ true → IsBox n (take n nums) (drop n nums)
unfolding box_fits
box_stated n nums both h =
    (box_test n (take n nums) (drop n nums)).0 (ap (λ (m : ℕ). is_box m (take n nums) (drop n nums)) (sym (length-take-le n nums (omega arith))) ∙ h)

-- the exclusive or with a box that fits is another figure
pub toggled_differs : (a : Figure) (nums : List ℤ) → IsCellSet a.dim a.cells → length nums ≡ 2 * a.dim → box_fits (take a.dim nums) (drop a.dim nums) ≡ true → same_figure a (xor_of a (box_at a.dim nums)) ≡ false
unfolding xor_of box_of
toggled_differs a nums s both h =
    refuted (same_figure a (xor_of a (box_at a.dim nums)))
    (λ e. let equal = same_equal a (xor_of a (box_at a.dim nums)) s.ascends (cell_sets a.dim a.cells (box_at a.dim nums).cells).3.ascends e in
    toggle_changes a.dim (take a.dim nums) (drop a.dim nums) a.cells (box_stated a.dim nums both h) s
    (ap (λ (m : ℕ). xor_cells a.dim a.cells (box_cells m (take a.dim nums) (drop a.dim nums))) (sym (length-take-le a.dim nums (omega arith)))
    ∙ sym (ap (λ (x : Figure). x.cells) equal)))

-- a toggle that is not refused changes its name
pub toggle_changes_some : (scene : Scene) (name : List ℕ) (nums : List ℤ) → IsWell scene → refusal scene (Toggle name nums) ≡ None
    → same_figure (value scene name) (value (after scene (Toggle name nums)) name) ≡ false
toggle_changes_some scene name nums well r =
    ap (λ (a : Figure). same_figure (value scene name) a) (boxes_combine scene name nums box.standing).0
    ∙ subst (λ (m : ℕ). same_figure (value scene name) (xor_of (value scene name) (box_at m nums)) ≡ false) (sym (value_dim scene well name))
    (toggled_differs (value scene name) nums (value_cells scene well name) (box.numbers ∙ ap (λ (m : ℕ). 2 * m) (value_dim scene well name))
    (subst (λ (m : ℕ). box_fits (take m nums) (drop m nums) ≡ true) (value_dim scene well name) box.fits))
  where
    box : IsBoxFor xor_of scene name nums
    box = box_for xor_of scene name nums r

pub toggle_counts : (scene : Scene) (name : List ℕ) (nums : List ℤ) → IsWell scene → refusal scene (Toggle name nums) ≡ None → 1 ≤ changed scene (Toggle name nums)
toggle_counts scene name nums well r =
    let box = box_for xor_of scene name nums r in
    changed_own scene name (xor_of (value scene name) (box_at (dim_of scene name) nums)) box.standing
    (ap (λ (a : Figure). same_figure (value scene name) a) (sym (boxes_combine scene name nums box.standing).0) ∙ toggle_changes_some scene name nums well r)
