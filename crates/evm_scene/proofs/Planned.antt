-- What refuses an edit of an input by a box, by the table.
use Rattle.std.proofs.Common.{◌≡◌, ℕ, ◌*◌, ◌==◌, Bool, true, false, not, if◌then◌else◌, List, [], ◌∷◌, ◌++◌, Option, None, Some, Ok, Err, ℤ, length, refl, sym, ap, subst, ◌∙◌, is_some}
use Rattle.evm_delta.specs.declared.shapes.DeltaError.{DeltaError}
use Rattle.evm_delta.specs.declared.shapes.DeltaError.TheVariants as errors
use Rattle.evm_rows.specs.Rows.{Vertices}
use Rattle.evm_model.specs.Figures.{Figure, box_fits, low_of, high_of, box_at}
use Rattle.evm_model.specs.Scene.{Scene, stands, is_input, dim_of, value, with_figure, all_stay}
use Rattle.evm_model.specs.Edits.{Edit, Code, Name, Kind, Dim, Range, first_cause, name_of, box_causes, value_causes, refusal, after, changed, changed_names, with_box}
use Rattle.evm_scene.specs.declared.node.Node.{Node}
use Rattle.evm_formulas.specs.declared.changes.Change.{Change}
use Rattle.evm_scene.specs.declared.edit.BoxEdit.{BoxEdit}
use Rattle.evm_scene.specs.declared.edit.BoxEdit.TheVariants.{Toggle, Add, Cut}
use Rattle.evm_scene.specs.declared.edit.Refusal.{Refusal}
use Rattle.evm_scene.specs.declared.edit.Refusal.TheVariants as why
use Rattle.evm_formulas.specs.Stated.{figure_of}
use Rattle.evm_scene.specs.Tables.{Table, node_at, node_figure, node_dim, is_made, kept, scene_of}
use Rattle.evm_formulas.specs.Changes.{IsChange}
use Rattle.evm_scene.specs.Applied.{Applies}
use Rattle.evm_scene.specs.Refused.{of_delta_error}
use Rattle.evm_scene.specs.Boxes.{MakesBox}
use Rattle.evm_scene.specs.InputEdits.{figure_by, edit_by, IsRefused, IsPlanned}
use Rattle.evm_model.specs.Work.{work, work_unless}
use Rattle.evm_scene.specs.Works.{whole_work}
use Rattle.evm_scene.proofs.Views.{stands_at, dim_is, input_at, is_given}

box_refusal : (edit : BoxEdit) (scene : Scene) (name : List ℕ) (nums : List ℤ) → refusal scene (edit_by edit name nums) ≡ first_cause (box_causes scene name nums ++ value_causes (after scene (edit_by edit name nums)))
box_refusal Toggle scene name nums = refl
box_refusal Add scene name nums = refl
box_refusal Cut scene name nums = refl

box_after : (edit : BoxEdit) (scene : Scene) (name : List ℕ) (nums : List ℤ) → after scene (edit_by edit name nums) ≡ with_box (figure_by edit) scene name nums
box_after Toggle scene name nums = refl
box_after Add scene name nums = refl
box_after Cut scene name nums = refl

box_named : (edit : BoxEdit) (name : List ℕ) (nums : List ℤ) → name_of (edit_by edit name nums) ≡ name
box_named Toggle name nums = refl
box_named Add name nums = refl
box_named Cut name nums = refl

-- where no early cause holds, all names count
pub full_unless : (causes : List (Bool × Code)) (scene : Scene) (edit : Edit) → first_cause causes ≡ None → work_unless causes scene edit ≡ whole_work scene edit
full_unless causes scene edit e = ap (λ (c : Option Code). if is_some c then 0 else whole_work scene edit) e

box_full : (edit : BoxEdit) (scene : Scene) (name : List ℕ) (nums : List ℤ) → first_cause (box_causes scene name nums) ≡ None
    → work scene (edit_by edit name nums) ≡ whole_work scene (edit_by edit name nums)
box_full Toggle scene name nums e = full_unless (box_causes scene name nums) scene (edit_by Toggle name nums) e
box_full Add scene name nums e = full_unless (box_causes scene name nums) scene (edit_by Add name nums) e
box_full Cut scene name nums e = full_unless (box_causes scene name nums) scene (edit_by Cut name nums) e

twice : (m : Bool) → not (not m) ≡ m
twice true = refl
twice false = refl

-- what the scene says of a name with this node
module _ (t : Table) (name : List ℕ) (n : Node) (at : node_at t name ≡ Some n) where
  pub there : stands (scene_of t) name ≡ true
  there = stands_at t name ∙ ap (λ (o : Option Node). is_some o) at

  pub made_here : not (is_input (scene_of t) name) ≡ is_some n.formula
  made_here = ap (λ (b : Bool). not b) (input_at t name ∙ ap is_given at) ∙ twice (is_some n.formula)

  pub wide : dim_of (scene_of t) name ≡ n.dim
  wide = dim_is t name ∙ ap node_dim at

-- the causes at a node
abbrev box_code : Bool → Bool → Bool → Scene → Option Code
box_code made sized fits left = first_cause ((made, Kind) ∷ (not sized, Dim) ∷ (not fits, Range) ∷ value_causes left)

module _ (edit : BoxEdit) (t : Table) (name : List ℕ) (nums : List ℤ) where
  abbrev left : Scene
  left = after (scene_of t) (edit_by edit name nums)

  pub absent : node_at t name ≡ None → refusal (scene_of t) (edit_by edit name nums) ≡ Some Name
  absent at =
      box_refusal edit (scene_of t) name nums
      ∙ ap (λ (b : Bool). first_cause ((not b, Name) ∷ (not (is_input (scene_of t) name), Kind) ∷ (not (length nums == 2 * dim_of (scene_of t) name), Dim) ∷ (not (box_fits (low_of (dim_of (scene_of t) name) nums) (high_of (dim_of (scene_of t) name) nums)), Range) ∷ value_causes left))
      (stands_at t name ∙ ap (λ (o : Option Node). is_some o) at)

  module _ (n : Node) (at : node_at t name ≡ Some n) where
    code_at : (m d r : Bool) → is_some n.formula ≡ m → (length nums == 2 * n.dim) ≡ d → box_fits (low_of n.dim nums) (high_of n.dim nums) ≡ r → refusal (scene_of t) (edit_by edit name nums) ≡ box_code m d r left
    code_at m d r p q o =
        box_refusal edit (scene_of t) name nums
        ∙ (λ i. first_cause ((not (there t name n at i), Name) ∷ (made_here t name n at i, Kind) ∷ (not (length nums == 2 * wide t name n at i), Dim) ∷ (not (box_fits (low_of (wide t name n at i) nums) (high_of (wide t name n at i) nums)), Range) ∷ value_causes left))
        ∙ (λ i. box_code (p i) (q i) (o i) left)

    pub formula_refused : is_some n.formula ≡ true → refusal (scene_of t) (edit_by edit name nums) ≡ Some Kind
    formula_refused p = code_at true (length nums == 2 * n.dim) (box_fits (low_of n.dim nums) (high_of n.dim nums)) p refl refl

    pub dim_refused : is_some n.formula ≡ false → (length nums == 2 * n.dim) ≡ false → refusal (scene_of t) (edit_by edit name nums) ≡ Some Dim
    dim_refused p q = code_at false false (box_fits (low_of n.dim nums) (high_of n.dim nums)) p q refl

    pub box_refused : is_some n.formula ≡ false → (length nums == 2 * n.dim) ≡ true → (r : Refusal) → MakesBox (Err r) n.dim nums → IsRefused r (scene_of t) (edit_by edit name nums)
    box_refused p q why.Name h = absurd h
    box_refused p q why.Taken h = absurd h
    box_refused p q why.Kind h = absurd h
    box_refused p q why.Used h = absurd h
    box_refused p q why.Cycle h = absurd h
    box_refused p q why.Dim h = absurd h
    box_refused p q why.Range h = code_at false true false p q h
    box_refused p q why.NoMemory h = tt

    no_cause : is_some n.formula ≡ false → (length nums == 2 * n.dim) ≡ true → box_fits (low_of n.dim nums) (high_of n.dim nums) ≡ true → first_cause (box_causes (scene_of t) name nums) ≡ None
    no_cause p q o =
        (λ i. first_cause ((not (there t name n at i), Name) ∷ (made_here t name n at i, Kind) ∷ (not (length nums == 2 * wide t name n at i), Dim) ∷ (not (box_fits (low_of (wide t name n at i) nums) (high_of (wide t name n at i) nums)), Range) ∷ []))
        ∙ (λ i. first_cause ((p i, Kind) ∷ (not (q i), Dim) ∷ (not (o i), Range) ∷ []))

    pub plan : (made : Vertices) (c : Change) → ((x : List ℕ) → kept t x ≡ value (scene_of t) x) → is_some n.formula ≡ false → (length nums == 2 * n.dim) ≡ true → MakesBox (Ok made) n.dim nums
        → figure_of c.after ≡ figure_by edit (figure_of n.solid) (figure_of made) → IsChange (Some c) (figure_of n.solid) → IsPlanned t name (edit_by edit name nums) c
    plan made c values p q box e h = record {
      stands = ap (λ (o : Option Node). is_some o) at;
      input = ap is_made at ∙ p;
      change = subst (λ (o : Option Node). IsChange (Some c) (node_figure o)) (sym at) h;
      only = code_at false true true p q box.0;
      after =
          ap (with_figure (scene_of t) name)
          (e ∙ ap (figure_by edit (figure_of n.solid)) box.1
          ∙ ap (λ (f : Figure). figure_by edit f (box_at n.dim nums)) (ap node_figure (sym at) ∙ values name)
          ∙ ap (λ (m : ℕ). figure_by edit (value (scene_of t) name) (box_at m nums)) (sym (wide t name n at)))
          ∙ sym (box_after edit (scene_of t) name nums);
      named = box_named edit name nums;
      full = box_full edit (scene_of t) name nums (no_cause p q box.0);
    }

-- an edit that was planned, and made, or refused by the scene that it would leave
module _ (t u : Table) (name : List ℕ) (edit : Edit) (c : Change) (p : IsPlanned t name edit c) where
  refused_by : (b : Bool) → all_stay (with_figure (scene_of t) name (figure_of c.after)) ≡ b → refusal (scene_of t) edit ≡ first_cause ((not b, Range) ∷ [])
  refused_by b h = p.only ∙ ap (λ (v : Bool). first_cause ((not v, Range) ∷ [])) (ap (λ (s : Scene). all_stay s) (sym p.after) ∙ h)

  pub planned_done : (n : ℕ) → all_stay (with_figure (scene_of t) name (figure_of c.after)) ≡ true → scene_of u ≡ with_figure (scene_of t) name (figure_of c.after)
      → n ≡ changed_names (scene_of t) (scene_of u) → (refusal (scene_of t) edit ≡ None) × (scene_of u ≡ after (scene_of t) edit) × (n ≡ changed (scene_of t) edit)
  planned_done n stay shown count = (refused_by true stay, shown ∙ p.after, count ∙ ap (λ (s : Scene). changed_names (scene_of t) s) (shown ∙ p.after))

  pub planned_failed : (e : DeltaError) → (e ≡ errors.Range → all_stay (with_figure (scene_of t) name (figure_of c.after)) ≡ false) → u ≡ t
      → Applies (Err (of_delta_error e)) (scene_of t) (scene_of u) edit
  planned_failed errors.Range h same = (refused_by false (h refl), ap (λ (v : Table). scene_of v) same)
  planned_failed errors.NoMemory h same = ap (λ (v : Table). scene_of v) same
