-- A definition of a name that stands for a formula, made or refused.
use Rattle.std.proofs.Common.{◌≡◌, ℕ, ◌==◌, Bool, true, false, not, cond, ◌&&◌, List, [], ◌++◌, Option, None, Some, Err, refl, sym, ap, subst, ◌∙◌, true≢false, is_some, bytes_eq}
use Rattle.std.specs.Prelude.{option_map}
use Rattle.std.specs.List.{IsDistinct}
use Rattle.std.specs.Map.{keys_of}
use Rattle.std.proofs.lemmas.Option.{same_Some, none-some}
use Rattle.evm_delta.specs.declared.shapes.DeltaError.{DeltaError}
use Rattle.evm_delta.specs.declared.shapes.DeltaError.TheVariants as errors
use Rattle.evm_rows.specs.Rows.{Vertices}
use Rattle.evm_script.specs.declared.formula.Formula.{Formula}
use Rattle.evm_model.specs.Figures.{Figure}
use Rattle.evm_model.specs.Orders.{is_among}
use Rattle.evm_model.specs.Scene.{Scene, Entry, Made, stands, is_input, dim_of, operands, formula_dim, formula_fits, formula_in_range, formula_value, formula_stays, all_stay, names_differ, with_entry, with_new, with_formula}
use Rattle.evm_model.specs.Edits as model
use Rattle.evm_model.specs.Edits.{lacks_operand, closes_cycle, misses_dim, changed_names}
use Rattle.evm_model.proofs.Names.{by_name, or_right}
use Rattle.evm_model.proofs.Lookups.{differ_with}
use Rattle.evm_scene.specs.declared.edit.Refusal.{Refusal}
use Rattle.evm_scene.specs.declared.edit.Refusal.TheVariants.{Name, Taken, Kind, Used, Cycle, Dim, Range, NoMemory}
use Rattle.evm_scene.specs.declared.node.Node.{Node}
use Rattle.evm_formulas.specs.Stated.{figure_of}
use Rattle.evm_scene.specs.Tables.{Table, node_at, reads_at, kept, dim_at, is_made, entries_of, scene_of}
use Rattle.evm_scene.specs.Orders.{IsKept, meets, Parted}
use Rattle.evm_scene.specs.Changes.{Pending, moved, IsRedefined, IsInstalled}
use Rattle.evm_scene.specs.Applied.{Applies}
use Rattle.evm_scene.specs.Refused.{of_delta_error}
use Rattle.evm_scene.specs.Definitions.{IsFree}
use Rattle.evm_scene.proofs.Views.{stands_at, dim_is, input_at, is_given}
use Rattle.evm_scene.proofs.Causes.{other_stands, sized_in, not_refused}
use Rattle.evm_scene.proofs.Wells.{entries_apart, well_kept, shown_stay}
use Rattle.evm_scene.proofs.Stuck.{left_is}
use Rattle.evm_scene.proofs.Installed.{installed_kept, installed_stands, installed_values, installed_view, installed_count, cycle_is}

-- a refusal by a cycle
pub unfree : (e : Refusal) (t : Table) (order : List (List ℕ)) (name : List ℕ) (f : Formula) (edit : model.Edit) → IsFree (Err e) t order name f
    → (closes_cycle (scene_of t) name f ≡ true → model.refusal (scene_of t) edit ≡ Some model.Cycle) → Applies (Err e) (scene_of t) (scene_of t) edit
unfree Name t order name f edit h k = absurd h
unfree Taken t order name f edit h k = absurd h
unfree Kind t order name f edit h k = absurd h
unfree Used t order name f edit h k = absurd h
unfree Cycle t order name f edit h k = (k h, refl)
unfree Dim t order name f edit h k = absurd h
unfree Range t order name f edit h k = absurd h
unfree NoMemory t order name f edit h k = refl

-- a refusal by a formula that moves a cell out of the limits
pub unmoved : (e : DeltaError) (s : Scene) (edit : model.Edit) → (e ≡ errors.Range → model.refusal s edit ≡ Some model.Range) → Applies (Err (of_delta_error e)) s s edit
unmoved errors.Range s edit h = (h refl, refl)
unmoved errors.NoMemory s edit h = refl

-- what is a formula stands and is no input
pub made_stands : (t : Table) (name : List ℕ) → is_made (node_at t name) ≡ true → is_some (node_at t name) ≡ true
made_stands t name = by (node_at t name)
  where
    by : (n : Option Node) → is_made n ≡ true → is_some n ≡ true
    by None h = absurd (true≢false (sym h))
    by (Some n) h = refl

pub made_no_input : (t : Table) (name : List ℕ) → is_made (node_at t name) ≡ true → is_input (scene_of t) name ≡ false
made_no_input t name h = input_at t name ∙ by (node_at t name) h
  where
    by : (n : Option Node) → is_made n ≡ true → is_given n ≡ false
    by None k = absurd (true≢false (sym k))
    by (Some n) k = ap not k

-- each operand stands
pub operands_present : (t : Table) (name : List ℕ) (f : Formula) → is_some (node_at t name) ≡ true → lacks_operand (scene_of t) name f ≡ false
    → (o : List ℕ) → is_among o (operands f) ≡ true → is_some (node_at t o) ≡ true
operands_present t name f standing full o m =
    by_name o name
    (λ e. ap (λ (k : List ℕ). is_some (node_at t k)) e ∙ standing)
    (λ d. sym (stands_at t o) ∙ other_stands (scene_of t) name f full o m d)

-- the lists as the code passes them on
module _ (t u : Table) (order o2 front reach whole : List (List ℕ)) (name : List ℕ) (f : Formula) (p : Pending) (n dim : ℕ) (solid : Vertices)
    (before : IsKept t order) (eo : o2 ≡ order) (parted : Parted (reads_at t) o2 name front reach [])
    (redefined : IsRedefined t front name (figure_of solid) p) (value : figure_of solid ≡ formula_value f (kept t)) (stay : formula_stays f (kept t) ≡ true) (installed : IsInstalled t u name f p n)
    (made : is_made (node_at t name) ≡ true) (full : lacks_operand (scene_of t) name f ≡ false)
    (open_end : closes_cycle (scene_of t) name f ≡ false) (hit : misses_dim (scene_of t) name f ≡ false)
    (fits : formula_fits (scene_of t) f ≡ true) (stated : dim ≡ formula_dim (scene_of t) f) (same : dim ≡ dim_of (scene_of t) name) (range : formula_in_range (scene_of t) f ≡ true) where
  parted_here : Parted (reads_at t) order name front reach []
  parted_here = subst (λ l. Parted (reads_at t) l name front reach []) eo parted

  redefined_here : IsRedefined t front name (formula_value f (kept t)) p
  redefined_here = subst (λ (g : Figure). IsRedefined t front name g p) value redefined

  standing : is_some (node_at t name) ≡ true
  standing = made_stands t name made

  present : (o : List ℕ) → is_among o (operands f) ≡ true → is_some (node_at t o) ≡ true
  present = operands_present t name f standing full

  miss : meets reach (operands f) ≡ false
  miss = cycle_is t order front reach name f before parted_here present ∙ open_end

  own_dim : dim_at t name ≡ formula_dim (scene_of t) f
  own_dim = sym (dim_is t name) ∙ sym same ∙ stated

  pub end_kept : whole ≡ front ++ reach → IsKept u whole
  end_kept e =
      subst (λ l. IsKept u l) (sym e)
      (installed_kept t u order front reach name f p n before parted_here redefined_here stay installed (sized_in t f (dim_at t name) own_dim fits range) standing present miss)

  -- the same names stand, with the figures that the changes made
  pub end_stands : (x : List ℕ) → is_some (node_at u x) ≡ is_some (node_at t x)
  end_stands =
      installed_stands t u order front reach name f p n before parted_here redefined_here stay installed (sized_in t f (dim_at t name) own_dim fits range) standing present miss

  pub end_values : (x : List ℕ) → is_some (node_at t x) ≡ true → moved t p x ≡ kept u x
  end_values =
      installed_values t u order front reach name f p n before parted_here redefined_here stay installed (sized_in t f (dim_at t name) own_dim fits range) standing present miss

  -- the scene with the formula in the name's place
  abbrev stood : ℕ → List Entry
  stood k = with_entry (entries_of t) name (record { name = name; dim = k; what = Made f })

  end_view : scene_of u ≡ with_formula (scene_of t) name f
  end_view =
      ap (λ (es : List Entry). record { entries = es; slots = [] })
      (installed_view t u order front reach name f p n before parted_here redefined_here stay installed (sized_in t f (dim_at t name) own_dim fits range) standing present miss ∙ ap stood own_dim)
      ∙ sym (ap (λ (b : Bool). cond {A = Scene} b (record { entries = stood (formula_dim (scene_of t) f); slots = [] }) (with_new (scene_of t) name (formula_dim (scene_of t) f) (Made f))) (stands_at t name ∙ standing))

  -- no formula moves a cell out of the limits there
  end_stay : IsDistinct bytes_eq (keys_of t) → all_stay (with_formula (scene_of t) name f) ≡ true
  end_stay names =
      shown_stay u (front ++ reach) (with_formula (scene_of t) name f)
      (installed_kept t u order front reach name f p n before parted_here redefined_here stay installed (sized_in t f (dim_at t name) own_dim fits range) standing present miss)
      end_view
      (ap (λ (s : Scene). names_differ s.entries) (left_is t order name f before (well_kept t order before names) standing present open_end)
      ∙ differ_with (entries_of t) name (record { name = name; dim = formula_dim (scene_of t) f; what = Made f }) refl (entries_apart t names))

  pub end_applies : IsDistinct bytes_eq (keys_of t)
      → (model.refusal (scene_of t) (model.Def name f) ≡ None) × (scene_of u ≡ model.after (scene_of t) (model.Def name f)) × (n ≡ model.changed (scene_of t) (model.Def name f))
  end_applies names = (
    not_refused (scene_of t) name f full (made_no_input t name made) open_end hit range (end_stay names),
    end_view,
    installed_count t u order front reach name f p n before parted_here redefined_here stay installed (sized_in t f (dim_at t name) own_dim fits range) standing present miss names
        ∙ ap (λ (s : Scene). changed_names (scene_of t) s) end_view,
  )

-- a dimension other than that of a name that stands
pub other_dim : (t : Table) (name : List ℕ) (f : Formula) (n m : ℕ) → is_some (node_at t name) ≡ true → n ≡ formula_dim (scene_of t) f → m ≡ dim_of (scene_of t) name → (n == m) ≡ false → misses_dim (scene_of t) name f ≡ true
other_dim t name f n m standing e h d =
    or_right (not (formula_fits (scene_of t) f)) (stands (scene_of t) name && not (formula_dim (scene_of t) f == dim_of (scene_of t) name))
    (ap (λ (b : Bool). b && not (formula_dim (scene_of t) f == dim_of (scene_of t) name)) (stands_at t name ∙ standing)
    ∙ ap not (ap (λ (k : ℕ). k == dim_of (scene_of t) name) (sym e) ∙ ap (λ (k : ℕ). n == k) (sym h) ∙ d))

-- a name that stands for no formula is an input
pub given_input : (t : Table) (name : List ℕ) → option_map (λ (n : Node). is_some n.formula) (node_at t name) ≡ Some false → is_input (scene_of t) name ≡ true
given_input t name h = input_at t name ∙ by (node_at t name) h
  where
    by : (n : Option Node) → option_map (λ (m : Node). is_some m.formula) n ≡ Some false → is_given n ≡ true
    by None k = absurd (none-some false k)
    by (Some n) k = ap not (same_Some (is_some n.formula) false k)
