-- What refuses a definition, by the table, and what one leaves that is made.
use Rattle.std.proofs.Common.{◌≡◌, ℕ, ◌==◌, Bool, true, false, not, cond, ◌&&◌, ◌||◌, List, [], ◌∷◌, ◌++◌, Option, None, Some, Err, pos, refl, sym, ap, subst, ◌∙◌, true≢false, is_some, bytes_eq}
use Rattle.evm_rows.specs.Rows.{Vertices}
use Rattle.evm_script.specs.declared.formula.Formula.{Formula}
use Rattle.evm_model.specs.Figures.{Figure}
use Rattle.evm_model.specs.Orders.{is_among}
use Rattle.evm_model.specs.Scene.{Scene, Entry, Made, stands, is_input, is_dim, dim_of, operands, formula_dim, formula_fits, formula_in_range, formula_stays, all_stay, value, with_entry, with_new, with_formula, reaches, IsWell}
use Rattle.evm_model.specs.Edits as model
use Rattle.evm_model.specs.Edits.{lacks_operand, closes_cycle, misses_dim}
use Rattle.evm_model.proofs.Names.{not_false, name_sym, different_names, or-false, any_among, passes_none}
use Rattle.evm_model.proofs.Stays.{unread_unreached}
use Rattle.evm_model.proofs.Levels.{formula_stays_same}
use Rattle.evm_model.proofs.WellEdits.{unread, stay_new}
use Rattle.evm_model.proofs.Refusals.{formula_dim_fits}
use Rattle.evm_scene.specs.declared.edit.Refusal.{Refusal}
use Rattle.evm_scene.specs.declared.edit.Refusal.TheVariants.{Name, Taken, Kind, Used, Cycle, Dim, Range, NoMemory}
use Rattle.evm_scene.specs.declared.node.Node.{Node}
use Rattle.evm_scene.specs.Tables.{Table, node_at, kept, dim_at, FormulaSized, NodeSized, entry_view, entries_of, scene_of}
use Rattle.evm_scene.specs.Applied.{Applies}
use Rattle.evm_scene.specs.Definitions.{IsMade}
use Rattle.evm_scene.proofs.Views.{stands_at, input_at, is_given}
use Rattle.evm_scene.proofs.FormulaLaws.{formula_sized}
use Rattle.evm_scene.proofs.Unread.{absent_unread, new_changes_none}

-- the refusal of a definition, by its six causes
abbrev pub first_of : Bool → Bool → Bool → Bool → Bool → Bool → Option model.Code
first_of l k c m r v = model.first_cause ((l, model.Name) ∷ (k, model.Kind) ∷ (c, model.Cycle) ∷ (m, model.Dim) ∷ (not r, model.Range) ∷ (not v, model.Range) ∷ [])

module _ (s : Scene) (name : List ℕ) (f : Formula) where
  pub def_refusal : (l k c m r v : Bool) → lacks_operand s name f ≡ l → is_input s name ≡ k → closes_cycle s name f ≡ c → misses_dim s name f ≡ m → formula_in_range s f ≡ r
      → all_stay (with_formula s name f) ≡ v → model.refusal s (model.Def name f) ≡ first_of l k c m r v
  def_refusal l k c m r v el ek ec em er ev = λ i. first_of (el i) (ek i) (ec i) (em i) (er i) (ev i)

  pub refused_name : lacks_operand s name f ≡ true → model.refusal s (model.Def name f) ≡ Some model.Name
  refused_name el = def_refusal true (is_input s name) (closes_cycle s name f) (misses_dim s name f) (formula_in_range s f) (all_stay (with_formula s name f)) el refl refl refl refl refl

  pub refused_kind : lacks_operand s name f ≡ false → is_input s name ≡ true → model.refusal s (model.Def name f) ≡ Some model.Kind
  refused_kind el ek = def_refusal false true (closes_cycle s name f) (misses_dim s name f) (formula_in_range s f) (all_stay (with_formula s name f)) el ek refl refl refl refl

  module _ (el : lacks_operand s name f ≡ false) (ek : is_input s name ≡ false) where
    pub refused_cycle : closes_cycle s name f ≡ true → model.refusal s (model.Def name f) ≡ Some model.Cycle
    refused_cycle ec = def_refusal false false true (misses_dim s name f) (formula_in_range s f) (all_stay (with_formula s name f)) el ek ec refl refl refl

    pub refused_dim : closes_cycle s name f ≡ false → misses_dim s name f ≡ true → model.refusal s (model.Def name f) ≡ Some model.Dim
    refused_dim ec em = def_refusal false false false true (formula_in_range s f) (all_stay (with_formula s name f)) el ek ec em refl refl

    pub refused_range : closes_cycle s name f ≡ false → misses_dim s name f ≡ false → (formula_in_range s f && all_stay (with_formula s name f)) ≡ false
        → model.refusal s (model.Def name f) ≡ Some model.Range
    refused_range ec em = by (formula_in_range s f) (all_stay (with_formula s name f)) refl refl
      where
        by : (r v : Bool) → formula_in_range s f ≡ r → all_stay (with_formula s name f) ≡ v → (r && v) ≡ false → model.refusal s (model.Def name f) ≡ Some model.Range
        by false v er ev h = def_refusal false false false false false v el ek ec em er ev
        by true false er ev h = def_refusal false false false false true false el ek ec em er ev
        by true true er ev h = absurd (true≢false h)

    pub not_refused : closes_cycle s name f ≡ false → misses_dim s name f ≡ false → formula_in_range s f ≡ true → all_stay (with_formula s name f) ≡ true → model.refusal s (model.Def name f) ≡ None
    not_refused ec em er ev = def_refusal false false false false true true el ek ec em er ev

-- a refusal by what could not be made
pub unmade : {A : Type 0} (e : Refusal) (s : Scene) (f : Formula) (at : List ℕ → Figure) (P : A → Type 0) (edit : model.Edit) → IsMade (Err e) s f at P
    → ((formula_in_range s f && formula_stays f at) ≡ false → model.refusal s edit ≡ Some model.Range) → Applies (Err e) s s edit
unmade Name s f at P edit h k = absurd h
unmade Taken s f at P edit h k = absurd h
unmade Kind s f at P edit h k = absurd h
unmade Used s f at P edit h k = absurd h
unmade Cycle s f at P edit h k = absurd h
unmade Dim s f at P edit h k = absurd h
unmade Range s f at P edit h k = (k h, refl)
unmade NoMemory s f at P edit h k = refl

-- operands other than the name stand, where none is lacking
pub other_stands : (s : Scene) (name : List ℕ) (f : Formula) → lacks_operand s name f ≡ false → (o : List ℕ) → is_among o (operands f) ≡ true → bytes_eq o name ≡ false → stands s o ≡ true
other_stands s name f h o m d =
    not_false (stands s o) (sym (ap (λ (b : Bool). not b && not (stands s o)) d) ∙ passes_none (λ z. not (bytes_eq z name) && not (stands s z)) (operands f) h o m)

pub sized_in : (t : Table) (f : Formula) (n : ℕ) → n ≡ formula_dim (scene_of t) f → formula_fits (scene_of t) f ≡ true → formula_in_range (scene_of t) f ≡ true → FormulaSized n f (dim_at t)
sized_in t f n e h r = subst (λ (k : ℕ). FormulaSized k f (dim_at t)) (sym e) (formula_sized t f h r)

-- a name that does not stand
module _ (t : Table) (name : List ℕ) (f : Formula) (well : IsWell (scene_of t)) (fresh : is_some (node_at t name) ≡ false) (full : lacks_operand (scene_of t) name f ≡ false) where
  absent : stands (scene_of t) name ≡ false
  absent = stands_at t name ∙ fresh

  -- is no input
  pub no_input : is_input (scene_of t) name ≡ false
  no_input = input_at t name ∙ by (node_at t name) fresh
    where
      by : (n : Option Node) → is_some n ≡ false → is_given n ≡ false
      by None h = refl
      by (Some n) h = absurd (true≢false h)

  -- is reached by no other
  pub cycle_itself : closes_cycle (scene_of t) name f ≡ is_among name (operands f)
  cycle_itself =
      any_among (λ o. bytes_eq o name || reaches (scene_of t) o name) (bytes_eq name) (operands f)
      (λ o m. ap (λ (b : Bool). bytes_eq o name || b) (unread_unreached (scene_of t) name o well (unread (scene_of t) name (absent_unread (scene_of t) well name absent))) ∙ or-false (bytes_eq o name) ∙ name_sym o name)

  -- and has no dimension yet
  pub dim_missed : misses_dim (scene_of t) name f ≡ not (formula_fits (scene_of t) f)
  dim_missed = ap (λ (b : Bool). not (formula_fits (scene_of t) f) || (b && not (formula_dim (scene_of t) f == dim_of (scene_of t) name))) absent ∙ or-false (not (formula_fits (scene_of t) f))

  module _ (itself : is_among name (operands f) ≡ false) where
    pub operand_present : (o : List ℕ) → is_among o (operands f) ≡ true → is_some (node_at t o) ≡ true
    operand_present o m =
        sym (stands_at t o)
        ∙ other_stands (scene_of t) name f full o m
        (different_names o name (λ e. true≢false (sym m ∙ ap (λ (k : List ℕ). is_among k (operands f)) e ∙ itself)))

    pub no_cycle : closes_cycle (scene_of t) name f ≡ false
    no_cycle = cycle_itself ∙ itself

    pub made_sized : (n : ℕ) (solid : Vertices) → formula_fits (scene_of t) f ≡ true → n ≡ formula_dim (scene_of t) f → formula_in_range (scene_of t) f ≡ true → solid.dim ≡ n
        → NodeSized (Some (record { dim = n; formula = Some f; solid = solid })) (dim_at t)
    made_sized n solid fits e range d = (
      subst (λ (k : ℕ). is_dim (pos k) ≡ true) (sym e) (formula_dim_fits (scene_of t) well f (λ o m. stands_at t o ∙ operand_present o m) fits),
      d,
      sized_in t f n e fits range,
    )

    -- the scene that is left moves a cell out of the limits where the formula does
    pub new_left : ((x : List ℕ) → kept t x ≡ value (scene_of t) x) → all_stay (with_formula (scene_of t) name f) ≡ formula_stays f (kept t)
    new_left values =
        ap (λ (b : Bool). all_stay (cond {A = Scene} b (record { entries = with_entry (entries_of t) name (record { name = name; dim = formula_dim (scene_of t) f; what = Made f }); slots = [] })
        (with_new (scene_of t) name (formula_dim (scene_of t) f) (Made f)))) absent
        ∙ stay_new (scene_of t) name (formula_dim (scene_of t) f) (Made f) well absent (λ o m. stands_at t o ∙ operand_present o m)
        ∙ formula_stays_same f (value (scene_of t)) (kept t) (λ o m. sym (values o))

    -- a definition of a new name that is made
    pub new_done : (u : Table) (n : ℕ) (solid : Vertices) → formula_fits (scene_of t) f ≡ true → n ≡ formula_dim (scene_of t) f → formula_in_range (scene_of t) f ≡ true
        → all_stay (with_formula (scene_of t) name f) ≡ true → entries_of u ≡ entries_of t ++ entry_view (name, record { dim = n; formula = Some f; solid = solid }) ∷ []
        → (model.refusal (scene_of t) (model.Def name f) ≡ None) × (scene_of u ≡ with_formula (scene_of t) name f) × (0 ≡ model.changed (scene_of t) (model.Def name f))
    new_done u n solid fits e range stay h = (
      not_refused (scene_of t) name f full no_input no_cycle (dim_missed ∙ ap not fits) range stay,
      ap (λ (es : List Entry). record { entries = es; slots = [] }) (h ∙ ap (λ (k : ℕ). entries_of t ++ record { name = name; dim = k; what = Made f } ∷ []) e)
          ∙ sym (ap (λ (b : Bool). cond {A = Scene} b (record { entries = with_entry (entries_of t) name (record { name = name; dim = formula_dim (scene_of t) f; what = Made f }); slots = [] })
          (with_new (scene_of t) name (formula_dim (scene_of t) f) (Made f))) absent),
      new_changes_none (scene_of t) (model.Def name f) well absent,
    )
