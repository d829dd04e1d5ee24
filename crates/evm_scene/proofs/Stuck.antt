-- Another formula of a name that stands: where the scene that it would leave moves a cell out of the limits.
use Rattle.std.proofs.Common.{◌≡◌, ℕ, Bool, true, false, cond, ◌&&◌, ◌||◌, List, [], ◌∷◌, Option, None, Some, refl, sym, ap, subst, ◌∙◌, is_some, bytes_eq}
use Rattle.std.proofs.lemmas.Bool.{false≢true}
use Rattle.evm_script.specs.declared.formula.Formula.{Formula}
use Rattle.evm_model.specs.Orders.{is_among}
use Rattle.evm_model.specs.Scene.{Scene, Entry, Made, entry_of, stands, operands, dim_of, formula_dim, formula_fits, formula_in_range, formula_value, formula_stays, entry_value, value, reaches, all_stay, with_entry, with_new, with_formula, IsWell}
use Rattle.evm_model.specs.Edits.{closes_cycle}
use Rattle.evm_model.proofs.Names.{by_test, name_itself, or_none, passes_none}
use Rattle.evm_model.proofs.Lookups.{with_own}
use Rattle.evm_model.proofs.Levels.{formula_same, formula_stays_same}
use Rattle.evm_model.proofs.Stays.{before_both, at_formula, value_stays}
use Rattle.evm_model.proofs.WellScenes.{well_value, sound_made}
use Rattle.evm_model.proofs.WellEdits.{well_formula}
use Rattle.evm_formulas.specs.declared.changes.Change.{Change}
use Rattle.evm_scene.specs.Tables.{Table, node_at, kept, entries_of, scene_of}
use Rattle.evm_scene.specs.Orders.{IsKept}
use Rattle.evm_formulas.specs.Changes.{after_of}
use Rattle.evm_scene.specs.Changes.{moved, IsStuck}
use Rattle.evm_scene.proofs.Views.{stands_at, kept_is_value}
use Rattle.evm_scene.proofs.Halted.{entry_stays, all_at, never_well}

module _ (t : Table) (order : List (List ℕ)) (name : List ℕ) (f : Formula) (k : IsKept t order) (well : IsWell (scene_of t))
    (standing : is_some (node_at t name) ≡ true) (present : (o : List ℕ) → is_among o (operands f) ≡ true → is_some (node_at t o) ≡ true)
    (open_end : closes_cycle (scene_of t) name f ≡ false) where
  abbrev entry : Entry
  entry = record { name = name; dim = formula_dim (scene_of t) f; what = Made f }

  abbrev placed : Scene
  placed = record { entries = with_entry (entries_of t) name entry; slots = [] }

  abbrev left : Scene
  left = with_formula (scene_of t) name f

  there : stands (scene_of t) name ≡ true
  there = stands_at t name ∙ standing

  pub left_is : left ≡ placed
  left_is = ap (λ (b : Bool). cond {A = Scene} b placed (with_new (scene_of t) name (formula_dim (scene_of t) f) (Made f))) there

  apart : (o : List ℕ) → is_among o (operands f) ≡ true → (bytes_eq o name ≡ false) × (reaches (scene_of t) o name ≡ false)
  apart o m = or_none (bytes_eq o name) (reaches (scene_of t) o name) (passes_none (λ z. bytes_eq z name || reaches (scene_of t) z name) (operands f) open_end o m)

  -- operands keep their values
  operand_value : (o : List ℕ) → is_among o (operands f) ≡ true → kept t o ≡ value left o
  operand_value o m = kept_is_value t order k o ∙ sym (value_stays (scene_of t) well name left (at_formula (scene_of t) name f) o (apart o m).0 (apart o m).1)

  own_entry : entry_of left.entries name ≡ Some entry
  own_entry = ap (λ (s : Scene). entry_of s.entries name) left_is ∙ with_own (entries_of t) name entry refl there

  pub own_out : formula_stays f (kept t) ≡ false → all_stay left ≡ false
  own_out out =
      by_test (all_stay left)
      (λ stay. absurd (false≢true
      (sym out ∙ formula_stays_same f (kept t) (value left) operand_value ∙ ap (λ (e : Option Entry). entry_stays e (value left)) (sym own_entry) ∙ all_at left name stay)))
      (λ h. h)

  module _ (fits : formula_fits (scene_of t) f ≡ true) (range : formula_in_range (scene_of t) f ≡ true) (same : formula_dim (scene_of t) f ≡ dim_of (scene_of t) name) where
    well_left : all_stay left ≡ true → IsWell left
    well_left stay =
        subst IsWell (sym left_is)
        (well_formula (scene_of t) name f well there same (sound_made (scene_of t) (formula_dim (scene_of t) f) f fits range refl)
        (λ o m. stands_at t o ∙ present o m) (λ o m. before_both (scene_of t) name o (apart o m).0 (apart o m).1)
        (subst (λ (s : Scene). all_stay s ≡ true) left_is stay))

    own_value : (h : IsStuck t name (formula_value f (kept t))) → IsWell left → moved t h.halted.pending name ≡ value left name
    own_value h w =
        ap (λ (c : Option Change). after_of c (kept t name)) (h.halted.seed ∙ ap (λ (b : Bool). cond b (Some h.own) None) (name_itself name))
        ∙ h.value
        ∙ formula_same f (kept t) (value left) operand_value
        ∙ sym (well_value left w name ∙ ap (λ (e : Option Entry). entry_value e (value left)) own_entry)

    pub stuck_out : IsStuck t name (formula_value f (kept t)) → all_stay left ≡ false
    stuck_out h =
        by_test (all_stay left)
        (λ stay. let w = well_left stay in absurd (never_well t name ((name, h.own) ∷ []) h.halted k.sized left w (at_formula (scene_of t) name f).0 (own_value h w)))
        (λ out. out)

-- a test that another follows from, in place of it
pub both_out : (r a b : Bool) → (a ≡ false → b ≡ false) → (r && a) ≡ false → (r && b) ≡ false
both_out true a b h e = h e
both_out false a b h e = refl
