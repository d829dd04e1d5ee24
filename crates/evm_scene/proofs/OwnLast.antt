-- An input gets another solid: its own change is put in place after the others.
use Rattle.std.proofs.Common.{◌≡◌, ℕ, Bool, true, false, cond, List, [], ◌∷◌, Option, None, Some, refl, sym, ap, subst, ◌∙◌, true≢false, is_some, bytes_eq}
use Rattle.std.specs.Prelude.{option_map}
use Rattle.std.proofs.lemmas.Option.{same_Some, none-some}
use Rattle.evm_cells.specs.Vertices.{cells}
use Rattle.evm_model.specs.Scene.{Entry, Given, with_entry, with_figure}
use Rattle.evm_model.proofs.Names.{same_name, name_itself, name_sym}
use Rattle.evm_scene.specs.declared.node.Node.{Node}
use Rattle.evm_formulas.specs.declared.changes.Change.{Change}
use Rattle.evm_formulas.specs.Stated.{figure_of}
use Rattle.evm_scene.specs.Tables.{Table, node_at, put_solid, with_solid, is_made, node_dim, dim_at, kept, entries_of, scene_of, node_figure, NodeSized}
use Rattle.evm_scene.specs.Orders.{IsKept}
use Rattle.evm_formulas.specs.Changes.{IsChange}
use Rattle.evm_scene.specs.Changes.{Pending, change_at, put_all, moved, moved_node, MovesNode, IsCarried}
use Rattle.evm_scene.proofs.Puts.{node_put, node_put_all, length_put, length_put_all, moved_again, moved_none}
use Rattle.evm_scene.proofs.Kepts.{kept_again, some_moved, solid_moved}
use Rattle.evm_scene.proofs.Views.{node_formula}
use Rattle.evm_scene.proofs.Views.{view_put_all, view_put_given}

module _ (t : Table) (order : List (List ℕ)) (name : List ℕ) (old p q : Pending) (seed : Change)
    (before : IsKept t order) (carried : IsCarried t [] name old p)
    (input : is_made (node_at t name) ≡ false) (stands : is_some (node_at t name) ≡ true)
    (here : change_at p name ≡ Some seed)
    (without : (x : List ℕ) → change_at q x ≡ cond (bytes_eq name x) None (change_at p x)) where
  no_seed : change_at q name ≡ None
  no_seed = without name ∙ ap (λ b. cond b None (change_at p name)) (name_itself name)

  rest_at : (x : List ℕ) → bytes_eq name x ≡ false → change_at q x ≡ change_at p x
  rest_at x d = without x ∙ ap (λ b. cond b None (change_at p x)) d

  pub input_places : (x : List ℕ) → node_at (put_solid (put_all t q) name seed.after) x ≡ moved_node (node_at t x) (change_at p x)
  input_places x = node_put (λ n. with_solid n seed.after) (put_all t q) name x ∙ by (bytes_eq name x) refl
    where
      by : (b : Bool) → bytes_eq name x ≡ b
          → cond (bytes_eq name x) (option_map (λ n. with_solid n seed.after) (node_at (put_all t q) x)) (node_at (put_all t q) x) ≡ moved_node (node_at t x) (change_at p x)
      by true d =
          ap (λ b. cond b (option_map (λ n. with_solid n seed.after) (node_at (put_all t q) x)) (node_at (put_all t q) x)) d
          ∙ ap (λ o. option_map (λ n. with_solid n seed.after) o) (node_put_all t q x)
          ∙ moved_again (node_at t x) (change_at q x) seed
          ∙ ap (λ o. moved_node (node_at t x) o) (sym here ∙ ap (λ k. change_at p k) (same_name name x d))
      by false d =
          ap (λ b. cond b (option_map (λ n. with_solid n seed.after) (node_at (put_all t q) x)) (node_at (put_all t q) x)) d
          ∙ node_put_all t q x ∙ ap (λ o. moved_node (node_at t x) o) (rest_at x d)

  formula_none : (n : Option Node) → is_made n ≡ false → node_formula n ≡ None
  formula_none None h = refl
  formula_none (Some n) h = none n.formula h
    where
      none : {X : Type 0} (m : Option X) → is_some m ≡ false → m ≡ None
      none None h = refl
      none (Some f) h = absurd (true≢false h)

  pub input_kept : IsKept (put_solid (put_all t q) name seed.after) order
  input_kept = kept_again t (put_solid (put_all t q) name seed.after) order [] name old p before carried input_places
      (length_put (λ n. with_solid n seed.after) (put_all t q) name ∙ length_put_all t q)
      (formula_none (node_at t name) input)

  pub input_stands : (x : List ℕ) → is_some (node_at (put_solid (put_all t q) name seed.after) x) ≡ is_some (node_at t x)
  input_stands x = ap (λ o. is_some o) (input_places x) ∙ some_moved (node_at t x) (change_at p x)

  pub input_new : (x : List ℕ) → is_some (node_at t x) ≡ true → moved t p x ≡ kept (put_solid (put_all t q) name seed.after) x
  input_new x h = sym (ap node_figure (input_places x) ∙ solid_moved (node_at t x) (change_at p x) h)

  moves_made : (o : Option Change) (n : Option Node) → MovesNode o n → is_some o ≡ true → is_made n ≡ true
  moves_made None n m h = absurd (true≢false (sym h))
  moves_made (Some c) n m h = m.1

  others_made : (x : List ℕ) → is_some (change_at q x) ≡ true → is_made (node_at t x) ≡ true
  others_made x h = by (bytes_eq name x) refl
    where
      by : (b : Bool) → bytes_eq name x ≡ b → is_made (node_at t x) ≡ true
      by true d = absurd (true≢false (sym h ∙ ap (λ k. is_some (change_at q k)) (sym (same_name name x d)) ∙ ap is_some no_seed))
      by false d = moves_made (change_at p x) (node_at t x) (carried.moves x (name_sym x name ∙ d)) (ap is_some (sym (rest_at x d)) ∙ h)

  view_last : (n : Option Node) → node_at t name ≡ n → is_some n ≡ true
      → entries_of (put_solid (put_all t q) name seed.after) ≡ with_entry (entries_of t) name (record { name = name; dim = dim_at t name; what = Given (cells seed.after.dim seed.after.rows) })
  view_last None at h = absurd (true≢false (sym h))
  view_last (Some n) at h =
      let there : node_at (put_all t q) name ≡ Some n =
      node_put_all t q name ∙ ap (λ o. moved_node (node_at t name) o) no_seed ∙ sym (moved_none (node_at t name)) ∙ at in
      view_put_given (put_all t q) name seed.after n there (ap node_formula (sym at) ∙ formula_none (node_at t name) input)
      ∙ ap (λ es. with_entry es name (record { name = name; dim = n.dim; what = Given (cells seed.after.dim seed.after.rows) })) (view_put_all t q others_made)
      ∙ ap (λ o. with_entry (entries_of t) name (record { name = name; dim = node_dim o; what = Given (cells seed.after.dim seed.after.rows) })) (sym at)

  pub input_view : entries_of (put_solid (put_all t q) name seed.after) ≡ with_entry (entries_of t) name (record { name = name; dim = dim_at t name; what = Given (cells seed.after.dim seed.after.rows) })
  input_view = view_last (node_at t name) refl stands

  -- the dimension stays
  pub seed_dim : seed.after.dim ≡ dim_at t name
  seed_dim = by (node_at t name) refl stands (subst (λ o. IsChange o (kept t name)) here (carried.change name)).1 (before.sized name)
    where
      by : (n : Option Node) → node_at t name ≡ n → is_some n ≡ true → seed.after.dim ≡ (kept t name).dim → NodeSized n (dim_at t) → seed.after.dim ≡ dim_at t name
      by None at h d z = absurd (true≢false (sym h))
      by (Some n) at h d z = d ∙ ap (λ o. (node_figure o).dim) at ∙ z.1 ∙ ap node_dim (sym at)

  pub input_scene : scene_of (put_solid (put_all t q) name seed.after) ≡ with_figure (scene_of t) name (figure_of seed.after)
  input_scene =
      ap (λ (es : List Entry). record { entries = es; slots = [] })
      (input_view ∙ ap (λ (n : ℕ). with_entry (entries_of t) name (record { name = name; dim = n; what = Given (cells seed.after.dim seed.after.rows) })) (sym seed_dim))

-- the change that was noted for the name itself
pub own_change : (t : Table) (name : List ℕ) (ch own : Change) (p : Pending) → IsCarried t [] name ((name, ch) ∷ []) p → Some own ≡ change_at p name → own ≡ ch
own_change t name ch own p carried e = same_Some own ch (e ∙ carried.seed ∙ ap (λ b. cond b (Some ch) None) (name_itself name))

pub own_there : (t : Table) (name : List ℕ) (ch : Change) (p : Pending) → IsCarried t [] name ((name, ch) ∷ []) p → (let o : Option Change = None in o ≡ change_at p name) → ⊥
own_there t name ch p carried e = none-some ch (e ∙ carried.seed ∙ ap (λ b. cond b (Some ch) None) (name_itself name))

pub own_noted : (t : Table) (front : List (List ℕ)) (name : List ℕ) (ch : Change) (p : Pending) → IsCarried t front name ((name, ch) ∷ []) p → is_some (change_at p name) ≡ true
own_noted t front name ch p carried = ap (λ (o : Option Change). is_some o) (carried.seed ∙ ap (λ b. cond b (Some ch) None) (name_itself name))
