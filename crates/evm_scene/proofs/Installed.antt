-- A name has another formula, and all changes that follow are in place.
use Rattle.std.proofs.Common.{◌≡◌, ℕ, Bool, true, false, cond, ◌||◌, List, [], ◌∷◌, ◌++◌, Option, None, Some, refl, sym, ap, subst, ◌∙◌, true≢false, is_some, length, bytes_eq}
use Rattle.std.specs.Prelude.{option_map}
use Rattle.std.specs.List.{IsDistinct}
use Rattle.std.specs.Map.{keys_of}
use Rattle.std.proofs.lemmas.Option.{same_Some}
use Rattle.evm_script.specs.declared.formula.Formula.{Formula}
use Rattle.evm_model.specs.Orders.{is_among}
use Rattle.evm_model.specs.Scene.{Made, operands, formula_value, formula_stays, with_entry, reaches}
use Rattle.evm_model.specs.Edits.{closes_cycle, changed_names}
use Rattle.evm_model.proofs.Names.{same_name, name_itself, name_sym, any_among}
use Rattle.evm_scene.specs.declared.node.Node.{Node}
use Rattle.evm_formulas.specs.declared.changes.Change.{Change}
use Rattle.evm_formulas.specs.Stated.{figure_of}
use Rattle.evm_scene.specs.Tables.{Table, node_at, reads_at, kept, node_dim, dim_at, is_made, FormulaSized, with_made, entries_of, scene_of}
use Rattle.evm_scene.specs.Orders.{IsKept, meets, Parted}
use Rattle.evm_formulas.specs.Changes.{after_of, IsChange}
use Rattle.evm_scene.specs.Changes.{Pending, change_at, moved, moved_node, put_all, IsCount, MovesNode, IsRedefined, IsInstalled}
use Rattle.evm_scene.proofs.Puts.{node_put, node_put_all, length_put, length_put_all, moved_none}
use Rattle.evm_scene.proofs.Views.{view_put_all, view_put_formula, reached}
use Rattle.evm_scene.proofs.Parts.{meets_none, seen_of}
use Rattle.evm_scene.proofs.Redefined.{kept_redefined, redefined_stands, redefined_values}
use Rattle.evm_scene.proofs.Counted.{count_carried}

module _ (t u : Table) (order front reach : List (List ℕ)) (name : List ℕ) (f : Formula) (p : Pending) (n : ℕ)
    (before : IsKept t order) (parted : Parted (reads_at t) order name front reach [])
    (redefined : IsRedefined t front name (formula_value f (kept t)) p) (stay : formula_stays f (kept t) ≡ true) (installed : IsInstalled t u name f p n)
    (fits : FormulaSized (dim_at t name) f (dim_at t)) (stands : is_some (node_at t name) ≡ true)
    (present : (o : List ℕ) → is_among o (operands f) ≡ true → is_some (node_at t o) ≡ true)
    (miss : meets reach (operands f) ≡ false) where
  no_own : change_at installed.rest name ≡ None
  no_own = installed.without name ∙ ap (λ b. cond b None (change_at p name)) (name_itself name)

  rest_at : (x : List ℕ) → bytes_eq x name ≡ false → change_at installed.rest x ≡ change_at p x
  rest_at x d = installed.without x ∙ ap (λ b. cond b None (change_at p x)) (name_sym name x ∙ d)

  at_place : (x : List ℕ) → node_at u x ≡ cond (bytes_eq name x) (option_map (λ n. with_made n f installed.own.after) (node_at (put_all t installed.rest) x)) (node_at (put_all t installed.rest) x)
  at_place x = ap (λ v. node_at v x) installed.placed ∙ node_put (λ n. with_made n f installed.own.after) (put_all t installed.rest) name x

  places : (x : List ℕ) → bytes_eq x name ≡ false → node_at u x ≡ moved_node (node_at t x) (change_at p x)
  places x d =
      at_place x
      ∙ ap (λ b. cond b (option_map (λ n. with_made n f installed.own.after) (node_at (put_all t installed.rest) x)) (node_at (put_all t installed.rest) x)) (name_sym name x ∙ d)
      ∙ node_put_all t installed.rest x ∙ ap (λ c. moved_node (node_at t x) c) (rest_at x d)

  before_own : node_at (put_all t installed.rest) name ≡ node_at t name
  before_own = node_put_all t installed.rest name ∙ ap (λ c. moved_node (node_at t name) c) no_own ∙ sym (moved_none (node_at t name))

  here : (n : Node) → node_at t name ≡ Some n → node_at u name ≡ Some (with_made n f installed.own.after)
  here n at =
      at_place name
      ∙ ap (λ b. cond b (option_map (λ n. with_made n f installed.own.after) (node_at (put_all t installed.rest) name)) (node_at (put_all t installed.rest) name)) (name_itself name)
      ∙ ap (λ o. option_map (λ n. with_made n f installed.own.after) o) (before_own ∙ at)

  noted : change_at p name ≡ Some redefined.own
  noted = redefined.carried.seed ∙ ap (λ b. cond b (Some redefined.own) None) (name_itself name)

  own_value : moved t p name ≡ formula_value f (kept t)
  own_value = ap (λ c. after_of c (kept t name)) noted ∙ redefined.value

  own_solid : figure_of installed.own.after ≡ moved t p name
  own_solid = sym (ap (λ c. after_of c (kept t name)) installed.here)

  size : length u ≡ length t
  size = ap length installed.placed ∙ length_put (λ n. with_made n f installed.own.after) (put_all t installed.rest) name ∙ length_put_all t installed.rest

  kept_from : (o : Option Node) → node_at t name ≡ o → is_some o ≡ true → IsKept u (front ++ reach)
  kept_from None at h = absurd (true≢false (sym h))
  kept_from (Some n) at h =
      kept_redefined t u order front reach name f (with_made n f installed.own.after) ((name, redefined.own) ∷ []) p
      before parted redefined.carried (here n at) refl (ap node_dim (sym at)) own_solid own_value stay fits places size stands present
      (λ o m. meets_none reach (operands f) miss o m)

  pub installed_kept : IsKept u (front ++ reach)
  installed_kept = kept_from (node_at t name) refl stands

  moves_made : (o : Option Change) (n : Option Node) → MovesNode o n → is_some o ≡ true → is_made n ≡ true
  moves_made None n m h = absurd (true≢false (sym h))
  moves_made (Some c) n m h = m.1

  others_made : (x : List ℕ) → is_some (change_at installed.rest x) ≡ true → is_made (node_at t x) ≡ true
  others_made x h = by (bytes_eq x name) refl
    where
      by : (b : Bool) → bytes_eq x name ≡ b → is_made (node_at t x) ≡ true
      by true d = absurd (true≢false (sym h ∙ ap (λ k. is_some (change_at installed.rest k)) (same_name x name d) ∙ ap (λ (o : Option Change). is_some o) no_own))
      by false d = moves_made (change_at p x) (node_at t x) (redefined.carried.moves x d) (ap (λ (o : Option Change). is_some o) (sym (rest_at x d)) ∙ h)

  view_from : (o : Option Node) → node_at t name ≡ o → is_some o ≡ true
      → entries_of u ≡ with_entry (entries_of t) name (record { name = name; dim = dim_at t name; what = Made f })
  view_from None at h = absurd (true≢false (sym h))
  view_from (Some n) at h =
      ap entries_of installed.placed
      ∙ view_put_formula (put_all t installed.rest) name f installed.own.after n (before_own ∙ at)
      ∙ ap (λ es. with_entry es name (record { name = name; dim = n.dim; what = Made f })) (view_put_all t installed.rest others_made)
      ∙ ap (λ o. with_entry (entries_of t) name (record { name = name; dim = node_dim o; what = Made f })) (sym at)

  pub installed_view : entries_of u ≡ with_entry (entries_of t) name (record { name = name; dim = dim_at t name; what = Made f })
  installed_view = view_from (node_at t name) refl stands

  -- what the own change is
  own_change : IsChange (Some redefined.own) (kept t name)
  own_change = subst (λ c. IsChange c (kept t name)) noted (redefined.carried.change name)

  same_change : installed.own ≡ redefined.own
  same_change = same_Some installed.own redefined.own (sym installed.here ∙ noted)

  free : (o : List ℕ) → is_among o (operands f) ≡ true → is_among o reach ≡ false
  free o k = meets_none reach (operands f) miss o k

  stands_from : (o : Option Node) → node_at t name ≡ o → is_some o ≡ true → (x : List ℕ) → is_some (node_at u x) ≡ is_some (node_at t x)
  stands_from None at h = absurd (true≢false (sym h))
  stands_from (Some m) at h =
      redefined_stands t u order front reach name f (with_made m f installed.own.after) ((name, redefined.own) ∷ []) p
      before parted redefined.carried (here m at) refl (ap node_dim (sym at)) own_solid own_value stay fits places size stands present free

  values_from : (o : Option Node) → node_at t name ≡ o → is_some o ≡ true → (x : List ℕ) → is_some (node_at t x) ≡ true → moved t p x ≡ kept u x
  values_from None at h = absurd (true≢false (sym h))
  values_from (Some m) at h =
      redefined_values t u order front reach name f (with_made m f installed.own.after) ((name, redefined.own) ∷ []) p
      before parted redefined.carried (here m at) refl (ap node_dim (sym at)) own_solid own_value stay fits places size stands present free

  -- the same names stand, with the figures that the changes made
  pub installed_stands : (x : List ℕ) → is_some (node_at u x) ≡ is_some (node_at t x)
  installed_stands = stands_from (node_at t name) refl stands

  pub installed_values : (x : List ℕ) → is_some (node_at t x) ≡ true → moved t p x ≡ kept u x
  installed_values = values_from (node_at t name) refl stands

  count_from : IsDistinct bytes_eq (keys_of t) → (o : Option Node) → node_at t name ≡ o → is_some o ≡ true → n ≡ changed_names (scene_of t) (scene_of u)
  count_from names None at h = absurd (true≢false (sym h))
  count_from names (Some m) at h =
      count_carried t u order (front ++ reach) front name redefined.own p installed.rest before installed_kept names redefined.carried stands own_change
      (stands_from (Some m) at h) (values_from (Some m) at h)
      installed.without n (subst (λ (c : Change). IsCount c p installed.rest n) same_change installed.count)

  -- how many names change their cells
  pub installed_count : IsDistinct bytes_eq (keys_of t) → n ≡ changed_names (scene_of t) (scene_of u)
  installed_count names = count_from names (node_at t name) refl stands

-- a formula reads one of the names that reach `name` exactly where it is a cycle
pub cycle_is : (t : Table) (order front reach : List (List ℕ)) (name : List ℕ) (f : Formula) → IsKept t order → Parted (reads_at t) order name front reach []
    → ((o : List ℕ) → is_among o (operands f) ≡ true → is_some (node_at t o) ≡ true)
    → meets reach (operands f) ≡ closes_cycle (scene_of t) name f
cycle_is t order front reach name f k p stand =
    any_among (λ o. is_among o reach) (λ o. bytes_eq o name || reaches (scene_of t) o name) (operands f)
    (λ o m. reached t order k name reach (λ x h. p.exact x (seen_of (reads_at t) order name front reach p x h)) o (stand o m))
