-- An input has another solid, and all changes that follow are in place.
use Rattle.std.proofs.Common.{◌≡◌, ℕ, true, false, List, [], ◌∷◌, Some, sym, ap, subst, ◌∙◌, is_some, bytes_eq}
use Rattle.std.specs.List.{IsDistinct}
use Rattle.std.specs.Map.{keys_of}
use Rattle.evm_model.specs.Scene.{with_figure, all_stay}
use Rattle.evm_model.specs.Edits.{changed_names}
use Rattle.evm_formulas.specs.declared.changes.Change.{Change}
use Rattle.evm_formulas.specs.Stated.{figure_of}
use Rattle.evm_scene.specs.Tables.{Table, node_at, put_solid, is_made, kept, scene_of}
use Rattle.evm_scene.specs.Orders.{IsKept}
use Rattle.evm_formulas.specs.Changes.{IsChange}
use Rattle.evm_scene.specs.Changes.{Pending, put_all, moved, IsCarried, IsCount, IsPlaced}
use Rattle.evm_scene.proofs.OwnLast.{input_kept, input_scene, input_stands, input_new, own_change}
use Rattle.evm_scene.proofs.Counted.{count_carried}
use Rattle.evm_scene.proofs.Wells.{input_left}

module _ (t u : Table) (order : List (List ℕ)) (name : List ℕ) (seed : Change) (p : Pending) (n : ℕ)
    (before : IsKept t order) (carried : IsCarried t [] name ((name, seed) ∷ []) p)
    (input : is_made (node_at t name) ≡ false) (stands : is_some (node_at t name) ≡ true)
    (change : IsChange (Some seed) (kept t name)) (placed : IsPlaced t u name p n) where
  abbrev end : Table
  end = put_solid (put_all t placed.rest) name placed.own.after

  end_kept : IsKept end order
  end_kept = input_kept t order name ((name, seed) ∷ []) p placed.rest placed.own before carried input stands placed.here placed.without

  same : placed.own ≡ seed
  same = own_change t name seed placed.own p carried (sym placed.here)

  pub placed_kept : IsKept u order
  placed_kept = subst (λ (v : Table). IsKept v order) (sym placed.placed) end_kept

  pub placed_stands : (x : List ℕ) → is_some (node_at u x) ≡ is_some (node_at t x)
  placed_stands x =
      ap (λ (v : Table). is_some (node_at v x)) placed.placed
      ∙ input_stands t order name ((name, seed) ∷ []) p placed.rest placed.own before carried input stands placed.here placed.without x

  pub placed_values : (x : List ℕ) → is_some (node_at t x) ≡ true → moved t p x ≡ kept u x
  placed_values x h =
      input_new t order name ((name, seed) ∷ []) p placed.rest placed.own before carried input stands placed.here placed.without x h
      ∙ ap (λ (v : Table). kept v x) (sym placed.placed)

  pub placed_scene : scene_of u ≡ with_figure (scene_of t) name (figure_of seed.after)
  placed_scene =
      ap scene_of placed.placed
      ∙ input_scene t order name ((name, seed) ∷ []) p placed.rest placed.own before carried input stands placed.here placed.without
      ∙ ap (λ (d : Change). with_figure (scene_of t) name (figure_of d.after)) same

  pub placed_count : IsDistinct bytes_eq (keys_of t) → n ≡ changed_names (scene_of t) (scene_of u)
  placed_count unique =
      count_carried t u order order [] name seed p placed.rest before placed_kept unique carried stands change placed_stands placed_values placed.without
      n (subst (λ (d : Change). IsCount d p placed.rest n) same placed.count)

  pub placed_stay : IsDistinct bytes_eq (keys_of t) → all_stay (with_figure (scene_of t) name (figure_of seed.after)) ≡ true
  placed_stay unique = input_left t u order name (figure_of seed.after) placed_kept placed_scene unique
