-- How many names changes change.
use Rattle.std.proofs.Common.{◌≡◌, ℕ, Bool, true, false, cond, not, ◌&&◌, ◌||◌, List, [], ◌∷◌, Option, None, Some, refl, sym, ap, subst, ◌∙◌, true≢false, is_some, length, bytes_eq, ℤ}
use Rattle.std.specs.List.{IsDistinct}
use Rattle.std.specs.Map.{keys_of}
use Rattle.std.proofs.lemmas.Map.Entries.{length-keys_of}
use Rattle.evm_cells.specs.Vertices.{cells}
use Rattle.evm_model.specs.Figures.{Figure, same_figure}
use Rattle.evm_model.specs.Orders.{is_among}
use Rattle.evm_model.specs.Scene.{stands, value}
use Rattle.evm_model.specs.Edits.{changed_names}
use Rattle.evm_model.proofs.Names.{same_name, name_itself, name_sym}
use Rattle.evm_model.proofs.Counts.{differ_distinct, changed_count}
use Rattle.evm_model.proofs.FigureLaws.{same_itself}
use Rattle.evm_scene.specs.declared.node.Node.{Node}
use Rattle.evm_formulas.specs.declared.changes.Change.{Change}
use Rattle.evm_formulas.specs.Stated.{figure_of}
use Rattle.evm_scene.specs.Tables.{Table, node_at, node_figure, kept, scene_of}
use Rattle.evm_scene.specs.Orders.{IsKept}
use Rattle.evm_formulas.specs.Changes.{after_of, IsChange}
use Rattle.evm_scene.specs.Changes.{Pending, change_at, moved, MovesNode, IsCarried, IsCount}
use Rattle.evm_scene.proofs.Views.{stands_at, kept_is_value}
use Rattle.evm_formulas.proofs.Figures.{still_change, changed_figure}
use Rattle.evm_scene.proofs.Nodes.{node_set}
use Rattle.evm_scene.proofs.Wells.{entries_apart}

-- a change is noted under a name exactly where the name is a key
pub noted : (p : Pending) (x : List ℕ) → is_some (change_at p x) ≡ is_among x (keys_of p)
noted [] x = refl
noted (e ∷ es) x = by (bytes_eq x e.0) (noted es x)
  where
    by : (b : Bool) → is_some (change_at es x) ≡ is_among x (keys_of es) → is_some (cond b (Some e.1) (change_at es x)) ≡ (b || is_among x (keys_of es))
    by true h = refl
    by false h = h

both_true : (a b : Bool) → a ≡ true → (a && b) ≡ b
both_true true b h = refl
both_true false b h = absurd (true≢false (sym h))

-- as many names changed their cells as changes are noted, where the others stay and each of these is one
pub count_noted : (t u : Table) (order rank : List (List ℕ)) (p : Pending) → IsKept t order → IsKept u rank
    → IsDistinct bytes_eq (keys_of t) → IsDistinct bytes_eq (keys_of p)
    → ((x : List ℕ) → is_some (node_at u x) ≡ is_some (node_at t x))
    → ((x : List ℕ) → is_some (change_at p x) ≡ true → is_some (node_at t x) ≡ true)
    → ((x : List ℕ) → is_some (node_at t x) ≡ true → not (same_figure (kept t x) (kept u x)) ≡ is_some (change_at p x))
    → changed_names (scene_of t) (scene_of u) ≡ length p
count_noted t u order rank p k l names keys same stand exact =
    changed_count (scene_of t) (scene_of u) (keys_of p) (entries_apart t names) (differ_distinct (keys_of p) keys)
    (λ x m. stands_at t x ∙ stand x (noted p x ∙ m))
    (λ x s.
    both_true (stands (scene_of u) x) (not (same_figure (value (scene_of t) x) (value (scene_of u) x))) (stands_at u x ∙ same x ∙ sym (stands_at t x) ∙ s)
    ∙ ap (λ (f : Figure). not (same_figure f (value (scene_of u) x))) (sym (kept_is_value t order k x))
    ∙ ap (λ (f : Figure). not (same_figure (kept t x) f)) (sym (kept_is_value u rank l x))
    ∙ exact x (sym (stands_at t x) ∙ s)
    ∙ noted p x)
    ∙ length-keys_of p

-- whether a name moves, by its change
pub moves_noted : (o : Option Change) (n : Option Node) → MovesNode o n → not (same_figure (node_figure n) (after_of o (node_figure n))) ≡ is_some o
moves_noted None n m = ap not (same_itself (node_figure n))
moves_noted (Some c) n m = ap not m.0

pub made_stands : (o : Option Change) (n : Option Node) → MovesNode o n → is_some o ≡ true → is_some n ≡ true
made_stands None n m h = absurd (true≢false (sym h))
made_stands (Some c) None m h = absurd (true≢false (sym m.1))
made_stands (Some c) (Some n) m h = refl

-- the changes that follow from that of a name
module _ (t u : Table) (order rank front : List (List ℕ)) (name : List ℕ) (ch : Change) (p q : Pending)
    (before : IsKept t order) (behind : IsKept u rank) (names : IsDistinct bytes_eq (keys_of t))
    (carried : IsCarried t front name ((name, ch) ∷ []) p) (stand : is_some (node_at t name) ≡ true) (change : IsChange (Some ch) (kept t name))
    (same : (x : List ℕ) → is_some (node_at u x) ≡ is_some (node_at t x))
    (new : (x : List ℕ) → is_some (node_at t x) ≡ true → moved t p x ≡ kept u x)
    (without : (x : List ℕ) → change_at q x ≡ cond (bytes_eq name x) None (change_at p x)) where
  own : change_at p name ≡ Some ch
  own = carried.seed ∙ ap (λ b. cond b (Some ch) None) (name_itself name)

  own_moved : moved t p name ≡ figure_of ch.after
  own_moved = ap (λ o. after_of o (kept t name)) own

  other_moves : (x : List ℕ) → bytes_eq x name ≡ false → not (same_figure (kept t x) (moved t p x)) ≡ is_some (change_at p x)
  other_moves x d = moves_noted (change_at p x) (node_at t x) (carried.moves x d)

  there : (x : List ℕ) (b : Bool) → bytes_eq x name ≡ b → is_some (change_at p x) ≡ true → is_some (node_at t x) ≡ true
  there x true d h = subst (λ k. is_some (node_at t k) ≡ true) (sym (same_name x name d)) stand
  there x false d h = made_stands (change_at p x) (node_at t x) (carried.moves x d) h

  -- where the name's own cells change, it counts too
  count_all : IsDistinct bytes_eq (keys_of p) → (cells ch.delta.dim ch.delta.rows ≡ [] → ⊥) → changed_names (scene_of t) (scene_of u) ≡ length p
  count_all keys some =
      count_noted t u order rank p before behind names keys same (λ x. there x (bytes_eq x name) refl)
      (λ x s. ap (λ (f : Figure). not (same_figure (kept t x) f)) (sym (new x s)) ∙ at x (bytes_eq x name) refl)
    where
      at : (x : List ℕ) (b : Bool) → bytes_eq x name ≡ b → not (same_figure (kept t x) (moved t p x)) ≡ is_some (change_at p x)
      at x true d =
          subst (λ k. not (same_figure (kept t k) (moved t p k)) ≡ is_some (change_at p k)) (sym (same_name x name d))
          (ap (λ (f : Figure). not (same_figure (kept t name) f)) own_moved ∙ ap not (changed_figure ch (kept t name) (node_set (node_at t name)) change some) ∙ sym (ap is_some own))
      at x false d = other_moves x d

  rest_at : (x : List ℕ) → bytes_eq x name ≡ false → change_at q x ≡ change_at p x
  rest_at x d = without x ∙ ap (λ b. cond b None (change_at p x)) (name_sym name x ∙ d)

  rest_own : change_at q name ≡ None
  rest_own = without name ∙ ap (λ b. cond b None (change_at p name)) (name_itself name)

  -- where they stay, the others count alone
  count_others : IsDistinct bytes_eq (keys_of q) → cells ch.delta.dim ch.delta.rows ≡ [] → changed_names (scene_of t) (scene_of u) ≡ length q
  count_others keys none =
      count_noted t u order rank q before behind names keys same (λ x. stays x (bytes_eq x name) refl)
      (λ x s. ap (λ (f : Figure). not (same_figure (kept t x) f)) (sym (new x s)) ∙ at x (bytes_eq x name) refl)
    where
      stays : (x : List ℕ) (b : Bool) → bytes_eq x name ≡ b → is_some (change_at q x) ≡ true → is_some (node_at t x) ≡ true
      stays x true d h = subst (λ k. is_some (node_at t k) ≡ true) (sym (same_name x name d)) stand
      stays x false d h = there x false d (ap is_some (sym (rest_at x d)) ∙ h)

      at : (x : List ℕ) (b : Bool) → bytes_eq x name ≡ b → not (same_figure (kept t x) (moved t p x)) ≡ is_some (change_at q x)
      at x true d =
          subst (λ k. not (same_figure (kept t k) (moved t p k)) ≡ is_some (change_at q k)) (sym (same_name x name d))
          (ap (λ (f : Figure). not (same_figure (kept t name) f)) (own_moved ∙ still_change ch none (kept t name) (node_set (node_at t name)) change)
          ∙ ap not (same_itself (kept t name)) ∙ sym (ap is_some rest_own))
      at x false d = other_moves x d ∙ sym (ap is_some (rest_at x d))

  -- in both cases
  pub count_carried : (n : ℕ) → IsCount ch p q n → n ≡ changed_names (scene_of t) (scene_of u)
  count_carried n c = by (cells ch.delta.dim ch.delta.rows) refl
    where
      some : (x : List ℤ) (xs : List (List ℤ)) → x ∷ xs ≡ [] → ⊥
      some x xs e = cc

      by : (S : List (List ℤ)) → cells ch.delta.dim ch.delta.rows ≡ S → n ≡ changed_names (scene_of t) (scene_of u)
      by [] e = c.still e ∙ sym (count_others c.rest_apart e)
      by (x ∷ xs) e = let out : cells ch.delta.dim ch.delta.rows ≡ [] → ⊥ = λ h. some x xs (sym e ∙ h) in c.moved out ∙ sym (count_all c.apart out)
