-- A table in order shows a well scene, and edits of names that no other reads change no other value.
use Rattle.std.proofs.Common.{◌≡◌, ℕ, Bool, true, not, ◌||◌, List, [], ◌∷◌, Option, None, Some, refl, sym, ap, subst, ◌∙◌, map, pos, bytes_eq}
use Rattle.std.proofs.lemmas.Bool.{false≢true}
use Rattle.std.specs.Prelude.{option_map}
use Rattle.std.specs.List.{list_any, IsDistinct}
use Rattle.std.proofs.lemmas.Option.{same_Some, none-some}
use Rattle.evm_cells.specs.Limits.{IsCellSet}
use Rattle.evm_cells.specs.Vertices.{cells}
use Rattle.evm_cells.proofs.Universe.{cell_set-cells}
use Rattle.evm_cells.proofs.Xor.{and_both}
use Rattle.evm_script.specs.declared.formula.Formula.{Formula}
use Rattle.evm_model.specs.Figures.{Figure}
use Rattle.evm_model.specs.Orders.{is_among}
use Rattle.evm_model.specs.Scene.{Scene, Entry, Given, has_name, entry_of, is_dim, names_differ, what_is_sound, what_stays, all_stay, value, with_figure, IsWell}
use Rattle.evm_model.proofs.Lookups.{differ_with}
use Rattle.evm_model.proofs.Counts.{AllDiffer, differ_distinct}
use Rattle.evm_model.proofs.WellScenes.{all_entries, ordered_stand, sound_cells}
use Rattle.evm_scene.specs.declared.node.Node.{Node}
use Rattle.evm_scene.specs.Tables.{Table, node_at, dim_at, node_stays, kept, MadeSized, NodeSized, what_of, entry_view, entries_of, scene_of}
use Rattle.evm_scene.specs.Orders.{IsKept}
use Rattle.evm_scene.proofs.FormulaLaws.{formula_sound}
use Rattle.evm_scene.proofs.Views.{entry_at, order_kept, kept_is_value, stays_same}
use Rattle.evm_scene.proofs.Halted.{node_shown_stays}

-- the names of a table
abbrev pub names_of : Table → List (List ℕ)
names_of t = map (λ e. e.0) t

any_name : (name : List ℕ) (t : Table) → list_any (has_name name) (entries_of t) ≡ is_among name (names_of t)
any_name name [] = refl
any_name name (p ∷ ps) = ap (λ (b : Bool). bytes_eq name p.0 || b) (any_name name ps)

names_apart : (t : Table) → AllDiffer (names_of t) → names_differ (entries_of t) ≡ true
names_apart [] d = refl
names_apart (p ∷ ps) d = and_both (not (list_any (has_name p.0) (entries_of ps))) (names_differ (entries_of ps)) (ap not (any_name p.0 ps ∙ d.0)) (names_apart ps d.1)

pub entries_apart : (t : Table) → IsDistinct bytes_eq (names_of t) → names_differ (entries_of t) ≡ true
entries_apart t d = names_apart t (differ_distinct (names_of t) d)

module _ (t : Table) (order : List (List ℕ)) (k : IsKept t order) where
  -- what each entry passes whose node passes it
  by_node : (C : Entry → Type 0) → ((x : List ℕ) (n : Node) → node_at t x ≡ Some n → C (entry_view (x, n))) → (x : List ℕ) (e : Entry) → entry_of (entries_of t) x ≡ Some e → C e
  by_node C h x e q = by (node_at t x) refl (sym (entry_at t x) ∙ q)
    where
      by : (o : Option Node) → node_at t x ≡ o → option_map (λ n. entry_view (x, n)) o ≡ Some e → C e
      by None at s = absurd (none-some e s)
      by (Some n) at s = subst C (same_Some (entry_view (x, n)) e s) (h x n at)

  node_sized_at : (x : List ℕ) (n : Node) → node_at t x ≡ Some n → NodeSized (Some n) (dim_at t)
  node_sized_at x n at = subst (λ o. NodeSized o (dim_at t)) at (k.sized x)

  node_sound : (x : List ℕ) (n : Node) → node_at t x ≡ Some n → what_is_sound (scene_of t) n.dim (what_of n.solid n.formula) ≡ true
  node_sound x n at = by n.formula refl (node_sized_at x n at)
    where
      by : (m : Option Formula) → n.formula ≡ m → NodeSized (Some n) (dim_at t) → what_is_sound (scene_of t) n.dim (what_of n.solid m) ≡ true
      by None e h = sound_cells n.dim (cells n.solid.dim n.solid.rows) (subst (λ (d : ℕ). IsCellSet d (cells n.solid.dim n.solid.rows)) h.1 (cell_set-cells n.solid.dim n.solid.rows))
      by (Some f) e h = formula_sound t n.dim h.0 f (subst (λ m. MadeSized n.dim m (dim_at t)) e h.2)

  -- no formula moves a cell out of the limits
  pub kept_stay : names_differ (entries_of t) ≡ true → all_stay (scene_of t) ≡ true
  kept_stay differ =
      all_entries (λ (e : Entry). what_stays e.what (value (scene_of t))) (entries_of t) differ
      (by_node (λ e. what_stays e.what (value (scene_of t)) ≡ true) (λ x n at.
      node_shown_stays n (value (scene_of t))
      ∙ ap (λ (o : Option Node). node_stays o (value (scene_of t))) (sym at)
      ∙ stays_same (node_at t x) (value (scene_of t)) (kept t) (λ o r. sym (kept_is_value t order k o))
      ∙ k.stays x))

  pub well_kept : IsDistinct bytes_eq (names_of t) → IsWell (scene_of t)
  well_kept distinct = record {
    names = entries_apart t distinct;
    dims = all_entries (λ (e : Entry). is_dim (pos e.dim)) (entries_of t) (entries_apart t distinct)
        (by_node (λ e. is_dim (pos e.dim) ≡ true) (λ x n at. (node_sized_at x n at).0));
    sound = all_entries (λ (e : Entry). what_is_sound (scene_of t) e.dim e.what) (entries_of t) (entries_apart t distinct)
        (by_node (λ e. what_is_sound (scene_of t) e.dim e.what ≡ true) node_sound);
    stay = kept_stay (entries_apart t distinct);
    stand = (ordered_stand (scene_of t) order (order_kept t order k)).0;
    acyclic = (ordered_stand (scene_of t) order (order_kept t order k)).1;
    watched = λ x h. absurd (false≢true h);
  }

-- the same of the scene that a table shows
pub shown_stay : (u : Table) (rank : List (List ℕ)) (s : Scene) → IsKept u rank → scene_of u ≡ s → names_differ s.entries ≡ true → all_stay s ≡ true
shown_stay u rank s k shown differ =
    subst (λ (v : Scene). all_stay v ≡ true) shown (kept_stay u rank k (ap (λ (v : Scene). names_differ v.entries) shown ∙ differ))

-- where an input has another figure
pub input_left : (t u : Table) (order : List (List ℕ)) (name : List ℕ) (new : Figure) → IsKept u order → scene_of u ≡ with_figure (scene_of t) name new
    → IsDistinct bytes_eq (names_of t) → all_stay (with_figure (scene_of t) name new) ≡ true
input_left t u order name new k shown distinct =
    shown_stay u order (with_figure (scene_of t) name new) k shown
    (differ_with (entries_of t) name (record { name = name; dim = new.dim; what = Given new.cells }) refl (entries_apart t distinct))
