-- A change that is halted: some formula of the scene that it would leave moves a cell out of the limits.
use Rattle.std.proofs.Common.{◌≡◌, ℕ, Bool, true, false, cond, List, [], ◌∷◌, Option, None, Some, refl, sym, ap, subst, ◌∙◌, is_some, bytes_eq}
use Rattle.std.specs.Prelude.{option_map}
use Rattle.std.proofs.lemmas.Bool.{false≢true}
use Rattle.evm_cells.specs.Vertices.{cells}
use Rattle.evm_cells.proofs.Universe.{cell_set-cells}
use Rattle.evm_rows.specs.Rows.{Vertices}
use Rattle.evm_script.specs.declared.formula.Formula.{Formula}
use Rattle.evm_model.specs.Figures.{Figure}
use Rattle.evm_model.specs.Orders.{is_among}
use Rattle.evm_model.specs.Scene.{Scene, Entry, Given, entry_of, entry_operands, operands_of, entry_value, value, what_stays, all_stay, with_figure, dim_of, IsWell}
use Rattle.evm_model.proofs.Names.{by_name, by_test, among_none, name_itself}
use Rattle.evm_model.proofs.Lookups.{found_passes, none_stands, with_own, with_other}
use Rattle.evm_model.proofs.Levels.{along}
use Rattle.evm_model.proofs.WellScenes.{well_order, well_value}
use Rattle.evm_model.proofs.WellEdits.{well_figure}
use Rattle.evm_scene.specs.declared.node.Node.{Node}
use Rattle.evm_formulas.specs.declared.changes.Change.{Change}
use Rattle.evm_formulas.specs.Stated.{figure_of}
use Rattle.evm_scene.specs.Tables.{Table, node_at, reads_at, made_stays, node_stays, node_figure, node_dim, dim_at, kept, NodeSized, what_of, entry_view, entries_of, scene_of}
use Rattle.evm_scene.specs.Orders.{IsKept}
use Rattle.evm_formulas.specs.Changes.{after_of, IsChange}
use Rattle.evm_scene.specs.Changes.{Pending, change_at, moved, IsHalted}
use Rattle.evm_scene.proofs.Views.{entry_at, dim_is, operands_at, stands_at, value_at, value_same, stays_same}

-- whether an entry that may be there moves no cell out of the limits
abbrev pub entry_stays : Option Entry → (List ℕ → Figure) → Bool
entry_stays None at = true
entry_stays (Some e) at = what_stays e.what at

shown_stays : (s : Vertices) (m : Option Formula) (f : List ℕ → Figure) → what_stays (what_of s m) f ≡ made_stays m f
shown_stays s None f = refl
shown_stays s (Some g) f = refl

pub node_shown_stays : (n : Node) (f : List ℕ → Figure) → what_stays (what_of n.solid n.formula) f ≡ node_stays (Some n) f
node_shown_stays n f = shown_stays n.solid n.formula f

pub stays_shown : (t : Table) (x : List ℕ) (f : List ℕ → Figure) → entry_stays (entry_of (entries_of t) x) f ≡ node_stays (node_at t x) f
stays_shown t x f = ap (λ (e : Option Entry). entry_stays e f) (entry_at t x) ∙ by (node_at t x)
  where
    by : (o : Option Node) → entry_stays (option_map (λ n. entry_view (x, n)) o) f ≡ node_stays o f
    by None = refl
    by (Some n) = node_shown_stays n f

-- where no formula moves a cell out of the limits, that of no name does
pub all_at : (u : Scene) (x : List ℕ) → all_stay u ≡ true → entry_stays (entry_of u.entries x) (value u) ≡ true
all_at u x h = by (entry_of u.entries x) refl
  where
    by : (o : Option Entry) → entry_of u.entries x ≡ o → entry_stays o (value u) ≡ true
    by None q = refl
    by (Some e) q = found_passes (λ (y : Entry). what_stays y.what (value u)) u.entries x e q h

-- a scene with the entries of a table but at one name, which has the figure that the change gives it
module _ (t : Table) (name : List ℕ) (old : Pending) (h : IsHalted t name old) (sized : (x : List ℕ) → NodeSized (node_at t x) (dim_at t))
    (u : Scene) (well : IsWell u)
    (others : (x : List ℕ) → bytes_eq x name ≡ false → entry_of u.entries x ≡ entry_of (entries_of t) x)
    (own : moved t h.pending name ≡ value u name) where
  abbrev Claim : List ℕ → Type 0
  Claim x = is_among x h.seen ≡ true → moved t h.pending x ≡ value u x

  reads_here : (x o : List ℕ) → bytes_eq x name ≡ false → is_among o (reads_at t x) ≡ true → is_among o (operands_of u.entries x) ≡ true
  reads_here x o d m =
      subst (λ (e : Option Entry). is_among o (entry_operands e) ≡ true) (sym (others x d))
      (subst (λ (l : List (List ℕ)). is_among o l ≡ true) (sym (operands_at t x)) m)

  from_operands : (x : List ℕ) → ((o : List ℕ) → is_among o (operands_of u.entries x) ≡ true → Claim o) → Claim x
  from_operands x below seen =
      by_name x name
      (λ e. subst (λ (z : List ℕ). moved t h.pending z ≡ value u z) (sym e) own)
      (λ d.
      h.fixed x seen d
      ∙ value_same (node_at t x) (moved t h.pending) (value u) (λ o r. below o (reads_here x o d r) (h.closed x seen d o r))
      ∙ sym (value_at t x (value u) (sized x))
      ∙ ap (λ (e : Option Entry). entry_value e (value u)) (sym (others x d))
      ∙ sym (well_value u well x))

  -- each name that was seen has its value
  seen_value : (x : List ℕ) → Claim x
  seen_value x =
      let (order, is) = well_order u well in
      by_test (is_among x order)
      (λ l. along (operands_of u.entries) Claim from_operands [] order is.ordered (λ y m. among_none y m) x l)
      (λ out. from_operands x (λ o m. among_none o (subst (λ (e : Option Entry). is_among o (entry_operands e) ≡ true) (none_stands u.entries x (sym (is.whole x) ∙ out)) m)))

  last_out : entry_stays (entry_of u.entries h.last) (value u) ≡ false
  last_out =
      ap (λ (e : Option Entry). entry_stays e (value u)) (others h.last h.other)
      ∙ stays_shown t h.last (value u)
      ∙ stays_same (node_at t h.last) (value u) (moved t h.pending) (λ o r. sym (seen_value o (h.reads o r)))
      ∙ h.out

  pub never_well : ⊥
  never_well = false≢true (sym last_out ∙ all_at u h.last well.stay)

-- the same halt, for changes that note the same of the name itself
pub halted_from : (t : Table) (name : List ℕ) (c : Change) (p q : Pending) → ((x : List ℕ) → change_at p x ≡ cond (bytes_eq name x) (Some c) (change_at q x))
    → IsHalted t name p → IsHalted t name ((name, c) ∷ [])
halted_from t name c p q put h = record {
  pending = h.pending;
  seen = h.seen;
  last = h.last;
  seed = h.seed ∙ put name ∙ ap (λ (b : Bool). cond b (Some c) (change_at q name)) (name_itself name) ∙ sym (ap (λ (b : Bool). cond b (Some c) None) (name_itself name));
  closed = h.closed;
  fixed = h.fixed;
  other = h.other;
  reads = h.reads;
  out = h.out;
}

-- the dimension of a solid that is kept
pub kept_wide : (t : Table) (name : List ℕ) → NodeSized (node_at t name) (dim_at t) → is_some (node_at t name) ≡ true → (kept t name).dim ≡ dim_at t name
kept_wide t name = by (node_at t name)
  where
    by : (n : Option Node) → NodeSized n (dim_at t) → is_some n ≡ true → (node_figure n).dim ≡ node_dim n
    by None z s = absurd (false≢true s)
    by (Some n) z s = z.1

-- another figure of an input
module _ (t : Table) (order : List (List ℕ)) (name : List ℕ) (c : Change) (k : IsKept t order) (well : IsWell (scene_of t)) (standing : is_some (node_at t name) ≡ true)
    (change : IsChange (Some c) (kept t name)) where
  abbrev left : Scene
  left = with_figure (scene_of t) name (figure_of c.after)

  abbrev entry : Entry
  entry = record { name = name; dim = c.after.dim; what = Given (cells c.after.dim c.after.rows) }

  wide : dim_of (scene_of t) name ≡ c.after.dim
  wide = dim_is t name ∙ sym (kept_wide t name (k.sized name) standing) ∙ sym change.1

  at_input : (h : IsHalted t name ((name, c) ∷ [])) → IsWell left → moved t h.pending name ≡ value left name
  at_input h w =
      ap (λ (o : Option Change). after_of o (kept t name)) (h.seed ∙ ap (λ (b : Bool). cond b (Some c) None) (name_itself name))
      ∙ sym (well_value left w name ∙ ap (λ (e : Option Entry). entry_value e (value left)) (with_own (entries_of t) name entry refl (stands_at t name ∙ standing)))

  pub input_halted : IsHalted t name ((name, c) ∷ []) → all_stay left ≡ false
  input_halted h =
      by_test (all_stay left)
      (λ stay. let w = well_figure (scene_of t) name (figure_of c.after) well wide (cell_set-cells c.after.dim c.after.rows) stay in
      absurd (never_well t name ((name, c) ∷ []) h k.sized left w (λ x d. with_other (entries_of t) name x entry refl d) (at_input h w)))
      (λ out. out)
