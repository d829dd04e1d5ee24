-- The steps of carrying a change, by the scene that an edit leaves.
use Rattle.std.proofs.Common.{◌≡◌, ℕ, ◌+◌, ◌*◌, ◌≤◌, Bool, true, false, if◌then◌else◌, List, [], ◌∷◌, ◌++◌, Option, None, Some, refl, sym, ap, subst, ◌∙◌, is_some, sum_by, bytes_eq, arith}
use Rattle.std.specs.Prelude.{option_map}
use Rattle.std.proofs.lemmas.List.Sums.{sum_by-le-sum_by}
use Rattle.evm_rows.specs.Rows.{Vertices}
use Rattle.evm_script.specs.declared.formula.Formula.{Formula}
use Rattle.evm_model.specs.Figures.{Figure}
use Rattle.evm_model.specs.Orders.{is_among, Ordered}
use Rattle.evm_model.specs.Scene.{Scene, Entry, entry_of, entry_operands, operands_of, entry_value, value, with_figure, given_entry, IsOrderOf}
use Rattle.evm_model.specs.Edits.{Edit, name_of, after}
use Rattle.evm_model.specs.Work.{is_moved, what_cuts, own_cuts, edited_cuts, work, work_at, entry_work}
use Rattle.evm_model.proofs.Names.{by_name, among_none, among-append, apart_back, or_right}
use Rattle.evm_model.proofs.Lookups.{with_own, with_other, with_stands, length-with}
use Rattle.evm_model.proofs.Levels.{value_step}
use Rattle.evm_model.proofs.Counts.{ordered_differ}
use Rattle.evm_formulas.specs.declared.changes.Change.{Change}
use Rattle.evm_formulas.specs.Stated.{figure_of}
use Rattle.evm_scene.specs.declared.node.Node.{Node}
use Rattle.evm_scene.specs.Tables.{Table, node_at, reads_at, kept, what_of, entry_view, entries_of, scene_of}
use Rattle.evm_scene.specs.Orders.{IsKept}
use Rattle.evm_scene.specs.InputEdits.{IsPlanned}
use Rattle.evm_scene.specs.Works.{IsOutcome, made_cost, node_cost, cost, entry_cost, follow_cost}
use Rattle.evm_scene.proofs.Views.{entry_at, stands_at, value_at, some_node, order_kept, kept_is_value}
use Rattle.evm_scene.proofs.Splits.{cut_rest}
use Rattle.evm_scene.proofs.Sums.{Reaches, sum_keys}

-- a node counts as its entry does
shown_cost : (s : Vertices) (m : Option Formula) (old new : List ℕ → Figure) → made_cost m old new ≡ (if is_moved (what_of s m) old new then 6 * (1 + what_cuts (what_of s m) old new) else 0)
shown_cost s None old new = refl
shown_cost s (Some f) old new = refl

-- fewer names that are read leave an order one
ordered_fewer : (r q : List ℕ → List (List ℕ)) → ((x o : List ℕ) → is_among o (q x) ≡ true → is_among o (r x) ≡ true) → (seen xs : List (List ℕ)) → Ordered r seen xs → Ordered q seen xs
ordered_fewer r q h seen [] k = tt
ordered_fewer r q h seen (x ∷ xs) k = (k.0, λ o m. k.1 o (h x o m), ordered_fewer r q h (x ∷ seen) xs k.2)

-- the scene after the edit of a name has the entries of the table but at the name
module _ (t : Table) (order : List (List ℕ)) (k : IsKept t order) (name : List ℕ) (u : Scene) (others : (x : List ℕ) → bytes_eq x name ≡ false → entry_of u.entries x ≡ entry_of (entries_of t) x) where
  kept_values : kept t ≡ value (scene_of t)
  kept_values = λ i x. kept_is_value t order k x i

  entry_reaches : (x : List ℕ) → bytes_eq x name ≡ false → is_some (node_at t x) ≡ true → Reaches (cost t (value u)) (entry_cost name (value (scene_of t)) (value u)) u.entries x
  entry_reaches x d there = some_node (node_at t x) there at_node
    where
      at_node : (n : Node) → node_at t x ≡ Some n → Reaches (cost t (value u)) (entry_cost name (value (scene_of t)) (value u)) u.entries x
      at_node n at = (
        entry_view (x, n),
        others x d ∙ entry_at t x ∙ ap (λ (o : Option Node). option_map (λ m. entry_view (x, m)) o) at,
        few,
      )
        where
          few : cost t (value u) x ≤ entry_cost name (value (scene_of t)) (value u) (entry_view (x, n))
          few =
              let a : cost t (value u) x ≡ made_cost n.formula (kept t) (value u) = ap (λ (o : Option Node). node_cost o (kept t) (value u)) at in
              let b : made_cost n.formula (kept t) (value u) ≡ made_cost n.formula (value (scene_of t)) (value u) = ap (λ (f : List ℕ → Figure). made_cost n.formula f (value u)) kept_values in
              let e : entry_cost name (value (scene_of t)) (value u) (entry_view (x, n)) ≡ made_cost n.formula (value (scene_of t)) (value u) =
              ap (λ (c : Bool). if c then 0 else (if is_moved (what_of n.solid n.formula) (value (scene_of t)) (value u) then 6 * (1 + what_cuts (what_of n.solid n.formula) (value (scene_of t)) (value u)) else 0)) d
              ∙ sym (shown_cost n.solid n.formula (value (scene_of t)) (value u)) in
              omega (arith, a, b, e)

  -- what later names count is no more than what all entries do
  pub later_sum : (front later : List (List ℕ)) (reads : List ℕ → List (List ℕ)) → Ordered reads front (name ∷ later) → ((x : List ℕ) → is_among x later ≡ true → is_some (node_at t x) ≡ true)
      → sum_by (cost t (value u)) later ≤ follow_cost name (scene_of t) u
  later_sum front later reads h stand =
      let differ = ordered_differ reads front (name ∷ later) h in
      sum_keys (cost t (value u)) (entry_cost name (value (scene_of t)) (value u)) later u.entries differ.1
      (λ x m. entry_reaches x (apart_back name x later differ.0 m) (stand x m))

  -- its values are an outcome
  pub outcome : (own : Figure) (new : List (List ℕ)) → IsOrderOf u new → entry_value (entry_of u.entries name) (value u) ≡ own → IsOutcome t name own (value u)
  outcome own new is here = record {
    seed = value_step u new is.ordered is.whole is.size name ∙ here;
    fixed = λ x d. value_step u new is.ordered is.whole is.size x ∙ ap (λ (e : Option Entry). entry_value e (value u)) (others x d) ∙ value_at t x (value u) (k.sized x);
  }

-- another figure of an input
module _ (t : Table) (order : List (List ℕ)) (k : IsKept t order) (name : List ℕ) (figure : Figure) (standing : is_some (node_at t name) ≡ true) where
  abbrev left : Scene
  left = with_figure (scene_of t) name figure

  left_others : (x : List ℕ) → bytes_eq x name ≡ false → entry_of left.entries x ≡ entry_of (entries_of t) x
  left_others x d = with_other (entries_of t) name x (given_entry name figure) refl d

  left_own : entry_of left.entries name ≡ Some (given_entry name figure)
  left_own = with_own (entries_of t) name (given_entry name figure) refl (stands_at t name ∙ standing)

  left_reads : (x o : List ℕ) → is_among o (operands_of left.entries x) ≡ true → is_among o (operands_of (entries_of t) x) ≡ true
  left_reads x o m =
      by_name x name
      (λ e. among_none o (subst (λ (y : Option Entry). is_among o (entry_operands y) ≡ true) (ap (λ (z : List ℕ). entry_of left.entries z) e ∙ left_own) m))
      (λ d. subst (λ (y : Option Entry). is_among o (entry_operands y) ≡ true) (left_others x d) m)

  left_order : IsOrderOf left order
  left_order =
      let before = order_kept t order k in
      record {
        ordered = ordered_fewer (operands_of (entries_of t)) (operands_of left.entries) left_reads [] order before.ordered;
        whole = λ x. before.whole x ∙ sym (with_stands (entries_of t) name x (given_entry name figure) refl);
        size = before.size ∙ sym (length-with (entries_of t) name (given_entry name figure));
      }

  -- the steps of carrying it
  pub figure_few : (front later : List (List ℕ)) → order ≡ front ++ name ∷ later → (s r : ℕ)
      → ((V : List ℕ → Figure) → IsOutcome t name figure V → r ≤ s + sum_by (cost t V) later) → r ≤ s + follow_cost name (scene_of t) left
  figure_few front later parts s r few =
      let total = later_sum t order k name left left_others front later (reads_at t) (cut_rest t order front name later k parts) later_stand in
      let here = few (value left) (outcome t order k name left left_others figure order left_order (ap (λ (e : Option Entry). entry_value e (value left)) left_own)) in
      omega (arith, total, here)
    where
      later_stand : (x : List ℕ) → is_among x later ≡ true → is_some (node_at t x) ≡ true
      later_stand x m =
          sym (k.whole x) ∙ ap (λ (l : List (List ℕ)). is_among x l) parts ∙ among-append x front (name ∷ later)
          ∙ or_right (is_among x front) (is_among x (name ∷ later)) (or_right (bytes_eq x name) (is_among x later) m)

-- what follows an edit counts no more than its work
pub entry_less : (edit : Edit) (name : List ℕ) → name_of edit ≡ name → (old new : List ℕ → Figure) (e : Entry) → entry_cost name old new e ≤ entry_work edit old new e
entry_less edit name named old new e =
    subst (λ (x : List ℕ). entry_cost x old new e ≤ entry_work edit old new e) named
    (by (bytes_eq e.name (name_of edit)) (is_moved e.what old new) (work_at (edited_cuts edit (old e.name) (new e.name) new) (own_cuts (old e.name) (new e.name))) (what_cuts e.what old new) (own_cuts (old e.name) (new e.name)))
  where
    by : (b m : Bool) (w c o : ℕ) → (if b then 0 else (if m then 6 * (1 + c) else 0)) ≤ (if b then w else (if m then work_at c o else 0))
    by true m w c o = omega arith
    by false true w c o = omega arith
    by false false w c o = omega arith

-- a planned edit takes no more steps than its work
pub planned_few : (t : Table) (name : List ℕ) (edit : Edit) (c : Change) → IsPlanned t name edit c → (s r : ℕ)
    → r ≤ s + follow_cost name (scene_of t) (with_figure (scene_of t) name (figure_of c.after)) → r ≤ s + work (scene_of t) edit
planned_few t name edit c p s r h =
    let a : follow_cost name (scene_of t) (with_figure (scene_of t) name (figure_of c.after)) ≡ follow_cost name (scene_of t) (after (scene_of t) edit) = ap (λ (u : Scene). follow_cost name (scene_of t) u) p.after in
    let b = sum_by-le-sum_by (entry_cost name (value (scene_of t)) (value (after (scene_of t) edit))) (entry_work edit (value (scene_of t)) (value (after (scene_of t) edit))) (after (scene_of t) edit).entries
    (entry_less edit name p.named (value (scene_of t)) (value (after (scene_of t) edit))) in
    omega (arith, a, b, p.full, h)
