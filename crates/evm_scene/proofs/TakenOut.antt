-- A name that no formula reads is taken out.
use Rattle.std.proofs.Common.{◌≡◌, ℕ, ◌+◌, Bool, true, false, cond, not, ◌&&◌, ◌||◌, List, [], ◌∷◌, length, filter, Option, None, refl, sym, ap, subst, ◌∙◌, true≢false, is_some, bytes_eq, arith}
use Rattle.std.specs.Map.{remove_entry}
use Rattle.evm_model.specs.Orders.{is_among, Ordered}
use Rattle.evm_model.specs.Scene.{Slot, is_read, without_entry, without_name, IsWell}
use Rattle.evm_model.specs.Edits as model
use Rattle.evm_model.proofs.Names.{by_name, name_itself, name_sym, different_names, or_left, among_none, among_filter}
use Rattle.evm_model.proofs.Orders.{ordered_filter}
use Rattle.evm_model.proofs.Counts.{same_length, ordered_differ}
use Rattle.evm_model.proofs.WellEdits.{unread}
use Rattle.evm_model.proofs.ChangeLaws.{drop_gone}
use Rattle.evm_model.proofs.SlotLaws.{with_slots, some_watches}
use Rattle.evm_scene.specs.declared.node.Node.{Node}
use Rattle.evm_scene.specs.Tables.{Table, node_at, node_reads, reads_at, node_value, node_stays, node_figure, kept, node_dim, dim_at, NodeSized, entry_view, entries_of, scene_of}
use Rattle.evm_scene.specs.Orders.{IsKept, is_other}
use Rattle.evm_scene.proofs.Views.{value_same, stays_same, stands_at, operands_at}
use Rattle.evm_scene.proofs.NewLast.{node_sized}
use Rattle.evm_scene.proofs.Unread.{none_changed}

-- the entries without a name
pub view_removed : (t : Table) (name : List ℕ) → entries_of (remove_entry (bytes_eq name) t) ≡ without_entry (entries_of t) name
view_removed [] name = refl
view_removed (e ∷ es) name = by (bytes_eq name e.0) (view_removed es name)
  where
    by : (b : Bool) → entries_of (remove_entry (bytes_eq name) es) ≡ without_entry (entries_of es) name
        → entries_of (cond b es (e ∷ remove_entry (bytes_eq name) es)) ≡ cond b (entries_of es) (entry_view e ∷ without_entry (entries_of es) name)
    by true h = refl
    by false h = ap (λ l. entry_view e ∷ l) h

module _ (t u : Table) (order : List (List ℕ)) (name : List ℕ) (before : IsKept t order) (standing : is_some (node_at t name) ≡ true)
    (places : (x : List ℕ) → node_at u x ≡ cond (bytes_eq name x) None (node_at t x)) (size : length u + 1 ≡ length t)
    (free : is_read (scene_of t) name ≡ false) where
  gone : node_at u name ≡ None
  gone = places name ∙ ap (λ b. cond b None (node_at t name)) (name_itself name)

  else_at : (x : List ℕ) → bytes_eq x name ≡ false → node_at u x ≡ node_at t x
  else_at x d = places x ∙ ap (λ b. cond b None (node_at t x)) (name_sym name x ∙ d)

  nowhere : (x : List ℕ) → is_among name (reads_at t x) ≡ false
  nowhere x = ap (λ (l : List (List ℕ)). is_among name l) (sym (operands_at t x)) ∙ unread (scene_of t) name free x

  read_other : (x o : List ℕ) → is_among o (reads_at t x) ≡ true → bytes_eq o name ≡ false
  read_other x o m = different_names o name (λ e. true≢false (sym m ∙ ap (λ (k : List ℕ). is_among k (reads_at t x)) e ∙ nowhere x))

  reads_less : (x o : List ℕ) → is_among o (reads_at u x) ≡ true → is_among o (reads_at t x) ≡ true
  reads_less x o m =
      by_name x name
      (λ e. among_none o (sym (ap (λ n. is_among o (node_reads n)) (ap (node_at u) e ∙ gone)) ∙ m))
      (λ d. ap (λ n. is_among o (node_reads n)) (sym (else_at x d)) ∙ m)

  abbrev pub rest : List (List ℕ)
  rest = filter (is_other name) order

  rest_whole : (x : List ℕ) → is_among x rest ≡ is_some (node_at u x)
  rest_whole x =
      among_filter (is_other name) x order
      ∙ by_name x name
      (λ e. ap (λ (b : Bool). not b && is_among x order) (ap (λ (y : List ℕ). bytes_eq y name) e ∙ name_itself name) ∙ sym (ap (λ (o : Option Node). is_some o) (ap (node_at u) e ∙ gone)))
      (λ d. ap (λ (b : Bool). not b && is_among x order) d ∙ before.whole x ∙ sym (ap (λ (o : Option Node). is_some o) (else_at x d)))

  rest_order : Ordered (reads_at u) [] rest
  rest_order =
      ordered_filter (reads_at t) (reads_at u) (is_other name) [] [] [] order
      (λ x m other o r. let old = reads_less x o r in (old, ap (λ (b : Bool). not b || false) (read_other x o old)))
      (λ x h m. m) (λ x m. m) (λ x h m. m) before.ordered

  -- exactly one place goes
  one_less : length rest + 1 ≡ length order
  one_less = omega (arith, same_length (name ∷ rest) order (name_out, ordered_differ (reads_at u) [] rest rest_order) (ordered_differ (reads_at t) [] order before.ordered) all_names)
    where
      name_out : is_among name rest ≡ false
      name_out = rest_whole name ∙ ap (λ (o : Option Node). is_some o) gone

      all_names : (x : List ℕ) → is_among x (name ∷ rest) ≡ is_among x order
      all_names x =
          by_name x name
          (λ e. or_left (bytes_eq x name) (is_among x rest) (ap (λ (y : List ℕ). bytes_eq y name) e ∙ name_itself name) ∙ sym (ap (λ (y : List ℕ). is_among y order) e ∙ before.whole name ∙ standing))
          (λ d. ap (λ (b : Bool). b || is_among x rest) d ∙ among_filter (is_other name) x order ∙ ap (λ (b : Bool). not b && is_among x order) d)

  fixed_at : (x : List ℕ) → kept u x ≡ node_value (node_at u x) (kept u)
  fixed_at x =
      by_name x name
      (λ e. subst (λ n. node_figure n ≡ node_value n (kept u)) (sym (ap (node_at u) e ∙ gone)) refl)
      (λ d. subst (λ n. node_figure n ≡ node_value n (kept u)) (sym (else_at x d))
      (before.fixed x ∙ value_same (node_at t x) (kept t) (kept u) (λ o m. ap node_figure (sym (else_at o (read_other x o m))))))

  stays_at : (x : List ℕ) → node_stays (node_at u x) (kept u) ≡ true
  stays_at x =
      by_name x name
      (λ e. ap (λ n. node_stays n (kept u)) (ap (node_at u) e ∙ gone))
      (λ d. ap (λ n. node_stays n (kept u)) (else_at x d)
      ∙ sym (stays_same (node_at t x) (kept t) (kept u) (λ o m. ap node_figure (sym (else_at o (read_other x o m))))) ∙ before.stays x)

  sized_at : (x : List ℕ) → NodeSized (node_at u x) (dim_at u)
  sized_at x =
      by_name x name
      (λ e. subst (λ n. NodeSized n (dim_at u)) (sym (ap (node_at u) e ∙ gone)) tt)
      (λ d. subst (λ n. NodeSized n (dim_at u)) (sym (else_at x d))
      (node_sized (node_at t x) (dim_at t) (dim_at u) (λ o m. ap node_dim (sym (else_at o (read_other x o m)))) (before.sized x)))

  pub kept_without : IsKept u rest
  kept_without = record { ordered = rest_order; whole = rest_whole; size = omega (arith, size, before.size, one_less); sized = sized_at; fixed = fixed_at; stays = stays_at }

pub less_by : (n m : ℕ) (b : Bool) → n + cond b 1 0 ≡ m → b ≡ true → n + 1 ≡ m
less_by n m true e h = e
less_by n m false e h = absurd (true≢false (sym h))

-- what refuses a drop
pub drop_refusal : (t : Table) (slots : List Slot) (name : List ℕ) (s r w : Bool) → is_some (node_at t name) ≡ s → is_read (scene_of t) name ≡ r → some_watches slots name ≡ w
    → model.refusal (with_slots (scene_of t) slots) (model.Drop name) ≡ model.first_cause ((not s, model.Name) ∷ (r || w, model.Used) ∷ [])
drop_refusal t slots name s r w e f h =
    λ i. model.first_cause ((not ((stands_at t name ∙ e) i), model.Name) ∷ (f i || h i, model.Used) ∷ [])

-- a drop that is done
pub drop_done : (t u : Table) (slots : List Slot) (name : List ℕ) → IsWell (with_slots (scene_of t) slots) → is_some (node_at t name) ≡ true → is_read (scene_of t) name ≡ false → some_watches slots name ≡ false
    → u ≡ remove_entry (bytes_eq name) t
    → (model.refusal (with_slots (scene_of t) slots) (model.Drop name) ≡ None) × (with_slots (scene_of u) slots ≡ without_name (with_slots (scene_of t) slots) name) × (0 ≡ model.changed (with_slots (scene_of t) slots) (model.Drop name))
drop_done t u slots name well s r w e = (
  drop_refusal t slots name true false false s r w,
  λ i. record { entries = (ap entries_of e ∙ view_removed t name) i; slots = slots },
  none_changed (with_slots (scene_of t) slots) (model.Drop name) well r (λ st. drop_gone (with_slots (scene_of t) slots) name well),
)

-- each name but the one that is taken out has the node that it had
pub node_else : (t u : Table) (name : List ℕ) → ((x : List ℕ) → node_at u x ≡ cond (bytes_eq name x) None (node_at t x)) → (x : List ℕ) → bytes_eq name x ≡ false → node_at u x ≡ node_at t x
node_else t u name places x d = places x ∙ ap (λ b. cond b None (node_at t x)) d
