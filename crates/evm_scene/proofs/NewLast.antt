-- A new name goes last, in the table and in the order.
use Rattle.std.proofs.Common.{◌≡◌, ℕ, ◌+◌, Bool, true, false, cond, ◌||◌, List, [], ◌∷◌, ◌++◌, Option, None, Some, refl, sym, ap, subst, ◌∙◌, true≢false, is_some, length, length-append, bytes_eq, arith}
use Rattle.evm_script.specs.declared.formula.Formula.{Formula}
use Rattle.evm_model.specs.Orders.{is_among, Ordered}
use Rattle.evm_model.specs.Scene.{operands}
use Rattle.evm_model.proofs.Names.{same_name, name_itself, name_sym, or_right, or-false, among-append}
use Rattle.evm_model.proofs.Orders.{ordered_push}
use Rattle.evm_scene.specs.declared.node.Node.{Node}
use Rattle.evm_formulas.specs.Stated.{figure_of}
use Rattle.evm_scene.specs.Tables.{Table, node_at, made_reads, node_reads, reads_at, node_value, node_stays, node_figure, kept, node_dim, dim_at, FormulaSized, MadeSized, NodeSized}
use Rattle.evm_scene.specs.Orders.{IsKept}
use Rattle.evm_scene.proofs.Views.{value_same, stays_same, operand_stands}
use Rattle.evm_scene.proofs.Parts.{ordered_on}

-- a formula has its dimension where those of its operands stay
formula_sized : (n : ℕ) (f : Formula) (d e : List ℕ → ℕ) → ((o : List ℕ) → is_among o (operands f) ≡ true → d o ≡ e o) → FormulaSized n f d → FormulaSized n f e
formula_sized n f d e same h = (λ o m. sym (same o m) ∙ h.0 o m, h.1)

made_sized : (n : ℕ) (m : Option Formula) (d e : List ℕ → ℕ) → ((o : List ℕ) → is_among o (made_reads m) ≡ true → d o ≡ e o) → MadeSized n m d → MadeSized n m e
made_sized n None d e same h = tt
made_sized n (Some f) d e same h = formula_sized n f d e same h

pub node_sized : (n : Option Node) (d e : List ℕ → ℕ) → ((o : List ℕ) → is_among o (node_reads n) ≡ true → d o ≡ e o) → NodeSized n d → NodeSized n e
node_sized None d e same h = tt
node_sized (Some n) d e same h = (h.0, h.1, made_sized n.dim n.formula d e same h.2)

module _ (t u : Table) (order : List (List ℕ)) (name : List ℕ) (node : Node) (before : IsKept t order) (fresh : node_at t name ≡ None)
    (places : (x : List ℕ) → node_at u x ≡ cond (bytes_eq name x) (Some node) (node_at t x)) (size : length u ≡ length t + 1)
    (operands : (o : List ℕ) → is_among o (made_reads node.formula) ≡ true → is_some (node_at t o) ≡ true)
    (sized : NodeSized (Some node) (dim_at t)) (value : figure_of node.solid ≡ node_value (Some node) (kept t)) (stay : node_stays (Some node) (kept t) ≡ true) where
  here : node_at u name ≡ Some node
  here = places name ∙ ap (λ b. cond b (Some node) (node_at t name)) (name_itself name)

  else_at : (x : List ℕ) → bytes_eq x name ≡ false → node_at u x ≡ node_at t x
  else_at x d = places x ∙ ap (λ b. cond b (Some node) (node_at t x)) (name_sym name x ∙ d)

  new_name : is_among name order ≡ false
  new_name = before.whole name ∙ ap (λ (o : Option Node). is_some o) fresh

  standing_other : (o : List ℕ) → is_some (node_at t o) ≡ true → bytes_eq o name ≡ false
  standing_other o h = by (bytes_eq o name) refl
    where
      by : (b : Bool) → bytes_eq o name ≡ b → bytes_eq o name ≡ false
      by true d = absurd (true≢false (sym h ∙ ap (λ k. is_some (node_at t k)) (same_name o name d) ∙ ap (λ (o : Option Node). is_some o) fresh))
      by false d = d

  pub others_kept : (x : List ℕ) → is_some (node_at t x) ≡ true → node_at u x ≡ node_at t x
  others_kept x h = else_at x (standing_other x h)

  in_order : (x : List ℕ) → is_among x order ≡ true → bytes_eq x name ≡ false
  in_order x m = standing_other x (sym (before.whole x) ∙ m)

  kept_same : (o : List ℕ) → is_some (node_at t o) ≡ true → kept t o ≡ kept u o
  kept_same o h = ap node_figure (sym (else_at o (standing_other o h)))

  dim_same : (o : List ℕ) → is_some (node_at t o) ≡ true → dim_at t o ≡ dim_at u o
  dim_same o h = ap node_dim (sym (else_at o (standing_other o h)))

  old_order : Ordered (reads_at u) [] order
  old_order = ordered_on (reads_at t) (reads_at u) [] order (λ x m. ap node_reads (sym (else_at x (in_order x m)))) before.ordered

  own_seen : (o : List ℕ) → is_among o (reads_at u name) ≡ true → (is_among o [] || is_among o order) ≡ true
  own_seen o m = before.whole o ∙ operands o (subst (λ n. is_among o (node_reads n) ≡ true) here m)

  whole_at : (x : List ℕ) (b : Bool) → bytes_eq x name ≡ b → is_among x (order ++ name ∷ []) ≡ is_some (node_at u x)
  whole_at x true d =
      among-append x order (name ∷ []) ∙ or_right (is_among x order) (bytes_eq x name || false) (ap (λ b. b || false) d)
      ∙ sym (ap (λ k. is_some (node_at u k)) (same_name x name d) ∙ ap (λ (o : Option Node). is_some o) here)
  whole_at x false d =
      among-append x order (name ∷ []) ∙ ap (λ b. is_among x order || (b || false)) d ∙ (or-false (is_among x order)) ∙ before.whole x
      ∙ sym (ap (λ (o : Option Node). is_some o) (else_at x d))

  fixed_at : (x : List ℕ) (b : Bool) → bytes_eq x name ≡ b → kept u x ≡ node_value (node_at u x) (kept u)
  fixed_at x true d =
      subst (λ k. kept u k ≡ node_value (node_at u k) (kept u)) (sym (same_name x name d))
      (ap node_figure here ∙ value ∙ value_same (Some node) (kept t) (kept u) (λ o m. kept_same o (operands o m))
      ∙ ap (λ n. node_value n (kept u)) (sym here))
  fixed_at x false d =
      subst (λ n. node_figure n ≡ node_value n (kept u)) (sym (else_at x d))
      (before.fixed x ∙ value_same (node_at t x) (kept t) (kept u) (λ o m. kept_same o (operand_stands t order before x o m)))

  stays_at : (x : List ℕ) (b : Bool) → bytes_eq x name ≡ b → node_stays (node_at u x) (kept u) ≡ true
  stays_at x true d =
      subst (λ k. node_stays (node_at u k) (kept u) ≡ true) (sym (same_name x name d))
      (ap (λ n. node_stays n (kept u)) here ∙ sym (stays_same (Some node) (kept t) (kept u) (λ o m. kept_same o (operands o m))) ∙ stay)
  stays_at x false d =
      ap (λ n. node_stays n (kept u)) (else_at x d)
      ∙ sym (stays_same (node_at t x) (kept t) (kept u) (λ o m. kept_same o (operand_stands t order before x o m))) ∙ before.stays x

  sized_at : (x : List ℕ) (b : Bool) → bytes_eq x name ≡ b → NodeSized (node_at u x) (dim_at u)
  sized_at x true d =
      subst (λ k. NodeSized (node_at u k) (dim_at u)) (sym (same_name x name d))
      (subst (λ n. NodeSized n (dim_at u)) (sym here) (node_sized (Some node) (dim_at t) (dim_at u) (λ o m. dim_same o (operands o m)) sized))
  sized_at x false d =
      subst (λ n. NodeSized n (dim_at u)) (sym (else_at x d))
      (node_sized (node_at t x) (dim_at t) (dim_at u) (λ o m. dim_same o (operand_stands t order before x o m)) (before.sized x))

  pub kept_added : IsKept u (order ++ name ∷ [])
  kept_added = record {
    ordered = ordered_push (reads_at u) [] order name old_order refl new_name own_seen;
    whole = λ x. whole_at x (bytes_eq x name) refl;
    size = omega (arith, length-append order (name ∷ []), before.size, size);
    sized = λ x. sized_at x (bytes_eq x name) refl;
    fixed = λ x. fixed_at x (bytes_eq x name) refl;
    stays = λ x. stays_at x (bytes_eq x name) refl;
  }
