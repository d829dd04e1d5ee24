-- What a table keeps once a name has another formula.
use Rattle.std.proofs.Common.{◌≡◌, ℕ, Bool, true, false, List, [], ◌++◌, Option, None, Some, refl, sym, ap, subst, ◌∙◌, true≢false, is_some, length, pos, bytes_eq}
use Rattle.evm_script.specs.declared.formula.Formula.{Formula}
use Rattle.evm_model.specs.Figures.{Figure}
use Rattle.evm_model.specs.Orders.{is_among}
use Rattle.evm_model.specs.Scene.{operands, formula_value, formula_stays, is_dim}
use Rattle.evm_model.proofs.Names.{same_name}
use Rattle.evm_model.proofs.Levels.{formula_same, formula_stays_same}
use Rattle.evm_scene.specs.declared.node.Node.{Node}
use Rattle.evm_formulas.specs.declared.changes.Change.{Change}
use Rattle.evm_formulas.specs.Stated.{figure_of}
use Rattle.evm_scene.specs.Tables.{Table, node_at, node_reads, made_reads, reads_at, node_value, made_stays, node_stays, node_figure, kept, node_dim, dim_at, FormulaSized, MadeSized, NodeSized}
use Rattle.evm_scene.specs.Orders.{IsKept, Parted}
use Rattle.evm_formulas.specs.Changes.{after_of, IsChange}
use Rattle.evm_scene.specs.Changes.{Pending, change_at, moved, moved_node, IsCarried}
use Rattle.evm_scene.proofs.Views.{value_same, stays_same, operand_stands, node_formula}
use Rattle.evm_scene.proofs.Kepts.{stays_moved, reads_moved, dim_moved, some_moved, solid_moved, sized_moved, fixed_moved, value_formula}
use Rattle.evm_scene.proofs.Parts.{new_order, new_whole, new_size, reads_front}

module _ (t u : Table) (order front reach : List (List ℕ)) (name : List ℕ) (f : Formula) (new : Node) (old p : Pending)
    (before : IsKept t order) (parted : Parted (reads_at t) order name front reach [])
    (carried : IsCarried t front name old p)
    (here : node_at u name ≡ Some new) (formula : new.formula ≡ Some f) (dim : new.dim ≡ dim_at t name)
    (solid : figure_of new.solid ≡ moved t p name) (value : moved t p name ≡ formula_value f (kept t)) (stay : formula_stays f (kept t) ≡ true)
    (fits : FormulaSized (dim_at t name) f (dim_at t))
    (places : (x : List ℕ) → bytes_eq x name ≡ false → node_at u x ≡ moved_node (node_at t x) (change_at p x))
    (size : length u ≡ length t) (stands : is_some (node_at t name) ≡ true)
    (present : (o : List ℕ) → is_among o (operands f) ≡ true → is_some (node_at t o) ≡ true)
    (free : (o : List ℕ) → is_among o (operands f) ≡ true → is_among o reach ≡ false) where
  own_reads : reads_at u name ≡ operands f
  own_reads = ap node_reads here ∙ ap (λ m. made_reads m) formula

  other_reads : (x : List ℕ) → bytes_eq x name ≡ false → reads_at t x ≡ reads_at u x
  other_reads x d = sym (ap node_reads (places x d) ∙ reads_moved (node_at t x) (change_at p x))

  reads_own : (P : List ℕ → Type 0) → ((o : List ℕ) → is_among o (operands f) ≡ true → P o) → (o : List ℕ) → is_among o (reads_at u name) ≡ true → P o
  reads_own P h o m = h o (subst (λ l. is_among o l ≡ true) own_reads m)

  stand : (o : List ℕ) → is_among o (reads_at u name) ≡ true → is_among o order ≡ true
  stand = reads_own (λ o. is_among o order ≡ true) (λ o m. before.whole o ∙ present o m)

  free_own : (o : List ℕ) → is_among o (reads_at u name) ≡ true → is_among o reach ≡ false
  free_own = reads_own (λ o. is_among o reach ≡ false) free

  in_front : (o : List ℕ) → is_among o (operands f) ≡ true → is_among o front ≡ true
  in_front o m = reads_front (reads_at t) (reads_at u) order name front reach parted other_reads stand free_own o (subst (λ l. is_among o l ≡ true) (sym own_reads) m)

  dims_at : (x : List ℕ) (b : Bool) → bytes_eq x name ≡ b → dim_at u x ≡ dim_at t x
  dims_at x true d = subst (λ k. dim_at u k ≡ dim_at t k) (sym (same_name x name d)) (ap node_dim here ∙ dim)
  dims_at x false d = ap node_dim (places x d) ∙ dim_moved (node_at t x) (change_at p x)

  dims : dim_at t ≡ dim_at u
  dims = λ i x. sym (dims_at x (bytes_eq x name) refl) i

  kept_at : (x : List ℕ) (b : Bool) → bytes_eq x name ≡ b → is_some (node_at t x) ≡ true → moved t p x ≡ kept u x
  kept_at x true d h = subst (λ k. moved t p k ≡ kept u k) (sym (same_name x name d)) (sym (ap node_figure here ∙ solid))
  kept_at x false d h = sym (ap node_figure (places x d) ∙ solid_moved (node_at t x) (change_at p x) h)

  pub redefined_values : (x : List ℕ) → is_some (node_at t x) ≡ true → moved t p x ≡ kept u x
  redefined_values x h = kept_at x (bytes_eq x name) refl h

  still : (o : List ℕ) → is_among o (operands f) ≡ true → kept t o ≡ kept u o
  still o m = sym (ap (λ c. after_of c (kept t o)) (carried.early o (in_front o m))) ∙ redefined_values o (present o m)

  own_fixed : kept u name ≡ node_value (node_at u name) (kept u)
  own_fixed =
      ap node_figure here ∙ solid ∙ value ∙ formula_same f (kept t) (kept u) still
      ∙ sym (value_formula (node_at u name) f (kept u) (ap node_formula here ∙ formula))

  by_formula : (x : List ℕ) → bytes_eq x name ≡ false → (g : Formula) → node_formula (node_at t x) ≡ Some g → moved t p x ≡ formula_value g (kept u)
  by_formula x d g e =
      carried.fixed x d
      ∙ value_same (node_at t x) (moved t p) (kept u) (λ o r. redefined_values o (operand_stands t order before x o r))
      ∙ value_formula (node_at t x) g (kept u) e

  fixed_at : (x : List ℕ) (b : Bool) → bytes_eq x name ≡ b → kept u x ≡ node_value (node_at u x) (kept u)
  fixed_at x true d = subst (λ k. kept u k ≡ node_value (node_at u k) (kept u)) (sym (same_name x name d)) own_fixed
  fixed_at x false d =
      subst (λ n. node_figure n ≡ node_value n (kept u)) (sym (places x d))
      (fixed_moved (node_at t x) (change_at p x) (kept u) (by_formula x d))

  stays_at : (x : List ℕ) (b : Bool) → bytes_eq x name ≡ b → node_stays (node_at u x) (kept u) ≡ true
  stays_at x true d =
      subst (λ k. node_stays (node_at u k) (kept u) ≡ true) (sym (same_name x name d))
      (ap (λ n. node_stays n (kept u)) here ∙ ap (λ m. made_stays m (kept u)) formula ∙ sym (formula_stays_same f (kept t) (kept u) still) ∙ stay)
  stays_at x false d =
      ap (λ n. node_stays n (kept u)) (places x d) ∙ stays_moved (node_at t x) (change_at p x) (kept u)
      ∙ sym (stays_same (node_at t x) (moved t p) (kept u) (λ o r. redefined_values o (operand_stands t order before x o r))) ∙ carried.stays x d

  sized_own : (c : Option Change) → IsChange c (kept t name) → figure_of new.solid ≡ after_of c (kept t name) → (kept t name).dim ≡ dim_at t name → new.solid.dim ≡ new.dim
  sized_own None g e k = ap (λ (s : Figure). s.dim) e ∙ k ∙ sym dim
  sized_own (Some c) g e k = ap (λ (s : Figure). s.dim) e ∙ g.1 ∙ k ∙ sym dim

  kept_dim : (n : Option Node) → NodeSized n (dim_at t) → is_some n ≡ true → (node_figure n).dim ≡ node_dim n
  kept_dim None h s = absurd (true≢false (sym s))
  kept_dim (Some n) h s = h.1

  own_sized : NodeSized (Some new) (dim_at t)
  own_sized = (
    named_dim (node_at t name) (before.sized name) stands dim,
    sized_own (change_at p name) (carried.change name) solid (kept_dim (node_at t name) (before.sized name) stands),
    subst (λ m. MadeSized new.dim m (dim_at t)) (sym formula) (subst (λ n. FormulaSized n f (dim_at t)) (sym dim) fits),
  )
    where
      named_dim : (n : Option Node) → NodeSized n (dim_at t) → is_some n ≡ true → new.dim ≡ node_dim n → is_dim (pos new.dim) ≡ true
      named_dim None h s e = absurd (true≢false (sym s))
      named_dim (Some n) h s e = subst (λ k. is_dim (pos k) ≡ true) (sym e) h.0

  sized_at : (x : List ℕ) (b : Bool) → bytes_eq x name ≡ b → NodeSized (node_at u x) (dim_at t)
  sized_at x true d = subst (λ k. NodeSized (node_at u k) (dim_at t)) (sym (same_name x name d)) (subst (λ n. NodeSized n (dim_at t)) (sym here) own_sized)
  sized_at x false d = subst (λ n. NodeSized n (dim_at t)) (sym (places x d)) (sized_moved (node_at t x) (change_at p x) (dim_at t) (before.sized x) (carried.change x))

  some_at : (x : List ℕ) (b : Bool) → bytes_eq x name ≡ b → is_some (node_at t x) ≡ is_some (node_at u x)
  some_at x true d = subst (λ k. is_some (node_at t k) ≡ is_some (node_at u k)) (sym (same_name x name d)) (stands ∙ sym (ap (λ (o : Option Node). is_some o) here))
  some_at x false d = sym (ap (λ (o : Option Node). is_some o) (places x d) ∙ some_moved (node_at t x) (change_at p x))

  pub redefined_stands : (x : List ℕ) → is_some (node_at u x) ≡ is_some (node_at t x)
  redefined_stands x = sym (some_at x (bytes_eq x name) refl)

  pub kept_redefined : IsKept u (front ++ reach)
  kept_redefined = record {
    ordered = new_order (reads_at t) (reads_at u) order name front reach parted other_reads stand free_own;
    whole = λ x. new_whole (reads_at t) (reads_at u) order name front reach parted other_reads stand free_own x ∙ before.whole x ∙ some_at x (bytes_eq x name) refl;
    size = new_size (reads_at t) (reads_at u) order name front reach parted other_reads stand free_own ∙ before.size ∙ sym size;
    sized = λ x. subst (λ d. NodeSized (node_at u x) d) dims (sized_at x (bytes_eq x name) refl);
    fixed = λ x. fixed_at x (bytes_eq x name) refl;
    stays = λ x. stays_at x (bytes_eq x name) refl;
  }
