-- What a table keeps once the changes are in place.
use Rattle.std.proofs.Common.{◌≡◌, ℕ, Bool, true, false, List, [], Option, None, Some, refl, sym, ap, subst, ◌∙◌, true≢false, is_some, length, bytes_eq}
use Rattle.std.proofs.lemmas.Option.{none-some}
use Rattle.evm_script.specs.declared.formula.Formula.{Formula}
use Rattle.evm_model.specs.Figures.{Figure}
use Rattle.evm_model.specs.Scene.{formula_value}
use Rattle.evm_model.proofs.Names.{same_name}
use Rattle.evm_scene.specs.declared.node.Node.{Node}
use Rattle.evm_formulas.specs.declared.changes.Change.{Change}
use Rattle.evm_formulas.specs.Stated.{figure_of}
use Rattle.evm_scene.specs.Tables.{Table, node_at, node_reads, reads_at, made_value, node_value, made_stays, node_stays, node_figure, kept, node_dim, dim_at, NodeSized}
use Rattle.evm_scene.specs.Orders.{IsKept}
use Rattle.evm_formulas.specs.Changes.{after_of, IsChange}
use Rattle.evm_scene.specs.Changes.{Pending, change_at, moved, moved_node, IsCarried}
use Rattle.evm_scene.proofs.Views.{value_same, stays_same, operand_stands, ordered_same, node_formula}

pub reads_moved : (n : Option Node) (c : Option Change) → node_reads (moved_node n c) ≡ node_reads n
reads_moved None c = refl
reads_moved (Some n) None = refl
reads_moved (Some n) (Some c) = refl

pub dim_moved : (n : Option Node) (c : Option Change) → node_dim (moved_node n c) ≡ node_dim n
dim_moved None c = refl
dim_moved (Some n) None = refl
dim_moved (Some n) (Some c) = refl

pub some_moved : (n : Option Node) (c : Option Change) → is_some (moved_node n c) ≡ is_some n
some_moved None c = refl
some_moved (Some n) None = refl
some_moved (Some n) (Some c) = refl

pub solid_moved : (n : Option Node) (c : Option Change) → is_some n ≡ true → node_figure (moved_node n c) ≡ after_of c (node_figure n)
solid_moved None c h = absurd (true≢false (sym h))
solid_moved (Some n) None h = refl
solid_moved (Some n) (Some c) h = refl

pub sized_moved : (n : Option Node) (c : Option Change) (dims : List ℕ → ℕ) → NodeSized n dims → IsChange c (node_figure n) → NodeSized (moved_node n c) dims
sized_moved None c dims h g = tt
sized_moved (Some n) None dims h g = h
sized_moved (Some n) (Some c) dims h g = (h.0, g.1 ∙ h.1, h.2)

made_fixed : (s : Figure) (m : Option Formula) (f : List ℕ → Figure) → ((g : Formula) → m ≡ Some g → s ≡ formula_value g f) → s ≡ made_value s m f
made_fixed s None f h = refl
made_fixed s (Some g) f h = h g refl

-- a node is fixed where its formula gives its solid; an input is so always
pub fixed_moved : (n : Option Node) (c : Option Change) (f : List ℕ → Figure)
    → ((g : Formula) → node_formula n ≡ Some g → after_of c (node_figure n) ≡ formula_value g f)
    → node_figure (moved_node n c) ≡ node_value (moved_node n c) f
fixed_moved None c f h = refl
fixed_moved (Some n) None f h = made_fixed (figure_of n.solid) n.formula f h
fixed_moved (Some n) (Some c) f h = made_fixed (figure_of c.after) n.formula f h

pub value_formula : (n : Option Node) (g : Formula) (f : List ℕ → Figure) → node_formula n ≡ Some g → node_value n f ≡ formula_value g f
value_formula None g f h = absurd (none-some g h)
value_formula (Some n) g f h = ap (λ m. made_value (figure_of n.solid) m f) h

pub stays_moved : (n : Option Node) (c : Option Change) (f : List ℕ → Figure) → node_stays (moved_node n c) f ≡ node_stays n f
stays_moved None c f = refl
stays_moved (Some n) None f = refl
stays_moved (Some n) (Some c) f = refl

-- what is no formula moves no cell
pub given_stays : (n : Option Node) (f : List ℕ → Figure) → node_formula n ≡ None → node_stays n f ≡ true
given_stays None f h = refl
given_stays (Some n) f h = ap (λ m. made_stays m f) h

-- once all changes are in place, all is kept again
module _ (t u : Table) (order front : List (List ℕ)) (name : List ℕ) (old p : Pending)
    (before : IsKept t order) (carried : IsCarried t front name old p)
    (places : (x : List ℕ) → node_at u x ≡ moved_node (node_at t x) (change_at p x))
    (size : length u ≡ length t)
    (own : node_formula (node_at t name) ≡ None) where
  new_reads : (x : List ℕ) → reads_at t x ≡ reads_at u x
  new_reads x = sym (ap node_reads (places x) ∙ reads_moved (node_at t x) (change_at p x))

  new_dims : dim_at t ≡ dim_at u
  new_dims = λ i x. sym (ap node_dim (places x) ∙ dim_moved (node_at t x) (change_at p x)) i

  pub new_kept : (x : List ℕ) → is_some (node_at t x) ≡ true → moved t p x ≡ kept u x
  new_kept x h = sym (ap node_figure (places x) ∙ solid_moved (node_at t x) (change_at p x) h)

  by_formula : (x : List ℕ) (g : Formula) → node_formula (node_at t x) ≡ Some g → bytes_eq x name ≡ false → moved t p x ≡ formula_value g (kept u)
  by_formula x g e other =
      carried.fixed x other
      ∙ value_same (node_at t x) (moved t p) (kept u) (λ o r. new_kept o (operand_stands t order before x o r))
      ∙ value_formula (node_at t x) g (kept u) e

  no_formula : (g : Formula) → node_formula (node_at t name) ≡ Some g → ⊥
  no_formula g e = cc

  formula_part : (x : List ℕ) (b : Bool) → bytes_eq x name ≡ b → (g : Formula) → node_formula (node_at t x) ≡ Some g → moved t p x ≡ formula_value g (kept u)
  formula_part x true d g e = absurd (no_formula g (subst (λ k. node_formula (node_at t k) ≡ Some g) (same_name x name d) e))
  formula_part x false d g e = by_formula x g e d

  new_fixed : (x : List ℕ) → kept u x ≡ node_value (node_at u x) (kept u)
  new_fixed x =
      subst (λ n. node_figure n ≡ node_value n (kept u)) (sym (places x))
      (fixed_moved (node_at t x) (change_at p x) (kept u) (formula_part x (bytes_eq x name) refl))

  new_stays : (x : List ℕ) → node_stays (node_at u x) (kept u) ≡ true
  new_stays x = ap (λ n. node_stays n (kept u)) (places x) ∙ stays_moved (node_at t x) (change_at p x) (kept u) ∙ by (bytes_eq x name) refl
    where
      by : (b : Bool) → bytes_eq x name ≡ b → node_stays (node_at t x) (kept u) ≡ true
      by true d = given_stays (node_at t x) (kept u) (ap (λ k. node_formula (node_at t k)) (same_name x name d) ∙ own)
      by false d = sym (stays_same (node_at t x) (moved t p) (kept u) (λ o r. new_kept o (operand_stands t order before x o r))) ∙ carried.stays x d

  new_sized : (x : List ℕ) → NodeSized (node_at u x) (dim_at u)
  new_sized x =
      subst (λ d. NodeSized (node_at u x) d) new_dims
      (subst (λ n. NodeSized n (dim_at t)) (sym (places x))
      (sized_moved (node_at t x) (change_at p x) (dim_at t) (before.sized x) (carried.change x)))

  pub kept_again : IsKept u order
  kept_again = record {
    ordered = ordered_same (reads_at t) (reads_at u) new_reads [] order before.ordered;
    whole = λ x. before.whole x ∙ sym (ap (λ n. is_some n) (places x) ∙ some_moved (node_at t x) (change_at p x));
    size = before.size ∙ sym size;
    sized = new_sized;
    fixed = new_fixed;
    stays = new_stays;
  }
