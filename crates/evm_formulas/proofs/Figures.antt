-- The figures of solids, and the laws of their exclusive or.
use Rattle.std.proofs.Common.{◌≡◌, ℕ, false, List, [], ◌∷◌, ℤ, length, refl, sym, ap, ◌∙◌, subst, arith, None, Some}
use Rattle.evm_cells.specs.Places.{has}
use Rattle.evm_cells.specs.Limits.{IsCellSet}
use Rattle.evm_cells.specs.Booleans.{combine, or_cells, and_cells, sub_cells, xor, xor_cells}
use Rattle.evm_cells.specs.Vertices.{evm, cells, IsVertexList}
use Rattle.evm_cells.proofs.Universe.{same_sets, cell_set-cells}
use Rattle.evm_cells.proofs.Combine.{cell_set-xor, has-xor_cells}
use Rattle.evm_cells.proofs.Core.{evm-cells}
use Rattle.evm_cells.proofs.Layers.{evm-empty, cells-empty}
use Rattle.evm_cells.proofs.Order.{refuted}
use Rattle.evm_rows.specs.Rows.{Vertices, cells_of}
use Rattle.evm_boolean.specs.declared.boolean.Op2.{Op2}
use Rattle.evm_boolean.specs.declared.boolean.Op2.TheVariants.{Or, And, Sub, Xor}
use Rattle.evm_boolean.specs.Tower.{fills}
use Rattle.evm_delta.specs.Changes.{op_cells, value_before, value_after, change_vertices}
use Rattle.evm_delta.proofs.Deltas.{carries_over}
use Rattle.evm_cutting.proofs.Tables.{xor_none}
use Rattle.evm_model.specs.Figures.{Figure, nothing, or_of, and_of, sub_of, xor_of, same_figure}
use Rattle.evm_model.proofs.FigureLaws.{same_equal}
use Rattle.evm_formulas.specs.declared.changes.Change.{Change}
use Rattle.evm_formulas.specs.Stated.{figure_of}
use Rattle.evm_formulas.specs.Changes.{IsChange, IsStill}
use Rattle.evm_formulas.specs.Combined.{combine_of}

pub figure_with : (s : Vertices) (f : Figure) → s.dim ≡ f.dim → cells s.dim s.rows ≡ f.cells → figure_of s ≡ f
figure_with s f d c = λ i. record { dim = d i; cells = c i }

pub figure_set : (v : Vertices) → IsCellSet (figure_of v).dim (figure_of v).cells
figure_set v = cell_set-cells v.dim v.rows

pub none_figure : (s : Vertices) (n : ℕ) → s.dim ≡ n → cells s.dim s.rows ≡ [] → figure_of s ≡ nothing n
unfolding nothing
none_figure s n d c = figure_with s (nothing n) d c

-- ---- the exclusive or of two figures

pub xor_figure : (a b s : Vertices) → b.dim ≡ a.dim → s.dim ≡ a.dim → cells s.dim s.rows ≡ xor_cells a.dim (cells a.dim a.rows) (cells a.dim b.rows) → figure_of s ≡ xor_of (figure_of a) (figure_of b)
unfolding xor_of
xor_figure a b s same d c =
    figure_with s (xor_of (figure_of a) (figure_of b)) d (c ∙ ap (λ (n : ℕ). xor_cells a.dim (cells a.dim a.rows) (cells n b.rows)) (sym same))

-- the same of a tree and a borrowed view
pub changed_made : (a b vb s : Vertices) → vb ≡ b → s.dim ≡ a.dim → cells_of s ≡ xor_cells a.dim (cells_of a) (cells_of vb) → figure_of s ≡ xor_of (figure_of a) (figure_of b)
unfolding xor_of
changed_made a b vb s e d c = figure_with s (xor_of (figure_of a) (figure_of b)) d (c ∙ ap (λ (v : Vertices). xor_cells a.dim (cells_of a) (cells_of v)) e)

pub xor_back : (a b : Figure) → b.dim ≡ a.dim → IsCellSet a.dim a.cells → IsCellSet b.dim b.cells → xor_of a (xor_of a b) ≡ b
unfolding xor_of
xor_back a b same x y =
    let set : IsCellSet a.dim b.cells = subst (λ (n : ℕ). IsCellSet n b.cells) same y in
    let back : xor_cells a.dim a.cells (xor_cells a.dim a.cells b.cells) ≡ b.cells = carries_over a.dim a.cells b.cells x set in
    λ i. record { dim = sym same i; cells = back i }

has-nothing : (c : List ℤ) → has [] c ≡ false
unfolding has
has-nothing c = refl

empty_set : (n : ℕ) → IsCellSet n []
empty_set n = subst (λ (S : List (List ℤ)). IsCellSet n S) (cells-empty n) (cell_set-cells n [])

xor_nothing : (n : ℕ) (A : List (List ℤ)) → IsCellSet n A → xor_cells n A [] ≡ A
xor_nothing n A s =
    let x : IsCellSet n (xor_cells n A []) = cell_set-xor n A [] in
    same_sets (xor_cells n A []) A x.ascends s.ascends
    (λ c. has-xor_cells n A [] c s (empty_set n) ∙ ap (xor (has A c)) (has-nothing c) ∙ xor_none (has A c))

pub xor_stays : (a : Figure) → IsCellSet a.dim a.cells → xor_of a (nothing a.dim) ≡ a
unfolding xor_of nothing
xor_stays a s = let e : xor_cells a.dim a.cells [] ≡ a.cells = xor_nothing a.dim a.cells s in λ i. record { dim = a.dim; cells = e i }

pub xor_same : (a b : Figure) → b.cells ≡ [] → IsCellSet a.dim a.cells → xor_of a b ≡ a
unfolding xor_of
xor_same a b none s =
    let e : xor_cells a.dim a.cells b.cells ≡ a.cells = ap (xor_cells a.dim a.cells) none ∙ xor_nothing a.dim a.cells s in
    λ i. record { dim = a.dim; cells = e i }

xor_set : (a b : Figure) → IsCellSet a.dim (xor_of a b).cells
unfolding xor_of
xor_set a b = cell_set-xor a.dim a.cells b.cells

nothing_dim : (n : ℕ) → (nothing n).dim ≡ n
unfolding nothing
nothing_dim n = refl

pub nothing_set : (n : ℕ) → IsCellSet (nothing n).dim (nothing n).cells
unfolding nothing
nothing_set n = empty_set n

no_cells : (n : ℕ) → (nothing n).cells ≡ []
unfolding nothing
no_cells n = refl

xor_dim : (a b : Figure) → (xor_of a b).dim ≡ a.dim
unfolding xor_of
xor_dim a b = refl

-- an exclusive or that leaves a figure has no cells
pub xor_moves : (a b : Figure) → b.dim ≡ a.dim → IsCellSet a.dim a.cells → IsCellSet b.dim b.cells → (b.cells ≡ [] → ⊥) → same_figure a (xor_of a b) ≡ false
xor_moves a b same x y some = refuted (same_figure a (xor_of a b)) (λ h. some (gone (same_equal a (xor_of a b) x.ascends (xor_set a b).ascends h)))
  where
    alone : xor_of a (xor_of a (nothing a.dim)) ≡ nothing a.dim
    alone = xor_back a (nothing a.dim) (nothing_dim a.dim) x (nothing_set a.dim)

    gone : a ≡ xor_of a b → b.cells ≡ []
    gone e =
        ap (λ (f : Figure). f.cells) (sym (xor_back a b same x y) ∙ ap (xor_of a) (sym e ∙ sym (xor_stays a x)) ∙ alone)
        ∙ no_cells a.dim

-- a solid has no vertices exactly where it has no cells
pub no_vertices : (v : Vertices) → IsVertexList v.dim v.rows → (length v.rows ≡ 0 → cells v.dim v.rows ≡ []) × (cells v.dim v.rows ≡ [] → length v.rows ≡ 0)
no_vertices v s = (
  λ e. ap (cells v.dim) (none v.rows e) ∙ cells-empty v.dim,
  λ e. ap length (sym (evm-cells v.dim v.rows s) ∙ ap (evm v.dim) e ∙ evm-empty v.dim),
)
  where
    none : (xs : List (List ℤ)) → length xs ≡ 0 → xs ≡ []
    none [] e = refl
    none (x ∷ xs) e = absurd (omega (arith, e))

-- ---- Booleans

combine_cells : (op : Op2) (a b : Figure) → (combine_of op a b).cells ≡ op_cells op a.dim a.cells b.cells
unfolding or_of and_of sub_of xor_of op_cells or_cells and_cells sub_cells xor_cells
combine_cells Or a b = refl
combine_cells And a b = refl
combine_cells Sub a b = refl
combine_cells Xor a b = refl

pub combine_dim : (op : Op2) (a b : Figure) → (combine_of op a b).dim ≡ a.dim
unfolding or_of and_of sub_of xor_of
combine_dim Or a b = refl
combine_dim And a b = refl
combine_dim Sub a b = refl
combine_dim Xor a b = refl

combine_is : (op : Op2) (a b f : Figure) → f.dim ≡ a.dim → f.cells ≡ op_cells op a.dim a.cells b.cells → f ≡ combine_of op a b
combine_is op a b f d c =
    let e : f.cells ≡ (combine_of op a b).cells = c ∙ sym (combine_cells op a b) in
    let n : f.dim ≡ (combine_of op a b).dim = d ∙ sym (combine_dim op a b) in
    λ i. record { dim = n i; cells = e i }

pub combine_figure : (op : Op2) (a b s : Vertices) → b.dim ≡ a.dim → s.dim ≡ a.dim → cells s.dim s.rows ≡ combine (fills op) s.dim (cells s.dim a.rows) (cells s.dim b.rows) → figure_of s ≡ combine_of op (figure_of a) (figure_of b)
unfolding op_cells
combine_figure op a b s same d c =
    combine_is op (figure_of a) (figure_of b) (figure_of s) d
    (c ∙ ap (λ (n : ℕ). combine (fills op) n (cells n a.rows) (cells n b.rows)) d ∙ ap (λ (n : ℕ). combine (fills op) a.dim (cells a.dim a.rows) (cells n b.rows)) (sym same))

-- the change of a Boolean takes the Boolean before to the Boolean after
module _ (op : Op2) (a da b db d : Vertices) (left : da.dim ≡ a.dim) (other : b.dim ≡ a.dim) (right : db.dim ≡ a.dim) where
  pub change_dim : d ≡ change_vertices op a da b db → d.dim ≡ a.dim
  unfolding change_vertices
  change_dim e = ap (λ (v : Vertices). v.dim) e

  pub change_figure : d.dim ≡ a.dim → xor_cells d.dim (value_before op a b) (cells_of d) ≡ value_after op a da b db
      → xor_of (combine_of op (figure_of a) (figure_of b)) (figure_of d) ≡ combine_of op (xor_of (figure_of a) (figure_of da)) (xor_of (figure_of b) (figure_of db))
  unfolding xor_of
  change_figure n e =
      combine_is op (xor_of (figure_of a) (figure_of da)) (xor_of (figure_of b) (figure_of db)) (xor_of (combine_of op (figure_of a) (figure_of b)) (figure_of d))
      (combine_dim op (figure_of a) (figure_of b))
      (ap (λ (m : ℕ). xor_cells m (combine_of op (figure_of a) (figure_of b)).cells (cells_of d)) (combine_dim op (figure_of a) (figure_of b) ∙ sym n)
      ∙ ap (λ (S : List (List ℤ)). xor_cells d.dim S (cells_of d)) (combine_cells op (figure_of a) (figure_of b))
      ∙ e
      ∙ ap (λ (m : ℕ). op_cells op a.dim (xor_cells a.dim (cells_of a) (cells_of da)) (xor_cells m (cells_of b) (cells_of db))) (sym other))

-- ---- the same of borrowed views

module _ (a b va vb s : Vertices) (ea : va ≡ a) (eb : vb ≡ b) (same : b.dim ≡ a.dim) where
  pub xor_made : s.dim ≡ va.dim → cells s.dim s.rows ≡ xor_cells va.dim (cells va.dim va.rows) (cells va.dim vb.rows) → figure_of s ≡ xor_of (figure_of a) (figure_of b)
  xor_made d c =
      xor_figure a b s same (d ∙ ap (λ (v : Vertices). v.dim) ea)
      (c ∙ (λ i. xor_cells (ea i).dim (cells (ea i).dim (ea i).rows) (cells (ea i).dim (eb i).rows)))

  pub combine_made : (op : Op2) → s.dim ≡ va.dim → cells s.dim s.rows ≡ combine (fills op) s.dim (cells s.dim va.rows) (cells s.dim vb.rows) → figure_of s ≡ combine_of op (figure_of a) (figure_of b)
  combine_made op d c =
      combine_figure op a b s same (d ∙ ap (λ (v : Vertices). v.dim) ea)
      (c ∙ (λ i. combine (fills op) s.dim (cells s.dim (ea i).rows) (cells s.dim (eb i).rows)))

module _ (op : Op2) (a da b db va vda vb vdb d : Vertices) (ea : va ≡ a) (eda : vda ≡ da) (eb : vb ≡ b) (edb : vdb ≡ db)
    (left : da.dim ≡ a.dim) (other : b.dim ≡ a.dim) (right : db.dim ≡ a.dim) (made : d ≡ change_vertices op va vda vb vdb) where
  pub change_made_dim : d.dim ≡ a.dim
  change_made_dim = change_dim op a da b db d left other right (made ∙ (λ i. change_vertices op (ea i) (eda i) (eb i) (edb i)))

  pub change_made : xor_cells d.dim (value_before op va vb) (cells_of d) ≡ value_after op va vda vb vdb
      → xor_of (combine_of op (figure_of a) (figure_of b)) (figure_of d) ≡ combine_of op (xor_of (figure_of a) (figure_of da)) (xor_of (figure_of b) (figure_of db))
  change_made e =
      change_figure op a da b db d left other right change_made_dim
      ((λ i. xor_cells d.dim (value_before op (sym ea i) (sym eb i)) (cells_of d)) ∙ e ∙ (λ i. value_after op (ea i) (eda i) (eb i) (edb i)))

-- changes without cells leave all as it is
pub no_change : IsStill None
no_change own s h = refl

pub still_change : (c : Change) → cells c.delta.dim c.delta.rows ≡ [] → IsStill (Some c)
still_change c none own s h = h.2 ∙ xor_same own (figure_of c.delta) none s

-- a change with cells is one
pub changed_figure : (c : Change) (own : Figure) → IsCellSet own.dim own.cells → IsChange (Some c) own → (cells c.delta.dim c.delta.rows ≡ [] → ⊥) → same_figure own (figure_of c.after) ≡ false
changed_figure c own s h some = ap (same_figure own) h.2 ∙ xor_moves own (figure_of c.delta) h.0 s (figure_set c.delta) some
