-- The answers of the two sides of a plane, put together.
use Rattle.std.proofs.Common.{◌≡◌, ℕ, Bool, false, List, filter, ℤ, refl, sym, ap, ap₂, ◌∙◌}
use Rattle.evm_boolean.specs.Tower.{fills}
use Rattle.evm_boolean.specs.declared.boolean.Op2.{Op2}
use Rattle.evm_boolean.specs.declared.boolean.Op2.TheVariants.{Or, And, Sub, Xor}
use Rattle.evm_cells.specs.Booleans.{xor, combine, xor_cells}
use Rattle.evm_cells.specs.Vertices.{evm, cells}
use Rattle.evm_cells.specs.Windows.{is_under, is_over}
use Rattle.evm_rows.specs.Rows.{Vertices, cells_of, combined_rows, xor_rows}
use Rattle.evm_cutting.specs.Splits.{AreSplit}
use Rattle.evm_cutting.specs.declared.booleans.Pair.{Pair}
use Rattle.evm_cutting.proofs.Sided.{combined_by_sides}

-- a Boolean fills nothing where neither operand does
nothing_filled : (op : Op2) → fills op false false ≡ false
unfolding xor
nothing_filled Or = refl
nothing_filled And = refl
nothing_filled Sub = refl
nothing_filled Xor = refl

-- the cells that one side's answer has, by the parts of the operands there
side_cells : (f : Bool → Bool → Bool) (n : ℕ) (t : List ℤ → Bool) (v w x y s : Vertices) → v.dim ≡ n → w.dim ≡ n → x.dim ≡ n → y.dim ≡ n → s.dim ≡ n
    → cells_of x ≡ filter t (cells_of v) → cells_of y ≡ filter t (cells_of w)
    → cells_of s ≡ combine f s.dim (cells s.dim x.rows) (cells s.dim y.rows)
    → cells n s.rows ≡ combine f n (filter t (cells n v.rows)) (filter t (cells n w.rows))
side_cells f n t v w x y s dv dw dx dy ds p q e =
    ap (λ (m : ℕ). cells m s.rows) (sym ds) ∙ e
    ∙ ap (λ (m : ℕ). combine f m (cells m x.rows) (cells m y.rows)) ds
    ∙ ap₂ (λ A B. combine f n A B)
    (ap (λ (m : ℕ). cells m x.rows) (sym dx) ∙ p ∙ ap (λ (m : ℕ). filter t (cells m v.rows)) dv)
    (ap (λ (m : ℕ). cells m y.rows) (sym dy) ∙ q ∙ ap (λ (m : ℕ). filter t (cells m w.rows)) dw)

pub combined_cells : (op : Op2) (v w l h : Vertices) (p : Pair) → w.dim ≡ v.dim → AreSplit v w p → l.dim ≡ v.dim → h.dim ≡ v.dim
    → cells_of l ≡ combine (fills op) l.dim (cells l.dim p.left.low.rows) (cells l.dim p.right.low.rows)
    → cells_of h ≡ combine (fills op) h.dim (cells h.dim p.left.high.rows) (cells h.dim p.right.high.rows)
    → xor_cells v.dim (cells v.dim l.rows) (cells v.dim h.rows) ≡ combine (fills op) v.dim (cells v.dim v.rows) (cells v.dim w.rows)
combined_cells op v w l h p d s dl dh el eh =
    let n : ℕ = v.dim in
    let i : ℕ = p.left.axis in
    let at : ℤ = p.left.at in
    let a = s.left in
    let b = s.right in
    ap₂ (λ A B. xor_cells n A B)
    (side_cells (fills op) n (is_under i at) v w p.left.low p.right.low l refl d a.low_dim (b.low_dim ∙ d) dl a.low_cells
    (b.low_cells ∙ ap₂ (λ (j : ℕ) (z : ℤ). filter (is_under j z) (cells_of w)) s.same_axis s.same_at) el)
    (side_cells (fills op) n (is_over i at) v w p.left.high p.right.high h refl d a.high_dim (b.high_dim ∙ d) dh a.high_cells
    (b.high_cells ∙ ap₂ (λ (j : ℕ) (z : ℤ). filter (is_over j z) (cells_of w)) s.same_axis s.same_at) eh)
    ∙ combined_by_sides (fills op) n i at (cells n v.rows) (cells n w.rows) (nothing_filled op)

pub rows_from : (f : Bool → Bool → Bool) (n : ℕ) (L H V W : List (List ℤ)) → xor_cells n (cells n L) (cells n H) ≡ combine f n (cells n V) (cells n W)
    → xor_rows n L H ≡ combined_rows f n V W
unfolding xor_rows combined_rows xor_cells
rows_from f n L H V W e = ap (evm n) e
