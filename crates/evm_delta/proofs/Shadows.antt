-- The change of a projection, on vertices.
use Rattle.std.proofs.Common.{◌≡◌, ℕ, zero, suc, ◌-◌, ◌<◌, ◌≤◌, List, ℤ, refl, sym, ap, ap₂, ◌∙◌, arith}
use Rattle.evm_cells.specs.Places.{has, with_at}
use Rattle.evm_cells.specs.Booleans.{xor_cells}
use Rattle.evm_cells.specs.Shapes.{proj}
use Rattle.evm_cells.specs.Vertices.{evm, cells}
use Rattle.evm_cells.proofs.Universe.{cell_set-cells}
use Rattle.evm_rows.specs.Rows.{Vertices, cells_of, xor_rows}
use Rattle.evm_delta.specs.declared.shapes.Op1.TheVariants.{Proj}
use Rattle.evm_delta.specs.Shapes.{shape_change}
use Rattle.evm_delta.specs.Hulls.{AgreesOver}
use Rattle.evm_delta.proofs.Deltas.{xor_rows_is}
use Rattle.evm_delta.proofs.ShadowLaws.{shadow_change}

-- vertices of dimension n whose cells are X
pub record Shows (n : ℕ) (X : List (List ℤ)) (v : Vertices) : Type 0 where
  pub dim : v.dim ≡ n
  pub cells : cells n v.rows ≡ X

pub own_cells : (n : ℕ) (v : Vertices) → v.dim ≡ n → Shows n (cells n v.rows) v
own_cells n v d = record { dim = d; cells = λ i. cells n v.rows }

pub shows_proj : (n i : ℕ) (X : List (List ℤ)) (v s : Vertices) → Shows n X v → s.dim ≡ v.dim - 1 → cells_of s ≡ proj (v.dim - 1) i (cells_of v) → Shows (n - 1) (proj (n - 1) i X) s
shows_proj n i X v s h d e =
    let V : v.dim ≡ n = h.dim in
    let D : s.dim ≡ n - 1 = d ∙ ap (λ (k : ℕ). k - 1) V in
    record { dim = D; cells = ap (λ (k : ℕ). cells k s.rows) (sym D) ∙ e ∙ ap (λ (k : ℕ). proj (k - 1) i (cells k v.rows)) V ∙ ap (proj (n - 1) i) h.cells }

pub shows_xor : (n : ℕ) (X Y : List (List ℤ)) (v w s : Vertices) → Shows n X v → Shows n Y w → s.dim ≡ v.dim → cells_of s ≡ xor_cells v.dim (cells v.dim v.rows) (cells v.dim w.rows) → Shows n (xor_cells n X Y) s
shows_xor n X Y v w s h k d e =
    let V : v.dim ≡ n = h.dim in
    let D : s.dim ≡ n = d ∙ V in
    record {
      dim = D;
      cells = ap (λ (m : ℕ). cells m s.rows) (sym D) ∙ e ∙ ap (λ (m : ℕ). xor_cells m (cells m v.rows) (cells m w.rows)) V ∙ ap₂ (xor_cells n) h.cells k.cells;
    }

shadow_change_in : (n i : ℕ) (da a b : Vertices) → i < n → da.dim ≡ n → a.dim ≡ n → b.dim ≡ n → AgreesOver i da a b
    → xor_cells (n - 1) (proj (n - 1) i (cells n b.rows)) (proj (n - 1) i (xor_cells n (cells n b.rows) (cells n da.rows)))
    ≡ xor_cells (n - 1) (proj (n - 1) i (cells n a.rows)) (proj (n - 1) i (xor_cells n (cells n a.rows) (cells n da.rows)))
shadow_change_in zero i da a b l ed ea eb h = absurd (omega arith)
shadow_change_in (suc m) i da a b l ed ea eb h =
    let e : suc m - 1 ≡ m = omega arith in
    let D : List (List ℤ) = cells (suc m) da.rows in
    let same_proj : proj (da.dim - 1) i (cells_of da) ≡ proj m i D = ap (λ (k : ℕ). proj (k - 1) i (cells k da.rows)) ed ∙ ap (λ (k : ℕ). proj k i D) e in
    rw e (shadow_change m i (cells (suc m) a.rows) (cells (suc m) b.rows) D l (cell_set-cells (suc m) a.rows) (cell_set-cells (suc m) b.rows) (cell_set-cells (suc m) da.rows)
    (λ c k p. ap (λ (j : ℕ). has (cells j b.rows) (with_at i k c)) (sym eb) ∙ h c k (ap (λ S. has S c) same_proj ∙ p) ∙ ap (λ (j : ℕ). has (cells j a.rows) (with_at i k c)) ea))

-- the exclusive or of the projections, before and after, of what stands over the projection of the change
pub shadow_is : (axis : ℕ) (a da b o w s : Vertices) → da.dim ≡ a.dim → b.dim ≡ a.dim → 0 < axis → axis ≤ a.dim → AgreesOver (axis - 1) da a b
    → Shows (a.dim - 1) (proj (a.dim - 1) (axis - 1) (cells a.dim b.rows)) o
    → Shows (a.dim - 1) (proj (a.dim - 1) (axis - 1) (xor_cells a.dim (cells a.dim b.rows) (cells a.dim da.rows))) w
    → s.dim ≡ o.dim → s.rows ≡ xor_rows o.dim o.rows w.rows → s ≡ shape_change (Proj axis) a da
unfolding shape_change
shadow_is axis a da b o w s same eb low high agrees ho hw d r =
    let n : ℕ = a.dim in
    let i : ℕ = axis - 1 in
    let O : o.dim ≡ n - 1 = ho.dim in
    let dim : s.dim ≡ n - 1 = d ∙ O in
    let rows : s.rows ≡ evm (n - 1) (xor_cells (n - 1) (proj (n - 1) i (cells_of a)) (proj (n - 1) i (xor_cells n (cells_of a) (cells_of da)))) =
    r ∙ ap (λ (m : ℕ). xor_rows m o.rows w.rows) O ∙ xor_rows_is (n - 1) o.rows w.rows
    ∙ ap (evm (n - 1)) (ap₂ (xor_cells (n - 1)) ho.cells hw.cells
    ∙ shadow_change_in n i da a b (omega arith) same refl eb agrees
    ∙ ap (λ (m : ℕ). xor_cells (n - 1) (proj (n - 1) i (cells_of a)) (proj (n - 1) i (xor_cells n (cells_of a) (cells m da.rows)))) (sym same)) in
    λ j. record { dim = dim j; rows = rows j }
