-- What a projection looks at near a change changes only where the operand does, before or after; and in the range of the change
-- too, where the projection is not along the first axis.
use Rattle.std.proofs.Common.{◌≡◌, ℕ, zero, suc, ◌+◌, ◌-◌, ◌<◌, ◌≤◌, Bool, true, false, ◌&&◌, ◌==◌, if◌then◌else◌, List, [], ◌∷◌, length, filter, ℤ, refl, sym, ap, ◌∙◌, arith, ⊎_elim}
use Rattle.std.specs.List.{list_any}
use Rattle.std.proofs.lemmas.Bool.{eqb-false}
use Rattle.evm_cells.specs.Booleans.{xor_cells}
use Rattle.evm_cells.specs.Heights.{cut_count, spanned_cut_count}
use Rattle.evm_cells.specs.Limits.{point_coords, IsCellSet}
use Rattle.evm_cells.specs.Vertices.{cells}
use Rattle.evm_cells.proofs.Xor.{and_both}
use Rattle.evm_cells.proofs.Universe.{cell_set-cells}
use Rattle.evm_rows.specs.Rows.{Vertices, cells_of}
use Rattle.evm_steps.specs.Cuts.{cuts_of}
use Rattle.evm_delta.specs.declared.shapes.Op1.TheVariants.{Proj}
use Rattle.evm_delta.specs.Hulls.{HasColumnCuts}
use Rattle.evm_delta.specs.Shapes.{changed_cells}
use Rattle.evm_delta.specs.Steps.{shape_cuts}
use Rattle.evm_delta.proofs.HeightLaws.{changes, spanned, any_in, xor_changes, change_changes, fewer_cuts}
use Rattle.evm_delta.proofs.NearHeights.{less, cut_is, span_is}
use Rattle.evm_delta.proofs.ChangeHeights.{own_span, cuts_are_those}

-- whether an operand changes at a height, before or after
abbrev pub stands : ℕ → List (List ℤ) → List (List ℤ) → ℤ → Bool
stands m A DA h = list_any (λ S. changes m S h) (A ∷ xor_cells (suc m) A DA ∷ [])

-- it does, and if all does not say that the height may be anywhere, it is in the range of the change
abbrev pub Beside : Bool → ℕ → List (List ℤ) → List (List ℤ) → ℤ → Type 0
Beside all m A DA h = (stands m A DA h ≡ true) × (all ≡ false → spanned m (DA ∷ []) h ≡ true)

change_beside : (all : Bool) (m : ℕ) (A DA : List (List ℤ)) (h : ℤ) → IsCellSet (suc m) A → IsCellSet (suc m) DA → changes m DA h ≡ true → Beside all m A DA h
change_beside all m A DA h a d e =
    let test : List (List ℤ) → Bool = λ S. changes m S h in
    let B : List (List ℤ) = xor_cells (suc m) A DA in
    (⊎_elim (λ x. any_in test (A ∷ []) [] B x) (λ x. any_in test [] (B ∷ []) A x) (change_changes m A DA h a d e), λ f. own_span m DA h d e)

operand_beside : (all : Bool) (m : ℕ) (A DA : List (List ℤ)) (h : ℤ) → changes m A h ≡ true → (all ≡ false → spanned m (DA ∷ []) h ≡ true) → Beside all m A DA h
operand_beside all m A DA h e s = (any_in (λ S. changes m S h) [] (xor_cells (suc m) A DA ∷ []) A e, s)

-- ---- how many

-- the number of these heights
abbrev pub beside_count : Bool → Vertices → Vertices → ℕ
beside_count all a da =
    if all then cut_count a.dim (cells_of a ∷ changed_cells a da ∷ [])
    else spanned_cut_count a.dim (cells_of a ∷ changed_cells a da ∷ []) (cells_of da ∷ [])

few_beside : (all : Bool) (m : ℕ) (a da x : Vertices) → a.dim ≡ suc m → da.dim ≡ suc m → x.dim ≡ suc m
    → ((h : ℤ) → changes m (cells (suc m) x.rows) h ≡ true → Beside all m (cells (suc m) a.rows) (cells (suc m) da.rows) h)
    → length (cuts_of x) ≤ beside_count all a da
few_beside true m a da x ea eda ex f =
    let n : ℕ = suc m in
    let A : List (List ℤ) = cells n a.rows in
    let D : List (List ℤ) = cells n da.rows in
    let count : ℕ → ℕ → ℕ = λ (i : ℕ) (j : ℕ). cut_count i (cells i a.rows ∷ xor_cells i (cells i a.rows) (cells j da.rows) ∷ []) in
    let p : count a.dim da.dim ≡ length (filter (stands m A D) (point_coords n)) =
    ap (λ (i : ℕ). count i da.dim) ea ∙ ap (count n) eda ∙ ap (λ (k : ℕ). length (filter (λ h. list_any (λ S. changes k S h) (A ∷ xor_cells n A D ∷ [])) (point_coords n))) (less m) in
    let q = ap length (cuts_are_those m x ex) in
    let r = fewer_cuts m (cells n x.rows) (stands m A D) (λ h e. let b = f h e in b.0) in
    omega (arith, p, q, r)
few_beside false m a da x ea eda ex f =
    let n : ℕ = suc m in
    let A : List (List ℤ) = cells n a.rows in
    let D : List (List ℤ) = cells n da.rows in
    let test : ℕ → ℤ → Bool = λ (k : ℕ) (h : ℤ). list_any (λ S. changes k S h) (A ∷ xor_cells n A D ∷ []) && spanned k (D ∷ []) h in
    let count : ℕ → ℕ → ℕ = λ (i : ℕ) (j : ℕ). spanned_cut_count i (cells i a.rows ∷ xor_cells i (cells i a.rows) (cells j da.rows) ∷ []) (cells j da.rows ∷ []) in
    let p : count a.dim da.dim ≡ length (filter (test m) (point_coords n)) =
    ap (λ (i : ℕ). count i da.dim) ea ∙ ap (count n) eda ∙ ap (λ (k : ℕ). length (filter (test k) (point_coords n))) (less m) in
    let q = ap length (cuts_are_those m x ex) in
    let r = fewer_cuts m (cells n x.rows) (test m) (λ h e. let b = f h e in and_both (stands m A D h) (spanned m (D ∷ []) h) b.0 (b.1 refl)) in
    omega (arith, p, q, r)

-- ---- what a projection passes

window_beside : (axis m : ℕ) (a da s : Vertices) (h : ℤ) → 0 < axis → a.dim ≡ suc m → da.dim ≡ suc m → s.dim ≡ suc m → HasColumnCuts (axis - 1) da a s → changes m (cells (suc m) s.rows) h ≡ true
    → Beside (axis == 1) m (cells (suc m) a.rows) (cells (suc m) da.rows) h
window_beside axis m a da s h l ea eda es w e =
    let n : ℕ = suc m in
    ⊎_elim
    (λ x. change_beside (axis == 1) m (cells n a.rows) (cells n da.rows) h (cell_set-cells n a.rows) (cell_set-cells n da.rows) (sym (cut_is m da h eda) ∙ x))
    (λ z. operand_beside (axis == 1) m (cells n a.rows) (cells n da.rows) h (sym (cut_is m a h ea) ∙ z.0)
    (λ f. let k = eqb-false axis 1 f in sym (span_is m da h eda) ∙ z.1 (above axis l k)))
    (w h (cut_is m s h es ∙ e))
  where
    above : (i : ℕ) → 0 < i → (i ≡ 1 → ⊥) → 0 < i - 1
    above i l k = omega arith

-- v shows the window s before the change
pub shadow_steps : (n axis old new : ℕ) (a da s v : Vertices) → 0 < n → 0 < axis → a.dim ≡ n → da.dim ≡ n → s.dim ≡ a.dim → HasColumnCuts (axis - 1) da a s → v ≡ s
    → new ≡ old + length (cuts_of v) → new ≤ old + shape_cuts (Proj axis) a da
shadow_steps zero axis old new a da s v o l ea eda es w ev f = absurd (omega arith)
shadow_steps (suc m) axis old new a da s v o l ea eda es w ev f =
    let k = few_beside (axis == 1) m a da s ea eda (es ∙ ea) (λ h e. window_beside axis m a da s h l ea eda (es ∙ ea) w e) in
    let e = ap (λ (u : Vertices). length (cuts_of u)) ev in
    omega (arith, k, e, f)

-- y shows the window x after
pub shadow_steps_after : (n axis old new : ℕ) (a da s v x y : Vertices) → 0 < n → 0 < axis → a.dim ≡ n → da.dim ≡ n → s.dim ≡ a.dim → HasColumnCuts (axis - 1) da a s → v ≡ s
    → x.dim ≡ v.dim → cells_of x ≡ xor_cells v.dim (cells_of v) (cells v.dim da.rows) → y ≡ x
    → new ≡ old + length (cuts_of y) → new ≤ old + shape_cuts (Proj axis) a da
shadow_steps_after zero axis old new a da s v x y o l ea eda es w ev ex c ey f = absurd (omega arith)
shadow_steps_after (suc m) axis old new a da s v x y o l ea eda es w ev ex c ey f =
    let n : ℕ = suc m in
    let dim : x.dim ≡ n = ex ∙ ap (λ (u : Vertices). u.dim) ev ∙ es ∙ ea in
    let is : cells n x.rows ≡ xor_cells n (cells n s.rows) (cells n da.rows) =
    sym (ap (λ (k : ℕ). cells k x.rows) dim) ∙ c ∙ ap (λ (u : Vertices). xor_cells u.dim (cells_of u) (cells u.dim da.rows)) ev
    ∙ ap (λ (k : ℕ). xor_cells k (cells k s.rows) (cells k da.rows)) (es ∙ ea) in
    let k = few_beside (axis == 1) m a da x ea eda dim
    (λ h e. ⊎_elim (λ z. window_beside axis m a da s h l ea eda (es ∙ ea) w z)
    (λ z. change_beside (axis == 1) m (cells n a.rows) (cells n da.rows) h (cell_set-cells n a.rows) (cell_set-cells n da.rows) z)
    (xor_changes m (cells n s.rows) (cells n da.rows) h (cell_set-cells n s.rows) (cell_set-cells n da.rows) (sym (ap (λ T. changes m T h) is) ∙ e))) in
    let e = ap (λ (u : Vertices). length (cuts_of u)) ey in
    omega (arith, k, e, f)
