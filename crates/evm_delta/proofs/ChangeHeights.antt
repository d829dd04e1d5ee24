-- What a change looks at changes only where one of the operands does, before or after, in the range of the changes.
use Rattle.std.proofs.Common.{◌≡◌, ℕ, zero, suc, ◌+◌, ◌*◌, ◌-◌, ◌<◌, ◌≤◌, Bool, true, ◌&&◌, List, [], ◌∷◌, length, filter, ℤ, sym, ap, ◌∙◌, arith, ⊎_elim}
use Rattle.std.specs.List.{list_any}
use Rattle.std.proofs.lemmas.Int.{ints as int_facts}
use Rattle.evm_cells.specs.Booleans.{xor_cells}
use Rattle.evm_cells.specs.Heights.{spanned_cut_count}
use Rattle.evm_cells.specs.Limits.{point_coords, IsCellSet}
use Rattle.evm_cells.specs.Sections.{cuts}
use Rattle.evm_cells.specs.Vertices.{cells}
use Rattle.evm_cells.proofs.Xor.{and_both}
use Rattle.evm_cells.proofs.Universe.{cell_set-cells}
use Rattle.evm_rows.specs.Rows.{Vertices, cells_of}
use Rattle.evm_steps.specs.Cuts.{cuts_of}
use Rattle.evm_delta.specs.Hulls.{HasNearCuts}
use Rattle.evm_delta.specs.Steps.{near_cuts}
use Rattle.evm_delta.proofs.HeightLaws.{changes, spanned, any_in, spanned_in, between_cuts, xor_changes, change_changes, fewer_cuts}
use Rattle.evm_delta.proofs.NearHeights.{less, cut_is, span_is}

-- ---- cell sets

-- whether one of two operands changes at a height, before or after, in the range of their changes
abbrev pub near : ℕ → List (List ℤ) → List (List ℤ) → List (List ℤ) → List (List ℤ) → ℤ → Bool
near m A DA B DB h = list_any (λ S. changes m S h) (A ∷ xor_cells (suc m) A DA ∷ B ∷ xor_cells (suc m) B DB ∷ []) && spanned m (DA ∷ DB ∷ []) h

-- a change is in its own range
pub own_span : (m : ℕ) (D : List (List ℤ)) (h : ℤ) → IsCellSet (suc m) D → changes m D h ≡ true → spanned m (D ∷ []) h ≡ true
own_span m D h d e = between_cuts m D h h h d e e (omega (arith, int_facts)) (omega (arith, int_facts))

left_is_near : (m : ℕ) (A DA B DB : List (List ℤ)) (h : ℤ) → IsCellSet (suc m) A → IsCellSet (suc m) DA → changes m DA h ≡ true → near m A DA B DB h ≡ true
left_is_near m A DA B DB h a d e =
    let test : List (List ℤ) → Bool = λ S. changes m S h in
    let A' : List (List ℤ) = xor_cells (suc m) A DA in
    let B' : List (List ℤ) = xor_cells (suc m) B DB in
    and_both (list_any test (A ∷ A' ∷ B ∷ B' ∷ [])) (spanned m (DA ∷ DB ∷ []) h)
    (⊎_elim (λ x. any_in test (A ∷ []) (B ∷ B' ∷ []) A' x) (λ x. any_in test [] (A' ∷ B ∷ B' ∷ []) A x) (change_changes m A DA h a d e))
    (spanned_in m [] (DB ∷ []) DA h (own_span m DA h d e))

right_is_near : (m : ℕ) (A DA B DB : List (List ℤ)) (h : ℤ) → IsCellSet (suc m) B → IsCellSet (suc m) DB → changes m DB h ≡ true → near m A DA B DB h ≡ true
right_is_near m A DA B DB h b d e =
    let test : List (List ℤ) → Bool = λ S. changes m S h in
    let A' : List (List ℤ) = xor_cells (suc m) A DA in
    let B' : List (List ℤ) = xor_cells (suc m) B DB in
    and_both (list_any test (A ∷ A' ∷ B ∷ B' ∷ [])) (spanned m (DA ∷ DB ∷ []) h)
    (⊎_elim (λ x. any_in test (A ∷ A' ∷ B ∷ []) [] B' x) (λ x. any_in test (A ∷ A' ∷ []) (B' ∷ []) B x) (change_changes m B DB h b d e))
    (spanned_in m (DA ∷ []) [] DB h (own_span m DB h d e))

-- each operand in the range of the other's change
right_in_range : (m : ℕ) (A DA B DB : List (List ℤ)) (h : ℤ) → changes m B h ≡ true → spanned m (DA ∷ []) h ≡ true → near m A DA B DB h ≡ true
right_in_range m A DA B DB h e s =
    let test : List (List ℤ) → Bool = λ S. changes m S h in
    let A' : List (List ℤ) = xor_cells (suc m) A DA in
    let B' : List (List ℤ) = xor_cells (suc m) B DB in
    and_both (list_any test (A ∷ A' ∷ B ∷ B' ∷ [])) (spanned m (DA ∷ DB ∷ []) h)
    (any_in test (A ∷ A' ∷ []) (B' ∷ []) B e) (spanned_in m [] (DB ∷ []) DA h s)

left_in_range : (m : ℕ) (A DA B DB : List (List ℤ)) (h : ℤ) → changes m A h ≡ true → spanned m (DB ∷ []) h ≡ true → near m A DA B DB h ≡ true
left_in_range m A DA B DB h e s =
    let test : List (List ℤ) → Bool = λ S. changes m S h in
    let A' : List (List ℤ) = xor_cells (suc m) A DA in
    let B' : List (List ℤ) = xor_cells (suc m) B DB in
    and_both (list_any test (A ∷ A' ∷ B ∷ B' ∷ [])) (spanned m (DA ∷ DB ∷ []) h)
    (any_in test [] (A' ∷ B ∷ B' ∷ []) A e) (spanned_in m (DA ∷ []) [] DB h s)

-- ---- solids of dimension m + 1

pub cuts_are_those : (m : ℕ) (v : Vertices) → v.dim ≡ suc m → cuts_of v ≡ cuts m 0 (cells (suc m) v.rows)
cuts_are_those m v e = ap (λ (k : ℕ). cuts (k - 1) 0 (cells k v.rows)) e ∙ ap (λ (k : ℕ). cuts k 0 (cells (suc m) v.rows)) (less m)

-- the number of heights that are near
near_count : (m : ℕ) (a da b db : Vertices) → a.dim ≡ suc m → da.dim ≡ suc m → b.dim ≡ suc m → db.dim ≡ suc m
    → near_cuts a da b db ≡ length (filter (near m (cells (suc m) a.rows) (cells (suc m) da.rows) (cells (suc m) b.rows) (cells (suc m) db.rows)) (point_coords (suc m)))
near_count m a da b db ea eda eb edb =
    let n : ℕ = suc m in
    let count : ℕ → ℕ → ℕ → ℕ → ℕ = λ (i : ℕ) (j : ℕ) (k : ℕ) (l : ℕ).
    spanned_cut_count i (cells i a.rows ∷ xor_cells i (cells i a.rows) (cells j da.rows) ∷ cells k b.rows ∷ xor_cells k (cells k b.rows) (cells l db.rows) ∷ []) (cells j da.rows ∷ cells l db.rows ∷ []) in
    ap (λ (i : ℕ). count i da.dim b.dim db.dim) ea ∙ ap (λ (j : ℕ). count n j b.dim db.dim) eda ∙ ap (λ (k : ℕ). count n n k db.dim) eb ∙ ap (count n n n) edb
    ∙ ap (λ (k : ℕ). length (filter (λ h.
    list_any (λ S. changes k S h) (cells n a.rows ∷ xor_cells n (cells n a.rows) (cells n da.rows) ∷ cells n b.rows ∷ xor_cells n (cells n b.rows) (cells n db.rows) ∷ [])
    && spanned k (cells n da.rows ∷ cells n db.rows ∷ []) h) (point_coords n))) (less m)

-- a solid that changes only there has no more cuts
few_cuts : (m : ℕ) (a da b db x : Vertices) → a.dim ≡ suc m → da.dim ≡ suc m → b.dim ≡ suc m → db.dim ≡ suc m → x.dim ≡ suc m
    → ((h : ℤ) → changes m (cells (suc m) x.rows) h ≡ true → near m (cells (suc m) a.rows) (cells (suc m) da.rows) (cells (suc m) b.rows) (cells (suc m) db.rows) h ≡ true)
    → length (cuts_of x) ≤ near_cuts a da b db
few_cuts m a da b db x ea eda eb edb ex f =
    let n : ℕ = suc m in
    let p = near_count m a da b db ea eda eb edb in
    let q = ap length (cuts_are_those m x ex) in
    let r = fewer_cuts m (cells n x.rows) (near m (cells n a.rows) (cells n da.rows) (cells n b.rows) (cells n db.rows)) f in
    omega (arith, p, q, r)

left_window : (m : ℕ) (a da b db s : Vertices) (h : ℤ) → da.dim ≡ suc m → b.dim ≡ suc m → s.dim ≡ suc m → HasNearCuts da b s → changes m (cells (suc m) s.rows) h ≡ true
    → near m (cells (suc m) a.rows) (cells (suc m) da.rows) (cells (suc m) b.rows) (cells (suc m) db.rows) h ≡ true
left_window m a da b db s h eda eb es w e =
    let n : ℕ = suc m in
    ⊎_elim
    (λ x. left_is_near m (cells n a.rows) (cells n da.rows) (cells n b.rows) (cells n db.rows) h (cell_set-cells n a.rows) (cell_set-cells n da.rows) (sym (cut_is m da h eda) ∙ x))
    (λ z. right_in_range m (cells n a.rows) (cells n da.rows) (cells n b.rows) (cells n db.rows) h (sym (cut_is m b h eb) ∙ z.0) (sym (span_is m da h eda) ∙ z.1))
    (w h (cut_is m s h es ∙ e))

right_window : (m : ℕ) (a da b db s : Vertices) (h : ℤ) → a.dim ≡ suc m → db.dim ≡ suc m → s.dim ≡ suc m → HasNearCuts db a s → changes m (cells (suc m) s.rows) h ≡ true
    → near m (cells (suc m) a.rows) (cells (suc m) da.rows) (cells (suc m) b.rows) (cells (suc m) db.rows) h ≡ true
right_window m a da b db s h ea edb es w e =
    let n : ℕ = suc m in
    ⊎_elim
    (λ x. right_is_near m (cells n a.rows) (cells n da.rows) (cells n b.rows) (cells n db.rows) h (cell_set-cells n b.rows) (cell_set-cells n db.rows) (sym (cut_is m db h edb) ∙ x))
    (λ z. left_in_range m (cells n a.rows) (cells n da.rows) (cells n b.rows) (cells n db.rows) h (sym (cut_is m a h ea) ∙ z.0) (sym (span_is m db h edb) ∙ z.1))
    (w h (cut_is m s h es ∙ e))

-- ---- the cuts of what the two parts of a change look at

-- the left change and the window s of the right operand before
left_few : (n : ℕ) (a da b db s : Vertices) → 0 < n → a.dim ≡ n → da.dim ≡ n → b.dim ≡ n → db.dim ≡ n → s.dim ≡ n → HasNearCuts da b s
    → length (cuts_of da) + length (cuts_of s) ≤ 2 * near_cuts a da b db
left_few zero a da b db s o ea eda eb edb es w = absurd (omega arith)
left_few (suc m) a da b db s o ea eda eb edb es w =
    let n : ℕ = suc m in
    let p = few_cuts m a da b db da ea eda eb edb eda (λ h e. left_is_near m (cells n a.rows) (cells n da.rows) (cells n b.rows) (cells n db.rows) h (cell_set-cells n a.rows) (cell_set-cells n da.rows) e) in
    let q = few_cuts m a da b db s ea eda eb edb es (λ h e. left_window m a da b db s h eda eb es w e) in
    omega (arith, p, q)

-- and the window x after
left_few_after : (n : ℕ) (a da b db s x : Vertices) → 0 < n → a.dim ≡ n → da.dim ≡ n → b.dim ≡ n → db.dim ≡ n → s.dim ≡ n → x.dim ≡ s.dim → HasNearCuts da b s
    → cells_of x ≡ xor_cells s.dim (cells_of s) (cells s.dim db.rows) → length (cuts_of da) + length (cuts_of x) ≤ 2 * near_cuts a da b db
left_few_after zero a da b db s x o ea eda eb edb es ex w c = absurd (omega arith)
left_few_after (suc m) a da b db s x o ea eda eb edb es ex w c =
    let n : ℕ = suc m in
    let is : cells n x.rows ≡ xor_cells n (cells n s.rows) (cells n db.rows) = sym (ap (λ (k : ℕ). cells k x.rows) (ex ∙ es)) ∙ c ∙ ap (λ (k : ℕ). xor_cells k (cells k s.rows) (cells k db.rows)) es in
    let p = few_cuts m a da b db da ea eda eb edb eda (λ h e. left_is_near m (cells n a.rows) (cells n da.rows) (cells n b.rows) (cells n db.rows) h (cell_set-cells n a.rows) (cell_set-cells n da.rows) e) in
    let q = few_cuts m a da b db x ea eda eb edb (ex ∙ es)
    (λ h e. ⊎_elim (λ z. left_window m a da b db s h eda eb es w z)
    (λ z. right_is_near m (cells n a.rows) (cells n da.rows) (cells n b.rows) (cells n db.rows) h (cell_set-cells n b.rows) (cell_set-cells n db.rows) z)
    (xor_changes m (cells n s.rows) (cells n db.rows) h (cell_set-cells n s.rows) (cell_set-cells n db.rows) (sym (ap (λ T. changes m T h) is) ∙ e))) in
    omega (arith, p, q)

-- the window s of the left operand and the right change
right_few : (n : ℕ) (a da b db s : Vertices) → 0 < n → a.dim ≡ n → da.dim ≡ n → b.dim ≡ n → db.dim ≡ n → s.dim ≡ n → HasNearCuts db a s
    → length (cuts_of s) + length (cuts_of db) ≤ 2 * near_cuts a da b db
right_few zero a da b db s o ea eda eb edb es w = absurd (omega arith)
right_few (suc m) a da b db s o ea eda eb edb es w =
    let n : ℕ = suc m in
    let p = few_cuts m a da b db db ea eda eb edb edb (λ h e. right_is_near m (cells n a.rows) (cells n da.rows) (cells n b.rows) (cells n db.rows) h (cell_set-cells n b.rows) (cell_set-cells n db.rows) e) in
    let q = few_cuts m a da b db s ea eda eb edb es (λ h e. right_window m a da b db s h ea edb es w e) in
    omega (arith, p, q)

-- ---- so many steps: v shows the window s, and y the window x after

pub left_steps : (n old new : ℕ) (a da b db s v : Vertices) → 0 < n → a.dim ≡ n → da.dim ≡ n → b.dim ≡ n → db.dim ≡ n → s.dim ≡ b.dim → HasNearCuts da b s → v ≡ s
    → new ≤ old + (length (cuts_of da) + length (cuts_of v)) → new ≤ old + 2 * near_cuts a da b db
left_steps n old new a da b db s v o ea eda eb edb es w ev f =
    let k = left_few n a da b db s o ea eda eb edb (es ∙ eb) w in
    let e = ap (λ (u : Vertices). length (cuts_of u)) ev in
    omega (arith, k, e, f)

pub left_steps_after : (n old new : ℕ) (a da b db s v x y : Vertices) → 0 < n → a.dim ≡ n → da.dim ≡ n → b.dim ≡ n → db.dim ≡ n → s.dim ≡ b.dim → HasNearCuts da b s → v ≡ s
    → x.dim ≡ v.dim → cells_of x ≡ xor_cells v.dim (cells_of v) (cells v.dim db.rows) → y ≡ x
    → new ≤ old + (length (cuts_of da) + length (cuts_of y)) → new ≤ old + 2 * near_cuts a da b db
left_steps_after n old new a da b db s v x y o ea eda eb edb es w ev ex c ey f =
    let of_window : xor_cells v.dim (cells_of v) (cells v.dim db.rows) ≡ xor_cells s.dim (cells_of s) (cells s.dim db.rows) = ap (λ (u : Vertices). xor_cells u.dim (cells_of u) (cells u.dim db.rows)) ev in
    let k = left_few_after n a da b db s x o ea eda eb edb (es ∙ eb) (ex ∙ ap (λ (u : Vertices). u.dim) ev) w (c ∙ of_window) in
    let e = ap (λ (u : Vertices). length (cuts_of u)) ey in
    omega (arith, k, e, f)

pub right_steps : (n old new : ℕ) (a da b db s v : Vertices) → 0 < n → a.dim ≡ n → da.dim ≡ n → b.dim ≡ n → db.dim ≡ n → s.dim ≡ a.dim → HasNearCuts db a s → v ≡ s
    → new ≤ old + (length (cuts_of v) + length (cuts_of db)) → new ≤ old + 2 * near_cuts a da b db
right_steps n old new a da b db s v o ea eda eb edb es w ev f =
    let k = right_few n a da b db s o ea eda eb edb (es ∙ ea) w in
    let e = ap (λ (u : Vertices). length (cuts_of u)) ev in
    omega (arith, k, e, f)
