-- A window changes only where the change that it is taken for does, or where the tree does.
use Rattle.std.proofs.Common.{◌≡◌, ℕ, zero, suc, ◌+◌, ◌-◌, ◌<◌, ◌≤◌, inl, inr, true, List, [], ◌∷◌, length, take, get_or, slice_set, ℤ, pos, neg_ℤ, ◌<ℤ◌, sym, ap, ◌∙◌, arith, subst, ⊎_elim}
use Rattle.std.proofs.lemmas.Int.{ints as int_facts}
use Rattle.evm_cells.specs.Heights.{is_cut, is_spanned}
use Rattle.evm_cells.specs.Limits.{limit, is_point, is_point_coord}
use Rattle.evm_cells.specs.Shapes.{clip}
use Rattle.evm_cells.specs.Vertices.{cells, IsVertexList}
use Rattle.evm_cells.proofs.Slices.{coord}
use Rattle.evm_cells.proofs.Universe.{cell_set-cells}
use Rattle.evm_rows.specs.Rows.{Vertices, cells_of}
use Rattle.evm_cutting.specs.Hulls.{IsLow, IsHigh, IsAround}
use Rattle.evm_cutting.proofs.HullLaws.{row_point}
use Rattle.evm_delta.specs.Hulls.{IsOpenBox, HasNearCuts, HasColumnCuts}
use Rattle.evm_delta.proofs.HeightLaws.{changes, spanned, between_cuts, window_changes, open_window_changes, row_changes, first_is_low, last_is_high, all_get}
use Rattle.evm_delta.proofs.Columns.{set_around}

-- ---- solids of dimension m + 1

pub less : (m : ℕ) → suc m - 1 ≡ m
less m = omega arith

pub cut_is : (m : ℕ) (v : Vertices) (h : ℤ) → v.dim ≡ suc m → is_cut v.dim (cells_of v) h ≡ changes m (cells (suc m) v.rows) h
cut_is m v h e = ap (λ (k : ℕ). is_cut k (cells k v.rows) h) e ∙ ap (λ (k : ℕ). changes k (cells (suc m) v.rows) h) (less m)

pub span_is : (m : ℕ) (v : Vertices) (h : ℤ) → v.dim ≡ suc m → is_spanned v.dim (cells_of v ∷ []) h ≡ spanned m (cells (suc m) v.rows ∷ []) h
span_is m v h e = ap (λ (k : ℕ). is_spanned k (cells k v.rows ∷ []) h) e ∙ ap (λ (k : ℕ). spanned k (cells (suc m) v.rows ∷ []) h) (less m)

-- a solid that has the cells S
cut_of : (m : ℕ) (v : Vertices) (S : List (List ℤ)) (h : ℤ) → v.dim ≡ suc m → cells_of v ≡ S → is_cut v.dim (cells_of v) h ≡ changes m S h
cut_of m v S h d e = ap (λ (k : ℕ). is_cut k (cells_of v) h) d ∙ ap (λ (k : ℕ). changes k (cells_of v) h) (less m) ∙ ap (λ T. changes m T h) e

-- ---- the ends of the least box

pub end_is_cut : (n i : ℕ) (v : Vertices) (z : ℤ) → v.dim ≡ n → 0 < n → i < length v.rows → IsVertexList n v.rows → z ≡ coord 0 (get_or v.rows i []) → is_cut v.dim (cells_of v) z ≡ true
end_is_cut zero i v z d o l w e = absurd (omega arith)
end_is_cut (suc m) i v z d o l w e = ap (is_cut v.dim (cells_of v)) e ∙ cut_is m v (coord 0 (get_or v.rows i [])) d ∙ row_changes m v.rows i w l

pub ends_around : (n i : ℕ) (x y : ℤ) (lo hi : List ℤ) (v : Vertices) → v.dim ≡ n → 0 < n → i + 1 ≡ length v.rows → n ≤ length lo → n ≤ length hi → IsVertexList n v.rows
    → x ≡ coord 0 (get_or v.rows 0 []) → y ≡ coord 0 (get_or v.rows i []) → IsAround n lo hi v → IsAround n (slice_set lo 0 x) (slice_set hi 0 y) v
ends_around zero i x y lo hi v d o l ll lh w ex ey a = absurd (omega arith)
ends_around (suc m) i x y lo hi v d o l ll lh w ex ey a =
    let n : ℕ = suc m in
    set_around n 0 x y lo hi v ll lh
    (subst (λ z. IsLow 0 z v) (sym ex) (record {
      point = ap (λ (k : ℕ). is_point_coord k (coord 0 (get_or v.rows 0 []))) d ∙ row_point n 0 (get_or v.rows 0 []) o (all_get (is_point n) v.rows 0 w.points (omega arith));
      rows = first_is_low m v.rows w.ascends w.points;
    }))
    (subst (λ z. IsHigh 0 z v) (sym ey) (record {
      point = ap (λ (k : ℕ). is_point_coord k (coord 0 (get_or v.rows i []))) d ∙ row_point n 0 (get_or v.rows i []) o (all_get (is_point n) v.rows i w.points (omega arith));
      rows = last_is_high m v.rows i l w.ascends w.points;
    })) a

-- ---- the cuts of a window

pub near_cuts_are : (n : ℕ) (lo hi : List ℤ) (d t s : Vertices) → 0 < n → d.dim ≡ n → t.dim ≡ n → s.dim ≡ n → n ≤ length lo → n ≤ length hi
    → is_cut d.dim (cells_of d) (coord 0 lo) ≡ true → is_cut d.dim (cells_of d) (coord 0 hi) ≡ true
    → cells_of s ≡ clip n (take n lo) (take n hi) (cells n t.rows) → HasNearCuts d t s
near_cuts_are zero lo hi d t s o ed et es ll lh a b e h p = absurd (omega arith)
near_cuts_are (suc m) [] hi d t s o ed et es ll lh a b e h p = absurd (omega arith)
near_cuts_are (suc m) (l ∷ lo) [] d t s o ed et es ll lh a b e h p = absurd (omega arith)
near_cuts_are (suc m) (l ∷ lo) (u ∷ hi) d t s o ed et es ll lh a b e h p =
    let n : ℕ = suc m in
    let D : List (List ℤ) = cells n d.rows in
    let T : List (List ℤ) = cells n t.rows in
    let C : List (List ℤ) = clip n (l ∷ take m lo) (u ∷ take m hi) T in
    ⊎_elim
    (λ z. inl (⊎_elim (λ (x : h ≡ l). ap (is_cut d.dim (cells_of d)) x ∙ a) (λ (x : h ≡ u). ap (is_cut d.dim (cells_of d)) x ∙ b) z))
    (λ z. let above : l <ℤ h = z.1 in
    let under : h <ℤ u = z.2 in
    inr (
      cut_is m t h et ∙ z.0,
      span_is m d h ed
          ∙ between_cuts m D l u h (cell_set-cells n d.rows) (sym (cut_is m d l ed) ∙ a) (sym (cut_is m d u ed) ∙ b) (omega (arith, int_facts)) (omega (arith, int_facts)),
    ))
    (window_changes m l u h (take m lo) (take m hi) T (cell_set-cells n t.rows) (sym (cut_of m s C h es e) ∙ p))

-- of a window that is open along the first axis
pub open_cuts_are : (n : ℕ) (lo hi : List ℤ) (d t s : Vertices) → 0 < n → t.dim ≡ n → s.dim ≡ n → n ≤ length lo → n ≤ length hi
    → coord 0 lo ≡ neg_ℤ (pos (limit n)) → coord 0 hi ≡ pos (limit n)
    → cells_of s ≡ clip n (take n lo) (take n hi) (cells n t.rows) → (h : ℤ) → is_cut s.dim (cells_of s) h ≡ true → is_cut t.dim (cells_of t) h ≡ true
open_cuts_are zero lo hi d t s o et es ll lh a b e h p = absurd (omega arith)
open_cuts_are (suc m) [] hi d t s o et es ll lh a b e h p = absurd (omega arith)
open_cuts_are (suc m) (l ∷ lo) [] d t s o et es ll lh a b e h p = absurd (omega arith)
open_cuts_are (suc m) (l ∷ lo) (u ∷ hi) d t s o et es ll lh a b e h p =
    let n : ℕ = suc m in
    let T : List (List ℤ) = cells n t.rows in
    let C : List (List ℤ) = clip n (l ∷ take m lo) (u ∷ take m hi) T in
    cut_is m t h et ∙ open_window_changes m l u h (take m lo) (take m hi) T (cell_set-cells n t.rows) a b (sym (cut_of m s C h es e) ∙ p)

-- of a window in the opened box
pub column_cuts_are : (n i : ℕ) (lo hi : List ℤ) (d t s : Vertices) → 0 < n → d.dim ≡ n → t.dim ≡ n → s.dim ≡ n → n ≤ length lo → n ≤ length hi
    → IsOpenBox i lo hi d → cells_of s ≡ clip n (take n lo) (take n hi) (cells n t.rows) → HasColumnCuts i d t s
column_cuts_are n zero lo hi d t s o ed et es ll lh b e h p =
    inr (
      open_cuts_are n lo hi d t s o et es ll lh (b.low ∙ ap (λ (m : ℕ). neg_ℤ (pos (limit m))) ed) (b.high ∙ ap (λ (m : ℕ). pos (limit m)) ed) e h p,
      λ z. absurd (omega arith),
    )
column_cuts_are n (suc i) lo hi d t s o ed et es ll lh b e h p =
    ⊎_elim (λ q. inl q) (λ q. inr (q.0, λ z. q.1))
    (near_cuts_are n lo hi d t s o ed et es ll lh (b.first (omega arith)) (b.last (omega arith)) e h p)
