-- Where a box is open along an axis, the projection along it of what is inside is what the projection has in the box without it.
use Rattle.std.proofs.Common.{◌≡◌, ℕ, zero, suc, ◌-◌, ◌<◌, ◌≤◌, Bool, true, false, ◌&&◌, List, [], ◌∷◌, ◌++◌, length, take, ℤ, pos, neg_ℤ, int_le, int_lt, refl, sym, ap, ap₂, ◌∙◌, arith, subst}
use Rattle.std.specs.List.{list_any, list_all, remove}
use Rattle.std.proofs.lemmas.Bool.{false≢true}
use Rattle.std.proofs.lemmas.Int.{ints as int_facts}
use Rattle.evm_cells.specs.Places.{each, has, with_at, without}
use Rattle.evm_cells.specs.Limits.{limit, cell_coords, is_cell, is_point, is_point_coord, IsCellSet}
use Rattle.evm_cells.specs.Boxes.{is_box}
use Rattle.evm_cells.specs.Shapes.{clip, proj}
use Rattle.evm_cells.proofs.Xor.{and_first, and_second, and_both}
use Rattle.evm_cells.proofs.Lists.{all_weaker, any-and_right}
use Rattle.evm_cells.proofs.Coords.{le_yes, lt_yes, cell_is, point_coord-falls}
use Rattle.evm_cells.specs.Vertices.{cells, IsVertexList}
use Rattle.evm_cells.proofs.Universe.{same_sets, cell_parts, point_parts, point_from, member_passes, cell_set-cells}
use Rattle.evm_cells.proofs.Insides.{cell_set-clip, has-clip_of}
use Rattle.evm_cells.proofs.Slices.{coord, each-with_at, length-with_at, all-with_at, cell_of_with_at}
use Rattle.evm_cells.proofs.Lifts.{with_at-without, cell_set-proj}
use Rattle.evm_rows.specs.Rows.{Vertices, cells_of}
use Rattle.evm_cutting.proofs.Planes.{long, each_flip}
use Rattle.evm_cutting.proofs.HullLaws.{coord-take, is_hull}
use Rattle.evm_cutting.specs.Hulls.{IsAround}
use Rattle.evm_delta.proofs.ShadowLaws.{has-proj}
use Rattle.evm_delta.specs.Hulls.{IsOpenBox, AgreesOver, HasColumnCuts}
use Rattle.evm_delta.proofs.Shadows.{Shows}
use Rattle.evm_delta.proofs.Columns.{columns_agree}
use Rattle.evm_delta.proofs.NearHeights.{column_cuts_are}

after : ℤ → ℤ → Bool
after s t = int_lt t s

-- whether a place of the column over c is in the box
column : (m i : ℕ) (P Q c : List ℤ) (k : ℤ) → i < suc m → length P ≡ suc m → length Q ≡ suc m → coord i P ≡ neg_ℤ (pos (limit (suc m))) → coord i Q ≡ pos (limit (suc m))
    → is_cell (suc m) (with_at i k c) ≡ true
    → (each int_le (without i P) c && each int_lt c (without i Q)) ≡ (is_cell (suc m) (with_at i k c) && (each int_le P (with_at i k c) && each int_lt (with_at i k c) Q))
unfolding after
column m i P Q c k l lp lq ep eq q =
    let n : ℕ = suc m in
    let x : List ℤ = with_at i k c in
    let (height, base) = cell_of_with_at m i k c q in
    let (wide, coords) = cell_parts m c base in
    let (above, below) = cell_is n k height in
    let low : each int_le P x ≡ each int_le (without i P) c =
    each-with_at int_le i k P c (omega (arith, lp)) (omega (arith, lp, wide))
    ∙ ap (λ t. t && each int_le (without i P) c) (le_yes (coord i P) k (omega (arith, int_facts, ep, above))) in
    let high : each int_lt x Q ≡ each int_lt c (without i Q) =
    each_flip int_lt x Q
    ∙ each-with_at after i k Q c (omega (arith, lq)) (omega (arith, lq, wide))
    ∙ ap (λ t. t && each after (without i Q) c) (lt_yes k (coord i Q) (omega (arith, int_facts, eq, below)))
    ∙ sym (each_flip int_lt c (without i Q)) in
    sym (ap (λ t. t && (each int_le P x && each int_lt x Q)) q ∙ ap₂ (λ s t. s && t) low high)

pub proj_of_clip : (m i : ℕ) (P Q : List ℤ) (T : List (List ℤ)) → i < suc m → length P ≡ suc m → length Q ≡ suc m → coord i P ≡ neg_ℤ (pos (limit (suc m))) → coord i Q ≡ pos (limit (suc m)) → IsCellSet (suc m) T
    → clip m (without i P) (without i Q) (proj m i T) ≡ proj m i (clip (suc m) P Q T)
proj_of_clip m i P Q T l lp lq ep eq s =
    let a : IsCellSet m (clip m (without i P) (without i Q) (proj m i T)) = cell_set-clip m (without i P) (without i Q) (proj m i T) in
    let b : IsCellSet m (proj m i C) = cell_set-proj m i C in
    same_sets (clip m (without i P) (without i Q) (proj m i T)) (proj m i C) a.ascends b.ascends
    (λ c. has-clip_of m (without i P) (without i Q) (proj m i T) c (cell_set-proj m i T)
    ∙ ap (λ t. t && (is_cell m c && inside c)) (has-proj m i T c l s)
    ∙ with_cell (is_cell m c) (list_any (λ k. has T (with_at i k c)) (cell_coords n)) (inside c) (list_any (λ k. has C (with_at i k c)) (cell_coords n))
    (sym (any-and_right (λ k. has T (with_at i k c)) (inside c) (cell_coords n)) ∙ ap (λ f. list_any f (cell_coords n)) (λ j k. at c k j))
    ∙ sym (has-proj m i C c l (cell_set-clip n P Q T)))
  where
    n : ℕ
    n = suc m

    C : List (List ℤ)
    C = clip n P Q T

    inside : List ℤ → Bool
    inside c = each int_le (without i P) c && each int_lt c (without i Q)

    with_cell : (c f w g : Bool) → (f && w) ≡ g → ((c && f) && (c && w)) ≡ (c && g)
    with_cell true f w g e = e
    with_cell false f w g e = refl

    where_it_has : (t u v : Bool) → (t ≡ true → u ≡ v) → (t && u) ≡ (t && v)
    where_it_has true u v f = f refl
    where_it_has false u v f = refl

    at : (c : List ℤ) (k : ℤ) → (has T (with_at i k c) && inside c) ≡ has C (with_at i k c)
    at c k =
        where_it_has (has T (with_at i k c)) (inside c) (is_cell n (with_at i k c) && (each int_le P (with_at i k c) && each int_lt (with_at i k c) Q))
        (λ h. column m i P Q c k l lp lq ep eq (member_passes (is_cell n) T (with_at i k c) s.cells h))
        ∙ sym (has-clip_of n P Q T (with_at i k c) s)

-- ---- the box without the axis

point_without : (m i : ℕ) (p : List ℤ) → i < suc m → is_point (suc m) p ≡ true → is_point m (without i p) ≡ true
point_without m i p l h =
    let (e, a) = point_parts (suc m) p h in
    let whole = with_at-without i p (omega (arith, e)) in
    let wide : suc (length (without i p)) ≡ length p = sym (length-with_at i (coord i p) (without i p)) ∙ ap length whole in
    let split = sym (all-with_at (is_point_coord (suc m)) i (coord i p) (without i p)) ∙ ap (list_all (is_point_coord (suc m))) whole ∙ a in
    point_from m (without i p) (omega (arith, wide, e))
    (all_weaker (is_point_coord (suc m)) (is_point_coord m) (point_coord-falls m) (without i p)
    (and_second (is_point_coord (suc m) (coord i p)) (list_all (is_point_coord (suc m)) (without i p)) split))

each_without : (r : ℤ → ℤ → Bool) (i : ℕ) (p q : List ℤ) → each r p q ≡ true → each r (without i p) (without i q) ≡ true
unfolding each without
each_without r i [] [] h = refl
each_without r i [] (y ∷ q) h = absurd (false≢true h)
each_without r i (x ∷ p) [] h = absurd (false≢true h)
each_without r zero (x ∷ p) (y ∷ q) h = and_second (r x y) (each r p q) h
each_without r (suc i) (x ∷ p) (y ∷ q) h =
    and_both (r x y) (each r (without i p) (without i q)) (and_first (r x y) (each r p q) h) (each_without r i p q (and_second (r x y) (each r p q) h))

pub box_without : (m i : ℕ) (P Q : List ℤ) → i < suc m → is_box (suc m) P Q ≡ true → is_box m (without i P) (without i Q) ≡ true
box_without m i P Q l h =
    let n : ℕ = suc m in
    let ends = and_first (is_point n P && is_point n Q) (each int_lt P Q) h in
    and_both (is_point m (without i P) && is_point m (without i Q)) (each int_lt (without i P) (without i Q))
    (and_both (is_point m (without i P)) (is_point m (without i Q))
    (point_without m i P l (and_first (is_point n P) (is_point n Q) ends)) (point_without m i Q l (and_second (is_point n P) (is_point n Q) ends)))
    (each_without int_lt i P Q (and_second (is_point n P && is_point n Q) (each int_lt P Q) h))

-- ---- moving up

take_front : (m : ℕ) (xs ys : List ℤ) → m ≤ length xs → take m (xs ++ ys) ≡ take m xs
take_front zero xs ys l = refl
take_front (suc m) [] ys l = absurd (omega arith)
take_front (suc m) (x ∷ xs) ys l = ap (λ t. x ∷ t) (take_front m xs ys (omega arith))

moved : (m i : ℕ) (xs ys : List ℤ) → i ≤ m → suc m ≤ length xs → take m (remove xs i ++ ys) ≡ without i (take (suc m) xs)
unfolding without
moved m i [] ys l w = absurd (omega arith)
moved m zero (x ∷ xs) ys l w = take_front m xs ys (omega arith)
moved zero (suc i) (x ∷ xs) ys l w = absurd (omega arith)
moved (suc m) (suc i) (x ∷ xs) ys l w = ap (λ t. x ∷ t) (moved m i xs ys (omega arith) (omega arith))

-- the first numbers of a list from which one is taken out
pub moved_up : (axis n : ℕ) (xs ys zs : List ℤ) → 0 < axis → axis ≤ n → n ≤ length xs → zs ≡ remove xs (axis - 1) ++ ys → take (n - 1) zs ≡ without (axis - 1) (take n xs)
moved_up axis zero xs ys zs o l w e = absurd (omega arith)
moved_up axis (suc m) xs ys zs o l w e =
    let less : suc m - 1 ≡ m = omega arith in
    ap (λ (k : ℕ). take k zs) less ∙ ap (take m) e ∙ moved m (axis - 1) xs ys (omega arith) w

-- ---- the same, with the dimension of the solid

pub box_below : (n i : ℕ) (P Q : List ℤ) → i < n → is_box n P Q ≡ true → is_box (n - 1) (without i P) (without i Q) ≡ true
box_below zero i P Q l h = absurd (omega arith)
box_below (suc m) i P Q l h = let e : suc m - 1 ≡ m = omega arith in rw e (box_without m i P Q l h)

window_below : (n i : ℕ) (P Q : List ℤ) (T : List (List ℤ)) → i < n → length P ≡ n → length Q ≡ n → coord i P ≡ neg_ℤ (pos (limit n)) → coord i Q ≡ pos (limit n) → IsCellSet n T
    → clip (n - 1) (without i P) (without i Q) (proj (n - 1) i T) ≡ proj (n - 1) i (clip n P Q T)
window_below zero i P Q T l lp lq ep eq s = absurd (omega arith)
window_below (suc m) i P Q T l lp lq ep eq s = let e : suc m - 1 ≡ m = omega arith in rw e (proj_of_clip m i P Q T l lp lq ep eq s)

-- ---- what a solid has in the opened box of a change

pub open_is_box : (n i : ℕ) (lo hi : List ℤ) (d : Vertices) → d.dim ≡ n → n ≤ 6 → IsVertexList d.dim d.rows → 0 < length d.rows → IsOpenBox i lo hi d → is_box n (take n lo) (take n hi) ≡ true
open_is_box n i lo hi d ed small w some b =
    is_hull n lo hi d ed (omega (arith, small, b.long_low)) (omega (arith, small, b.long_high)) (subst (λ (m : ℕ). IsVertexList m d.rows) ed w) (λ e. let z = ap length e in absurd (omega (arith, some, z)))
    (subst (λ (m : ℕ). IsAround m lo hi d) ed b.around)

pub open_agrees : (n i : ℕ) (lo hi : List ℤ) (d t s : Vertices) → d.dim ≡ n → t.dim ≡ n → i < n → n ≤ 6 → IsVertexList d.dim d.rows → IsOpenBox i lo hi d
    → cells_of s ≡ clip n (take n lo) (take n hi) (cells n t.rows) → AgreesOver i d t s
open_agrees n i lo hi d t s ed et l small w b e =
    columns_agree n i lo hi d t s ed et l (omega (arith, small, b.long_low)) (omega (arith, small, b.long_high)) (subst (λ (m : ℕ). IsVertexList m d.rows) ed w)
    (subst (λ (m : ℕ). IsAround m lo hi d) ed b.around) (b.low ∙ ap (λ (m : ℕ). neg_ℤ (pos (limit m))) ed) (b.high ∙ ap (λ (m : ℕ). pos (limit m)) ed) e

pub open_cuts : (n i : ℕ) (lo hi : List ℤ) (d t s : Vertices) → d.dim ≡ n → t.dim ≡ n → s.dim ≡ n → 0 < n → n ≤ 6 → IsOpenBox i lo hi d
    → cells_of s ≡ clip n (take n lo) (take n hi) (cells n t.rows) → HasColumnCuts i d t s
open_cuts n i lo hi d t s ed et es o small b e = column_cuts_are n i lo hi d t s o ed et es (omega (arith, small, b.long_low)) (omega (arith, small, b.long_high)) b e

-- the projection of what the solid a has there is what its projection has in the box without the axis
pub shows_below : (n i : ℕ) (lo hi p q : List ℤ) (d a own w s : Vertices) → d.dim ≡ n → i < n → n ≤ 6 → IsOpenBox i lo hi d
    → own.dim ≡ n - 1 → cells_of own ≡ proj (n - 1) i (cells n a.rows) → p ≡ without i (take n lo) → q ≡ without i (take n hi)
    → cells n w.rows ≡ clip n (take n lo) (take n hi) (cells n a.rows) → s.dim ≡ own.dim → cells_of s ≡ clip own.dim p q (cells_of own)
    → Shows (n - 1) (proj (n - 1) i (cells n w.rows)) s
shows_below n i lo hi p q d a own w s ed l small b od oc ep eq ew sd sc =
    let dim : s.dim ≡ n - 1 = sd ∙ od in
    let long_lo : length (take n lo) ≡ n = long n lo (omega (arith, small, b.long_low)) in
    let long_hi : length (take n hi) ≡ n = long n hi (omega (arith, small, b.long_high)) in
    let low : coord i (take n lo) ≡ neg_ℤ (pos (limit n)) = coord-take n i lo l ∙ b.low ∙ ap (λ (m : ℕ). neg_ℤ (pos (limit m))) ed in
    let high : coord i (take n hi) ≡ pos (limit n) = coord-take n i hi l ∙ b.high ∙ ap (λ (m : ℕ). pos (limit m)) ed in
    record {
      dim = dim;
      cells = ap (λ (k : ℕ). cells k s.rows) (sym dim) ∙ sc ∙ ap (λ (k : ℕ). clip k p q (cells_of own)) od ∙ ap (clip (n - 1) p q) oc
          ∙ ap₂ (λ x y. clip (n - 1) x y (proj (n - 1) i (cells n a.rows))) ep eq
          ∙ window_below n i (take n lo) (take n hi) (cells n a.rows) l long_lo long_hi low high (cell_set-cells n a.rows)
          ∙ ap (proj (n - 1) i) (sym ew);
    }
