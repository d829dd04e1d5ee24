-- A box that is opened by 1 on every side holds all that is within 1 of what it held.
use Rattle.std.proofs.Common.{◌≡◌, ℕ, zero, suc, ◌<◌, ◌≤◌, ◌<ℤ◌, ◌≤ℤ◌, Bool, true, ◌&&◌, List, [], ◌∷◌, length, take, ℤ, pos, neg_ℤ, ◌+ℤ◌, int_le, int_lt, sym, ap, ap₂, ◌∙◌, arith, subst, slice_set, ◌+◌, ◌≢◌, below_more}
use Rattle.std.proofs.lemmas.Int.{ints as int_facts}
use Rattle.std.proofs.lemmas.Bool.{false≢true}
use Rattle.std.proofs.lemmas.List.{get_or-set_other, get_or-set_same}
use Rattle.evm_cells.specs.Places.{each}
use Rattle.evm_cells.specs.Limits.{limit, is_point, is_point_coord, is_cell, is_cell_coord}
use Rattle.evm_cells.specs.Boxes.{is_box}
use Rattle.evm_cells.specs.Vertices.{cells, IsVertexList}
use Rattle.evm_cells.specs.Localities.{close, near}
use Rattle.evm_cells.proofs.Xor.{and_first, and_second, and_both}
use Rattle.evm_cells.proofs.Coords.{le_is, le_yes, lt_is, lt_yes, cell_is, point_is, point_yes}
use Rattle.evm_cells.proofs.Universe.{point_from, cell_parts}
use Rattle.evm_cells.proofs.Slices.{coord, all-coord}
use Rattle.evm_rows.specs.Rows.{Vertices}
use Rattle.evm_cutting.proofs.Planes.{long}
use Rattle.evm_cutting.specs.Hulls.{IsAround}
use Rattle.evm_cutting.proofs.HullLaws.{each_at, all_at, coord-take, is_hull, is_inside}
use Rattle.evm_watch.specs.Parts.{IsLower, IsHigher, HoldsNear}

-- the box from a to b, opened on the first k axes
pub record IsOpened (n k : ℕ) (a b lo hi : List ℤ) : Type 0 where
  pub low : (i : ℕ) → i < k → IsLower n (coord i a) (coord i lo)
  pub high : (i : ℕ) → i < k → IsHigher n (coord i b) (coord i hi)

pub opened_more : (n k : ℕ) (a b lo hi : List ℤ) (x y : ℤ) → k < length lo → k < length hi → IsOpened n k a b lo hi → IsLower n (coord k a) x → IsHigher n (coord k b) y → IsOpened n (k + 1) a b (slice_set lo k x) (slice_set hi k y)
opened_more n k a b lo hi x y l h o p q = record {
  low = below_more (λ i. IsLower n (coord i a) (coord i (slice_set lo k x))) k
      (λ i m. let ne : i ≢ k = omega arith in subst (IsLower n (coord i a)) (sym (get_or-set_other lo k i x (pos 0) ne)) (o.low i m))
      (subst (IsLower n (coord k a)) (sym (get_or-set_same lo k x (pos 0) l)) p);
  high = below_more (λ i. IsHigher n (coord i b) (coord i (slice_set hi k y))) k
      (λ i m. let ne : i ≢ k = omega arith in subst (IsHigher n (coord i b)) (sym (get_or-set_other hi k i y (pos 0) ne)) (o.high i m))
      (subst (IsHigher n (coord k b)) (sym (get_or-set_same hi k y (pos 0) h)) q);
}

pub opened_none : (n : ℕ) (a b lo hi : List ℤ) → IsOpened n 0 a b lo hi
opened_none n a b lo hi = record { low = λ i l. absurd (omega arith); high = λ i l. absurd (omega arith) }

pub opened_end : (n m k : ℕ) (a b lo hi : List ℤ) → m ≡ n → m ≤ k → IsOpened m k a b lo hi → IsOpened n n a b lo hi
opened_end n m k a b lo hi e l o = record {
  low = λ i t. subst (λ (j : ℕ). IsLower j (coord i a) (coord i lo)) e (o.low i (omega arith));
  high = λ i t. subst (λ (j : ℕ). IsHigher j (coord i b) (coord i hi)) e (o.high i (omega arith));
}

each_coord : (r : ℤ → ℤ → Bool) (p q : List ℤ) (i : ℕ) → i < length p → each r p q ≡ true → r (coord i p) (coord i q) ≡ true
unfolding each
each_coord r [] q i l h = absurd (omega arith)
each_coord r (x ∷ p) [] i l h = absurd (false≢true h)
each_coord r (x ∷ p) (y ∷ q) zero l h = and_first (r x y) (each r p q) h
each_coord r (x ∷ p) (y ∷ q) (suc i) l h = each_coord r p q i (omega arith) (and_second (r x y) (each r p q) h)

close_parts : (x y : ℤ) → close x y ≡ true → (x ≤ℤ (y +ℤ pos 1)) × (y ≤ℤ (x +ℤ pos 1))
unfolding close
close_parts x y h = (
  le_is x (y +ℤ pos 1) (and_first (int_le x (y +ℤ pos 1)) (int_le y (x +ℤ pos 1)) h),
  le_is y (x +ℤ pos 1) (and_second (int_le x (y +ℤ pos 1)) (int_le y (x +ℤ pos 1)) h),
)

near_coord : (c d : List ℤ) (i : ℕ) → i < length c → near c d ≡ true → (coord i c ≤ℤ (coord i d +ℤ pos 1)) × (coord i d ≤ℤ (coord i c +ℤ pos 1))
unfolding near
near_coord c d i l h = close_parts (coord i c) (coord i d) (each_coord close c d i l h)

pub opened_box : (n : ℕ) (a b lo hi : List ℤ) (v : Vertices) → v.dim ≡ n → n ≤ length a → n ≤ length b → n ≤ length lo → n ≤ length hi → IsVertexList n v.rows → (v.rows ≡ [] → ⊥) → IsAround n a b v → IsOpened n n a b lo hi
    → is_box n (take n lo) (take n hi) ≡ true
opened_box n a b lo hi v d la lb ll lh w some r o =
    let room : each int_lt (take n a) (take n b) ≡ true = and_second (is_point n (take n a) && is_point n (take n b)) (each int_lt (take n a) (take n b)) (is_hull n a b v d la lb w some r) in
    let l : length (take n lo) ≡ n = long n lo ll in
    let h : length (take n hi) ≡ n = long n hi lh in
    let k : length (take n a) ≡ n = long n a la in
    let between : (i : ℕ) → i < n → coord i a <ℤ coord i b = λ i j. lt_is (coord i a) (coord i b) (sym (ap₂ int_lt (coord-take n i a j) (coord-take n i b j)) ∙ each_coord int_lt (take n a) (take n b) i (omega (arith, k)) room) in
    let point : ℤ → Bool = is_point_coord n in
    let first : (i : ℕ) → i < n → (neg_ℤ (pos (limit n)) ≤ℤ coord i a) × (coord i a ≤ℤ pos (limit n)) = λ i j. let q = r.low i j in point_is n (coord i a) (ap (λ (m : ℕ). is_point_coord m (coord i a)) (sym d) ∙ q.point) in
    let last : (i : ℕ) → i < n → (neg_ℤ (pos (limit n)) ≤ℤ coord i b) × (coord i b ≤ℤ pos (limit n)) = λ i j. let q = r.high i j in point_is n (coord i b) (ap (λ (m : ℕ). is_point_coord m (coord i b)) (sym d) ∙ q.point) in
    and_both (is_point n (take n lo) && is_point n (take n hi)) (each int_lt (take n lo) (take n hi))
    (and_both (is_point n (take n lo)) (is_point n (take n hi))
    (point_from n (take n lo) l (all_at point (take n lo)
    (λ i j. let t : i < n = omega arith in
    let q = o.low i t in
    let q_least = q.least in
    let q_below = q.below in
    let (f_low, f_high) = first i t in
    ap point (coord-take n i lo t) ∙ point_yes n (coord i lo) q_least (omega (arith, int_facts)))))
    (point_from n (take n hi) h (all_at point (take n hi)
    (λ i j. let t : i < n = omega arith in
    let q = o.high i t in
    let q_largest = q.largest in
    let q_above = q.above in
    let (f_low, f_high) = last i t in
    ap point (coord-take n i hi t) ∙ point_yes n (coord i hi) (omega (arith, int_facts)) q_largest))))
    (each_at int_lt (take n lo) (take n hi) (l ∙ sym h)
    (λ i j. let t : i < n = omega arith in
    let p = o.low i t in
    let q = o.high i t in
    let p_below = p.below in
    let q_above = q.above in
    let s = between i t in
    ap₂ int_lt (coord-take n i lo t) (coord-take n i hi t) ∙ lt_yes (coord i lo) (coord i hi) (omega (arith, int_facts))))

pub opened_holds : (n : ℕ) (a b lo hi : List ℤ) (v : Vertices) → v.dim ≡ n → n ≤ length a → n ≤ length b → n ≤ length lo → n ≤ length hi → IsVertexList n v.rows → IsAround n a b v → IsOpened n n a b lo hi
    → HoldsNear n (take n lo) (take n hi) (cells n v.rows)
opened_holds n a b lo hi v d la lb ll lh w r o c e m s p =
    let inside = is_inside n a b v c d la lb w r m in
    let (ec, _) = cell_parts n c (and_first (is_cell n c) (each int_le (take n a) c && each int_lt c (take n b)) inside) in
    let both = and_second (is_cell n c) (each int_le (take n a) c && each int_lt c (take n b)) inside in
    let from = and_first (each int_le (take n a) c) (each int_lt c (take n b)) both in
    let to = and_second (each int_le (take n a) c) (each int_lt c (take n b)) both in
    let (ee, q) = cell_parts n e p in
    let k : length (take n a) ≡ n = long n a la in
    let l : length (take n lo) ≡ n = long n lo ll in
    let h : length (take n hi) ≡ n = long n hi lh in
    and_both (each int_le (take n lo) e) (each int_lt e (take n hi))
    (each_at int_le (take n lo) e (l ∙ sym ee)
    (λ i j. let t : i < n = omega arith in
    let x = o.low i t in
    let (c_near, _) = near_coord c e i (omega (arith, ec)) s in
    let a_below : coord i a ≤ℤ coord i c = le_is (coord i a) (coord i c) (ap (λ z. int_le z (coord i c)) (sym (coord-take n i a t)) ∙ each_coord int_le (take n a) c i (omega (arith, k)) from) in
    let (e_least, _) = cell_is n (coord i e) (all-coord (is_cell_coord n) i e (omega arith) q) in
    ap (λ z. int_le z (coord i e)) (coord-take n i lo t) ∙ le_yes (coord i lo) (coord i e) (x.near (coord i e) (omega (arith, int_facts)) e_least)))
    (each_at int_lt e (take n hi) (ee ∙ sym h)
    (λ i j. let t : i < n = omega (arith, h) in
    let x = o.high i t in
    let (_, e_near) = near_coord c e i (omega (arith, ec)) s in
    let b_above : coord i c <ℤ coord i b = lt_is (coord i c) (coord i b) (ap (int_lt (coord i c)) (sym (coord-take n i b t)) ∙ each_coord int_lt c (take n b) i (omega (arith, ec)) to) in
    let (_, e_most) = cell_is n (coord i e) (all-coord (is_cell_coord n) i e (omega (arith, ee)) q) in
    ap (int_lt (coord i e)) (coord-take n i hi t) ∙ lt_yes (coord i e) (coord i hi) (x.near (coord i e) (omega (arith, int_facts)) e_most)))
