-- Vertices that are moved into a box are those of what is inside it.
use Rattle.std.proofs.Common.{◌≡◌, ℕ, zero, suc, ◌<◌, ◌≤ℤ◌, ◌<ℤ◌, Bool, true, false, cond, ◌&&◌, List, [], ◌∷◌, length, map, filter, count_by, ◌==◌, eq-eqb, ℤ, int_le, int_lt, refl, sym, ap, ap₂, ◌∙◌, arith}
use Rattle.std.specs.List.{list_all}
use Rattle.std.proofs.lemmas.Bool.{true≢false}
use Rattle.std.proofs.lemmas.Int.{ints as int_facts}
use Rattle.evm_cells.specs.Places.{same, before, each, has, without}
use Rattle.evm_cells.specs.Limits.{is_point, is_point_coord, is_cell, every_point}
use Rattle.evm_cells.specs.Boxes.{is_box, box_cells}
use Rattle.evm_cells.specs.Booleans.{and_cells}
use Rattle.evm_cells.specs.Shapes.{clip}
use Rattle.evm_cells.specs.Vertices.{odd, cells, IsVertexList}
use Rattle.evm_cells.proofs.Xor.{xsum, xsum-same, xsum-same_on, odd-count, and_first, and_second, and_both, and_comm}
use Rattle.evm_cells.proofs.Sum.{xsum-map, xsum-filter, xsum-none, xsum-weigh}
use Rattle.evm_cells.proofs.Order.{refuted, sift, all-filter}
use Rattle.evm_cells.proofs.Lists.{all_members, all-map, all_weaker}
use Rattle.evm_cells.proofs.Places.{strict_places, has-any}
use Rattle.evm_cells.proofs.Coords.{by_order, le_yes, le_no, lt_yes, le_is, lt_is, point_is, point_yes}
use Rattle.evm_cells.proofs.Universe.{point_parts, point_from, cell_parts, points_are, has-every_point, rising-every_point, all-every_point, has-cells_of, cell_set-cells, odd-below, ascending-filter, ascending-every_point, has-points, absorb}
use Rattle.evm_cells.proofs.Core.{even_sum, vertices_are}
use Rattle.evm_cells.proofs.Booleans.{has-combine_of}
use Rattle.evm_cells.proofs.Corners.{cell_set-box, has-box_cells}
use Rattle.evm_cells.specs.Windows.{between, clamped, IsReduced, VerticesOfClip, ClipByRows}
use Rattle.evm_cells.proofs.Insides.{cell_set-clip}

-- ---- rows that cancel in pairs: sums over what is left

-- a place that occurs an odd number of times among points is a point
lone_is_point : (n : ℕ) (L : List (List ℤ)) (p : List ℤ) → list_all (is_point n) L ≡ true → xsum (λ q. same q p) L ≡ true → is_point n p ≡ true
lone_is_point n L p a h = at (is_point n p) refl
  where
    at : (b : Bool) → is_point n p ≡ b → is_point n p ≡ true
    at true e = e
    at false e =
        absurd (true≢false (sym h
        ∙ xsum-same_on (is_point n) (λ q. same q p) (λ q. false)
        (λ q m. refuted (same q p) (λ s. true≢false (sym m ∙ ap (is_point n) (strict_places.equal q p s) ∙ e))) L a
        ∙ xsum-none L))

points_reduced : (n : ℕ) (L W : List (List ℤ)) → list_all (is_point n) L ≡ true → IsReduced n L W → list_all (is_point n) W ≡ true
points_reduced n L W a r =
    all_members same before strict_places (is_point n) W
    (λ p m. lone_is_point n L p a (sym (odd-count (λ (q : List ℤ). same q p) L) ∙ sym (r.odd_times p) ∙ has-any W p ∙ m))

sum_reduced : (n : ℕ) (L W : List (List ℤ)) (f : List ℤ → Bool) → list_all (is_point n) L ≡ true → IsReduced n L W → xsum f W ≡ xsum f L
sum_reduced n L W f a r =
    ap (xsum f) (sym (points_are n W r.ascends (points_reduced n L W a r)))
    ∙ xsum-filter f (has W) (every_point n)
    ∙ xsum-same (λ p. has W p && f p) (λ p. xsum (λ q. same q p) L && f p) (λ p. ap (λ t. t && f p) (r.odd_times p ∙ odd-count (λ (q : List ℤ). same q p) L)) (every_point n)
    ∙ xsum-weigh (λ q p. same q p) f L (every_point n)
    ∙ xsum-same_on (is_point n) (λ q. xsum (λ p. same q p && f p) (every_point n)) f
    (λ q m. sift same before strict_places q f (every_point n) (rising-every_point n) ∙ ap (λ t. t && f q) (has-every_point n q ∙ m)) L a

-- ---- one coordinate

pub not_less : (a b : ℤ) → int_lt a b ≡ false → b ≤ℤ a
not_less a b e = by_order a b (λ l. absurd (true≢false (sym (lt_yes a b l) ∙ e))) (λ q. omega (arith, int_facts)) (λ l. omega (arith, int_facts))

pub not_most : (a b : ℤ) → int_le a b ≡ false → b <ℤ a
not_most a b e = by_order a b (λ l. absurd (true≢false (sym (le_yes a b (omega (arith, int_facts))) ∙ e))) (λ q. absurd (true≢false (sym (le_yes a b (omega (arith, int_facts))) ∙ e))) (λ l. l)

between_low : (a b x : ℤ) → a <ℤ b → a ≤ℤ between a b x
unfolding between
between_low a b x l = at (int_lt x a) (int_lt b x) refl refl
  where
    at : (s t : Bool) → int_lt x a ≡ s → int_lt b x ≡ t → a ≤ℤ cond s a (cond t b x)
    at true t e f = omega (arith, int_facts)
    at false true e f = omega (arith, int_facts)
    at false false e f = not_less x a e

between_high : (a b x : ℤ) → a <ℤ b → between a b x ≤ℤ b
unfolding between
between_high a b x l = at (int_lt x a) (int_lt b x) refl refl
  where
    at : (s t : Bool) → int_lt x a ≡ s → int_lt b x ≡ t → cond s a (cond t b x) ≤ℤ b
    at true t e f = omega (arith, int_facts)
    at false true e f = omega (arith, int_facts)
    at false false e f = not_less b x f

-- from a number between the two ends the moved number is seen as the number is
between_seen : (a b x c : ℤ) → a ≤ℤ c → c <ℤ b → int_le (between a b x) c ≡ int_le x c
unfolding between
between_seen a b x c l m = at (int_lt x a) (int_lt b x) refl refl
  where
    at : (s t : Bool) → int_lt x a ≡ s → int_lt b x ≡ t → int_le (cond s a (cond t b x)) c ≡ int_le x c
    at true t e f = let h : x <ℤ a = lt_is x a e in le_yes a c l ∙ sym (le_yes x c (omega (arith, int_facts)))
    at false true e f = let h : b <ℤ x = lt_is b x f in le_no b c m ∙ sym (le_no x c (omega (arith, int_facts)))
    at false false e f = refl

-- below the low end nothing is
below_low : (a b x c : ℤ) → a <ℤ b → c <ℤ a → int_le (between a b x) c ≡ false
below_low a b x c l m = let h = between_low a b x l in le_no (between a b x) c (omega (arith, int_facts))

-- from the high end on everything is
above_high : (a b x c : ℤ) → a <ℤ b → b ≤ℤ c → int_le (between a b x) c ≡ true
above_high a b x c l m = let h = between_high a b x l in le_yes (between a b x) c (omega (arith, int_facts))

-- ---- places

pub length-clamped : (lo hi q : List ℤ) → length hi ≡ length lo → length q ≡ length lo → length (clamped lo hi q) ≡ length lo
unfolding clamped
length-clamped [] hi q e f = refl
length-clamped (a ∷ lo) [] q e f = absurd (omega arith)
length-clamped (a ∷ lo) (b ∷ hi) [] e f = absurd (omega arith)
length-clamped (a ∷ lo) (b ∷ hi) (x ∷ q) e f = ap suc (length-clamped lo hi q (omega arith) (omega arith))

without-clamped : (i : ℕ) (lo hi q : List ℤ) → length hi ≡ length lo → length q ≡ length lo → without i (clamped lo hi q) ≡ clamped (without i lo) (without i hi) (without i q)
unfolding clamped without
without-clamped i [] hi q e f = none i
  where
    none : (j : ℕ) → without j [] ≡ clamped (without j []) (without j hi) (without j q)
    none j = refl
without-clamped i (a ∷ lo) [] q e f = absurd (omega arith)
without-clamped i (a ∷ lo) (b ∷ hi) [] e f = absurd (omega arith)
without-clamped zero (a ∷ lo) (b ∷ hi) (x ∷ q) e f = refl
without-clamped (suc i) (a ∷ lo) (b ∷ hi) (x ∷ q) e f = ap (λ t. between a b x ∷ t) (without-clamped i lo hi q (omega arith) (omega arith))

-- a moved point is a point
point_between : (n : ℕ) (a b x : ℤ) → a <ℤ b → is_point_coord n a ≡ true → is_point_coord n b ≡ true → is_point_coord n (between a b x) ≡ true
point_between n a b x l p q =
    let (pa, pb) = point_is n a p in
    let (qa, qb) = point_is n b q in
    let low = between_low a b x l in
    let high = between_high a b x l in
    point_yes n (between a b x) (omega (arith, int_facts)) (omega (arith, int_facts))

points_between : (n : ℕ) (lo hi q : List ℤ) → each int_lt lo hi ≡ true → list_all (is_point_coord n) lo ≡ true → list_all (is_point_coord n) hi ≡ true → list_all (is_point_coord n) (clamped lo hi q) ≡ true
unfolding clamped each
points_between n [] hi q r a b = refl
points_between n (l ∷ lo) [] q r a b = refl
points_between n (l ∷ lo) (h ∷ hi) [] r a b = refl
points_between n (l ∷ lo) (h ∷ hi) (x ∷ q) r a b =
    and_both (is_point_coord n (between l h x)) (list_all (is_point_coord n) (clamped lo hi q))
    (point_between n l h x (lt_is l h (and_first (int_lt l h) (each int_lt lo hi) r)) (and_first (is_point_coord n l) (list_all (is_point_coord n) lo) a) (and_first (is_point_coord n h) (list_all (is_point_coord n) hi) b))
    (points_between n lo hi q (and_second (int_lt l h) (each int_lt lo hi) r) (and_second (is_point_coord n l) (list_all (is_point_coord n) lo) a) (and_second (is_point_coord n h) (list_all (is_point_coord n) hi) b))

-- a box, taken apart
record Sides (n : ℕ) (lo hi : List ℤ) : Type 0 where
  long_low : length lo ≡ n
  long_high : length hi ≡ n
  low : list_all (is_point_coord n) lo ≡ true
  high : list_all (is_point_coord n) hi ≡ true
  room : each int_lt lo hi ≡ true

sides : (n : ℕ) (lo hi : List ℤ) → is_box n lo hi ≡ true → Sides n lo hi
sides n lo hi h =
    let both : (is_point n lo && is_point n hi) ≡ true = and_first (is_point n lo && is_point n hi) (each int_lt lo hi) h in
    let (e, a) = point_parts n lo (and_first (is_point n lo) (is_point n hi) both) in
    let (f, b) = point_parts n hi (and_second (is_point n lo) (is_point n hi) both) in
    record { long_low = e; long_high = f; low = a; high = b; room = and_second (is_point n lo && is_point n hi) (each int_lt lo hi) h }

points_clamped : (n : ℕ) (lo hi : List ℤ) (V : List (List ℤ)) → Sides n lo hi → list_all (is_point n) V ≡ true → list_all (is_point n) (map (clamped lo hi) V) ≡ true
points_clamped n lo hi V s a =
    all-map (is_point n) (clamped lo hi) V
    ∙ all_weaker (is_point n) (λ q. is_point n (clamped lo hi q))
    (λ q m. let (e, f) = point_parts n q m in
    let k = s.long_low in
    let j = s.long_high in
    point_from n (clamped lo hi q) (length-clamped lo hi q (omega arith) (omega arith) ∙ k) (points_between n lo hi q s.room s.low s.high)) V a

-- what is seen from a place in the box
seen_inside : (lo hi q c : List ℤ) → length hi ≡ length lo → length q ≡ length lo → length c ≡ length lo → each int_le lo c ≡ true → each int_lt c hi ≡ true → each int_le (clamped lo hi q) c ≡ each int_le q c
unfolding clamped each
seen_inside [] hi [] [] e f g a b = refl
seen_inside [] hi [] (z ∷ c) e f g a b = absurd (omega arith)
seen_inside [] hi (x ∷ q) c e f g a b = absurd (omega arith)
seen_inside (l ∷ lo) [] q c e f g a b = absurd (omega arith)
seen_inside (l ∷ lo) (h ∷ hi) [] c e f g a b = absurd (omega arith)
seen_inside (l ∷ lo) (h ∷ hi) (x ∷ q) [] e f g a b = absurd (omega arith)
seen_inside (l ∷ lo) (h ∷ hi) (x ∷ q) (z ∷ c) e f g a b =
    ap₂ (λ s t. s && t)
    (between_seen l h x z (le_is l z (and_first (int_le l z) (each int_le lo c) a)) (lt_is z h (and_first (int_lt z h) (each int_lt c hi) b)))
    (seen_inside lo hi q c (omega arith) (omega arith) (omega arith) (and_second (int_le l z) (each int_le lo c) a) (and_second (int_lt z h) (each int_lt c hi) b))

-- from a place below the box nothing is seen
seen_below : (lo hi q c : List ℤ) → length hi ≡ length lo → length q ≡ length lo → length c ≡ length lo → each int_lt lo hi ≡ true → each int_le lo c ≡ false → each int_le (clamped lo hi q) c ≡ false
unfolding clamped each
seen_below [] hi q [] e f g r a = absurd (true≢false a)
seen_below [] hi q (z ∷ c) e f g r a = absurd (omega arith)
seen_below (l ∷ lo) [] q c e f g r a = absurd (omega arith)
seen_below (l ∷ lo) (h ∷ hi) [] c e f g r a = absurd (omega arith)
seen_below (l ∷ lo) (h ∷ hi) (x ∷ q) [] e f g r a = absurd (omega arith)
seen_below (l ∷ lo) (h ∷ hi) (x ∷ q) (z ∷ c) e f g r a =
    at (int_le l z) refl (seen_below lo hi q c (omega arith) (omega arith) (omega arith) (and_second (int_lt l h) (each int_lt lo hi) r))
  where
    drops : (s t : Bool) → t ≡ false → (s && t) ≡ false
    drops true t k = k
    drops false t k = refl

    at : (s : Bool) → int_le l z ≡ s → (each int_le lo c ≡ false → each int_le (clamped lo hi q) c ≡ false) → (int_le (between l h x) z && each int_le (clamped lo hi q) c) ≡ false
    at true k w = drops (int_le (between l h x) z) (each int_le (clamped lo hi q) c) (w (sym (ap (λ t. t && each int_le lo c) k) ∙ a))
    at false k w = ap (λ t. t && each int_le (clamped lo hi q) c) (below_low l h x z (lt_is l h (and_first (int_lt l h) (each int_lt lo hi) r)) (not_most l z k))

-- a place past the box: on some axis every moved point is seen, whatever it is there
record PastBox (lo hi c : List ℤ) : Type 0 where
  axis : ℕ
  within : axis < length lo
  drops : (q : List ℤ) → length q ≡ length lo → each int_le (clamped lo hi q) c ≡ each int_le (clamped (without axis lo) (without axis hi) (without axis q)) (without axis c)

past_box : (lo hi c : List ℤ) → length hi ≡ length lo → length c ≡ length lo → each int_lt lo hi ≡ true → each int_lt c hi ≡ false → PastBox lo hi c
unfolding each clamped without
past_box [] [] [] e g r a = absurd (true≢false a)
past_box [] [] (z ∷ c) e g r a = absurd (omega arith)
past_box [] (h ∷ hi) c e g r a = absurd (omega arith)
past_box (l ∷ lo) [] c e g r a = absurd (omega arith)
past_box (l ∷ lo) (h ∷ hi) [] e g r a = absurd (omega arith)
past_box (l ∷ lo) (h ∷ hi) (z ∷ c) e g r a = at (int_lt z h) refl (past_box lo hi c (omega arith) (omega arith) (and_second (int_lt l h) (each int_lt lo hi) r))
  where
    swap_first : (x y w : Bool) → (x && (y && w)) ≡ (y && (x && w))
    swap_first true y w = refl
    swap_first false true w = refl
    swap_first false false w = refl

    first : int_lt z h ≡ false → (q : List ℤ) → length q ≡ suc (length lo) → each int_le (clamped (l ∷ lo) (h ∷ hi) q) (z ∷ c) ≡ each int_le (clamped (without 0 (l ∷ lo)) (without 0 (h ∷ hi)) (without 0 q)) (without 0 (z ∷ c))
    first k [] f = absurd (omega arith)
    first k (x ∷ q) f = ap (λ t. t && each int_le (clamped lo hi q) c) (above_high l h x z (lt_is l h (and_first (int_lt l h) (each int_lt lo hi) r)) (not_less z h k))

    rest : (p : PastBox lo hi c) (q : List ℤ) → length q ≡ suc (length lo) → each int_le (clamped (l ∷ lo) (h ∷ hi) q) (z ∷ c) ≡ each int_le (clamped (without (suc p.axis) (l ∷ lo)) (without (suc p.axis) (h ∷ hi)) (without (suc p.axis) q)) (without (suc p.axis) (z ∷ c))
    rest p [] f = absurd (omega arith)
    rest p (x ∷ q) f = ap (λ t. int_le (between l h x) z && t) (p.drops q (omega arith))

    at : (b : Bool) → int_lt z h ≡ b → (each int_lt c hi ≡ false → PastBox lo hi c) → PastBox (l ∷ lo) (h ∷ hi) (z ∷ c)
    at false k w = record { axis = 0; within = omega arith; drops = first k }
    at true k w =
        let p : PastBox lo hi c = w (sym (ap (λ t. t && each int_lt c hi) k) ∙ a) in
        record { axis = suc p.axis; within = (let v = p.within in omega arith); drops = rest p }

-- ---- the moved rows

-- the sum of what is seen from a cell
seen : (n : ℕ) (lo hi : List ℤ) (V : List (List ℤ)) (c : List ℤ) → Sides n lo hi → IsVertexList n V → length c ≡ n
    → xsum (λ q. each int_le (clamped lo hi q) c) V ≡ ((each int_le lo c && each int_lt c hi) && xsum (λ q. each int_le q c) V)
seen n lo hi V c s v e = at (each int_le lo c) (each int_lt c hi) refl refl
  where
    long : length hi ≡ length lo
    long = s.long_high ∙ sym s.long_low

    at : (x y : Bool) → each int_le lo c ≡ x → each int_lt c hi ≡ y → xsum (λ q. each int_le (clamped lo hi q) c) V ≡ ((each int_le lo c && each int_lt c hi) && xsum (λ q. each int_le q c) V)
    at false y k m =
        xsum-same_on (is_point n) (λ q. each int_le (clamped lo hi q) c) (λ q. false)
        (λ q w. let (f, b) = point_parts n q w in seen_below lo hi q c long (f ∙ sym s.long_low) (e ∙ sym s.long_low) s.room k) V v.points
        ∙ xsum-none V ∙ sym (ap (λ t. (t && each int_lt c hi) && xsum (λ q. each int_le q c) V) k)
    at true false k m =
        let p : PastBox lo hi c = past_box lo hi c long (e ∙ sym s.long_low) s.room m in
        xsum-same_on (is_point n) (λ q. each int_le (clamped lo hi q) c) (λ q. each int_le (clamped (without p.axis lo) (without p.axis hi) (without p.axis q)) (without p.axis c))
        (λ q w. let (f, b) = point_parts n q w in p.drops q (f ∙ sym s.long_low)) V v.points
        ∙ even_sum n V v.points v.even p.axis (let w = p.within in let u = s.long_low in omega arith) (λ r. each int_le (clamped (without p.axis lo) (without p.axis hi) r) (without p.axis c))
        ∙ sym (ap₂ (λ t u. (t && u) && xsum (λ q. each int_le q c) V) k m)
    at true true k m =
        xsum-same_on (is_point n) (λ q. each int_le (clamped lo hi q) c) (λ q. each int_le q c)
        (λ q w. let (f, b) = point_parts n q w in seen_inside lo hi q c long (f ∙ sym s.long_low) (e ∙ sym s.long_low) k m) V v.points
        ∙ sym (ap₂ (λ t u. (t && u) && xsum (λ q. each int_le q c) V) k m)

-- each line holds an even number of the moved rows
even_moved : (n : ℕ) (lo hi : List ℤ) (V : List (List ℤ)) (i : ℕ) (line : List ℤ) → Sides n lo hi → IsVertexList n V → i < n → xsum (λ p. same (without i p) line) (map (clamped lo hi) V) ≡ false
even_moved n lo hi V i line s v l =
    xsum-map (λ p. same (without i p) line) (clamped lo hi) V
    ∙ xsum-same_on (is_point n) (λ q. same (without i (clamped lo hi q)) line) (λ q. same (clamped (without i lo) (without i hi) (without i q)) line)
    (λ q m. let (f, b) = point_parts n q m in ap (λ t. same t line) (without-clamped i lo hi q (s.long_high ∙ sym s.long_low) (f ∙ sym s.long_low))) V v.points
    ∙ even_sum n V v.points v.even i l (λ r. same (clamped (without i lo) (without i hi) r) line)

has-clip : (n : ℕ) (lo hi : List ℤ) (V : List (List ℤ)) (c : List ℤ) → is_cell n c ≡ true → has (clip n lo hi (cells n V)) c ≡ (xsum (λ q. each int_le q c) V && (each int_le lo c && each int_lt c hi))
unfolding clip and_cells
has-clip n lo hi V c m =
    has-combine_of (λ a b. a && b) n (cells n V) (box_cells n lo hi) c refl (cell_set-cells n V) (cell_set-box n lo hi)
    ∙ ap₂ (λ a b. a && b) (has-cells_of n V c ∙ ap (λ t. t && xsum (λ q. each int_le q c) V) m) (has-box_cells n lo hi c ∙ ap (λ t. t && (each int_le lo c && each int_lt c hi)) m)

-- the moved rows, where pairs of them cancel
pub clip_by_rows : ClipByRows
clip_by_rows n lo hi V W box v r =
    let s : Sides n lo hi = sides n lo hi box in
    let L : List (List ℤ) = map (clamped lo hi) V in
    let a : list_all (is_point n) L ≡ true = points_clamped n lo hi V s v.points in
    vertices_are n (clip n lo hi (cells n V)) W (cell_set-clip n lo hi (cells n V))
    record {
      ascends = r.ascends;
      points = points_reduced n L W a r;
      even = λ i line l. odd-count (λ (p : List ℤ). same (without i p) line) W ∙ sum_reduced n L W (λ p. same (without i p) line) a r ∙ even_moved n lo hi V i line s v l;
    }
    (λ c m. let (e, f) = cell_parts n c m in
    odd-below W c ∙ sum_reduced n L W (λ q. each int_le q c) a r ∙ xsum-map (λ q. each int_le q c) (clamped lo hi) V
    ∙ seen n lo hi V c s v e ∙ and_comm (each int_le lo c && each int_lt c hi) (xsum (λ q. each int_le q c) V) ∙ sym (has-clip n lo hi V c m))

-- the points that an odd number of places are moved to, in order
reduction : (n : ℕ) (L : List (List ℤ)) → list_all (is_point n) L ≡ true → IsReduced n L (filter (λ p. odd (count_by (λ q. same q p) L)) (every_point n))
reduction n L a =
    let t : List ℤ → Bool = λ p. odd (count_by (λ q. same q p) L) in
    record {
      ascends = ascending-filter t (every_point n) (ascending-every_point n);
      wide = all_weaker (is_point n) (λ p. length p == n) (λ p m. let (e, f) = point_parts n p m in eq-eqb (length p) n e) (filter t (every_point n)) (all-filter same before strict_places (is_point n) t (every_point n) (all-every_point n));
      odd_times = λ p. has-points n t p ∙ absorb (is_point n p) (odd (count_by (λ q. same q p) L)) (λ h. lone_is_point n L p a (sym (odd-count (λ (q : List ℤ). same q p) L) ∙ h));
    }

pub vertices_of_clip : VerticesOfClip
vertices_of_clip n lo hi V p box v l =
    let L : List (List ℤ) = map (clamped lo hi) V in
    let a : list_all (is_point n) L ≡ true = points_clamped n lo hi V (sides n lo hi box) v.points in
    let r = reduction n L a in
    ap (λ W. has W p) (sym (clip_by_rows n lo hi V (filter (λ p. odd (count_by (λ q. same q p) L)) (every_point n)) box v r)) ∙ r.odd_times p
