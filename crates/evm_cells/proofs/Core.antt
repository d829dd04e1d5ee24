-- The two ways between cell sets and vertex lists undo one another.
use Rattle.std.proofs.Common.{◌≡◌, ℕ, zero, suc, ◌<◌, Bool, true, false, ◌&&◌, List, [], ◌∷◌, length, count_by, ℤ, pos, neg_ℤ, ◌≤ℤ◌, ◌<ℤ◌, refl, sym, ap, ◌∙◌, arith, int_le, int_eq}
use Rattle.std.specs.List.{list_all}
use Rattle.std.proofs.lemmas.Bool.{true≢false, false≢true}
use Rattle.std.proofs.lemmas.Int.{ints as int_facts, by_lt_z}
use Rattle.evm_cells.specs.Places.{same, before, has, each, without}
use Rattle.evm_cells.specs.Limits.{limit, tuples, every_cell, every_point, is_cell, is_point, is_cell_coord, is_point_coord, point_coords, IsCellSet}
use Rattle.evm_cells.specs.Vertices.{evm, cells, touch, below, odd, IsEven, IsVertexList}
use Rattle.evm_cells.proofs.Xor.{xsum, xsum-same, xsum-same_on, and_first, and_second, and_both, and-false, and-true, odd-count, and_swap, and_assoc}
use Rattle.evm_cells.proofs.Sum.{xsum-filter, xsum-weigh, xsum-swap, xsum-no, xsum-none, xsum-and_right, xsum-product}
use Rattle.evm_cells.proofs.Order.{sift, refuted}
use Rattle.evm_cells.proofs.Lists.{all_always, all_weaker}
use Rattle.evm_cells.proofs.Coords.{touch_and_up, up_and_touch, touch_twice, touched, point_is, cell_yes, le_yes, le_no, point_coord-falls}
use Rattle.evm_cells.proofs.Places.{strict_places, compose, each_same, xsum-tuples}
use Rattle.evm_cells.proofs.Universe.{point_parts, point_from, cell_parts, cell_from, has-every_point, rising-every_point, all-every_point, same_sets, has-evm, has-cells_of, ascending-evm, ascending-cells, points-evm, xsum-evm, xsum-same_place, member_passes, cells_among_points, odd-below, guarded}

-- over all points, a cell s and a place c below which points count
touch_below : (n : ℕ) (s c : List ℤ) → is_cell n s ≡ true → length c ≡ n → xsum (λ p. each touch s p && each int_le p c) (every_point n) ≡ same s c
unfolding every_point same
touch_below n s c h e =
    let (l, a) = cell_parts n s h in
    ap (λ k. xsum (λ p. each touch s p && each int_le p c) (tuples (point_coords n) k)) (sym l)
    ∙ compose touch int_le (point_coords n) s c (e ∙ sym l)
    ∙ each_same (λ x y. xsum (λ p. touch x p && int_le p y) (point_coords n)) int_eq (is_cell_coord n) (λ y. true) (λ x y k _. touch_and_up n x y k) s c a (all_always (λ y. true) (λ y. refl) c)

below_touch : (n : ℕ) (q p : List ℤ) → is_point n q ≡ true → is_point n p ≡ true → xsum (λ c. each int_le q c && each touch c p) (every_point n) ≡ same q p
unfolding every_point same
below_touch n q p h k =
    let (l, a) = point_parts n q h in
    let (m, b) = point_parts n p k in
    ap (λ j. xsum (λ c. each int_le q c && each touch c p) (tuples (point_coords n) j)) (sym l)
    ∙ compose int_le touch (point_coords n) q p (m ∙ sym l)
    ∙ each_same (λ x y. xsum (λ c. int_le x c && touch c y) (point_coords n)) int_eq (is_point_coord n) (is_point_coord n) (up_and_touch n) q p a b

-- the cells of the vertices, as a test
pub below_evm : (n : ℕ) (S : List (List ℤ)) (c : List ℤ) → IsCellSet n S → length c ≡ n → xsum (λ q. each int_le q c) (evm n S) ≡ has S c
below_evm n S c h e =
    xsum-evm n S (λ q. each int_le q c)
    ∙ xsum-same_on (is_cell n) (λ s. xsum (λ p. each touch s p && each int_le p c) (every_point n)) (λ s. same s c) (λ s k. touch_below n s c k e) S h.cells
    ∙ xsum-same_place S c h.ascends

pub cells-evm : (n : ℕ) (S : List (List ℤ)) → IsCellSet n S → cells n (evm n S) ≡ S
cells-evm n S h =
    same_sets (cells n (evm n S)) S (ascending-cells n (evm n S)) h.ascends
    (λ c. has-cells_of n (evm n S) c
    ∙ guarded (is_cell n c) (xsum (λ q. each int_le q c) (evm n S)) (has S c) (λ k. let (l, a) = cell_parts n c k in below_evm n S c h l) (member_passes (is_cell n) S c h.cells))

-- ---- lists of which each line holds an even number

pub length-without : (i : ℕ) (q : List ℤ) → i < length q → suc (length (without i q)) ≡ length q
unfolding without
length-without i [] l = absurd (omega arith)
length-without zero (x ∷ q) l = refl
length-without (suc i) (x ∷ q) l = ap suc (length-without i q (omega arith))

pub all-without : (f : ℤ → Bool) (i : ℕ) (q : List ℤ) → list_all f q ≡ true → list_all f (without i q) ≡ true
unfolding without
all-without f i [] h = refl
all-without f zero (x ∷ q) h = and_second (f x) (list_all f q) h
all-without f (suc i) (x ∷ q) h = and_both (f x) (list_all f (without i q)) (and_first (f x) (list_all f q) h) (all-without f i q (and_second (f x) (list_all f q) h))

pub point-without : (m i : ℕ) (q : List ℤ) → i < suc m → is_point (suc m) q ≡ true → is_point m (without i q) ≡ true
point-without m i q l h =
    let (e, a) = point_parts (suc m) q h in
    let l' : i < length q = omega arith in
    let e' : suc (length (without i q)) ≡ length q = length-without i q l' in
    point_from m (without i q) (omega arith) (all_weaker (is_point_coord (suc m)) (is_point_coord m) (point_coord-falls m) (without i q) (all-without (is_point_coord (suc m)) i q a))

even_at : (n : ℕ) (V : List (List ℤ)) → IsEven n V → (i : ℕ) (line : List ℤ) → i < n → odd (count_by (λ p. same (without i p) line) V) ≡ false
even_at n V h = h

-- a test that does not see the coordinate on axis i passes an even number of times
pub even_sum : (n : ℕ) (V : List (List ℤ)) → list_all (is_point n) V ≡ true → IsEven n V → (i : ℕ) → i < n → (f : List ℤ → Bool) → xsum (λ q. f (without i q)) V ≡ false
even_sum zero V a e i l f = absurd (omega arith)
even_sum (suc m) V a e i l f =
    xsum-same_on (is_point (suc m)) (λ q. f (without i q)) (λ q. xsum (λ r. same (without i q) r && f r) (every_point m))
    (λ q h. sym (sift same before strict_places (without i q) f (every_point m) (rising-every_point m)
    ∙ ap (λ b. b && f (without i q)) (has-every_point m (without i q) ∙ point-without m i q l h)))
    V a
    ∙ xsum-swap (λ q r. same (without i q) r && f r) V (every_point m)
    ∙ xsum-no (λ r. xsum (λ q. same (without i q) r && f r) V)
    (λ r. xsum-and_right (λ q. same (without i q) r) (f r) V
    ∙ ap (λ b. b && f r) (sym (odd-count (λ q. same (without i q) r) V) ∙ even_at (suc m) V e i r l))
    (every_point m)

-- an axis on which the place c is past all points, above them or below
record Past (n : ℕ) (c : List ℤ) : Type 0 where
  axis : ℕ
  within : axis < length c
  above : Bool
  drops : (q : List ℤ) → list_all (is_point_coord n) q ≡ true → length q ≡ length c → each int_le q c ≡ (above && each int_le (without axis q) (without axis c))

drop_low : (n : ℕ) (a : ℤ) (c : List ℤ) → a <ℤ neg_ℤ (pos (limit n)) → (q : List ℤ) → list_all (is_point_coord n) q ≡ true → length q ≡ suc (length c) → each int_le q (a ∷ c) ≡ false
unfolding each
drop_low n a c l [] b e = refl
drop_low n a c l (x ∷ q) b e =
    let (u, v) = point_is n x (and_first (is_point_coord n x) (list_all (is_point_coord n) q) b) in
    ap (λ t. t && each int_le q c) (le_no x a (omega (arith, int_facts)))

drop_high : (n : ℕ) (a : ℤ) (c : List ℤ) → pos (limit n) ≤ℤ a → (q : List ℤ) → list_all (is_point_coord n) q ≡ true → length q ≡ suc (length c) → each int_le q (a ∷ c) ≡ each int_le (without 0 q) c
unfolding each without
drop_high n a c l [] b e = absurd (omega arith)
drop_high n a c l (x ∷ q) b e =
    let (u, v) = point_is n x (and_first (is_point_coord n x) (list_all (is_point_coord n) q) b) in
    ap (λ t. t && each int_le q c) (le_yes x a (omega (arith, int_facts)))

past_head : (n : ℕ) (a : ℤ) (c : List ℤ) → is_cell_coord n a ≡ false → Past n (a ∷ c)
unfolding without
past_head n a c k =
    by_lt_z a (neg_ℤ (pos (limit n)))
    (λ l. record { axis = 0; within = omega arith; above = false; drops = drop_low n a c l })
    (λ l. by_lt_z a (pos (limit n))
    (λ m. absurd (true≢false (sym (cell_yes n a l m) ∙ k)))
    (λ m. record { axis = 0; within = omega arith; above = true; drops = drop_high n a c m }))

past_tail : (n : ℕ) (a : ℤ) (c : List ℤ) → Past n c → Past n (a ∷ c)
unfolding without each
past_tail n a c p = record {
  axis = suc p.axis;
  within = let w = p.within in omega arith;
  above = p.above;
  drops = λ q b e. drop_tail n a c p q b e;
}
  where
    swap_first : (x y z : Bool) → (x && (y && z)) ≡ (y && (x && z))
    swap_first true y z = refl
    swap_first false y z = sym (and-false y)

    drop_tail : (n : ℕ) (a : ℤ) (c : List ℤ) (p : Past n c) (q : List ℤ) → list_all (is_point_coord n) q ≡ true → length q ≡ suc (length c) → each int_le q (a ∷ c) ≡ (p.above && each int_le (without (suc p.axis) q) (a ∷ without p.axis c))
    drop_tail n a c p [] b e = absurd (omega arith)
    drop_tail n a c p (x ∷ q) b e =
        ap (λ t. int_le x a && t) (p.drops q (and_second (is_point_coord n x) (list_all (is_point_coord n) q) b) (omega arith))
        ∙ swap_first (int_le x a) p.above (each int_le (without p.axis q) (without p.axis c))

past : (n : ℕ) (c : List ℤ) → list_all (is_cell_coord n) c ≡ false → Past n c
past n [] k = absurd (true≢false k)
past n (a ∷ c) k = at_head (is_cell_coord n a) refl (past n c)
  where
    at_head : (b : Bool) → is_cell_coord n a ≡ b → (list_all (is_cell_coord n) c ≡ false → Past n c) → Past n (a ∷ c)
    at_head false e f = past_head n a c e
    at_head true e f = past_tail n a c (f (ap (λ b. b && list_all (is_cell_coord n) c) (sym e) ∙ k))

-- no place that is not a cell is above an odd number of points
pub outside : (n : ℕ) (V : List (List ℤ)) → list_all (is_point n) V ≡ true → IsEven n V → (c : List ℤ) → length c ≡ n → list_all (is_cell_coord n) c ≡ false → xsum (λ q. each int_le q c) V ≡ false
outside n V a e c l k =
    let p : Past n c = past n c k in
    xsum-same_on (is_point n) (λ q. each int_le q c) (λ q. p.above && each int_le (without p.axis q) (without p.axis c))
    (λ q m. let (lq, bq) = point_parts n q m in p.drops q bq (lq ∙ sym l)) V a
    ∙ even_sum n V a e p.axis (let w = p.within in omega arith) (λ r. p.above && each int_le r (without p.axis c))

-- a sum over the cells that V stands for
pub xsum-cells : (n : ℕ) (V : List (List ℤ)) → list_all (is_point n) V ≡ true → IsEven n V → (g : List ℤ → Bool) → xsum g (cells n V) ≡ xsum (λ q. xsum (λ c. each int_le q c && g c) (every_point n)) V
unfolding cells
xsum-cells n V a e g =
    xsum-filter g (λ c. odd (count_by (below c) V)) (every_cell n)
    ∙ xsum-same (λ c. odd (count_by (below c) V) && g c) (λ c. xsum (λ q. each int_le q c) V && g c) (λ c. ap (λ b. b && g c) (odd-below V c)) (every_cell n)
    ∙ ap (xsum (λ c. xsum (λ q. each int_le q c) V && g c)) (cells_among_points n)
    ∙ xsum-filter (λ c. xsum (λ q. each int_le q c) V && g c) (list_all (is_cell_coord n)) (every_point n)
    ∙ xsum-same_on (is_point n) (λ c. list_all (is_cell_coord n) c && (xsum (λ q. each int_le q c) V && g c)) (λ c. xsum (λ q. each int_le q c) V && g c)
    (λ c h. wider (list_all (is_cell_coord n) c) (xsum (λ q. each int_le q c) V) (g c) (let (l, b) = point_parts n c h in outside n V a e c l)) (every_point n) (all-every_point n)
    ∙ xsum-weigh (λ q c. each int_le q c) g V (every_point n)
  where
    wider : (k x y : Bool) → (k ≡ false → x ≡ false) → (k && (x && y)) ≡ (x && y)
    wider true x y f = refl
    wider false x y f = sym (ap (λ b. b && y) (f refl))

-- the vertices of the cells that V stands for, as a test
pub around_cells : (n : ℕ) (V : List (List ℤ)) (p : List ℤ) → IsVertexList n V → is_point n p ≡ true → xsum (λ c. each touch c p) (cells n V) ≡ has V p
around_cells n V p h k =
    xsum-cells n V h.points h.even (λ c. each touch c p)
    ∙ xsum-same_on (is_point n) (λ q. xsum (λ c. each int_le q c && each touch c p) (every_point n)) (λ q. same q p) (λ q m. below_touch n q p m k) V h.points
    ∙ xsum-same_place V p h.ascends

pub evm-cells : (n : ℕ) (V : List (List ℤ)) → IsVertexList n V → evm n (cells n V) ≡ V
evm-cells n V h =
    same_sets (evm n (cells n V)) V (ascending-evm n (cells n V)) h.ascends
    (λ p. has-evm n (cells n V) p ∙ guarded (is_point n p) (xsum (λ c. each touch c p) (cells n V)) (has V p) (around_cells n V p h) (member_passes (is_point n) V p h.points))

-- ---- the extreme vertices are even

touch_sum : (n : ℕ) (a : ℤ) → is_cell_coord n a ≡ true → xsum (touch a) (point_coords n) ≡ false
touch_sum n a h = xsum-same (touch a) (λ x. touch a x && true) (λ x. sym (and-true (touch a x))) (point_coords n) ∙ touch_twice n a h

line_sum : (n i : ℕ) (s line : List ℤ) → i < length s → list_all (is_cell_coord n) s ≡ true → xsum (λ p. each touch s p && same (without i p) line) (tuples (point_coords n) (length s)) ≡ false
unfolding same each without
line_sum n i [] line l h = absurd (omega arith)
line_sum n zero (a ∷ s) line l h =
    xsum-tuples (λ p. each touch (a ∷ s) p && same (without 0 p) line) (point_coords n) (length s)
    ∙ xsum-same
    (λ x. xsum (λ t. (touch a x && each touch s t) && each int_eq t line) (tuples (point_coords n) (length s)))
    (λ x. xsum (λ t. touch a x && (each touch s t && each int_eq t line)) (tuples (point_coords n) (length s)))
    (λ x. xsum-same (λ t. (touch a x && each touch s t) && each int_eq t line) (λ t. touch a x && (each touch s t && each int_eq t line)) (λ t. and_assoc (touch a x) (each touch s t) (each int_eq t line)) (tuples (point_coords n) (length s)))
    (point_coords n)
    ∙ xsum-product (touch a) (λ t. each touch s t && each int_eq t line) (point_coords n) (tuples (point_coords n) (length s))
    ∙ ap (λ b. b && xsum (λ t. each touch s t && each int_eq t line) (tuples (point_coords n) (length s))) (touch_sum n a (and_first (is_cell_coord n a) (list_all (is_cell_coord n) s) h))
line_sum n (suc i) (a ∷ s) [] l h =
    xsum-tuples (λ p. each touch (a ∷ s) p && same (without (suc i) p) []) (point_coords n) (length s)
    ∙ xsum-no (λ x. xsum (λ t. (touch a x && each touch s t) && false) (tuples (point_coords n) (length s)))
    (λ x. xsum-no (λ t. (touch a x && each touch s t) && false) (λ t. and-false (touch a x && each touch s t)) (tuples (point_coords n) (length s)))
    (point_coords n)
line_sum n (suc i) (a ∷ s) (b ∷ line) l h =
    xsum-tuples (λ p. each touch (a ∷ s) p && same (without (suc i) p) (b ∷ line)) (point_coords n) (length s)
    ∙ xsum-same
    (λ x. xsum (λ t. (touch a x && each touch s t) && (int_eq x b && each int_eq (without i t) line)) (tuples (point_coords n) (length s)))
    (λ x. xsum (λ t. (touch a x && int_eq x b) && (each touch s t && each int_eq (without i t) line)) (tuples (point_coords n) (length s)))
    (λ x. xsum-same (λ t. (touch a x && each touch s t) && (int_eq x b && each int_eq (without i t) line)) (λ t. (touch a x && int_eq x b) && (each touch s t && each int_eq (without i t) line)) (λ t. and_swap (touch a x) (each touch s t) (int_eq x b) (each int_eq (without i t) line)) (tuples (point_coords n) (length s)))
    (point_coords n)
    ∙ xsum-product (λ x. touch a x && int_eq x b) (λ t. each touch s t && each int_eq (without i t) line) (point_coords n) (tuples (point_coords n) (length s))
    ∙ ap (λ c. xsum (λ x. touch a x && int_eq x b) (point_coords n) && c) (line_sum n i s line (omega arith) (and_second (is_cell_coord n a) (list_all (is_cell_coord n) s) h))
    ∙ and-false (xsum (λ x. touch a x && int_eq x b) (point_coords n))

line_even : (n : ℕ) (S : List (List ℤ)) → list_all (is_cell n) S ≡ true → (i : ℕ) (line : List ℤ) → i < n → odd (count_by (λ p. same (without i p) line) (evm n S)) ≡ false
unfolding every_point
line_even n S h i line l =
    odd-count (λ p. same (without i p) line) (evm n S)
    ∙ xsum-evm n S (λ p. same (without i p) line)
    ∙ xsum-same_on (is_cell n) (λ s. xsum (λ p. each touch s p && same (without i p) line) (every_point n)) (λ s. false)
    (λ s k. let (e, a) = cell_parts n s k in
    ap (λ m. xsum (λ p. each touch s p && same (without i p) line) (tuples (point_coords n) m)) (sym e) ∙ line_sum n i s line (omega arith) a)
    S h
    ∙ xsum-none S

pub even-evm : (n : ℕ) (S : List (List ℤ)) → IsCellSet n S → IsEven n (evm n S)
even-evm n S h = line_even n S h.cells

pub vertices-evm : (n : ℕ) (S : List (List ℤ)) → IsCellSet n S → IsVertexList n (evm n S)
vertices-evm n S h = record { ascends = ascending-evm n S; points = points-evm n S; even = even-evm n S h }

-- the list W is the vertices of S if its cells are those of S
pub vertices_are : (n : ℕ) (S W : List (List ℤ)) → IsCellSet n S → IsVertexList n W → ((c : List ℤ) → is_cell n c ≡ true → odd (count_by (below c) W) ≡ has S c) → W ≡ evm n S
vertices_are n S W h w e =
    sym (evm-cells n W w)
    ∙ ap (evm n) (same_sets (cells n W) S (ascending-cells n W) h.ascends
    (λ c. has-cells_of n W c ∙ guarded (is_cell n c) (xsum (λ q. each int_le q c) W) (has S c) (λ k. sym (odd-below W c) ∙ e c k) (member_passes (is_cell n) S c h.cells)))

-- ---- the two ways as tests of any place of n numbers, with no limits to speak of

has-wrong : (p : List ℤ → Bool) (S : List (List ℤ)) (c : List ℤ) → list_all p S ≡ true → p c ≡ false → has S c ≡ false
has-wrong p S c h e = refuted (has S c) (λ m. true≢false (sym (member_passes p S c h m) ∙ e))

pub has-cells_even : (n : ℕ) (V : List (List ℤ)) (c : List ℤ) → IsVertexList n V → length c ≡ n → has (cells n V) c ≡ xsum (λ q. each int_le q c) V
has-cells_even n V c h l = has-cells_of n V c ∙ at_test (is_cell n c) refl
  where
    not_all : is_cell n c ≡ false → list_all (is_cell_coord n) c ≡ false
    not_all e = refuted (list_all (is_cell_coord n) c) (λ m. true≢false (sym (cell_from n c l m) ∙ e))

    at_test : (b : Bool) → is_cell n c ≡ b → (is_cell n c && xsum (λ q. each int_le q c) V) ≡ xsum (λ q. each int_le q c) V
    at_test true e = ap (λ t. t && xsum (λ q. each int_le q c) V) e
    at_test false e = ap (λ t. t && xsum (λ q. each int_le q c) V) e ∙ sym (outside n V h.points h.even c l (not_all e))

pub each_touched : (n : ℕ) (s p : List ℤ) → list_all (is_cell_coord n) s ≡ true → each touch s p ≡ true → list_all (is_point_coord n) p ≡ true
unfolding each
each_touched n [] [] h t = refl
each_touched n [] (y ∷ p) h t = absurd (false≢true t)
each_touched n (x ∷ s) [] h t = refl
each_touched n (x ∷ s) (y ∷ p) h t =
    and_both (is_point_coord n y) (list_all (is_point_coord n) p)
    (touched n x y (and_first (is_cell_coord n x) (list_all (is_cell_coord n) s) h) (and_first (touch x y) (each touch s p) t))
    (each_touched n s p (and_second (is_cell_coord n x) (list_all (is_cell_coord n) s) h) (and_second (touch x y) (each touch s p) t))

pub has-evm_of : (n : ℕ) (S : List (List ℤ)) (p : List ℤ) → IsCellSet n S → length p ≡ n → has (evm n S) p ≡ xsum (λ s. each touch s p) S
has-evm_of n S p h l = has-evm n S p ∙ at_test (is_point n p) refl
  where
    untouched : is_point n p ≡ false → (s : List ℤ) → is_cell n s ≡ true → each touch s p ≡ false
    untouched e s m =
        let (f, a) = cell_parts n s m in
        refuted (each touch s p) (λ t. true≢false (sym (point_from n p l (each_touched n s p a t)) ∙ e))

    at_test : (b : Bool) → is_point n p ≡ b → (is_point n p && xsum (λ s. each touch s p) S) ≡ xsum (λ s. each touch s p) S
    at_test true e = ap (λ t. t && xsum (λ s. each touch s p) S) e
    at_test false e =
        ap (λ t. t && xsum (λ s. each touch s p) S) e
        ∙ sym (xsum-same_on (is_cell n) (λ s. each touch s p) (λ s. false) (untouched e) S h.cells ∙ xsum-none S)
