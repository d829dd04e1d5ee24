-- Cell sets that are moved place by place, and how their extreme vertices move.
use Rattle.std.proofs.Common.{◌≡◌, ℕ, zero, suc, ◌<◌, Bool, true, false, ◌&&◌, ◌||◌, ◌==◌, List, [], ◌∷◌, length, map, filter, get_or, set, ℤ, pos, negsuc, neg_ℤ, ◌+ℤ◌, ◌-ℤ◌, refl, sym, ap, ap₂, ◌∙◌, arith, int_le, int_lt, int_eq, eqb-true, eq-eqb, ⊎_elim}
use Rattle.std.specs.Prelude.{swap}
use Rattle.std.specs.List.{list_all}
use Rattle.std.proofs.lemmas.Bool.{true≢false, false≢true, or_cases, or_left, or_right}
use Rattle.std.proofs.lemmas.Int.{ints as int_facts}
use Rattle.std.proofs.lemmas.List.{get_or-set_same, get_or-set_other, length-set}
use Rattle.std.proofs.lemmas.List.Edits.{swap_is, length-swap}
use Rattle.evm_cells.specs.Places.{same, before, ascending, has, each, without}
use Rattle.evm_cells.specs.Limits.{every_cell, is_cell, is_point, is_cell_coord, IsCellSet}
use Rattle.evm_cells.specs.Vertices.{evm, cells, touch, IsVertexList}
use Rattle.evm_cells.specs.Shapes.{added, shift, shift_fits, mirrored, mirror, negated, swap_axes}
use Rattle.evm_cells.proofs.Xor.{xsum, xsum-same, xsum-same_on, and_first, and_second, and_both, odd-count}
use Rattle.evm_cells.proofs.Sum.{xsum-map, xsum-filter, xsum-weigh}
use Rattle.evm_cells.proofs.Order.{rising, same_tests, refuted, sift}
use Rattle.evm_cells.proofs.Lists.{all-map, all_weaker, all_members}
use Rattle.evm_cells.proofs.Coords.{eq_yes, eq_is, cell_is, cell_yes, le_is, le_yes, lt_is, lt_yes}
use Rattle.evm_cells.proofs.Places.{strict_places, ascending-rising, has-any}
use Rattle.evm_cells.proofs.Universe.{ascending-filter, cell_parts, cell_from, point_parts, same_sets, member_passes, xsum-same_place, has-every_cell, rising-every_cell, all-every_cell, ascending-evm, points-evm, cell_set-cells}
use Rattle.evm_cells.proofs.Combine.{cell_set-filter}
use Rattle.evm_cells.proofs.Core.{even_sum, evm-cells, has-evm_of, has-cells_even}
use Rattle.evm_cells.proofs.Layers.{all_and, filter_all}
use Rattle.evm_cells.proofs.Slices.{all-coord}

has_of_length : (n : ℕ) (S : List (List ℤ)) (p : List ℤ) → list_all (λ q. length q == n) S ≡ true → (length p == n) ≡ false → has S p ≡ false
has_of_length n S p a e = refuted (has S p) (λ m. true≢false (sym (member_passes (λ q. length q == n) S p a m) ∙ e))

-- a list of places that ascends and has the extreme vertices is the list of them
pub by_place : (n : ℕ) (S W : List (List ℤ)) → IsCellSet n S → ascending W ≡ true → list_all (λ p. length p == n) W ≡ true → ((p : List ℤ) → length p ≡ n → has W p ≡ has (evm n S) p) → W ≡ evm n S
by_place n S W s a l e = same_sets W (evm n S) a (ascending-evm n S) (λ p. at p (length p == n) refl)
  where
    at : (p : List ℤ) (b : Bool) → (length p == n) ≡ b → has W p ≡ has (evm n S) p
    at p true m = e p (eqb-true (length p) n m)
    at p false m =
        has_of_length n W p l m
        ∙ sym (has_of_length n (evm n S) p (all_weaker (is_point n) (λ q. length q == n) (λ q k. let (f, b) = point_parts n q k in eq-eqb (length q) n f) (evm n S) (points-evm n S)) m)

-- a sum over the cells c whose place f c is in S is one over S, if g takes each cell of S to the one c with this place
pub xsum-moved : (m n : ℕ) (f g : List ℤ → List ℤ) (S : List (List ℤ)) (t : List ℤ → Bool) → IsCellSet m S
    → ((s c : List ℤ) → is_cell m s ≡ true → is_cell n c ≡ true → same s (f c) ≡ same (g s) c)
    → ((s : List ℤ) → is_cell m s ≡ true → is_cell n (g s) ≡ true)
    → xsum t (filter (λ c. has S (f c)) (every_cell n)) ≡ xsum (λ s. t (g s)) S
xsum-moved m n f g S t h e into =
    xsum-filter t (λ c. has S (f c)) (every_cell n)
    ∙ xsum-same (λ c. has S (f c) && t c) (λ c. xsum (λ s. same s (f c)) S && t c) (λ c. ap (λ b. b && t c) (sym (xsum-same_place S (f c) h.ascends))) (every_cell n)
    ∙ xsum-weigh (λ s c. same s (f c)) t S (every_cell n)
    ∙ xsum-same_on (is_cell m) (λ s. xsum (λ c. same s (f c) && t c) (every_cell n)) (λ s. t (g s))
    (λ s k. xsum-same_on (is_cell n) (λ c. same s (f c) && t c) (λ c. same (g s) c && t c) (λ c k2. ap (λ b. b && t c) (e s c k k2)) (every_cell n) (all-every_cell n)
    ∙ sift same before strict_places (g s) t (every_cell n) (rising-every_cell n)
    ∙ ap (λ b. b && t (g s)) (has-every_cell n (g s) ∙ into s k))
    S h.cells

-- the extreme vertices of a moved set, where the moves of cells and points agree on touching
pub has-moved : (m n : ℕ) (f g move : List ℤ → List ℤ) (S : List (List ℤ)) (p : List ℤ) → IsCellSet m S → length p ≡ n → length (move p) ≡ m
    → ((s c : List ℤ) → is_cell m s ≡ true → is_cell n c ≡ true → same s (f c) ≡ same (g s) c)
    → ((s : List ℤ) → is_cell m s ≡ true → is_cell n (g s) ≡ true)
    → ((s : List ℤ) → is_cell m s ≡ true → each touch (g s) p ≡ each touch s (move p))
    → has (evm n (filter (λ c. has S (f c)) (every_cell n))) p ≡ has (evm m S) (move p)
has-moved m n f g move S p h l k e into t =
    has-evm_of n (filter (λ c. has S (f c)) (every_cell n)) p (cell_set-filter n (λ c. has S (f c))) l
    ∙ xsum-moved m n f g S (λ s. each touch s p) h e into
    ∙ xsum-same_on (is_cell m) (λ s. each touch (g s) p) (λ s. each touch s (move p)) t S h.cells
    ∙ sym (has-evm_of m S (move p) h k)

-- ---- mirror

pub length-mirrored : (i : ℕ) (c : List ℤ) → length (mirrored i c) ≡ length c
unfolding mirrored
length-mirrored i [] = refl
length-mirrored zero (x ∷ c) = refl
length-mirrored (suc i) (x ∷ c) = ap suc (length-mirrored i c)

pub length-negated : (i : ℕ) (c : List ℤ) → length (negated i c) ≡ length c
unfolding negated
length-negated i [] = refl
length-negated zero (x ∷ c) = refl
length-negated (suc i) (x ∷ c) = ap suc (length-negated i c)

flip_eq : (x y : ℤ) → int_eq x (negsuc 0 -ℤ y) ≡ int_eq (negsuc 0 -ℤ x) y
flip_eq x y = same_tests (int_eq x (negsuc 0 -ℤ y)) (int_eq (negsuc 0 -ℤ x) y)
    (λ h. eq_yes (negsuc 0 -ℤ x) y (let e : x ≡ negsuc 0 -ℤ y = eq_is x (negsuc 0 -ℤ y) h in omega (arith, int_facts)))
    (λ h. eq_yes x (negsuc 0 -ℤ y) (let e : negsuc 0 -ℤ x ≡ y = eq_is (negsuc 0 -ℤ x) y h in omega (arith, int_facts)))

same-mirrored : (i : ℕ) (s c : List ℤ) → same s (mirrored i c) ≡ same (mirrored i s) c
unfolding same each mirrored
same-mirrored i [] [] = refl
same-mirrored zero [] (y ∷ c) = refl
same-mirrored (suc i) [] (y ∷ c) = refl
same-mirrored zero (x ∷ s) [] = refl
same-mirrored (suc i) (x ∷ s) [] = refl
same-mirrored zero (x ∷ s) (y ∷ c) = ap (λ b. b && same s c) (flip_eq x y)
same-mirrored (suc i) (x ∷ s) (y ∷ c) = ap (λ b. int_eq x y && b) (same-mirrored i s c)

mirror_coord : (n : ℕ) (x : ℤ) → is_cell_coord n x ≡ true → is_cell_coord n (negsuc 0 -ℤ x) ≡ true
mirror_coord n x h = let (a, b) = cell_is n x h in cell_yes n (negsuc 0 -ℤ x) (omega (arith, int_facts)) (omega (arith, int_facts))

all-mirrored : (n i : ℕ) (c : List ℤ) → list_all (is_cell_coord n) c ≡ true → list_all (is_cell_coord n) (mirrored i c) ≡ true
unfolding mirrored
all-mirrored n i [] h = refl
all-mirrored n zero (x ∷ c) h =
    and_both (is_cell_coord n (negsuc 0 -ℤ x)) (list_all (is_cell_coord n) c) (mirror_coord n x (and_first (is_cell_coord n x) (list_all (is_cell_coord n) c) h)) (and_second (is_cell_coord n x) (list_all (is_cell_coord n) c) h)
all-mirrored n (suc i) (x ∷ c) h =
    and_both (is_cell_coord n x) (list_all (is_cell_coord n) (mirrored i c)) (and_first (is_cell_coord n x) (list_all (is_cell_coord n) c) h) (all-mirrored n i c (and_second (is_cell_coord n x) (list_all (is_cell_coord n) c) h))

cell-mirrored : (n i : ℕ) (c : List ℤ) → is_cell n c ≡ true → is_cell n (mirrored i c) ≡ true
cell-mirrored n i c h = let (e, a) = cell_parts n c h in cell_from n (mirrored i c) (length-mirrored i c ∙ e) (all-mirrored n i c a)

or_comm : (a b : Bool) → (a || b) ≡ (b || a)
or_comm true true = refl
or_comm true false = refl
or_comm false true = refl
or_comm false false = refl

touch-flipped : (x y : ℤ) → touch (negsuc 0 -ℤ x) y ≡ touch x (neg_ℤ y)
unfolding touch
touch-flipped x y =
    or_comm (int_eq (negsuc 0 -ℤ x) (y -ℤ pos 1)) (int_eq (negsuc 0 -ℤ x) y)
    ∙ ap₂ (λ a b. a || b)
    (same_tests (int_eq (negsuc 0 -ℤ x) y) (int_eq x (neg_ℤ y -ℤ pos 1))
    (λ h. eq_yes x (neg_ℤ y -ℤ pos 1) (let e : negsuc 0 -ℤ x ≡ y = eq_is (negsuc 0 -ℤ x) y h in omega (arith, int_facts)))
    (λ h. eq_yes (negsuc 0 -ℤ x) y (let e : x ≡ neg_ℤ y -ℤ pos 1 = eq_is x (neg_ℤ y -ℤ pos 1) h in omega (arith, int_facts))))
    (same_tests (int_eq (negsuc 0 -ℤ x) (y -ℤ pos 1)) (int_eq x (neg_ℤ y))
    (λ h. eq_yes x (neg_ℤ y) (let e : negsuc 0 -ℤ x ≡ y -ℤ pos 1 = eq_is (negsuc 0 -ℤ x) (y -ℤ pos 1) h in omega (arith, int_facts)))
    (λ h. eq_yes (negsuc 0 -ℤ x) (y -ℤ pos 1) (let e : x ≡ neg_ℤ y = eq_is x (neg_ℤ y) h in omega (arith, int_facts))))

touch-mirrored : (i : ℕ) (s p : List ℤ) → each touch (mirrored i s) p ≡ each touch s (negated i p)
unfolding each mirrored negated
touch-mirrored i [] [] = refl
touch-mirrored zero [] (y ∷ p) = refl
touch-mirrored (suc i) [] (y ∷ p) = refl
touch-mirrored zero (x ∷ s) [] = refl
touch-mirrored (suc i) (x ∷ s) [] = refl
touch-mirrored zero (x ∷ s) (y ∷ p) = ap (λ b. b && each touch s p) (touch-flipped x y)
touch-mirrored (suc i) (x ∷ s) (y ∷ p) = ap (λ b. touch x y && b) (touch-mirrored i s p)

pub has-mirror : (n i : ℕ) (S : List (List ℤ)) (p : List ℤ) → IsCellSet n S → length p ≡ n → has (evm n (mirror n i S)) p ≡ has (evm n S) (negated i p)
unfolding mirror
has-mirror n i S p h l =
    has-moved n n (mirrored i) (mirrored i) (negated i) S p h l (length-negated i p ∙ l) (λ s c _ _. same-mirrored i s c) (cell-mirrored n i) (λ s _. touch-mirrored i s p)

pub cell_set-mirror : (n i : ℕ) (S : List (List ℤ)) → IsCellSet n (mirror n i S)
unfolding mirror
cell_set-mirror n i S = cell_set-filter n (λ c. has S (mirrored i c))

-- a point turned round twice is as it was
neg_eq : (x y : ℤ) → int_eq (neg_ℤ x) y ≡ int_eq x (neg_ℤ y)
neg_eq x y = same_tests (int_eq (neg_ℤ x) y) (int_eq x (neg_ℤ y))
    (λ h. eq_yes x (neg_ℤ y) (let e : neg_ℤ x ≡ y = eq_is (neg_ℤ x) y h in omega (arith, int_facts)))
    (λ h. eq_yes (neg_ℤ x) y (let e : x ≡ neg_ℤ y = eq_is x (neg_ℤ y) h in omega (arith, int_facts)))

pub same-negated : (i : ℕ) (p q : List ℤ) → same (negated i p) q ≡ same p (negated i q)
unfolding same each negated
same-negated i [] [] = refl
same-negated zero [] (y ∷ q) = refl
same-negated (suc i) [] (y ∷ q) = refl
same-negated zero (x ∷ p) [] = refl
same-negated (suc i) (x ∷ p) [] = refl
same-negated zero (x ∷ p) (y ∷ q) = ap (λ b. b && same p q) (neg_eq x y)
same-negated (suc i) (x ∷ p) (y ∷ q) = ap (λ b. int_eq x y && b) (same-negated i p q)

-- ---- swap

all_at : (f : ℤ → Bool) (c : List ℤ) → ((k : ℕ) → k < length c → f (get_or c k (pos 0)) ≡ true) → list_all f c ≡ true
all_at f [] h = refl
all_at f (x ∷ c) h = and_both (f x) (list_all f c) (h 0 (omega arith)) (all_at f c (λ k l. h (suc k) (omega arith)))

each_at : (r : ℤ → ℤ → Bool) (s c : List ℤ) → length s ≡ length c → ((k : ℕ) → k < length s → r (get_or s k (pos 0)) (get_or c k (pos 0)) ≡ true) → each r s c ≡ true
unfolding each
each_at r [] [] e h = refl
each_at r [] (y ∷ c) e h = absurd (omega arith)
each_at r (x ∷ s) [] e h = absurd (omega arith)
each_at r (x ∷ s) (y ∷ c) e h = and_both (r x y) (each r s c) (h 0 (omega arith)) (each_at r s c (omega arith) (λ k l. h (suc k) (omega arith)))

at_each : (r : ℤ → ℤ → Bool) (s c : List ℤ) → each r s c ≡ true → (k : ℕ) → k < length s → r (get_or s k (pos 0)) (get_or c k (pos 0)) ≡ true
unfolding each
at_each r [] [] h k l = absurd (omega arith)
at_each r [] (y ∷ c) h k l = absurd (false≢true h)
at_each r (x ∷ s) [] h k l = absurd (false≢true h)
at_each r (x ∷ s) (y ∷ c) h zero l = and_first (r x y) (each r s c) h
at_each r (x ∷ s) (y ∷ c) h (suc k) l = at_each r s c (and_second (r x y) (each r s c) h) k (omega arith)

-- the coordinates of a swapped place
record Swapping (i j : ℕ) (s t : List ℤ) : Type 0 where
  first : get_or t i (pos 0) ≡ get_or s j (pos 0)
  second : get_or t j (pos 0) ≡ get_or s i (pos 0)
  others : (k : ℕ) → (k ≡ i → ⊥) → (k ≡ j → ⊥) → get_or t k (pos 0) ≡ get_or s k (pos 0)

swapping : (i j : ℕ) (s : List ℤ) → i < length s → j < length s → Swapping i j s (swap s i j)
swapping i j s a b = at (i == j) refl
  where
    t : List ℤ
    t = set (set s i (get_or s j (pos 0))) j (get_or s i (pos 0))

    back : (k : ℕ) → get_or (swap s i j) k (pos 0) ≡ get_or t k (pos 0)
    back k = ap (λ z. get_or z k (pos 0)) (sym (swap_is s i j (pos 0) a b))

    last : get_or t j (pos 0) ≡ get_or s i (pos 0)
    last = get_or-set_same (set s i (get_or s j (pos 0))) j (get_or s i (pos 0)) (pos 0) (let e = length-set s i (get_or s j (pos 0)) in omega arith)

    others : (k : ℕ) → (k ≡ i → ⊥) → (k ≡ j → ⊥) → get_or t k (pos 0) ≡ get_or s k (pos 0)
    others k f g = get_or-set_other (set s i (get_or s j (pos 0))) j k (get_or s i (pos 0)) (pos 0) g ∙ get_or-set_other s i k (get_or s j (pos 0)) (pos 0) f

    at : (e : Bool) → (i == j) ≡ e → Swapping i j s (swap s i j)
    at true e = let q : i ≡ j = eqb-true i j e in record {
      first = back i ∙ ap (λ (k : ℕ). get_or t k (pos 0)) q ∙ last ∙ ap (λ (k : ℕ). get_or s k (pos 0)) q;
      second = back j ∙ last;
      others = λ k f g. back k ∙ others k f g;
    }
    at false e = record {
      first = back i ∙ get_or-set_other (set s i (get_or s j (pos 0))) j i (get_or s i (pos 0)) (pos 0) (λ q. true≢false (sym (eq-eqb i j q) ∙ e)) ∙ get_or-set_same s i (get_or s j (pos 0)) (pos 0) a;
      second = back j ∙ last;
      others = λ k f g. back k ∙ others k f g;
    }

-- a number is i, or j, or another
of_three : {P : Type 0} (i j k : ℕ) → (k ≡ i → P) → (k ≡ j → P) → ((k ≡ i → ⊥) → (k ≡ j → ⊥) → P) → P
of_three {P = P} i j k f g h = at (k == i) (k == j) refl refl
  where
    at : (a b : Bool) → (k == i) ≡ a → (k == j) ≡ b → P
    at true b e d = f (eqb-true k i e)
    at false true e d = g (eqb-true k j d)
    at false false e d = h (λ q. true≢false (sym (eq-eqb k i q) ∙ e)) (λ q. true≢false (sym (eq-eqb k j q) ∙ d))

-- the exchange may be made on either side of a relation
pub each-swap : (r : ℤ → ℤ → Bool) (i j : ℕ) (s p : List ℤ) → i < length s → j < length s → length p ≡ length s → each r (swap s i j) p ≡ each r s (swap p i j)
each-swap r i j s p a b l =
    let u : Swapping i j s (swap s i j) = swapping i j s a b in
    let v : Swapping i j p (swap p i j) = swapping i j p (omega arith) (omega arith) in
    let m : length (swap s i j) ≡ length s = length-swap s i j in
    let n : length (swap p i j) ≡ length p = length-swap p i j in
    same_tests (each r (swap s i j) p) (each r s (swap p i j))
    (λ h. let f = at_each r (swap s i j) p h in each_at r s (swap p i j) (omega arith)
    (λ k o. of_three i j k
    (λ e. ap₂ r (ap (λ (z : ℕ). get_or s z (pos 0)) e ∙ sym u.second) (ap (λ (z : ℕ). get_or (swap p i j) z (pos 0)) e ∙ v.first) ∙ f j (omega arith))
    (λ e. ap₂ r (ap (λ (z : ℕ). get_or s z (pos 0)) e ∙ sym u.first) (ap (λ (z : ℕ). get_or (swap p i j) z (pos 0)) e ∙ v.second) ∙ f i (omega arith))
    (λ c d. ap₂ r (sym (u.others k c d)) (v.others k c d) ∙ f k (omega arith))))
    (λ h. let f = at_each r s (swap p i j) h in each_at r (swap s i j) p (omega arith)
    (λ k o. of_three i j k
    (λ e. ap₂ r (ap (λ (z : ℕ). get_or (swap s i j) z (pos 0)) e ∙ u.first) (ap (λ (z : ℕ). get_or p z (pos 0)) e ∙ sym v.second) ∙ f j (omega arith))
    (λ e. ap₂ r (ap (λ (z : ℕ). get_or (swap s i j) z (pos 0)) e ∙ u.second) (ap (λ (z : ℕ). get_or p z (pos 0)) e ∙ sym v.first) ∙ f i (omega arith))
    (λ c d. ap₂ r (u.others k c d) (sym (v.others k c d)) ∙ f k (omega arith))))

cell-swap : (n i j : ℕ) (c : List ℤ) → i < n → j < n → is_cell n c ≡ true → is_cell n (swap c i j) ≡ true
cell-swap n i j c a b h =
    let (e, w) = cell_parts n c h in
    let u : Swapping i j c (swap c i j) = swapping i j c (omega arith) (omega arith) in
    let m : length (swap c i j) ≡ length c = length-swap c i j in
    cell_from n (swap c i j) (m ∙ e)
    (all_at (is_cell_coord n) (swap c i j)
    (λ k o. of_three i j k
    (λ q. ap (is_cell_coord n) (ap (λ (z : ℕ). get_or (swap c i j) z (pos 0)) q ∙ u.first) ∙ all-coord (is_cell_coord n) j c (omega arith) w)
    (λ q. ap (is_cell_coord n) (ap (λ (z : ℕ). get_or (swap c i j) z (pos 0)) q ∙ u.second) ∙ all-coord (is_cell_coord n) i c (omega arith) w)
    (λ f g. ap (is_cell_coord n) (u.others k f g) ∙ all-coord (is_cell_coord n) k c (omega arith) w)))

same-swap : (n i j : ℕ) (s c : List ℤ) → i < n → j < n → is_cell n s ≡ true → is_cell n c ≡ true → same s (swap c i j) ≡ same (swap s i j) c
unfolding same
same-swap n i j s c a b h k =
    let (e, w) = cell_parts n s h in
    let (f, x) = cell_parts n c k in
    sym (each-swap int_eq i j s c (omega arith) (omega arith) (omega arith))

pub has-swap : (n i j : ℕ) (S : List (List ℤ)) (p : List ℤ) → i < n → j < n → IsCellSet n S → length p ≡ n → has (evm n (swap_axes n i j S)) p ≡ has (evm n S) (swap p i j)
unfolding swap_axes
has-swap n i j S p a b h l =
    has-moved n n (λ c. swap c i j) (λ c. swap c i j) (λ c. swap c i j) S p h l (length-swap p i j ∙ l)
    (λ s c k m. same-swap n i j s c a b k m) (λ s k. cell-swap n i j s a b k)
    (λ s k. let (e, w) = cell_parts n s k in each-swap touch i j s p (omega arith) (omega arith) (omega arith))

pub cell_set-swap : (n i j : ℕ) (S : List (List ℤ)) → IsCellSet n (swap_axes n i j S)
unfolding swap_axes
cell_set-swap n i j S = cell_set-filter n (λ c. has S (swap c i j))

-- ---- shift

-- the way back
pub negs : List ℤ → List ℤ
negs d = map neg_ℤ d

length-negs : (d : List ℤ) → length (negs d) ≡ length d
unfolding negs
length-negs [] = refl
length-negs (a ∷ d) = ap suc (length-negs d)

pub length-added : (d c : List ℤ) → length d ≡ length c → length (added d c) ≡ length c
unfolding added
length-added [] [] e = refl
length-added [] (x ∷ c) e = absurd (omega arith)
length-added (a ∷ d) [] e = refl
length-added (a ∷ d) (x ∷ c) e = ap suc (length-added d c (omega arith))

-- a shift may be made on either side of a relation that does not see it
each-added : (r : ℤ → ℤ → Bool) → ((x y a : ℤ) → r (x +ℤ a) y ≡ r x (y +ℤ neg_ℤ a)) → (d s p : List ℤ) → length d ≡ length s → length d ≡ length p → each r (added d s) p ≡ each r s (added (negs d) p)
unfolding each added negs
each-added r f [] [] [] a b = refl
each-added r f [] (x ∷ s) p a b = absurd (omega arith)
each-added r f [] [] (y ∷ p) a b = absurd (omega arith)
each-added r f (c ∷ d) [] p a b = absurd (omega arith)
each-added r f (c ∷ d) (x ∷ s) [] a b = absurd (omega arith)
each-added r f (c ∷ d) (x ∷ s) (y ∷ p) a b = ap₂ (λ u v. u && v) (f x y c) (each-added r f d s p (omega arith) (omega arith))

eq-added : (x y a : ℤ) → int_eq (x +ℤ a) y ≡ int_eq x (y +ℤ neg_ℤ a)
eq-added x y a = same_tests (int_eq (x +ℤ a) y) (int_eq x (y +ℤ neg_ℤ a))
    (λ h. eq_yes x (y +ℤ neg_ℤ a) (let e : x +ℤ a ≡ y = eq_is (x +ℤ a) y h in omega (arith, int_facts)))
    (λ h. eq_yes (x +ℤ a) y (let e : x ≡ y +ℤ neg_ℤ a = eq_is x (y +ℤ neg_ℤ a) h in omega (arith, int_facts)))

le-added : (x y a : ℤ) → int_le (x +ℤ a) y ≡ int_le x (y +ℤ neg_ℤ a)
le-added x y a = same_tests (int_le (x +ℤ a) y) (int_le x (y +ℤ neg_ℤ a))
    (λ h. le_yes x (y +ℤ neg_ℤ a) (let e = le_is (x +ℤ a) y h in omega (arith, int_facts)))
    (λ h. le_yes (x +ℤ a) y (let e = le_is x (y +ℤ neg_ℤ a) h in omega (arith, int_facts)))

touch-added : (x y a : ℤ) → touch (x +ℤ a) y ≡ touch x (y +ℤ neg_ℤ a)
unfolding touch
touch-added x y a =
    ap₂ (λ u v. u || v)
    (eq-added x (y -ℤ pos 1) a ∙ ap (int_eq x) (let e : y -ℤ pos 1 +ℤ neg_ℤ a ≡ y +ℤ neg_ℤ a -ℤ pos 1 = omega (arith, int_facts) in e))
    (eq-added x y a)

added_back : (d c : List ℤ) → length d ≡ length c → added (negs d) (added d c) ≡ c
unfolding added negs
added_back [] [] e = refl
added_back [] (x ∷ c) e = absurd (omega arith)
added_back (a ∷ d) [] e = absurd (omega arith)
added_back (a ∷ d) (x ∷ c) e = ap₂ (λ y z. y ∷ z) (let f : x +ℤ a +ℤ neg_ℤ a ≡ x = omega (arith, int_facts) in f) (added_back d c (omega arith))

without-added : (i : ℕ) (d c : List ℤ) → length d ≡ length c → without i (added d c) ≡ added (without i d) (without i c)
unfolding added without
without-added i [] [] e = refl
without-added i [] (x ∷ c) e = absurd (omega arith)
without-added i (a ∷ d) [] e = absurd (omega arith)
without-added zero (a ∷ d) (x ∷ c) e = refl
without-added (suc i) (a ∷ d) (x ∷ c) e = ap (λ z. (x +ℤ a) ∷ z) (without-added i d c (omega arith))

lt-added : (x y a : ℤ) → int_lt (x +ℤ a) (y +ℤ a) ≡ int_lt x y
lt-added x y a = same_tests (int_lt (x +ℤ a) (y +ℤ a)) (int_lt x y)
    (λ h. lt_yes x y (let e = lt_is (x +ℤ a) (y +ℤ a) h in omega (arith, int_facts)))
    (λ h. lt_yes (x +ℤ a) (y +ℤ a) (let e = lt_is x y h in omega (arith, int_facts)))

before-added : (d p q : List ℤ) → length d ≡ length p → length d ≡ length q → before p q ≡ true → before (added d p) (added d q) ≡ true
unfolding before added
before-added [] [] [] a b h = h
before-added [] [] (y ∷ q) a b h = absurd (omega arith)
before-added [] (x ∷ p) q a b h = absurd (omega arith)
before-added (c ∷ d) [] q a b h = absurd (omega arith)
before-added (c ∷ d) (x ∷ p) [] a b h = absurd (omega arith)
before-added (c ∷ d) (x ∷ p) (y ∷ q) a b h = ⊎_elim
    (λ l. or_left (int_lt (x +ℤ c) (y +ℤ c)) (int_eq (x +ℤ c) (y +ℤ c) && before (added d p) (added d q)) (lt-added x y c ∙ l))
    (λ r. or_right (int_lt (x +ℤ c) (y +ℤ c)) (int_eq (x +ℤ c) (y +ℤ c) && before (added d p) (added d q))
    (and_both (int_eq (x +ℤ c) (y +ℤ c)) (before (added d p) (added d q))
    (eq_yes (x +ℤ c) (y +ℤ c) (ap (λ z. z +ℤ c) (eq_is x y (and_first (int_eq x y) (before p q) r))))
    (before-added d p q (omega arith) (omega arith) (and_second (int_eq x y) (before p q) r))))
    (or_cases (int_lt x y) (int_eq x y && before p q) h)

rising-added : (d : List ℤ) (V : List (List ℤ)) → list_all (λ p. length p == length d) V ≡ true → rising before V ≡ true → rising before (map (added d) V) ≡ true
unfolding rising
rising-added d [] a b = refl
rising-added d (p ∷ V) a b =
    let lp : length p ≡ length d = eqb-true (length p) (length d) (and_first (length p == length d) (list_all (λ q. length q == length d) V) a) in
    let rest : list_all (λ q. length q == length d) V ≡ true = and_second (length p == length d) (list_all (λ q. length q == length d) V) a in
    and_both (list_all (before (added d p)) (map (added d) V)) (rising before (map (added d) V))
    (all-map (before (added d p)) (added d) V
    ∙ all_weaker (λ q. before p q && (length q == length d)) (λ q. before (added d p) (added d q))
    (λ q m. before-added d p q (sym lp) (sym (eqb-true (length q) (length d) (and_second (before p q) (length q == length d) m))) (and_first (before p q) (length q == length d) m))
    V (all_and (before p) (λ q. length q == length d) V (and_first (list_all (before p) V) (rising before V) b) rest))
    (rising-added d V rest (and_second (list_all (before p) V) (rising before V) b))

pub ascending-added : (n : ℕ) (d : List ℤ) (V : List (List ℤ)) → length d ≡ n → list_all (λ p. length p == n) V ≡ true → ascending V ≡ true → ascending (map (added d) V) ≡ true
ascending-added n d V l a h =
    ascending-rising (map (added d) V) ∙ rising-added d V (ap (λ (m : ℕ). list_all (λ p. length p == m) V) l ∙ a) (sym (ascending-rising V) ∙ h)

pub lengths-points : (n : ℕ) (V : List (List ℤ)) → list_all (is_point n) V ≡ true → list_all (λ p. length p == n) V ≡ true
lengths-points n V a = all_weaker (is_point n) (λ q. length q == n) (λ q k. let (f, b) = point_parts n q k in eq-eqb (length q) n f) V a

lengths-cells : (n : ℕ) (V : List (List ℤ)) → list_all (is_cell n) V ≡ true → list_all (λ p. length p == n) V ≡ true
lengths-cells n V a = all_weaker (is_cell n) (λ q. length q == n) (λ q k. let (f, b) = cell_parts n q k in eq-eqb (length q) n f) V a

lengths-added : (n : ℕ) (d : List ℤ) (V : List (List ℤ)) → length d ≡ n → list_all (λ p. length p == n) V ≡ true → list_all (λ p. length p == n) (map (added d) V) ≡ true
lengths-added n d V l a =
    all-map (λ p. length p == n) (added d) V
    ∙ all_weaker (λ p. length p == n) (λ p. length (added d p) == n) (λ p k. let e : length p ≡ n = eqb-true (length p) n k in eq-eqb (length (added d p)) n (length-added d p (omega arith) ∙ e)) V a

-- what a moved list has
pub has-added : (n : ℕ) (d : List ℤ) (V : List (List ℤ)) (p : List ℤ) → length d ≡ n → list_all (λ q. length q == n) V ≡ true → ascending V ≡ true → length p ≡ n → has (map (added d) V) p ≡ has V (added (negs d) p)
unfolding same
has-added n d V p l a h e =
    sym (xsum-same_place (map (added d) V) p (ascending-added n d V l a h))
    ∙ xsum-map (λ q. same q p) (added d) V
    ∙ xsum-same_on (λ q. length q == n) (λ q. each int_eq (added d q) p) (λ q. each int_eq q (added (negs d) p))
    (λ q k. let f : length q ≡ n = eqb-true (length q) n k in each-added int_eq eq-added d q p (omega arith) (omega arith)) V a
    ∙ xsum-same_place V (added (negs d) p) h

pub cell_set-shift : (n : ℕ) (d : List ℤ) (S : List (List ℤ)) → length d ≡ n → IsCellSet n S → IsCellSet n (shift n d S)
unfolding shift
cell_set-shift n d S l h = record {
  ascends = ascending-filter (is_cell n) (map (added d) S) (ascending-added n d S l (lengths-cells n S h.cells) h.ascends);
  cells = filter_all (is_cell n) (map (added d) S);
}

-- a sum over the cells of a shift in range
xsum-shift : (n : ℕ) (d : List ℤ) (S : List (List ℤ)) (t : List ℤ → Bool) → shift_fits n d S ≡ true → xsum t (shift n d S) ≡ xsum (λ s. t (added d s)) S
unfolding shift shift_fits
xsum-shift n d S t fits =
    xsum-filter t (is_cell n) (map (added d) S)
    ∙ xsum-map (λ s. is_cell n s && t s) (added d) S
    ∙ xsum-same_on (λ s. is_cell n (added d s)) (λ s. is_cell n (added d s) && t (added d s)) (λ s. t (added d s)) (λ s k. ap (λ b. b && t (added d s)) k) S fits

-- a shift in range moves the extreme vertices
pub evm-shift : (n : ℕ) (d : List ℤ) (V : List (List ℤ)) → length d ≡ n → IsVertexList n V → shift_fits n d (cells n V) ≡ true → map (added d) V ≡ evm n (shift n d (cells n V))
evm-shift n d V l v fits =
    let s : IsCellSet n (cells n V) = cell_set-cells n V in
    by_place n (shift n d (cells n V)) (map (added d) V) (cell_set-shift n d (cells n V) l s)
    (ascending-added n d V l (lengths-points n V v.points) v.ascends) (lengths-added n d V l (lengths-points n V v.points))
    (λ p e. has-added n d V p l (lengths-points n V v.points) v.ascends e
    ∙ ap (λ W. has W (added (negs d) p)) (sym (evm-cells n V v))
    ∙ has-evm_of n (cells n V) (added (negs d) p) s (let f = length-negs d in length-added (negs d) p (omega arith) ∙ e)
    ∙ sym (has-evm_of n (shift n d (cells n V)) p (cell_set-shift n d (cells n V) l s) e
    ∙ xsum-shift n d (cells n V) (λ s. each touch s p) fits
    ∙ xsum-same_on (is_cell n) (λ s. each touch (added d s) p) (λ s. each touch s (added (negs d) p))
    (λ s k. let (f, b) = cell_parts n s k in each-added touch touch-added d s p (omega arith) (omega arith)) (cells n V) s.cells))

vertices-added : (n : ℕ) (d : List ℤ) (V : List (List ℤ)) → length d ≡ n → IsVertexList n V → list_all (is_point n) (map (added d) V) ≡ true → IsVertexList n (map (added d) V)
vertices-added n d V l v a = record {
  ascends = ascending-added n d V l (lengths-points n V v.points) v.ascends;
  points = a;
  even = λ i line k.
      odd-count (λ p. same (without i p) line) (map (added d) V)
      ∙ xsum-map (λ p. same (without i p) line) (added d) V
      ∙ xsum-same_on (is_point n) (λ p. same (without i (added d p)) line) (λ p. same (added (without i d) (without i p)) line)
      (λ p m. let (e, b) = point_parts n p m in ap (λ z. same z line) (without-added i d p (omega arith))) V v.points
      ∙ even_sum n V v.points v.even i k (λ r. same (added (without i d) r) line);
}

-- the shift is in range exactly where each moved vertex is a point
pub shift_in_range : (n : ℕ) (d : List ℤ) (V : List (List ℤ)) → length d ≡ n → IsVertexList n V → shift_fits n d (cells n V) ≡ list_all (is_point n) (map (added d) V)
unfolding shift_fits
shift_in_range n d V l v =
    same_tests (shift_fits n d (cells n V)) (list_all (is_point n) (map (added d) V))
    (λ fits. ap (list_all (is_point n)) (evm-shift n d V l v fits) ∙ points-evm n (shift n d (cells n V)))
    (λ a. all_members same before strict_places (λ c. is_cell n (added d c)) (cells n V)
    (λ c m. let k : has (cells n V) c ≡ true = has-any (cells n V) c ∙ m in inside a c k))
  where
    inside : list_all (is_point n) (map (added d) V) ≡ true → (c : List ℤ) → has (cells n V) c ≡ true → is_cell n (added d c) ≡ true
    inside a c m =
        let s : IsCellSet n (cells n V) = cell_set-cells n V in
        let (e, b) = cell_parts n c (member_passes (is_cell n) (cells n V) c s.cells m) in
        let w : IsVertexList n (map (added d) V) = vertices-added n d V l v a in
        let t : IsCellSet n (cells n (map (added d) V)) = cell_set-cells n (map (added d) V) in
        let f : length (added d c) ≡ n = length-added d c (omega arith) ∙ e in
        member_passes (is_cell n) (cells n (map (added d) V)) (added d c) t.cells
        (has-cells_even n (map (added d) V) (added d c) w f
        ∙ xsum-map (λ q. each int_le q (added d c)) (added d) V
        ∙ xsum-same_on (is_point n) (λ q. each int_le (added d q) (added d c)) (λ q. each int_le q (added (negs d) (added d c)))
        (λ q k. let (g, x) = point_parts n q k in each-added int_le le-added d q (added d c) (omega arith) (omega arith)) V v.points
        ∙ ap (λ z. xsum (λ q. each int_le q z) V) (added_back d c (omega arith))
        ∙ sym (has-cells_even n V c v e) ∙ m)
