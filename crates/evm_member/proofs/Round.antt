-- The cells round a point, from the rows that are level with it.
use Rattle.std.proofs.Common.{◌≡◌, ℕ, zero, suc, ◌+◌, ◌*◌, ◌/◌, ◌%◌, ◌^◌, ◌≤◌, Bool, true, false, not, cond, ◌&&◌, ◌||◌, ◌==◌, List, [], ◌∷◌, length, map, filter, count_by, ℤ, pos, ◌-ℤ◌, refl, sym, ap, ap₂, ◌∙◌, arith, int_le, int_lt, int_eq, length-append, eqb-true, eq-eqb}
use Rattle.std.specs.List.{list_all}
use Rattle.std.proofs.lemmas.Int.{ints as int_facts}
use Rattle.std.proofs.lemmas.List.{length-map}
use Rattle.std.proofs.lemmas.Bool.{false≢true}
use Rattle.std.proofs.lemmas.List.Sums.{sum_by-cons, count_by-le-length}
use Rattle.evm_cells.specs.Places.{each, has, without}
use Rattle.evm_cells.specs.Booleans.{xor}
use Rattle.evm_cells.specs.Vertices.{touch, around, cells, IsVertexList}
use Rattle.evm_cells.specs.Boxes.{corners}
use Rattle.evm_cells.specs.Measures.{neighbours}
use Rattle.evm_cells.proofs.Xor.{xsum, xsum-same, false-xor, xor-false, and_first, and_second, and_both, and-false, and-true}
use Rattle.evm_cells.proofs.Sum.{xsum-filter, xsum-map, xsum-xor, xsum-and_right}
use Rattle.evm_cells.proofs.Order.{same_tests, refuted}
use Rattle.evm_cells.proofs.Lists.{all-append, all-map}
use Rattle.evm_cells.proofs.Coords.{le_yes, le_no, lt_yes, lt_no, eq_is, eq_yes, eq_no, by_order}
use Rattle.evm_cells.proofs.Universe.{ascending-cells}
use Rattle.evm_cells.proofs.Core.{has-cells_even}
use Rattle.evm_cells.proofs.Neighbours.{around-neighbours}
use Rattle.evm_member.specs.Levels.{level_axes, is_level}

-- ---- the neighbours of a point

-- what holds of each cell that touches the point holds of all its neighbours, and the other way round
all_round : (p : List ℤ) (f : List ℤ → Bool) → ((c : List ℤ) → each touch c p ≡ true → f c ≡ true) → list_all f (neighbours p) ≡ true
unfolding neighbours corners each touch
all_round [] f h = and_both (f []) true (h [] refl) refl
all_round (y ∷ p) f h =
    all-append f (map (λ t. (y -ℤ pos 1) ∷ t) (neighbours p)) (map (λ t. y ∷ t) (neighbours p))
    ∙ and_both (list_all f (map (λ t. (y -ℤ pos 1) ∷ t) (neighbours p))) (list_all f (map (λ t. y ∷ t) (neighbours p)))
    (all-map f (λ t. (y -ℤ pos 1) ∷ t) (neighbours p)
    ∙ all_round p (λ t. f ((y -ℤ pos 1) ∷ t)) (λ c t. h ((y -ℤ pos 1) ∷ c) (rw (eq_yes (y -ℤ pos 1) (y -ℤ pos 1) refl) t)))
    (all-map f (λ t. y ∷ t) (neighbours p)
    ∙ all_round p (λ t. f (y ∷ t)) (λ c t. h (y ∷ c) (and_both (int_eq y (y -ℤ pos 1) || int_eq y y) (each touch c p) (or_right (int_eq y (y -ℤ pos 1)) (int_eq y y) (eq_yes y y refl)) t)))
  where
    or_right : (a b : Bool) → b ≡ true → (a || b) ≡ true
    or_right true b e = refl
    or_right false b e = e

at_round : (p : List ℤ) (f : List ℤ → Bool) → list_all f (neighbours p) ≡ true → (c : List ℤ) → each touch c p ≡ true → f c ≡ true
unfolding neighbours corners each touch
at_round [] f h [] t = and_first (f []) true h
at_round [] f h (z ∷ c) t = absurd (false≢true t)
at_round (y ∷ p) f h [] t = absurd (false≢true t)
at_round (y ∷ p) f h (z ∷ c) t =
    let low : List (List ℤ) = map (λ t. (y -ℤ pos 1) ∷ t) (neighbours p) in
    let high : List (List ℤ) = map (λ t. y ∷ t) (neighbours p) in
    let both : (list_all f low && list_all f high) ≡ true = sym (all-append f low high) ∙ h in
    let u : (int_eq z (y -ℤ pos 1) || int_eq z y) ≡ true = and_first (int_eq z (y -ℤ pos 1) || int_eq z y) (each touch c p) t in
    let v : each touch c p ≡ true = and_second (int_eq z (y -ℤ pos 1) || int_eq z y) (each touch c p) t in
    at_side (int_eq z (y -ℤ pos 1)) refl u
    (at_round p (λ t. f ((y -ℤ pos 1) ∷ t)) (sym (all-map f (λ t. (y -ℤ pos 1) ∷ t) (neighbours p)) ∙ and_first (list_all f low) (list_all f high) both) c v)
    (at_round p (λ t. f (y ∷ t)) (sym (all-map f (λ t. y ∷ t) (neighbours p)) ∙ and_second (list_all f low) (list_all f high) both) c v)
  where
    at_side : (b : Bool) → int_eq z (y -ℤ pos 1) ≡ b → (int_eq z (y -ℤ pos 1) || int_eq z y) ≡ true → f ((y -ℤ pos 1) ∷ c) ≡ true → f (y ∷ c) ≡ true → f (z ∷ c) ≡ true
    at_side true e u g k = ap (λ x. f (x ∷ c)) (eq_is z (y -ℤ pos 1) e) ∙ g
    at_side false e u g k = ap (λ x. f (x ∷ c)) (eq_is z y (rw e at u)) ∙ k

length-neighbours : (p : List ℤ) → length (neighbours p) ≡ 2 ^ length p
unfolding neighbours corners
length-neighbours [] = refl
length-neighbours (y ∷ p) =
    length-append (map (λ t. (y -ℤ pos 1) ∷ t) (neighbours p)) (map (λ t. y ∷ t) (neighbours p))
    ∙ ap₂ (λ a b. a + b) (length-map (neighbours p) (λ t. (y -ℤ pos 1) ∷ t) ∙ length-neighbours p) (length-map (neighbours p) (λ t. y ∷ t) ∙ length-neighbours p)
    ∙ twice (length p)
  where
    twice : (n : ℕ) → 2 ^ n + 2 ^ n ≡ 2 ^ suc n
    twice n = grind arith

touching-length : (c p : List ℤ) → each touch c p ≡ true → length c ≡ length p
unfolding each
touching-length [] [] t = refl
touching-length [] (y ∷ p) t = absurd (false≢true t)
touching-length (z ∷ c) [] t = absurd (false≢true t)
touching-length (z ∷ c) (y ∷ p) t = ap suc (touching-length c p (and_second (touch z y) (each touch c p) t))

-- ---- how many pass a test

pub count-cons : {X : Type 0} (f : X → Bool) (x : X) (xs : List X) → count_by f (x ∷ xs) ≡ cond (f x) 1 0 + count_by f xs
count-cons f x xs = sum_by-cons (λ x. cond (f x) 1 0) x xs

count_all : {X : Type 0} (f : X → Bool) (xs : List X) → list_all f xs ≡ true → count_by f xs ≡ length xs
count_all f [] h = refl
count_all f (x ∷ xs) h =
    count-cons f x xs ∙ ap₂ (λ b k. cond b 1 0 + k) (and_first (f x) (list_all f xs) h) (count_all f xs (and_second (f x) (list_all f xs) h)) ∙ more (length xs)
  where
    more : (k : ℕ) → 1 + k ≡ suc k
    more k = omega arith

pub count_none : {X : Type 0} (f : X → Bool) (xs : List X) → list_all (λ x. not (f x)) xs ≡ true → count_by f xs ≡ 0
count_none f [] h = refl
count_none f (x ∷ xs) h =
    count-cons f x xs ∙ ap₂ (λ b k. cond b 1 0 + k) (untrue (f x) (and_first (not (f x)) (list_all (λ x. not (f x)) xs) h)) (count_none f xs (and_second (not (f x)) (list_all (λ x. not (f x)) xs) h))
  where
    untrue : (b : Bool) → not b ≡ true → b ≡ false
    untrue true e = sym e
    untrue false e = refl

count_step : {X : Type 0} (f : X → Bool) (x : X) (xs : List X) (b : Bool) → f x ≡ b → count_by f (x ∷ xs) ≡ cond b 1 0 + count_by f xs
count_step f x xs b q = count-cons f x xs ∙ ap (λ t. cond t 1 0 + count_by f xs) q

all_counted : {X : Type 0} (f : X → Bool) (xs : List X) → count_by f xs ≡ length xs → list_all f xs ≡ true
all_counted f [] e = refl
all_counted f (x ∷ xs) e = at (f x) refl (all_counted f xs)
  where
    too_many : (k m l : ℕ) → k ≡ l + 1 → k ≡ 0 + m → m ≤ l → ⊥
    too_many k m l a b c = omega arith

    as_many : (k m l : ℕ) → k ≡ l + 1 → k ≡ 1 + m → m ≡ l
    as_many k m l a b = omega arith

    one_more : (l : ℕ) → suc l ≡ l + 1
    one_more l = omega arith

    at : (b : Bool) → f x ≡ b → (count_by f xs ≡ length xs → list_all f xs ≡ true) → (f x && list_all f xs) ≡ true
    at true q r = and_both (f x) (list_all f xs) q (r (as_many (count_by f (x ∷ xs)) (count_by f xs) (length xs) (e ∙ one_more (length xs)) (count_step f x xs true q)))
    at false q r = absurd (too_many (count_by f (x ∷ xs)) (count_by f xs) (length xs) (e ∙ one_more (length xs)) (count_step f x xs false q) (count_by-le-length f xs))

none_counted : {X : Type 0} (f : X → Bool) (xs : List X) → count_by f xs ≡ 0 → list_all (λ x. not (f x)) xs ≡ true
none_counted f [] e = refl
none_counted f (x ∷ xs) e = at (f x) refl (none_counted f xs)
  where
    too_many : (k m : ℕ) → k ≡ 0 → k ≡ 1 + m → ⊥
    too_many k m a b = omega arith

    as_many : (k m : ℕ) → k ≡ 0 → k ≡ 0 + m → m ≡ 0
    as_many k m a b = omega arith

    at : (b : Bool) → f x ≡ b → (count_by f xs ≡ 0 → list_all (λ x. not (f x)) xs ≡ true) → (not (f x) && list_all (λ x. not (f x)) xs) ≡ true
    at true q r = absurd (too_many (count_by f (x ∷ xs)) (count_by f xs) e (count_step f x xs true q))
    at false q r = and_both (not (f x)) (list_all (λ x. not (f x)) xs) (ap not q) (r (as_many (count_by f (x ∷ xs)) (count_by f xs) e (count_step f x xs false q)))

-- ---- the rows that are level with a point on the same axes

first_below : ℤ → List ℤ → Bool
first_below y [] = false
first_below y (x ∷ q) = int_lt x y

first_at : ℤ → List ℤ → Bool
first_at y [] = false
first_at y (x ∷ q) = int_eq x y

-- the rows that begin below y, and those that begin at y, without that coordinate
lower : ℤ → List (List ℤ) → List (List ℤ)
lower y V = map (without 0) (filter (first_below y) V)

level : ℤ → List (List ℤ) → List (List ℤ)
level y V = map (without 0) (filter (first_at y) V)

level_axes-twice : (b : ℕ) (q p : List ℤ) → level_axes (2 * b) q p ≡ 2 * level_axes b q p
unfolding level_axes
level_axes-twice b [] p = refl
level_axes-twice b (x ∷ q) [] = refl
level_axes-twice b (x ∷ q) (y ∷ p) = at (int_eq x y) (level_axes-twice (2 * b) q p)
  where
    at : (e : Bool) → level_axes (2 * (2 * b)) q p ≡ 2 * level_axes (2 * b) q p → cond e (2 * b) 0 + level_axes (2 * (2 * b)) q p ≡ 2 * (cond e b 0 + level_axes (2 * b) q p)
    at true h = omega arith
    at false h = omega arith

even_even : (l j : ℕ) → (0 + 2 * l == 2 * j) ≡ (l == j)
even_even l j = same_tests (0 + 2 * l == 2 * j) (l == j) (λ e. eq-eqb l j (let f = eqb-true (0 + 2 * l) (2 * j) e in omega arith)) (λ e. eq-eqb (0 + 2 * l) (2 * j) (let f = eqb-true l j e in omega arith))

odd_even : (l j : ℕ) → (1 + 2 * l == 2 * j) ≡ false
odd_even l j = refuted (1 + 2 * l == 2 * j) (λ e. let f = eqb-true (1 + 2 * l) (2 * j) e in omega arith)

even_odd : (l j : ℕ) → (0 + 2 * l == 1 + 2 * j) ≡ false
even_odd l j = refuted (0 + 2 * l == 1 + 2 * j) (λ e. let f = eqb-true (0 + 2 * l) (1 + 2 * j) e in omega arith)

odd_odd : (l j : ℕ) → (1 + 2 * l == 1 + 2 * j) ≡ (l == j)
odd_odd l j = same_tests (1 + 2 * l == 1 + 2 * j) (l == j) (λ e. eq-eqb l j (let f = eqb-true (1 + 2 * l) (1 + 2 * j) e in omega arith)) (λ e. eq-eqb (1 + 2 * l) (1 + 2 * j) (let f = eqb-true l j e in omega arith))

is_level-even : (y : ℤ) (p : List ℤ) (j : ℕ) (q : List ℤ) → is_level (y ∷ p) (2 * j) q ≡ (first_below y q && is_level p j (without 0 q))
unfolding is_level each level_axes first_below without
is_level-even y p j [] = refl
is_level-even y p j (x ∷ q) =
    ap (λ k. (int_le x y && each int_le q p) && (cond (int_eq x y) 1 0 + k == 2 * j)) (level_axes-twice 1 q p)
    ∙ by_order x y
    (λ l. rw (le_yes x y (omega (arith, int_facts)), eq_no x y (λ e. omega (arith, int_facts)), lt_yes x y l) (ap (λ b. each int_le q p && b) (even_even (level_axes 1 q p) j)))
    (λ e. rw (le_yes x y (omega (arith, int_facts)), eq_yes x y e, lt_no x y (omega (arith, int_facts))) (ap (λ b. each int_le q p && b) (odd_even (level_axes 1 q p) j) ∙ and-false (each int_le q p)))
    (λ l. rw (le_no x y l, lt_no x y (omega (arith, int_facts))) refl)

is_level-odd : (y : ℤ) (p : List ℤ) (j : ℕ) (q : List ℤ) → is_level (y ∷ p) (1 + 2 * j) q ≡ (first_at y q && is_level p j (without 0 q))
unfolding is_level each level_axes first_at without
is_level-odd y p j [] = refl
is_level-odd y p j (x ∷ q) =
    ap (λ k. (int_le x y && each int_le q p) && (cond (int_eq x y) 1 0 + k == 1 + 2 * j)) (level_axes-twice 1 q p)
    ∙ by_order x y
    (λ l. rw (le_yes x y (omega (arith, int_facts)), eq_no x y (λ e. omega (arith, int_facts))) (ap (λ b. each int_le q p && b) (even_odd (level_axes 1 q p) j) ∙ and-false (each int_le q p)))
    (λ e. rw (le_yes x y (omega (arith, int_facts)), eq_yes x y e) (ap (λ b. each int_le q p && b) (odd_odd (level_axes 1 q p) j)))
    (λ l. rw (le_no x y l, eq_no x y (λ e. omega (arith, int_facts))) refl)

-- sums over the rows, by their first coordinate
xsum-parted : (t f : List ℤ → Bool) (V : List (List ℤ)) → xsum (λ q. t q && f (without 0 q)) V ≡ xsum f (map (without 0) (filter t V))
xsum-parted t f V = sym (xsum-map f (without 0) (filter t V) ∙ xsum-filter (λ q. f (without 0 q)) t V)

xsum-is_level_even : (y : ℤ) (p : List ℤ) (j : ℕ) (V : List (List ℤ)) → xsum (is_level (y ∷ p) (2 * j)) V ≡ xsum (is_level p j) (lower y V)
unfolding lower
xsum-is_level_even y p j V =
    xsum-same (is_level (y ∷ p) (2 * j)) (λ q. first_below y q && is_level p j (without 0 q)) (is_level-even y p j) V ∙ xsum-parted (first_below y) (is_level p j) V

xsum-is_level_odd : (y : ℤ) (p : List ℤ) (j : ℕ) (V : List (List ℤ)) → xsum (is_level (y ∷ p) (1 + 2 * j)) V ≡ xsum (is_level p j) (level y V)
unfolding level
xsum-is_level_odd y p j V =
    xsum-same (is_level (y ∷ p) (1 + 2 * j)) (λ q. first_at y q && is_level p j (without 0 q)) (is_level-odd y p j) V ∙ xsum-parted (first_at y) (is_level p j) V

xsum-just_below : (y : ℤ) (c : List ℤ) (V : List (List ℤ)) → xsum (λ q. each int_le q ((y -ℤ pos 1) ∷ c)) V ≡ xsum (λ q. each int_le q c) (lower y V)
unfolding lower each first_below without
xsum-just_below y c V =
    xsum-same (λ q. each int_le q ((y -ℤ pos 1) ∷ c)) (λ q. first_below y q && each int_le (without 0 q) c) at V ∙ xsum-parted (first_below y) (λ q. each int_le q c) V
  where
    at : (q : List ℤ) → each int_le q ((y -ℤ pos 1) ∷ c) ≡ (first_below y q && each int_le (without 0 q) c)
    at [] = refl
    at (x ∷ q) = ap (λ b. b && each int_le q c) (same_tests (int_le x (y -ℤ pos 1)) (int_lt x y)
        (λ e. lt_yes x y (omega (arith, int_facts))) (λ e. le_yes x (y -ℤ pos 1) (omega (arith, int_facts))))

xsum-here : (y : ℤ) (c : List ℤ) (V : List (List ℤ)) → xsum (λ q. each int_le q (y ∷ c)) V ≡ xor (xsum (λ q. each int_le q c) (lower y V)) (xsum (λ q. each int_le q c) (level y V))
unfolding lower level each first_below first_at without
xsum-here y c V =
    xsum-same (λ q. each int_le q (y ∷ c)) (λ q. xor (first_below y q && each int_le (without 0 q) c) (first_at y q && each int_le (without 0 q) c)) at V
    ∙ xsum-xor (λ q. first_below y q && each int_le (without 0 q) c) (λ q. first_at y q && each int_le (without 0 q) c) V
    ∙ ap₂ xor (xsum-parted (first_below y) (λ q. each int_le q c) V) (xsum-parted (first_at y) (λ q. each int_le q c) V)
  where
    at : (q : List ℤ) → each int_le q (y ∷ c) ≡ xor (first_below y q && each int_le (without 0 q) c) (first_at y q && each int_le (without 0 q) c)
    at [] = sym (false-xor false)
    at (x ∷ q) = by_order x y
        (λ l. rw (le_yes x y (omega (arith, int_facts)), eq_no x y (λ e. omega (arith, int_facts)), lt_yes x y l) (sym (xor-false (each int_le q c))))
        (λ e. rw (le_yes x y (omega (arith, int_facts)), eq_yes x y e, lt_no x y (omega (arith, int_facts))) (sym (false-xor (each int_le q c))))
        (λ l. rw (le_no x y l, eq_no x y (λ e. omega (arith, int_facts)), lt_no x y (omega (arith, int_facts))) (sym (false-xor false)))

-- ---- the neighbours are all filled, or all empty, exactly if no rows but those below the point count

-- over the rows V the cells that touch p are all filled, or all empty
abbrev pub Agree : List ℤ → List (List ℤ) → Bool → Type 0
Agree p V b = (c : List ℤ) → each touch c p ≡ true → xsum (λ q. each int_le q c) V ≡ b

-- the parities of the rows that are level with p on no axis, and on each other set of axes
abbrev pub Level : List ℤ → List (List ℤ) → Bool → Type 0
Level p V b = (i : ℕ) → xsum (is_level p i) V ≡ (b && (i == 0))

xsum-at_end : (i : ℕ) (V : List (List ℤ)) → xsum (is_level [] i) V ≡ (xsum (λ q. each int_le q []) V && (0 == i))
unfolding is_level each level_axes
xsum-at_end i V =
    xsum-same (is_level [] i) (λ q. each int_le q [] && (0 == i)) at V ∙ xsum-and_right (λ q. each int_le q []) (0 == i) V
  where
    at : (q : List ℤ) → is_level [] i q ≡ (each int_le q [] && (0 == i))
    at [] = refl
    at (x ∷ q) = refl

zero_double : (j : ℕ) → (2 * j == 0) ≡ (j == 0)
zero_double j = same_tests (2 * j == 0) (j == 0) (λ e. eq-eqb j 0 (let f = eqb-true (2 * j) 0 e in omega arith)) (λ e. eq-eqb (2 * j) 0 (let f = eqb-true j 0 e in omega arith))

zero_odd : (j : ℕ) → (1 + 2 * j == 0) ≡ false
zero_odd j = refuted (1 + 2 * j == 0) (λ e. let f = eqb-true (1 + 2 * j) 0 e in omega arith)

level-lower : (y : ℤ) (p : List ℤ) (V : List (List ℤ)) (b : Bool) → Level (y ∷ p) V b → Level p (lower y V) b
level-lower y p V b s = λ j. sym (xsum-is_level_even y p j V) ∙ s (2 * j) ∙ ap (λ t. b && t) (zero_double j)

level-level : (y : ℤ) (p : List ℤ) (V : List (List ℤ)) (b : Bool) → Level (y ∷ p) V b → Level p (level y V) false
level-level y p V b s = λ j. sym (xsum-is_level_odd y p j V) ∙ s (1 + 2 * j) ∙ ap (λ t. b && t) (zero_odd j) ∙ and-false b

level-both : (y : ℤ) (p : List ℤ) (V : List (List ℤ)) (b : Bool) → Level p (lower y V) b → Level p (level y V) false → Level (y ∷ p) V b
level-both y p V b s t = λ i. at i (i % 2) refl
  where
    at : (i r : ℕ) → i % 2 ≡ r → xsum (is_level (y ∷ p) i) V ≡ (b && (i == 0))
    at i zero e =
        let q : 2 * (i / 2) ≡ i = omega arith in
        ap (λ k. xsum (is_level (y ∷ p) k) V) (sym q) ∙ xsum-is_level_even y p (i / 2) V ∙ s (i / 2) ∙ ap (λ u. b && u) (sym (zero_double (i / 2)) ∙ ap (λ k. k == 0) q)
    at i (suc r) e =
        let q : 1 + 2 * (i / 2) ≡ i = omega arith in
        ap (λ k. xsum (is_level (y ∷ p) k) V) (sym q) ∙ xsum-is_level_odd y p (i / 2) V ∙ t (i / 2) ∙ sym (ap (λ u. b && u) (ap (λ k. k == 0) (sym q) ∙ zero_odd (i / 2)) ∙ and-false b)

pub agree_from : (p : List ℤ) (V : List (List ℤ)) (b : Bool) → Level p V b → Agree p V b
unfolding each touch
agree_from [] V b s [] t = sym (and-true (xsum (λ q. each int_le q []) V)) ∙ sym (xsum-at_end 0 V) ∙ s 0 ∙ and-true b
agree_from [] V b s (z ∷ c) t = absurd (false≢true t)
agree_from (y ∷ p) V b s [] t = absurd (false≢true t)
agree_from (y ∷ p) V b s (z ∷ c) t =
    let v : each touch c p ≡ true = and_second (int_eq z (y -ℤ pos 1) || int_eq z y) (each touch c p) t in
    at_side (int_eq z (y -ℤ pos 1)) refl (and_first (int_eq z (y -ℤ pos 1) || int_eq z y) (each touch c p) t)
    (agree_from p (lower y V) b (level-lower y p V b s) c v) (agree_from p (level y V) false (level-level y p V b s) c v)
  where
    at_side : (e : Bool) → int_eq z (y -ℤ pos 1) ≡ e → (int_eq z (y -ℤ pos 1) || int_eq z y) ≡ true → xsum (λ q. each int_le q c) (lower y V) ≡ b → xsum (λ q. each int_le q c) (level y V) ≡ false → xsum (λ q. each int_le q (z ∷ c)) V ≡ b
    at_side true e u g k = ap (λ x. xsum (λ q. each int_le q (x ∷ c)) V) (eq_is z (y -ℤ pos 1) e) ∙ xsum-just_below y c V ∙ g
    at_side false e u g k = ap (λ x. xsum (λ q. each int_le q (x ∷ c)) V) (eq_is z y (rw e at u)) ∙ xsum-here y c V ∙ ap₂ xor g k ∙ xor-false b

pub level_from : (p : List ℤ) (V : List (List ℤ)) (b : Bool) → Agree p V b → Level p V b
unfolding each touch xor
level_from [] V b a = λ i. xsum-at_end i V ∙ ap₂ (λ u v. u && v) (a [] nothing) (zeros i)
  where
    nothing : each touch [] [] ≡ true
    nothing = refl

    zeros : (i : ℕ) → (0 == i) ≡ (i == 0)
    zeros i = same_tests (0 == i) (i == 0) (λ e. eq-eqb i 0 (sym (eqb-true 0 i e))) (λ e. eq-eqb 0 i (sym (eqb-true i 0 e)))
level_from (y ∷ p) V b a = level-both y p V b
    (level_from p (lower y V) b (λ c t. under c t))
    (level_from p (level y V) false (λ c t. other (xsum (λ q. each int_le q c) (lower y V)) (xsum (λ q. each int_le q c) (level y V)) (under c t) (sym (xsum-here y c V) ∙ a (y ∷ c) (here c t))))
  where
    or-true : (u : Bool) → (u || true) ≡ true
    or-true true = refl
    or-true false = refl

    just_below : (c : List ℤ) → each touch c p ≡ true → each touch ((y -ℤ pos 1) ∷ c) (y ∷ p) ≡ true
    just_below c t = rw (eq_yes (y -ℤ pos 1) (y -ℤ pos 1) refl) t

    here : (c : List ℤ) → each touch c p ≡ true → each touch (y ∷ c) (y ∷ p) ≡ true
    here c t = rw (eq_yes y y refl, or-true (int_eq y (y -ℤ pos 1))) t

    under : (c : List ℤ) → each touch c p ≡ true → xsum (λ q. each int_le q c) (lower y V) ≡ b
    under c t = sym (xsum-just_below y c V) ∙ a ((y -ℤ pos 1) ∷ c) (just_below c t)

    other : (u v : Bool) → u ≡ b → xor u v ≡ b → v ≡ false
    other true true e f = e ∙ sym f
    other true false e f = refl
    other false true e f = f ∙ sym e
    other false false e f = refl

-- ---- the number of filled cells round a point

filled-is : (n : ℕ) (V : List (List ℤ)) (p c : List ℤ) → IsVertexList n V → length p ≡ n → each touch c p ≡ true → has (cells n V) c ≡ xsum (λ q. each int_le q c) V
filled-is n V p c v e t = has-cells_even n V c v (touching-length c p t ∙ e)

around-count : (n : ℕ) (V : List (List ℤ)) (p : List ℤ) → around (cells n V) p ≡ count_by (has (cells n V)) (neighbours p)
around-count n V p = around-neighbours (cells n V) p (ascending-cells n V)

pub full_from_level : (n : ℕ) (V : List (List ℤ)) (p : List ℤ) → IsVertexList n V → length p ≡ n → Level p V true → around (cells n V) p ≡ 2 ^ n
full_from_level n V p v e s =
    around-count n V p
    ∙ count_all (has (cells n V)) (neighbours p) (all_round p (has (cells n V)) (λ c t. filled-is n V p c v e t ∙ agree_from p V true s c t))
    ∙ length-neighbours p ∙ ap (λ k. 2 ^ k) e

pub none_from_level : (n : ℕ) (V : List (List ℤ)) (p : List ℤ) → IsVertexList n V → length p ≡ n → Level p V false → around (cells n V) p ≡ 0
none_from_level n V p v e s =
    around-count n V p
    ∙ count_none (has (cells n V)) (neighbours p) (all_round p (λ c. not (has (cells n V) c)) (λ c t. ap not (filled-is n V p c v e t ∙ agree_from p V false s c t)))

pub level_from_full : (n : ℕ) (V : List (List ℤ)) (p : List ℤ) → IsVertexList n V → length p ≡ n → around (cells n V) p ≡ 2 ^ n → Level p V true
level_from_full n V p v e r =
    let all = all_counted (has (cells n V)) (neighbours p) (sym (around-count n V p) ∙ r ∙ sym (length-neighbours p ∙ ap (λ k. 2 ^ k) e)) in
    level_from p V true (λ c t. sym (filled-is n V p c v e t) ∙ at_round p (has (cells n V)) all c t)

pub level_from_none : (n : ℕ) (V : List (List ℤ)) (p : List ℤ) → IsVertexList n V → length p ≡ n → around (cells n V) p ≡ 0 → Level p V false
level_from_none n V p v e r =
    let all = none_counted (has (cells n V)) (neighbours p) (sym (around-count n V p) ∙ r) in
    level_from p V false (λ c t. sym (filled-is n V p c v e t) ∙ untrue (has (cells n V) c) (at_round p (λ c. not (has (cells n V) c)) all c t))
  where
    untrue : (b : Bool) → not b ≡ true → b ≡ false
    untrue true h = sym h
    untrue false h = refl
