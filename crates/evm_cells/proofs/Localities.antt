-- Measures change by what they change near the cells that change.
use Rattle.std.proofs.Common.{◌≡◌, ℕ, zero, suc, ◌+◌, ◌≤ℤ◌, Bool, true, false, not, cond, ◌&&◌, ◌⊎◌, inl, inr, ⊎_elim, List, [], ◌∷◌, length, filter, count_by, sum_by, ℤ, pos, negsuc, ◌+ℤ◌, ◌-ℤ◌, int_le, int_lt, int_eq, refl, sym, ap, ap₂, ◌∙◌, arith, zero-add, ◌||◌}
use Rattle.std.specs.List.{list_any, list_all, range_with_len}
use Rattle.std.proofs.lemmas.Bool.{true≢false, false≢true, or_cases}
use Rattle.std.proofs.lemmas.Int.{ints as int_facts}
use Rattle.std.proofs.lemmas.List.Sums.{sum_by-cons, length-filter}
use Rattle.evm_cells.specs.Places.{each, has, same}
use Rattle.evm_cells.specs.Limits.{is_cell, is_point, every_cell, every_point, IsCellSet}
use Rattle.evm_cells.specs.Booleans.{xor, xor_cells}
use Rattle.evm_cells.specs.Shapes.{clip}
use Rattle.evm_cells.specs.Vertices.{touch, odd, around, evm}
use Rattle.evm_cells.specs.Measures.{content, boundary, moved, open_faces}
use Rattle.evm_cells.specs.Localities.{Content, Boundary, VertexCount, close, near, HoldsChange, MeasuresAreLocal}
use Rattle.evm_cells.proofs.Xor.{xsum, xsum-same_on, and_first, and_second, and_both, and-false}
use Rattle.evm_cells.proofs.Sum.{xsum-filter}
use Rattle.evm_cells.proofs.Order.{refuted}
use Rattle.evm_cells.proofs.Places.{strict_places}
use Rattle.evm_cells.proofs.Coords.{le_yes, eq_is}
use Rattle.evm_cells.proofs.Universe.{cells_are, all-every_cell, all-every_point, member_passes, odd-around}
use Rattle.evm_cells.proofs.Combine.{has-xor_cells}
use Rattle.evm_cells.proofs.Insides.{cell_set-clip, has-clip_of}

-- ---- sums of four tests

-- the first two agree with the last two, in one of two ways
abbrev Agree : Bool → Bool → Bool → Bool → Type 0
Agree f g h k = ((f ≡ g) × (h ≡ k)) ⊎ ((f ≡ h) × (g ≡ k))

abbrev one : Bool → ℕ
one b = cond b 1 0

agree_sum : (f g h k : Bool) → Agree f g h k → one f + one k ≡ one g + one h
agree_sum f g h k (inl (a, b)) = ap₂ (λ x y. one x + one y) a (sym b)
agree_sum f g h k (inr (a, b)) = ap₂ (λ x y. one x + one y) a (sym b) ∙ omega arith

count-cons : {X : Type 0} (t : X → Bool) (x : X) (xs : List X) → count_by t (x ∷ xs) ≡ one (t x) + count_by t xs
count-cons t x xs = sym (length-filter t (x ∷ xs)) ∙ at (t x) ∙ ap (λ n. one (t x) + n) (length-filter t xs)
  where
    at : (b : Bool) → length (cond b (x ∷ filter t xs) (filter t xs)) ≡ one b + length (filter t xs)
    at true = omega arith
    at false = omega arith

counts_agree : {X : Type 0} (p f g h k : X → Bool) (xs : List X) → list_all p xs ≡ true → ((x : X) → p x ≡ true → Agree (f x) (g x) (h x) (k x))
    → count_by f xs + count_by k xs ≡ count_by g xs + count_by h xs
counts_agree p f g h k [] a e = refl
counts_agree p f g h k (x ∷ xs) a e =
    let i : one (f x) + one (k x) ≡ one (g x) + one (h x) = agree_sum (f x) (g x) (h x) (k x) (e x (and_first (p x) (list_all p xs) a)) in
    let j : count_by f xs + count_by k xs ≡ count_by g xs + count_by h xs = counts_agree p f g h k xs (and_second (p x) (list_all p xs) a) e in
    ap₂ (λ m n. m + n) (count-cons f x xs) (count-cons k x xs) ∙ omega (arith, i, j) ∙ sym (ap₂ (λ m n. m + n) (count-cons g x xs) (count-cons h x xs))

sums_agree : {X : Type 0} (F G H K : X → ℕ) (xs : List X) → ((x : X) → F x + K x ≡ G x + H x) → sum_by F xs + sum_by K xs ≡ sum_by G xs + sum_by H xs
sums_agree F G H K [] e = refl
sums_agree F G H K (x ∷ xs) e =
    let i : F x + K x ≡ G x + H x = e x in
    let j : sum_by F xs + sum_by K xs ≡ sum_by G xs + sum_by H xs = sums_agree F G H K xs e in
    ap₂ (λ m n. m + n) (sum_by-cons F x xs) (sum_by-cons K x xs) ∙ omega (arith, i, j) ∙ sym (ap₂ (λ m n. m + n) (sum_by-cons G x xs) (sum_by-cons H x xs))

count-filter : {X : Type 0} (t u : X → Bool) (xs : List X) → count_by t (filter u xs) ≡ count_by (λ x. u x && t x) xs
count-filter t u [] = refl
count-filter t u (x ∷ xs) = at (u x) ∙ ap (λ n. one (u x && t x) + n) (count-filter t u xs) ∙ sym (count-cons (λ y. u y && t y) x xs)
  where
    at : (b : Bool) → count_by t (cond b (x ∷ filter u xs) (filter u xs)) ≡ one (b && t x) + count_by t (filter u xs)
    at true = count-cons t x (filter u xs)
    at false = sym (zero-add (count_by t (filter u xs)))

-- ---- near places

close_itself : (x : ℤ) → close x x ≡ true
unfolding close
close_itself x = and_both (int_le x (x +ℤ pos 1)) (int_le x (x +ℤ pos 1)) (le_yes x (x +ℤ pos 1) (omega (arith, int_facts))) (le_yes x (x +ℤ pos 1) (omega (arith, int_facts)))

close_from : (x y : ℤ) → x ≤ℤ (y +ℤ pos 1) → y ≤ℤ (x +ℤ pos 1) → close x y ≡ true
unfolding close
close_from x y a b = and_both (int_le x (y +ℤ pos 1)) (int_le y (x +ℤ pos 1)) (le_yes x (y +ℤ pos 1) a) (le_yes y (x +ℤ pos 1) b)

near_itself : (c : List ℤ) → near c c ≡ true
unfolding near each
near_itself [] = refl
near_itself (x ∷ c) = and_both (close x x) (near c c) (close_itself x) (near_itself c)

-- a step along an axis is to a near place, there and back
abbrev Step : ℤ → Type 0
Step d = (negsuc 0 ≤ℤ d) × (d ≤ℤ pos 1)

near_moved : (i : ℕ) (d : ℤ) (c : List ℤ) → Step d → near c (moved i d c) ≡ true
unfolding near each moved
near_moved i d [] s = refl
near_moved zero d (x ∷ c) (a, b) = and_both (close x (x +ℤ d)) (near c c) (close_from x (x +ℤ d) (omega (arith, int_facts, a, b)) (omega (arith, int_facts, a, b))) (near_itself c)
near_moved (suc i) d (x ∷ c) s = and_both (close x x) (near c (moved i d c)) (close_itself x) (near_moved i d c s)

moved_near : (i : ℕ) (d : ℤ) (c : List ℤ) → Step d → near (moved i d c) c ≡ true
unfolding near each moved
moved_near i d [] s = refl
moved_near zero d (x ∷ c) (a, b) = and_both (close (x +ℤ d) x) (near c c) (close_from (x +ℤ d) x (omega (arith, int_facts, a, b)) (omega (arith, int_facts, a, b))) (near_itself c)
moved_near (suc i) d (x ∷ c) s = and_both (close x x) (near (moved i d c) c) (close_itself x) (moved_near i d c s)

touch_close : (x y p : ℤ) → touch x p ≡ true → touch y p ≡ true → close x y ≡ true
unfolding touch
touch_close x y p a b = close_from x y (within x y a b) (within y x b a)
  where
    low : (z : ℤ) → touch z p ≡ true → (p -ℤ pos 1) ≤ℤ z
    low z h = ⊎_elim
        (λ e. let q : z ≡ p -ℤ pos 1 = eq_is z (p -ℤ pos 1) e in omega (arith, int_facts, q))
        (λ e. let q : z ≡ p = eq_is z p e in omega (arith, int_facts, q))
        (or_cases (int_eq z (p -ℤ pos 1)) (int_eq z p) h)

    high : (z : ℤ) → touch z p ≡ true → z ≤ℤ p
    high z h = ⊎_elim
        (λ e. let q : z ≡ p -ℤ pos 1 = eq_is z (p -ℤ pos 1) e in omega (arith, int_facts, q))
        (λ e. let q : z ≡ p = eq_is z p e in omega (arith, int_facts, q))
        (or_cases (int_eq z (p -ℤ pos 1)) (int_eq z p) h)

    within : (z w : ℤ) → touch z p ≡ true → touch w p ≡ true → z ≤ℤ (w +ℤ pos 1)
    within z w h k = let u = high z h in let v = low w k in omega (arith, int_facts, u, v)

-- two cells that touch a point are near
near_round : (c d p : List ℤ) → each touch c p ≡ true → each touch d p ≡ true → near c d ≡ true
unfolding near each
near_round [] [] p h k = refl
near_round [] (y ∷ d) [] h k = absurd (false≢true k)
near_round [] (y ∷ d) (z ∷ p) h k = absurd (false≢true h)
near_round (x ∷ c) d [] h k = absurd (false≢true h)
near_round (x ∷ c) [] (z ∷ p) h k = absurd (false≢true k)
near_round (x ∷ c) (y ∷ d) (z ∷ p) h k =
    and_both (close x y) (near c d)
    (touch_close x y z (and_first (touch x z) (each touch c p) h) (and_first (touch y z) (each touch d p) k))
    (near_round c d p (and_second (touch x z) (each touch c p) h) (and_second (touch y z) (each touch d p) k))

-- ---- one place

-- a place that is inside the box where it is a cell has there what the whole has
inside_same : (n : ℕ) (lo hi : List ℤ) (S : List (List ℤ)) (c : List ℤ) → IsCellSet n S → (is_cell n c ≡ true → (each int_le lo c && each int_lt c hi) ≡ true)
    → has (clip n lo hi S) c ≡ has S c
inside_same n lo hi S c s h = has-clip_of n lo hi S c s ∙ at (has S c) refl
  where
    at : (b : Bool) → has S c ≡ b → (b && (is_cell n c && (each int_le lo c && each int_lt c hi))) ≡ b
    at false e = refl
    at true e =
        let m : is_cell n c ≡ true = member_passes (is_cell n) S c s.cells e in
        and_both (is_cell n c) (each int_le lo c && each int_lt c hi) m (h m)

-- where two sets agree, so do their parts
agree_inside : (n : ℕ) (lo hi : List ℤ) (S T : List (List ℤ)) (c : List ℤ) → IsCellSet n S → IsCellSet n T → has T c ≡ has S c → has (clip n lo hi T) c ≡ has (clip n lo hi S) c
agree_inside n lo hi S T c s t e = has-clip_of n lo hi T c t ∙ ap (λ b. b && (is_cell n c && (each int_le lo c && each int_lt c hi))) e ∙ sym (has-clip_of n lo hi S c s)

differ_not : (n : ℕ) (S T : List (List ℤ)) (c : List ℤ) → IsCellSet n S → IsCellSet n T → has (xor_cells n S T) c ≡ false → has T c ≡ has S c
unfolding xor
differ_not n S T c s t e = at (has S c) (has T c) (sym (has-xor_cells n S T c s t) ∙ e)
  where
    at : (a b : Bool) → xor a b ≡ false → b ≡ a
    at true true h = refl
    at true false h = sym h
    at false b h = h

-- ---- the three measures

-- a test of two places, of which each is near the other: a change at one of them leaves both inside
pair_agrees : (n : ℕ) (lo hi : List ℤ) (S T : List (List ℤ)) (c d : List ℤ) (op : Bool → Bool → Bool) → IsCellSet n S → IsCellSet n T → HoldsChange n lo hi S T
    → near c d ≡ true → near d c ≡ true
    → Agree (op (has T c) (has T d)) (op (has S c) (has S d)) (op (has (clip n lo hi T) c) (has (clip n lo hi T) d)) (op (has (clip n lo hi S) c) (has (clip n lo hi S) d))
pair_agrees n lo hi S T c d op s t w there back = at (has (xor_cells n S T) c) (has (xor_cells n S T) d) refl refl
  where
    inside : (x : List ℤ) → has (xor_cells n S T) x ≡ true → near x c ≡ true → near x d ≡ true
        → Agree (op (has T c) (has T d)) (op (has S c) (has S d)) (op (has (clip n lo hi T) c) (has (clip n lo hi T) d)) (op (has (clip n lo hi S) c) (has (clip n lo hi S) d))
    inside x m a b = inr (
      sym (ap₂ op (inside_same n lo hi T c t (w x c m a)) (inside_same n lo hi T d t (w x d m b))),
      sym (ap₂ op (inside_same n lo hi S c s (w x c m a)) (inside_same n lo hi S d s (w x d m b))),
    )

    at : (a b : Bool) → has (xor_cells n S T) c ≡ a → has (xor_cells n S T) d ≡ b
        → Agree (op (has T c) (has T d)) (op (has S c) (has S d)) (op (has (clip n lo hi T) c) (has (clip n lo hi T) d)) (op (has (clip n lo hi S) c) (has (clip n lo hi S) d))
    at true b e f = inside c e (near_itself c) there
    at false true e f = inside d f back (near_itself d)
    at false false e f =
        let p = differ_not n S T c s t e in
        let q = differ_not n S T d s t f in
        inl (ap₂ op p q, ap₂ op (agree_inside n lo hi S T c s t p) (agree_inside n lo hi S T d s t q))

content-count : (n : ℕ) (S : List (List ℤ)) → IsCellSet n S → content S ≡ count_by (has S) (every_cell n)
content-count n S s = ap length (sym (cells_are n S s.ascends s.cells)) ∙ length-filter (has S) (every_cell n)

content_local : (n : ℕ) (lo hi : List ℤ) (S T : List (List ℤ)) → IsCellSet n S → IsCellSet n T → HoldsChange n lo hi S T
    → content T + content (clip n lo hi S) ≡ content S + content (clip n lo hi T)
content_local n lo hi S T s t w =
    ap₂ (λ a b. a + b) (content-count n T t) (content-count n (clip n lo hi S) (cell_set-clip n lo hi S))
    ∙ counts_agree (is_cell n) (has T) (has S) (has (clip n lo hi T)) (has (clip n lo hi S)) (every_cell n) (all-every_cell n)
    (λ c m. pair_agrees n lo hi S T c c (λ a b. a) s t w (near_itself c) (near_itself c))
    ∙ sym (ap₂ (λ a b. a + b) (content-count n S s) (content-count n (clip n lo hi T) (cell_set-clip n lo hi T)))

faces-count : (n i : ℕ) (d : ℤ) (S : List (List ℤ)) → IsCellSet n S → open_faces i d S ≡ count_by (λ c. has S c && not (has S (moved i d c))) (every_cell n)
unfolding open_faces
faces-count n i d S s =
    ap (count_by (λ c. not (has S (moved i d c)))) (sym (cells_are n S s.ascends s.cells))
    ∙ count-filter (λ c. not (has S (moved i d c))) (has S) (every_cell n)

faces_local : (n i : ℕ) (d : ℤ) (lo hi : List ℤ) (S T : List (List ℤ)) → Step d → IsCellSet n S → IsCellSet n T → HoldsChange n lo hi S T
    → open_faces i d T + open_faces i d (clip n lo hi S) ≡ open_faces i d S + open_faces i d (clip n lo hi T)
faces_local n i d lo hi S T k s t w =
    ap₂ (λ a b. a + b) (faces-count n i d T t) (faces-count n i d (clip n lo hi S) (cell_set-clip n lo hi S))
    ∙ counts_agree (is_cell n) (λ c. has T c && not (has T (moved i d c))) (λ c. has S c && not (has S (moved i d c)))
    (λ c. has (clip n lo hi T) c && not (has (clip n lo hi T) (moved i d c))) (λ c. has (clip n lo hi S) c && not (has (clip n lo hi S) (moved i d c)))
    (every_cell n) (all-every_cell n)
    (λ c m. pair_agrees n lo hi S T c (moved i d c) (λ a b. a && not b) s t w (near_moved i d c k) (moved_near i d c k))
    ∙ sym (ap₂ (λ a b. a + b) (faces-count n i d S s) (faces-count n i d (clip n lo hi T) (cell_set-clip n lo hi T)))

boundary_local : (n : ℕ) (lo hi : List ℤ) (S T : List (List ℤ)) → IsCellSet n S → IsCellSet n T → HoldsChange n lo hi S T
    → boundary n T + boundary n (clip n lo hi S) ≡ boundary n S + boundary n (clip n lo hi T)
unfolding boundary
boundary_local n lo hi S T s t w =
    sums_agree (both T) (both S) (both (clip n lo hi T)) (both (clip n lo hi S)) (range_with_len 0 n)
    (λ i. let a = faces_local n i (pos 1) lo hi S T (omega (arith, int_facts), omega (arith, int_facts)) s t w in
    let b = faces_local n i (negsuc 0) lo hi S T (omega (arith, int_facts), omega (arith, int_facts)) s t w in
    omega (arith, a, b))
  where
    both : List (List ℤ) → ℕ → ℕ
    both A i = open_faces i (pos 1) A + open_faces i (negsuc 0) A

-- a member that passes, where one does
some_member : (t : List ℤ → Bool) (D : List (List ℤ)) → list_any t D ≡ true → (c : List ℤ) × ((has D c ≡ true) × (t c ≡ true))
unfolding has
some_member t [] h = absurd (false≢true h)
some_member t (x ∷ D) h = ⊎_elim
    (λ e. (x, (let q : same x x ≡ true = strict_places.itself x in ap (λ b. b || has D x) q, e)))
    (λ m. let (c, r) = some_member t D m in (c, (later c (same c x) (r.0), r.1)))
    (or_cases (t x) (list_any t D) h)
  where
    later : (c : List ℤ) (b : Bool) → has D c ≡ true → (b || has D c) ≡ true
    later c true e = refl
    later c false e = e

none_fails : (t : List ℤ → Bool) (D : List (List ℤ)) → list_any t D ≡ false → list_all (λ z. not (t z)) D ≡ true
none_fails t [] h = refl
none_fails t (z ∷ D) h = at (t z) h (none_fails t D)
  where
    at : (b : Bool) → (b || list_any t D) ≡ false → (list_any t D ≡ false → list_all (λ z. not (t z)) D ≡ true) → (not b && list_all (λ z. not (t z)) D) ≡ true
    at true u v = absurd (true≢false u)
    at false u v = v u

none_member : (t : List ℤ → Bool) (D : List (List ℤ)) (c : List ℤ) → list_any t D ≡ false → t c ≡ true → has D c ≡ false
none_member t D c h m = refuted (has D c) (λ e. true≢false (sym m ∙ fails (t c) (member_passes (λ z. not (t z)) D c (none_fails t D h) e)))
  where
    fails : (b : Bool) → not b ≡ true → b ≡ false
    fails true u = absurd (false≢true u)
    fails false u = refl

-- whether a point is a vertex, counted over all cells
round : (n : ℕ) (S : List (List ℤ)) (p : List ℤ) → IsCellSet n S → odd (around S p) ≡ xsum (λ c. has S c && each touch c p) (every_cell n)
round n S p s = odd-around S p ∙ ap (xsum (λ c. each touch c p)) (sym (cells_are n S s.ascends s.cells)) ∙ xsum-filter (λ c. each touch c p) (has S) (every_cell n)

round_same : (n : ℕ) (S T : List (List ℤ)) (p : List ℤ) → IsCellSet n S → IsCellSet n T → ((c : List ℤ) → is_cell n c ≡ true → each touch c p ≡ true → has T c ≡ has S c) → odd (around T p) ≡ odd (around S p)
round_same n S T p s t e =
    round n T p t
    ∙ xsum-same_on (is_cell n) (λ c. has T c && each touch c p) (λ c. has S c && each touch c p) (λ c m. at (each touch c p) (has T c) (has S c) (e c m)) (every_cell n) (all-every_cell n)
    ∙ sym (round n S p s)
  where
    at : (b x y : Bool) → (b ≡ true → x ≡ y) → (x && b) ≡ (y && b)
    at true x y f = ap (λ z. z && true) (f refl)
    at false x y f = and-false x ∙ sym (and-false y)

vertices_local : (n : ℕ) (lo hi : List ℤ) (S T : List (List ℤ)) → IsCellSet n S → IsCellSet n T → HoldsChange n lo hi S T
    → length (evm n T) + length (evm n (clip n lo hi S)) ≡ length (evm n S) + length (evm n (clip n lo hi T))
unfolding evm
vertices_local n lo hi S T s t w =
    ap₂ (λ a b. a + b) (length-filter (vertex T) (every_point n)) (length-filter (vertex (clip n lo hi S)) (every_point n))
    ∙ counts_agree (is_point n) (vertex T) (vertex S) (vertex (clip n lo hi T)) (vertex (clip n lo hi S)) (every_point n) (all-every_point n) (λ p m. at p (list_any (λ c. each touch c p) (xor_cells n S T)) refl)
    ∙ sym (ap₂ (λ a b. a + b) (length-filter (vertex S) (every_point n)) (length-filter (vertex (clip n lo hi T)) (every_point n)))
  where
    vertex : List (List ℤ) → List ℤ → Bool
    vertex A p = odd (around A p)

    at : (p : List ℤ) (b : Bool) → list_any (λ c. each touch c p) (xor_cells n S T) ≡ b → Agree (vertex T p) (vertex S p) (vertex (clip n lo hi T) p) (vertex (clip n lo hi S) p)
    at p true e =
        let (x, r) = some_member (λ c. each touch c p) (xor_cells n S T) e in
        inr (
          sym (round_same n T (clip n lo hi T) p t (cell_set-clip n lo hi T) (λ c m k. inside_same n lo hi T c t (w x c r.0 (near_round x c p r.1 k)))),
          sym (round_same n S (clip n lo hi S) p s (cell_set-clip n lo hi S) (λ c m k. inside_same n lo hi S c s (w x c r.0 (near_round x c p r.1 k)))),
        )
    at p false e =
        inl (
          round_same n S T p s t (λ c m k. differ_not n S T c s t (none_member (λ c. each touch c p) (xor_cells n S T) c e k)),
          round_same n (clip n lo hi S) (clip n lo hi T) p (cell_set-clip n lo hi S) (cell_set-clip n lo hi T)
              (λ c m k. agree_inside n lo hi S T c s t (differ_not n S T c s t (none_member (λ c. each touch c p) (xor_cells n S T) c e k))),
        )

pub measures_are_local : MeasuresAreLocal
measures_are_local Content n lo hi S T s t w = content_local n lo hi S T s t w
measures_are_local Boundary n lo hi S T s t w = boundary_local n lo hi S T s t w
measures_are_local VertexCount n lo hi S T s t w = vertices_local n lo hi S T s t w
