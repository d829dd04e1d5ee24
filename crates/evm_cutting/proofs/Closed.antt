-- Groups of rows that are cut at a height of an axis: the rows below it, and the rows that close these, are the lowered rows.
use Rattle.std.proofs.Common.{◌≡◌, ℕ, zero, suc, ◌+◌, ◌-◌, ◌<◌, ◌≤◌, ◌≤ℤ◌, ◌<ℤ◌, ◌⊎◌, Bool, true, false, not, ◌&&◌, ◌||◌, ◌==◌, List, [], ◌∷◌, ◌++◌, length, take, drop, map, count_by, ℤ, int_lt, int_eq, refl, sym, ap, ap₂, ◌∙◌, subst, arith, append_assoc, eq-eqb, eqb-true, ⊎_elim, length-append}
use Rattle.std.specs.List.{list_all}
use Rattle.std.proofs.lemmas.Bool.{or_cases, false≢true, true≢false}
use Rattle.std.proofs.lemmas.Int.{ints as int_facts}
use Rattle.std.proofs.lemmas.List.{take_at, map-append}
use Rattle.evm_cells.specs.Booleans.{xor}
use Rattle.evm_cells.specs.Places.{same, each, before, has, ascending}
use Rattle.evm_cells.specs.Vertices.{odd, IsVertexList}
use Rattle.evm_cells.specs.Windows.{is_under, is_over, IsReduced}
use Rattle.evm_cells.proofs.Coords.{lt_is, le_is, le_yes, eq_is, strict_ints}
use Rattle.evm_cells.proofs.Lists.{all-append, all-map, all_weaker, rising-append}
use Rattle.evm_cells.proofs.Moves.{lengths-points}
use Rattle.evm_cells.proofs.Order.{refuted, rising}
use Rattle.evm_cells.proofs.Places.{strict_places, ascending-rising, before_first, rising_prefixed}
use Rattle.evm_cells.proofs.Slices.{coord}
use Rattle.evm_cells.proofs.Sum.{xsum-append, xsum-map, xsum-and_left}
use Rattle.evm_cells.proofs.Universe.{xsum-same_place}
use Rattle.evm_cells.proofs.Xor.{xsum, xsum-nil, xsum-same, xsum-same_on, odd-count, xor_assoc, xor-false, and_first, and_second, and_both, and_assoc}
use Rattle.evm_rows.specs.Groups.{IsOddPart, IsFrontGroup, IsPaired, head_of}
use Rattle.evm_rows.proofs.Lines.{parity, parity-is, group_odd, group_even, asc_tail}
use Rattle.evm_rows.proofs.Pairs.{asc_parts, before_trans, not_true, count_of}
use Rattle.evm_cutting.specs.Levels.{lowered, put, starts_over, IsParted}
use Rattle.evm_cutting.proofs.Lowered.{lowered_low, lowered_over}

-- ---- tests of all rows

pub all_join : (p : List ℤ → Bool) (xs ys : List (List ℤ)) → list_all p xs ≡ true → list_all p ys ≡ true → list_all p (xs ++ ys) ≡ true
all_join p xs ys a b = all-append p xs ys ∙ and_both (list_all p xs) (list_all p ys) a b

pub all_left : (p : List ℤ → Bool) (xs ys : List (List ℤ)) → list_all p (xs ++ ys) ≡ true → list_all p xs ≡ true
all_left p xs ys h = and_first (list_all p xs) (list_all p ys) (sym (all-append p xs ys) ∙ h)

pub all_right : (p : List ℤ → Bool) (xs ys : List (List ℤ)) → list_all p (xs ++ ys) ≡ true → list_all p ys ≡ true
all_right p xs ys h = and_second (list_all p xs) (list_all p ys) (sym (all-append p xs ys) ∙ h)

all_two : (s t : List ℤ → Bool) (S : List (List ℤ)) → list_all s S ≡ true → list_all t S ≡ true → list_all (λ q. s q && t q) S ≡ true
all_two s t [] x y = refl
all_two s t (q ∷ S) x y =
    and_both (s q && t q) (list_all (λ r. s r && t r) S) (and_both (s q) (t q) (and_first (s q) (list_all s S) x) (and_first (t q) (list_all t S) y))
    (all_two s t S (and_second (s q) (list_all s S) x) (and_second (t q) (list_all t S) y))

asc_front : (U W : List (List ℤ)) → ascending (U ++ W) ≡ true → ascending U ≡ true
unfolding ascending
asc_front [] W a = refl
asc_front (x ∷ U) W a = let (h, t) = asc_parts x (U ++ W) a in and_both (list_all (before x) U) (ascending U) (all_left (before x) U W h) (asc_front U W t)

-- two lists that ascend, of which one is before the other
asc_join : (U W : List (List ℤ)) → ascending U ≡ true → ascending W ≡ true → list_all (λ u. list_all (before u) W) U ≡ true → ascending (U ++ W) ≡ true
asc_join U W a b h = ascending-rising (U ++ W) ∙ rising-append before U W (sym (ascending-rising U) ∙ a) (sym (ascending-rising W) ∙ b) h

-- ---- the order of rows by their first numbers

before_rest : (x : ℤ) (s t : List ℤ) → before (x ∷ s) (x ∷ t) ≡ before s t
unfolding before
before_rest x s t = ap₂ (λ a b. a || (b && before s t)) (refuted (int_lt x x) (λ h. strict_ints.one_way x x h h)) (strict_ints.itself x)

clash : (a b : ℤ) → int_lt a b ≡ true → a ≡ b → ⊥
clash a b l e = let m : int_lt b b ≡ true = ap (λ (w : ℤ). int_lt w b) (sym e) ∙ l in strict_ints.one_way b b m m

-- rows whose first numbers are in order are in order
before_longer : (i : ℕ) (p q : List ℤ) → before (take i p) (take i q) ≡ true → before p q ≡ true
unfolding before
before_longer zero p q h = absurd (false≢true h)
before_longer (suc i) [] [] h = absurd (false≢true h)
before_longer (suc i) [] (y ∷ q) h = refl
before_longer (suc i) (x ∷ p) [] h = absurd (false≢true h)
before_longer (suc i) (x ∷ p) (y ∷ q) h =
    ⊎_elim
    (λ l. before_first x y p q l)
    (λ l. let e : x ≡ y = eq_is x y (and_first (int_eq x y) (before (take i p) (take i q)) l) in
    ap (λ (z : ℤ). before (x ∷ p) (z ∷ q)) (sym e) ∙ before_rest x p q ∙ before_longer i p q (and_second (int_eq x y) (before (take i p) (take i q)) l))
    (or_cases (int_lt x y) (int_eq x y && before (take i p) (take i q)) h)

-- and where these differ, they are in order as the rows are
fronts_before : (i : ℕ) (p q : List ℤ) → i ≤ length p → i ≤ length q → before p q ≡ true → same (take i q) (take i p) ≡ false → before (take i p) (take i q) ≡ true
unfolding before same each
fronts_before zero p q k l b d = absurd (true≢false d)
fronts_before (suc i) [] q k l b d = absurd (omega arith)
fronts_before (suc i) (x ∷ p) [] k l b d = absurd (omega arith)
fronts_before (suc i) (x ∷ p) (y ∷ q) k l b d =
    ⊎_elim
    (λ m. before_first x y (take i p) (take i q) m)
    (λ m. let e : x ≡ y = eq_is x y (and_first (int_eq x y) (before p q) m) in
    let f : same (take i q) (take i p) ≡ false = sym (ap (λ t. t && same (take i q) (take i p)) (ap (λ (z : ℤ). int_eq y z) e ∙ strict_ints.itself y)) ∙ d in
    ap (λ (z : ℤ). before (x ∷ take i p) (z ∷ take i q)) (sym e) ∙ before_rest x (take i p) (take i q)
    ∙ fronts_before i p q (omega arith) (omega arith) (and_second (int_eq x y) (before p q) m) f)
    (or_cases (int_lt x y) (int_eq x y && before p q) b)

-- of rows with the same first numbers the next number rises
next_rises : (i : ℕ) (p q : List ℤ) → i < length p → i < length q → take i p ≡ take i q → before p q ≡ true → coord i p ≤ℤ coord i q
unfolding before
next_rises i [] q k l e b = absurd (omega arith)
next_rises i (x ∷ p) [] k l e b = absurd (omega arith)
next_rises zero (x ∷ p) (y ∷ q) k l e b =
    ⊎_elim
    (λ (t : int_lt x y ≡ true). let m : x <ℤ y = lt_is x y t in omega (arith, int_facts))
    (λ (t : (int_eq x y && before p q) ≡ true). let m : x ≡ y = eq_is x y (and_first (int_eq x y) (before p q) t) in omega (arith, int_facts))
    (or_cases (int_lt x y) (int_eq x y && before p q) b)
next_rises (suc i) (x ∷ p) (y ∷ q) k l e b =
    let u : x ≡ y = cc in
    let v : take i p ≡ take i q = cc in
    ⊎_elim
    (λ (t : int_lt x y ≡ true). absurd (clash x y t u))
    (λ (t : (int_eq x y && before p q) ≡ true). next_rises i p q (omega arith) (omega arith) v (and_second (int_eq x y) (before p q) t))
    (or_cases (int_lt x y) (int_eq x y && before p q) b)

-- ---- rows that are put together

row_is : (i : ℕ) (p : List ℤ) → i < length p → p ≡ put (take i p) (coord i p) (drop (suc i) p)
row_is i [] l = absurd (omega arith)
row_is zero (x ∷ p) l = refl
row_is (suc i) (x ∷ p) l = ap (λ q. x ∷ q) (row_is i p (omega arith))

put_before : (h : List ℤ) (x y : ℤ) (r q : List ℤ) → int_lt x y ≡ true → before (put h x r) (put h y q) ≡ true
put_before [] x y r q l = before_first x y r q l
put_before (z ∷ h) x y r q l = before_rest z (put h x r) (put h y q) ∙ put_before h x y r q l

puts_more : (y : ℤ) (h : List ℤ) (x : ℤ) (O : List (List ℤ)) → map (put (y ∷ h) x) O ≡ map (λ t. y ∷ t) (map (put h x) O)
puts_more y h x [] = refl
puts_more y h x (q ∷ O) = ap (λ W. put (y ∷ h) x q ∷ W) (puts_more y h x O)

pub puts_rise : (h : List ℤ) (x : ℤ) (O : List (List ℤ)) → rising before O ≡ true → rising before (map (put h x) O) ≡ true
puts_rise [] x O r = rising_prefixed x O r
puts_rise (y ∷ h) x O r = ap (rising before) (puts_more y h x O) ∙ rising_prefixed y (map (put h x) O) (puts_rise h x O r)

-- ---- sums

joined_same : (u q p : List ℤ) → same (u ++ q) p ≡ (same u (take (length u) p) && same q (drop (length u) p))
unfolding same each
joined_same [] q [] = refl
joined_same [] q (y ∷ p) = refl
joined_same (x ∷ u) q [] = refl
joined_same (x ∷ u) q (y ∷ p) =
    ap (λ t. int_eq x y && t) (joined_same u q p) ∙ sym (and_assoc (int_eq x y) (same u (take (length u) p)) (same q (drop (length u) p)))

front_of : List ℤ → ℤ → List ℤ
front_of h x = h ++ x ∷ []

put_same : (h : List ℤ) (x : ℤ) (q p : List ℤ) → same (put h x q) p ≡ (same (front_of h x) (take (length (front_of h x)) p) && same q (drop (length (front_of h x)) p))
unfolding front_of
put_same h x q p = ap (λ z. same z p) (sym (append_assoc h (x ∷ []) q)) ∙ joined_same (front_of h x) q p

puts_sum : (h : List ℤ) (x : ℤ) (p : List ℤ) (K : List (List ℤ)) → xsum (λ q. same (put h x q) p) K ≡ (same (front_of h x) (take (length (front_of h x)) p) && xsum (λ q. same q (drop (length (front_of h x)) p)) K)
puts_sum h x p K =
    let u : List ℤ = front_of h x in
    xsum-same (λ q. same (put h x q) p) (λ q. same u (take (length u) p) && same q (drop (length u) p)) (λ q. put_same h x q p) K
    ∙ xsum-and_left (same u (take (length u) p)) (λ q. same q (drop (length u) p)) K

equal_parts : (a b : Bool) → xor a b ≡ false → a ≡ b
unfolding xor
equal_parts false b e = sym e
equal_parts true true e = refl
equal_parts true false e = e

-- the odd places of the rows below, and of the others, are the same
odd_of_high : (P S fewer O : List (List ℤ)) (j : ℕ) → ((q : List ℤ) → xsum (λ s. same s q) (map (drop j) (P ++ S)) ≡ false) → (fewer ≡ P) ⊎ (fewer ≡ S) → IsOddPart (map (drop j) fewer) O
    → (q : List ℤ) → has O q ≡ xsum (λ s. same s q) (map (drop j) S)
odd_of_high P S fewer O j e side o q =
    let f : List ℤ → Bool = λ s. same s q in
    let both : xsum f (map (drop j) P) ≡ xsum f (map (drop j) S) =
    equal_parts (xsum f (map (drop j) P)) (xsum f (map (drop j) S)) (sym (xsum-append f (map (drop j) P) (map (drop j) S)) ∙ ap (xsum f) (sym (map-append (drop j) P S)) ∙ e q) in
    o.members q ∙ count_of (map (drop j) fewer) q
    ∙ ⊎_elim (λ (w : fewer ≡ P). ap (λ (z : List (List ℤ)). xsum f (map (drop j) z)) w ∙ both) (λ (w : fewer ≡ S). ap (λ (z : List (List ℤ)). xsum f (map (drop j) z)) w) side

-- no rows have no odd places
pub no_places : (j : ℕ) (O : List (List ℤ)) → IsOddPart (map (drop j) []) O → O ≡ []
unfolding has
no_places j [] o = refl
no_places j (x ∷ O) o = absurd (true≢false (sym (first x O) ∙ o.members x ∙ count_of [] x ∙ xsum-nil (λ s. same s x)))
  where
    first : (y : List ℤ) (T : List (List ℤ)) → has (y ∷ T) y ≡ true
    first y T = ap (λ t. t || has T y) (strict_places.itself y)

-- ---- one group

-- G are rows of n numbers, which share the first i numbers h, and lines along axis i have an even number of them
pub record IsGroup (n i : ℕ) (h : List ℤ) (G : List (List ℤ)) : Type 0 where
  pub within : i < n
  pub deep : length h ≡ i
  pub long : list_all (λ p. length p == n) G ≡ true
  pub alike : list_all (λ p. same (take i p) h) G ≡ true
  pub rises : ascending G ≡ true
  pub even : (q : List ℤ) → xsum (λ s. same s q) (map (drop (suc i)) G) ≡ false

-- N are the rows of G, lowered, that then stand an odd number of times
pub record IsLowered (n i : ℕ) (at : ℤ) (h : List ℤ) (G N : List (List ℤ)) : Type 0 where
  pub ascends : ascending N ≡ true
  pub wide : list_all (λ p. length p == n) N ≡ true
  pub alike : list_all (λ p. same (take i p) h) N ≡ true
  pub times : (p : List ℤ) → xsum (λ q. same q p) N ≡ xsum (λ q. same (lowered i at q) p) G

-- the head of some of the rows of a group is that of the group
pub head_alike : (i : ℕ) (h : List ℤ) (at : ℤ) (U O : List (List ℤ)) → list_all (λ p. same (take i p) h) U ≡ true → IsOddPart (map (drop (suc i)) U) O → map (put (head_of i U) at) O ≡ map (put h at) O
head_alike i h at [] O a o = let e = no_places (suc i) O o in ap (map (put (head_of i []) at)) e ∙ ap (map (put h at)) (sym e)
head_alike i h at (p ∷ U) O a o = ap (λ z. map (put z at) O) (strict_places.equal (take i p) h (and_first (same (take i p) h) (list_all (λ q. same (take i q) h) U) a))

-- and they have that head
pub alike_fewer : (i : ℕ) (h : List ℤ) (P S fewer : List (List ℤ)) → list_all (λ p. same (take i p) h) (P ++ S) ≡ true → (fewer ≡ P) ⊎ (fewer ≡ S) → list_all (λ p. same (take i p) h) fewer ≡ true
alike_fewer i h P S fewer a side =
    let t : List ℤ → Bool = λ p. same (take i p) h in
    ⊎_elim (λ (e : fewer ≡ P). ap (list_all t) e ∙ all_left t P S a) (λ (e : fewer ≡ S). ap (list_all t) e ∙ all_right t P S a) side

-- all rows after the first that is not below the height are not below it
all_over : (n i : ℕ) (at : ℤ) (h : List ℤ) (S : List (List ℤ)) → i < n → list_all (λ p. length p == n) S ≡ true → list_all (λ p. same (take i p) h) S ≡ true → ascending S ≡ true → starts_over i at S ≡ true → list_all (is_over i at) S ≡ true
all_over n i at h [] l w a r o = refl
all_over n i at h (p ∷ S) l w a r o =
    let (b, t) = asc_parts p S r in
    let lp : length p ≡ n = eqb-true (length p) n (and_first (length p == n) (list_all (λ q. length q == n) S) w) in
    let hp : take i p ≡ h = strict_places.equal (take i p) h (and_first (same (take i p) h) (list_all (λ q. same (take i q) h) S) a) in
    let k : at ≤ℤ coord i p = le_is at (coord i p) o in
    and_both (is_over i at p) (list_all (is_over i at) S) o
    (all_weaker (λ q. before p q && (length q == n && same (take i q) h)) (is_over i at)
    (λ q m. let b = and_first (before p q) (length q == n && same (take i q) h) m in
    let c = and_second (before p q) (length q == n && same (take i q) h) m in
    let lq : length q ≡ n = eqb-true (length q) n (and_first (length q == n) (same (take i q) h) c) in
    let hq : take i q ≡ h = strict_places.equal (take i q) h (and_second (length q == n) (same (take i q) h) c) in
    let v : coord i p ≤ℤ coord i q = next_rises i p q (omega arith) (omega arith) (hp ∙ sym hq) b in
    le_yes at (coord i q) (omega (arith, int_facts)))
    S
    (all_two (before p) (λ q. length q == n && same (take i q) h) S b
    (all_two (λ q. length q == n) (λ q. same (take i q) h) S (and_second (length p == n) (list_all (λ q. length q == n) S) w) (and_second (same (take i p) h) (list_all (λ q. same (take i q) h) S) a))))

-- sums over the lowered rows of the two parts
low_times : (i : ℕ) (at : ℤ) (p : List ℤ) (P : List (List ℤ)) → list_all (is_under i at) P ≡ true → xsum (λ q. same (lowered i at q) p) P ≡ xsum (λ q. same q p) P
low_times i at p P u = xsum-same_on (is_under i at) (λ q. same (lowered i at q) p) (λ q. same q p) (λ q m. ap (λ z. same z p) (lowered_low i at q m)) P u

high_times : (n i : ℕ) (at : ℤ) (h p : List ℤ) (S : List (List ℤ)) → i < n → list_all (λ q. length q == n) S ≡ true → list_all (λ q. same (take i q) h) S ≡ true → list_all (is_over i at) S ≡ true
    → xsum (λ q. same (lowered i at q) p) S ≡ xsum (λ q. same (put h at q) p) (map (drop (suc i)) S)
high_times n i at h p S l w a o =
    xsum-same_on (λ q. length q == n && (same (take i q) h && is_over i at q)) (λ q. same (lowered i at q) p) (λ q. same (put h at (drop (suc i) q)) p)
    (λ q m. let k : length q ≡ n = eqb-true (length q) n (and_first (length q == n) (same (take i q) h && is_over i at q) m) in
    let c = and_second (length q == n) (same (take i q) h && is_over i at q) m in
    ap (λ z. same z p) (lowered_over i at q (omega arith) (and_second (same (take i q) h) (is_over i at q) c)
    ∙ ap (λ z. put z at (drop (suc i) q)) (strict_places.equal (take i q) h (and_first (same (take i q) h) (is_over i at q) c))))
    S (all_two (λ q. length q == n) (λ q. same (take i q) h && is_over i at q) S w (all_two (λ q. same (take i q) h) (is_over i at) S a o))
    ∙ sym (xsum-map (λ q. same (put h at q) p) (drop (suc i)) S)

-- the closing rows
pub puts_wide : (n i : ℕ) (h : List ℤ) (at : ℤ) (O : List (List ℤ)) → i < n → length h ≡ i → list_all (λ q. length q == n - suc i) O ≡ true → list_all (λ p. length p == n) (map (put h at) O) ≡ true
puts_wide n i h at O l d w =
    all-map (λ p. length p == n) (put h at) O
    ∙ all_weaker (λ q. length q == n - suc i) (λ q. length (put h at q) == n)
    (λ q m. let e : length q ≡ n - suc i = eqb-true (length q) (n - suc i) m in eq-eqb (length (put h at q)) n (omega (arith, length-append h (at ∷ q)))) O w

pub puts_alike : (i : ℕ) (h : List ℤ) (at : ℤ) (O : List (List ℤ)) → length h ≡ i → list_all (λ p. same (take i p) h) (map (put h at) O) ≡ true
puts_alike i h at [] d = refl
puts_alike i h at (q ∷ O) d =
    and_both (same (take i (put h at q)) h) (list_all (λ p. same (take i p) h) (map (put h at) O))
    (ap (λ z. same z h) (take_at h (at ∷ q) i d) ∙ strict_places.itself h) (puts_alike i h at O d)

low_before : (n i : ℕ) (h : List ℤ) (at : ℤ) (P O : List (List ℤ)) → i < n → list_all (λ p. length p == n) P ≡ true → list_all (λ p. same (take i p) h) P ≡ true → list_all (is_under i at) P ≡ true
    → list_all (λ p. list_all (before p) (map (put h at) O)) P ≡ true
low_before n i h at P O l w a u =
    all_weaker (λ p. length p == n && (same (take i p) h && is_under i at p)) (λ p. list_all (before p) (map (put h at) O))
    (λ p m. let k : length p ≡ n = eqb-true (length p) n (and_first (length p == n) (same (take i p) h && is_under i at p) m) in
    let c = and_second (length p == n) (same (take i p) h && is_under i at p) m in
    let hp : take i p ≡ h = strict_places.equal (take i p) h (and_first (same (take i p) h) (is_under i at p) c) in
    let is : p ≡ put h (coord i p) (drop (suc i) p) = row_is i p (omega arith) ∙ ap (λ z. put z (coord i p) (drop (suc i) p)) hp in
    each_after p (coord i p) (drop (suc i) p) is (and_second (same (take i p) h) (is_under i at p) c) O)
    P (all_two (λ p. length p == n) (λ p. same (take i p) h && is_under i at p) P w (all_two (λ p. same (take i p) h) (is_under i at) P a u))
  where
    each_after : (p : List ℤ) (x : ℤ) (r : List ℤ) → p ≡ put h x r → int_lt x at ≡ true → (T : List (List ℤ)) → list_all (before p) (map (put h at) T) ≡ true
    each_after p x r e m [] = refl
    each_after p x r e m (q ∷ T) = and_both (before p (put h at q)) (list_all (before p) (map (put h at) T)) (ap (λ z. before z (put h at q)) e ∙ put_before h x at r q m) (each_after p x r e m T)

-- the rows below and the closing rows
pub group_lowered : (n i : ℕ) (at : ℤ) (h : List ℤ) (G P S fewer O : List (List ℤ)) → IsGroup n i h G → IsParted i at G P S → (fewer ≡ P) ⊎ (fewer ≡ S)
    → list_all (λ q. length q == n - suc i) O ≡ true → IsOddPart (map (drop (suc i)) fewer) O → IsLowered n i at h G (P ++ map (put (head_of i fewer) at) O)
group_lowered n i at h G P S fewer O g c side wide o =
    let l = g.within in
    let w : list_all (λ p. length p == n) (P ++ S) ≡ true = ap (list_all (λ p. length p == n)) (sym c.both) ∙ g.long in
    let a : list_all (λ p. same (take i p) h) (P ++ S) ≡ true = ap (list_all (λ p. same (take i p) h)) (sym c.both) ∙ g.alike in
    let r : ascending (P ++ S) ≡ true = ap ascending (sym c.both) ∙ g.rises in
    let wp = all_left (λ p. length p == n) P S w in
    let ws = all_right (λ p. length p == n) P S w in
    let ap' = all_left (λ p. same (take i p) h) P S a in
    let as' = all_right (λ p. same (take i p) h) P S a in
    let over = all_over n i at h S l ws as' (asc_tail P S r) c.high in
    let M : List (List ℤ) = map (put h at) O in
    let m : map (put (head_of i fewer) at) O ≡ M = head_alike i h at fewer O (alike_fewer i h P S fewer a side) o in
    let asc : ascending (P ++ M) ≡ true =
    asc_join P M (asc_front P S r) (ascending-rising M ∙ puts_rise h at O (sym (ascending-rising O) ∙ o.rises)) (low_before n i h at P O l wp ap' c.low) in
    let times : (p : List ℤ) → xsum (λ q. same q p) (P ++ M) ≡ xsum (λ q. same (lowered i at q) p) G =
    λ p.
    let f : List ℤ → Bool = λ q. same (put h at q) p in
    let t : Bool = same (front_of h at) (take (length (front_of h at)) p) in
    let z : List ℤ = drop (length (front_of h at)) p in
    xsum-append (λ q. same q p) P M
    ∙ ap₂ xor
    (sym (low_times i at p P c.low))
    (xsum-map (λ q. same q p) (put h at) O
    ∙ puts_sum h at p O
    ∙ ap (λ b. t && b) (xsum-same_place O z o.rises ∙ odd_of_high P S fewer O (suc i) (λ q. ap (λ (T : List (List ℤ)). xsum (λ s. same s q) (map (drop (suc i)) T)) (sym c.both) ∙ g.even q) side o z)
    ∙ sym (puts_sum h at p (map (drop (suc i)) S))
    ∙ sym (high_times n i at h p S l ws as' over))
    ∙ sym (xsum-append (λ q. same (lowered i at q) p) P S) ∙ ap (xsum (λ q. same (lowered i at q) p)) (sym c.both) in
    subst (λ (T : List (List ℤ)). IsLowered n i at h G (P ++ T)) (sym m)
    (record {
      ascends = asc;
      wide = all_join (λ p. length p == n) P M wp (puts_wide n i h at O l g.deep wide);
      alike = all_join (λ p. same (take i p) h) P M ap' (puts_alike i h at O g.deep);
      times = times;
    })

-- ---- group after group

-- the first i numbers of the rows W come before those of the first of the rows R, if there is one
abbrev pub IsAhead : ℕ → List (List ℤ) → List (List ℤ) → Type 0
IsAhead i W [] = Unit {0}
IsAhead i W (r ∷ R) = list_all (λ w. before (take i w) (take i r)) W ≡ true

pub ahead_none : (i : ℕ) (R : List (List ℤ)) → IsAhead i [] R
ahead_none i [] = tt
ahead_none i (r ∷ R) = refl

-- W are the lowered rows of what stands before the rows R in V
pub record IsCutSoFar (n i : ℕ) (at : ℤ) (V W R : List (List ℤ)) : Type 0 where
  pub ascends : ascending W ≡ true
  pub wide : list_all (λ p. length p == n) W ≡ true
  pub ahead : IsAhead i W R
  pub rises : ascending R ≡ true
  pub long : list_all (λ p. length p == n) R ≡ true
  pub even : (line : List ℤ) → parity i R line ≡ false
  pub times : (p : List ℤ) → xor (xsum (λ q. same q p) W) (xsum (λ q. same (lowered i at q) p) R) ≡ xsum (λ q. same (lowered i at q) p) V

pub cut_start : (n i : ℕ) (at : ℤ) (V : List (List ℤ)) → i < n → IsVertexList n V → IsCutSoFar n i at V [] V
unfolding ascending xor
cut_start n i at V l v = record {
  ascends = refl;
  wide = refl;
  ahead = ahead_none i V;
  rises = v.ascends;
  long = lengths-points n V v.points;
  even = λ line. sym (parity-is i V line) ∙ v.even i line l;
  times = λ p. ap (λ t. xor t (xsum (λ q. same (lowered i at q) p) V)) (xsum-nil (λ q. same q p));
}

pub cut_end : (n i : ℕ) (at : ℤ) (V W R : List (List ℤ)) → R ≡ [] → IsCutSoFar n i at V W R → IsReduced n (map (lowered i at) V) W
cut_end n i at V W R e s = record {
  ascends = s.ascends;
  wide = s.wide;
  odd_times = λ p.
      sym (xsum-same_place W p s.ascends) ∙ sym (xor-false (xsum (λ q. same q p) W))
      ∙ ap (xor (xsum (λ q. same q p) W)) (sym (ap (xsum (λ q. same (lowered i at q) p)) e ∙ xsum-nil (λ q. same (lowered i at q) p)))
      ∙ s.times p
      ∙ sym (xsum-map (λ q. same q p) (lowered i at) V) ∙ sym (odd-count (λ q. same q p) (map (lowered i at) V));
}

-- a group has a first row, with the head of the group
group_some : (i : ℕ) (R G T : List (List ℤ)) → 0 < length R → IsFrontGroup i R G T → (g : List ℤ) × (U : List (List ℤ)) × (G ≡ g ∷ U) × (R ≡ g ∷ (U ++ T)) × (take i g ≡ head_of i R)
group_some i R [] T some f = absurd (none T f.rows)
  where
    none : (S : List (List ℤ)) → R ≡ S → ⊥
    none [] e = let k : length R ≡ 0 = ap length e in omega arith
    none (r ∷ S) e =
        let a : list_all (λ p. not (same (take i p) (head_of i R))) (r ∷ S) ≡ true = ap (list_all (λ p. not (same (take i p) (head_of i R)))) (sym e ∙ f.rows) ∙ f.apart in
        true≢false (sym (strict_places.itself (take i r)) ∙ ap (λ z. same (take i r) z) (sym (ap (head_of i) e))
        ∙ not_true (same (take i r) (head_of i R)) (and_first (not (same (take i r) (head_of i R))) (list_all (λ p. not (same (take i p) (head_of i R))) S) a))
group_some i R (g ∷ U) T some f = (g, U, refl, f.rows, sym (ap (head_of i) f.rows))

-- lines along the axis have an even number of rows of the group
pub group_is : (n i : ℕ) (at : ℤ) (V W R G T : List (List ℤ)) → i < n → IsCutSoFar n i at V W R → IsFrontGroup i R G T → IsPaired (map (drop (suc i)) G) × IsGroup n i (head_of i R) G
group_is n i at V W R G T l s f =
    let m : i + 1 ≡ suc i = omega arith in
    let K : List (List ℤ) = map (drop (suc i)) G in
    let paired : IsPaired K =
    λ q. refuted (odd (count_by (λ s. same s q) K))
    (λ t. let (line, e) = group_odd i R G T K f (ap (λ (j : ℕ). map (drop j) G) (sym m)) (q, t) in true≢false (sym e ∙ s.even line)) in (
      paired,
      record {
        within = l;
        deep = f.deep;
        long = all_left (λ p. length p == n) G T (ap (list_all (λ p. length p == n)) (sym f.rows) ∙ s.long);
        alike = f.alike;
        rises = asc_front G T (ap ascending (sym f.rows) ∙ s.rises);
        even = λ q. sym (count_of K q) ∙ paired q;
      },
    )

-- rows W that stand before the rows R, and rows N with the head of the first group of R, stand before what is left of R
pub ahead_more : (n i : ℕ) (W R G T N : List (List ℤ)) → i < n → 0 < length R → ascending R ≡ true → list_all (λ p. length p == n) R ≡ true → IsFrontGroup i R G T → ascending W ≡ true → IsAhead i W R
    → ascending N ≡ true → list_all (λ p. same (take i p) (head_of i R)) N ≡ true → (ascending (W ++ N) ≡ true) × IsAhead i (W ++ N) T
ahead_more n i W R G T N l some rises long f asc before_all asc_new alike =
    let (g, U, starts, rows, head) = group_some i R G T some f in
    let h : List ℤ = head_of i R in
    let ahead : list_all (λ w. before (take i w) h) W ≡ true =
    subst (λ (z : List ℤ). list_all (λ w. before (take i w) z) W ≡ true) head (subst (λ (X : List (List ℤ)). IsAhead i W X) rows before_all) in
    let a : ascending (g ∷ (U ++ T)) ≡ true = ap ascending (sym rows) ∙ rises in
    let w : list_all (λ p. length p == n) (g ∷ (U ++ T)) ≡ true = ap (list_all (λ p. length p == n)) (sym rows) ∙ long in
    let lg : length g ≡ n = eqb-true (length g) n (and_first (length g == n) (list_all (λ p. length p == n) (U ++ T)) w) in
    let wt : list_all (λ p. length p == n) T ≡ true = all_right (λ p. length p == n) U T (and_second (length g == n) (list_all (λ p. length p == n) (U ++ T)) w) in
    let bt : list_all (before g) T ≡ true = all_right (before g) U T (asc_parts g (U ++ T) a).0 in
    let ascends : ascending (W ++ N) ≡ true = asc_join W N asc asc_new
    (all_weaker (λ u. before (take i u) h) (λ u. list_all (before u) N)
    (λ u b. all_weaker (λ p. same (take i p) h) (before u)
    (λ p e. before_longer i u p (ap (before (take i u)) (strict_places.equal (take i p) h e) ∙ b)) N alike)
    W ahead) in
    (ascends, after T refl g head lg bt wt ahead)
  where
    after : (X : List (List ℤ)) → T ≡ X → (g : List ℤ) → take i g ≡ head_of i R → length g ≡ n → list_all (before g) T ≡ true → list_all (λ p. length p == n) T ≡ true → list_all (λ w. before (take i w) (head_of i R)) W ≡ true → IsAhead i (W ++ N) X
    after [] e g head lg bt wt ahead = tt
    after (r ∷ X) e g head lg bt wt ahead =
        let b : before g r ≡ true = and_first (before g r) (list_all (before g) X) (ap (list_all (before g)) (sym e) ∙ bt) in
        let lr : length r ≡ n = eqb-true (length r) n (and_first (length r == n) (list_all (λ p. length p == n) X) (ap (list_all (λ p. length p == n)) (sym e) ∙ wt)) in
        let d : same (take i r) (head_of i R) ≡ false =
        not_true (same (take i r) (head_of i R)) (and_first (not (same (take i r) (head_of i R))) (list_all (λ p. not (same (take i p) (head_of i R))) X) (ap (list_all (λ p. not (same (take i p) (head_of i R)))) (sym e) ∙ f.apart)) in
        let up : before (head_of i R) (take i r) ≡ true = ap (λ z. before z (take i r)) (sym head) ∙ fronts_before i g r (omega arith) (omega arith) b (ap (same (take i r)) head ∙ d) in
        all_join (λ w. before (take i w) (take i r)) W N
        (all_weaker (λ w. before (take i w) (head_of i R)) (λ w. before (take i w) (take i r)) (λ w k. before_trans (take i w) (head_of i R) (take i r) k up) W ahead)
        (all_weaker (λ p. same (take i p) (head_of i R)) (λ w. before (take i w) (take i r)) (λ p k. ap (λ z. before z (take i r)) (strict_places.equal (take i p) (head_of i R) k) ∙ up) N alike)

pub cut_more : (n i : ℕ) (at : ℤ) (V W R G T N : List (List ℤ)) → i < n → 0 < length R → IsCutSoFar n i at V W R → IsFrontGroup i R G T → IsPaired (map (drop (suc i)) G) → IsLowered n i at (head_of i R) G N
    → IsCutSoFar n i at V (W ++ N) T
cut_more n i at V W R G T N l some s f paired c =
    let m : i + 1 ≡ suc i = omega arith in
    let F : List ℤ → List ℤ → Bool = λ p q. same (lowered i at q) p in
    let (ascends, ahead) = ahead_more n i W R G T N l some s.rises s.long f s.ascends s.ahead c.ascends c.alike in
    record {
      ascends = ascends;
      wide = all_join (λ p. length p == n) W N s.wide c.wide;
      ahead = ahead;
      rises = asc_tail G T (ap ascending (sym f.rows) ∙ s.rises);
      long = all_right (λ p. length p == n) G T (ap (list_all (λ p. length p == n)) (sym f.rows) ∙ s.long);
      even = λ line. sym (group_even i R G T (map (drop (suc i)) G) line f (ap (λ (j : ℕ). map (drop j) G) (sym m)) paired) ∙ s.even line;
      times = λ p.
          ap (λ t. xor t (xsum (F p) T)) (xsum-append (λ q. same q p) W N ∙ ap (xor (xsum (λ q. same q p) W)) (c.times p))
          ∙ xor_assoc (xsum (λ q. same q p) W) (xsum (F p) G) (xsum (F p) T)
          ∙ ap (xor (xsum (λ q. same q p) W)) (sym (xsum-append (F p) G T) ∙ ap (xsum (F p)) (sym f.rows))
          ∙ s.times p;
    }
