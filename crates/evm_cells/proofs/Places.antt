-- Places: their equality and order, and all lists of n numbers.
use Rattle.std.proofs.Common.{◌≡◌, ℕ, zero, suc, Bool, true, false, ◌&&◌, ◌||◌, ◌==◌, List, [], ◌∷◌, length, map, flat_map, ℤ, int_lt, refl, sym, ap, ap₂, ◌∙◌, subst, ⊎_elim, arith, int_eq}
use Rattle.std.specs.List.{list_any, list_all}
use Rattle.std.proofs.lemmas.Bool.{or_cases, false≢true, ne_eqb}
use lib.Dec.{eqb-suc-suc}
use Rattle.evm_cells.specs.Places.{each, same, before, ascending, has}
use Rattle.evm_cells.specs.Limits.{tuples}
use Rattle.evm_cells.specs.Booleans.{xor}
use Rattle.evm_cells.proofs.Xor.{xsum, xsum-same, and_first, and_second, and_both, and-false, and_swap}
use Rattle.evm_cells.proofs.Sum.{xsum-flat_map, xsum-map, xsum-product}
use Rattle.evm_cells.proofs.Order.{IsStrict, rising, refuted}
use Rattle.evm_cells.proofs.Lists.{all-map, all-flat_map, all_always, all_weaker, any-map, any-flat_map, any_same, any_never, any-and_left, any-and_right, rising-append}
use Rattle.evm_cells.proofs.Coords.{strict_ints, eq_is}

each_equal : (p q : List ℤ) → each int_eq p q ≡ true → p ≡ q
unfolding each
each_equal [] [] h = refl
each_equal [] (y ∷ ys) h = absurd (false≢true h)
each_equal (x ∷ xs) [] h = absurd (false≢true h)
each_equal (x ∷ xs) (y ∷ ys) h =
    let e : x ≡ y = eq_is x y (and_first (int_eq x y) (each int_eq xs ys) h) in
    let f : xs ≡ ys = each_equal xs ys (and_second (int_eq x y) (each int_eq xs ys) h) in
    λ i. e i ∷ f i

each_itself : (p : List ℤ) → each int_eq p p ≡ true
unfolding each
each_itself [] = refl
each_itself (x ∷ xs) = and_both (int_eq x x) (each int_eq xs xs) (strict_ints.itself x) (each_itself xs)

before_one_way : (p q : List ℤ) → before p q ≡ true → before q p ≡ true → ⊥
unfolding before
before_one_way [] [] h k = false≢true h
before_one_way [] (y ∷ ys) h k = false≢true k
before_one_way (x ∷ xs) [] h k = false≢true h
before_one_way (x ∷ xs) (y ∷ ys) h k =
    ⊎_elim
    (λ l. ⊎_elim
    (λ m. strict_ints.one_way x y l m)
    (λ m. clash x y l (sym (eq_is y x (and_first (int_eq y x) (before ys xs) m))))
    (or_cases (int_lt y x) (int_eq y x && before ys xs) k))
    (λ l. ⊎_elim
    (λ m. clash y x m (sym (eq_is x y (and_first (int_eq x y) (before xs ys) l))))
    (λ m. before_one_way xs ys (and_second (int_eq x y) (before xs ys) l) (and_second (int_eq y x) (before ys xs) m))
    (or_cases (int_lt y x) (int_eq y x && before ys xs) k))
    (or_cases (int_lt x y) (int_eq x y && before xs ys) h)
  where
    clash : (a b : ℤ) → int_lt a b ≡ true → a ≡ b → ⊥
    clash a b l e = strict_ints.one_way a b l (subst (λ z. int_lt z a ≡ true) e (subst (λ z. int_lt a z ≡ true) (sym e) l))

pub strict_places : IsStrict same before
unfolding same
strict_places = record { equal = each_equal; itself = each_itself; one_way = before_one_way }

-- the words of the specifications are the general ones
pub ascending-rising : (S : List (List ℤ)) → ascending S ≡ rising before S
unfolding ascending rising
ascending-rising [] = refl
ascending-rising (x ∷ S) = ap (λ b. list_all (before x) S && b) (ascending-rising S)

pub has-any : (S : List (List ℤ)) (c : List ℤ) → has S c ≡ list_any (same c) S
unfolding has
has-any S c = refl

pub xsum-tuples : (f : List ℤ → Bool) (xs : List ℤ) (n : ℕ) → xsum f (tuples xs (suc n)) ≡ xsum (λ x. xsum (λ t. f (x ∷ t)) (tuples xs n)) xs
unfolding tuples
xsum-tuples f xs n =
    xsum-flat_map f (λ x. map (λ t. x ∷ t) (tuples xs n)) xs
    ∙ xsum-same (λ x. xsum f (map (λ t. x ∷ t) (tuples xs n))) (λ x. xsum (λ t. f (x ∷ t)) (tuples xs n)) (λ x. xsum-map f (λ t. x ∷ t) (tuples xs n)) xs

-- a sum over all tuples of two relations that hold coordinate by coordinate is taken coordinate by coordinate
pub compose : (r q : ℤ → ℤ → Bool) (xs : List ℤ) (s u : List ℤ) → length u ≡ length s → xsum (λ t. each r s t && each q t u) (tuples xs (length s)) ≡ each (λ a b. xsum (λ x. r a x && q x b) xs) s u
unfolding each tuples xsum xor
compose r q xs [] [] e = refl
compose r q xs [] (b ∷ u) e = absurd (omega arith)
compose r q xs (a ∷ s) [] e = absurd (omega arith)
compose r q xs (a ∷ s) (b ∷ u) e =
    let h : length u ≡ length s = omega arith in
    compose_step r q xs a s b u (compose r q xs s u h)
  where
    compose_step : (r q : ℤ → ℤ → Bool) (xs : List ℤ) (a : ℤ) (s : List ℤ) (b : ℤ) (u : List ℤ)
        → xsum (λ t. each r s t && each q t u) (tuples xs (length s)) ≡ each (λ a b. xsum (λ x. r a x && q x b) xs) s u
        → xsum (λ t. each r (a ∷ s) t && each q t (b ∷ u)) (tuples xs (suc (length s))) ≡ (xsum (λ x. r a x && q x b) xs && each (λ a b. xsum (λ x. r a x && q x b) xs) s u)
    compose_step r q xs a s b u h =
        xsum-tuples (λ t. each r (a ∷ s) t && each q t (b ∷ u)) xs (length s)
        ∙ xsum-same
        (λ x. xsum (λ t. (r a x && each r s t) && (q x b && each q t u)) (tuples xs (length s)))
        (λ x. xsum (λ t. (r a x && q x b) && (each r s t && each q t u)) (tuples xs (length s)))
        (λ x. xsum-same (λ t. (r a x && each r s t) && (q x b && each q t u)) (λ t. (r a x && q x b) && (each r s t && each q t u)) (λ t. and_swap (r a x) (each r s t) (q x b) (each q t u)) (tuples xs (length s)))
        xs
        ∙ xsum-product (λ x. r a x && q x b) (λ t. each r s t && each q t u) xs (tuples xs (length s))
        ∙ ap (λ c. xsum (λ x. r a x && q x b) xs && c) h

-- relations that agree on the coordinates in question
pub each_same : (r q : ℤ → ℤ → Bool) (f g : ℤ → Bool) → ((a b : ℤ) → f a ≡ true → g b ≡ true → r a b ≡ q a b) → (s u : List ℤ) → list_all f s ≡ true → list_all g u ≡ true → each r s u ≡ each q s u
unfolding each
each_same r q f g e [] [] h k = refl
each_same r q f g e [] (b ∷ u) h k = refl
each_same r q f g e (a ∷ s) [] h k = refl
each_same r q f g e (a ∷ s) (b ∷ u) h k =
    ap₂ (λ x y. x && y) (e a b (and_first (f a) (list_all f s) h) (and_first (g b) (list_all g u) k))
    (each_same r q f g e s u (and_second (f a) (list_all f s) h) (and_second (g b) (list_all g u) k))

eqb_suc_zero : (n : ℕ) → (suc n == 0) ≡ false
eqb_suc_zero n = ne_eqb (suc n) 0 (λ e. omega arith)

-- what is among the tuples
pub any-tuples : (xs : List ℤ) (n : ℕ) (c : List ℤ) → list_any (same c) (tuples xs n) ≡ (length c == n && list_all (λ x. list_any (int_eq x) xs) c)
unfolding tuples same each
any-tuples xs zero [] = refl
any-tuples xs zero (a ∷ c) = sym (ap (λ b. b && list_all (λ x. list_any (int_eq x) xs) (a ∷ c)) (eqb_suc_zero (length c)))
any-tuples xs (suc n) [] =
    any-flat_map (each int_eq []) (λ x. map (λ t. x ∷ t) (tuples xs n)) xs
    ∙ any_same (λ x. list_any (each int_eq []) (map (λ t. x ∷ t) (tuples xs n))) (λ x. false) (λ x. any-map (each int_eq []) (λ t. x ∷ t) (tuples xs n) ∙ any_never (tuples xs n)) xs
    ∙ any_never xs
    ∙ sym (ap (λ b. b && true) (ne_eqb 0 (suc n) (λ e. omega arith)))
any-tuples xs (suc n) (a ∷ c) =
    any-flat_map (each int_eq (a ∷ c)) (λ x. map (λ t. x ∷ t) (tuples xs n)) xs
    ∙ any_same (λ x. list_any (each int_eq (a ∷ c)) (map (λ t. x ∷ t) (tuples xs n))) (λ x. int_eq a x && list_any (each int_eq c) (tuples xs n))
    (λ x. any-map (each int_eq (a ∷ c)) (λ t. x ∷ t) (tuples xs n) ∙ any-and_left (int_eq a x) (each int_eq c) (tuples xs n)) xs
    ∙ any-and_right (int_eq a) (list_any (each int_eq c) (tuples xs n)) xs
    ∙ ap (λ b. list_any (int_eq a) xs && b) (any-tuples xs n c)
    ∙ swap_parts (list_any (int_eq a) xs) (length c == n) (list_all (λ x. list_any (int_eq x) xs) c)
    ∙ ap (λ b. b && (list_any (int_eq a) xs && list_all (λ x. list_any (int_eq x) xs) c)) (sym (eqb-suc-suc (length c) n))
  where
    swap_parts : (a b c : Bool) → (a && (b && c)) ≡ (b && (a && c))
    swap_parts true b c = refl
    swap_parts false b c = sym (and-false b)

before_rest : (x : ℤ) (s t : List ℤ) → before (x ∷ s) (x ∷ t) ≡ before s t
unfolding before
before_rest x s t = ap₂ (λ a b. a || (b && before s t)) (refuted (int_lt x x) (λ h. strict_ints.one_way x x h h)) (strict_ints.itself x)

pub before_first : (x y : ℤ) (s t : List ℤ) → int_lt x y ≡ true → before (x ∷ s) (y ∷ t) ≡ true
unfolding before
before_first x y s t h = ap (λ a. a || (int_eq x y && before s t)) h

pub rising_prefixed : (x : ℤ) (T : List (List ℤ)) → rising before T ≡ true → rising before (map (λ t. x ∷ t) T) ≡ true
unfolding rising
rising_prefixed x [] h = refl
rising_prefixed x (s ∷ T) h =
    and_both (list_all (before (x ∷ s)) (map (λ t. x ∷ t) T)) (rising before (map (λ t. x ∷ t) T))
    (all-map (before (x ∷ s)) (λ t. x ∷ t) T ∙ all_weaker (before s) (λ t. before (x ∷ s) (x ∷ t)) (λ t l. before_rest x s t ∙ l) T (and_first (list_all (before s) T) (rising before T) h))
    (rising_prefixed x T (and_second (list_all (before s) T) (rising before T) h))

rising_product : (xs : List ℤ) (T : List (List ℤ)) → rising int_lt xs ≡ true → rising before T ≡ true → rising before (flat_map (λ x. map (λ t. x ∷ t) T) xs) ≡ true
unfolding rising
rising_product [] T a b = refl
rising_product (x ∷ xs) T a b =
    rising-append before (map (λ t. x ∷ t) T) (flat_map (λ y. map (λ t. y ∷ t) T) xs) (rising_prefixed x T b)
    (rising_product xs T (and_second (list_all (int_lt x) xs) (rising int_lt xs) a) b)
    (all-map (λ p. list_all (before p) (flat_map (λ y. map (λ t. y ∷ t) T) xs)) (λ t. x ∷ t) T
    ∙ all_always (λ t. list_all (before (x ∷ t)) (flat_map (λ y. map (λ u. y ∷ u) T) xs))
    (λ t. all-flat_map (before (x ∷ t)) (λ y. map (λ u. y ∷ u) T) xs
    ∙ all_weaker (int_lt x) (λ y. list_all (before (x ∷ t)) (map (λ u. y ∷ u) T))
    (λ y l. all-map (before (x ∷ t)) (λ u. y ∷ u) T ∙ all_always (λ u. before (x ∷ t) (y ∷ u)) (λ u. before_first x y t u l) T)
    xs (and_first (list_all (int_lt x) xs) (rising int_lt xs) a))
    T)

pub rising-tuples : (xs : List ℤ) (n : ℕ) → rising int_lt xs ≡ true → rising before (tuples xs n) ≡ true
unfolding tuples rising
rising-tuples xs zero a = refl
rising-tuples xs (suc n) a = rising_product xs (tuples xs n) a (rising-tuples xs n a)
