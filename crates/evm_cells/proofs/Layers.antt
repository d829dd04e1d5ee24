-- A cell set and a vertex list by their layers: sections, couplets, cuts.
use Rattle.std.proofs.Common.{◌≡◌, ℕ, zero, suc, ◌<◌, Bool, true, false, not, cond, ◌&&◌, ◌||◌, List, [], ◌∷◌, length, map, flat_map, filter, sum_by, ℤ, pos, ◌-ℤ◌, ◌+ℤ◌, refl, sym, ap, ap₂, ◌∙◌, ◌↔◌, subst, arith, int_lt, int_eq, ⊎_elim}
use Rattle.std.specs.List.{list_any, list_all}
use Rattle.std.proofs.lemmas.Bool.{false≢true, true≢false, or_cases, or_left, or_right}
use Rattle.std.proofs.lemmas.Int.{ints as int_facts}
use Rattle.std.proofs.lemmas.List.{length-map}
use Rattle.std.proofs.lemmas.List.Concat.{length-flat_map}
use Rattle.evm_cells.specs.Places.{same, before, ascending, has, each, without, with_at, is_empty}
use Rattle.evm_cells.specs.Limits.{cell_coords, point_coords, every_cell, every_point, is_cell, is_point, is_cell_coord, IsCellSet}
use Rattle.evm_cells.specs.Booleans.{xor, xor_cells, combine}
use Rattle.evm_cells.specs.Vertices.{evm, cells, around, odd}
use Rattle.evm_cells.specs.Sections.{slice, couplet, rows_at, cuts}
use Rattle.evm_cells.proofs.Xor.{xor_self, and_first, and_second, and_both, xor-false}
use Rattle.evm_cells.proofs.Order.{rising, refuted, same_tests, all-filter}
use Rattle.evm_cells.proofs.Lists.{all-map, all-flat_map, all_always, all_weaker, any-map, any-flat_map, any_same, any_never, any-and_left, any-and_right, rising-append}
use Rattle.evm_cells.proofs.Coords.{strict_ints, eq_is, rising-cell_coords, any-cell_coords}
use Rattle.evm_cells.proofs.Places.{strict_places, has-any, ascending-rising, rising_prefixed, before_first}
use Rattle.evm_cells.proofs.Universe.{point_parts, cell_parts, same_sets, ascending-evm, points-evm, absorb, member_passes, ascending-filter, same_sym}
use Rattle.evm_cells.proofs.Combine.{cell_set-xor, cell_set-combine, has-combine, has-xor_cells}
use Rattle.evm_cells.proofs.Core.{cells-evm, point-without}
use Rattle.evm_cells.proofs.Slices.{has-slice_of, coord, each-with_at, has-slice, cell_set-slice, cell_set-couplet, couplet_vertices, next_slice, cell_of_with_at}

-- ---- lists made of layers

pub rising_layers : (F : ℤ → List (List ℤ)) (xs : List ℤ) → rising int_lt xs ≡ true → ((x : ℤ) → rising before (F x) ≡ true) → rising before (flat_map (λ x. map (λ t. x ∷ t) (F x)) xs) ≡ true
unfolding rising
rising_layers F [] a b = refl
rising_layers F (x ∷ xs) a b =
    rising-append before (map (λ t. x ∷ t) (F x)) (flat_map (λ y. map (λ t. y ∷ t) (F y)) xs) (rising_prefixed x (F x) (b x))
    (rising_layers F xs (and_second (list_all (int_lt x) xs) (rising int_lt xs) a) b)
    (all-map (λ p. list_all (before p) (flat_map (λ y. map (λ t. y ∷ t) (F y)) xs)) (λ t. x ∷ t) (F x)
    ∙ all_always (λ t. list_all (before (x ∷ t)) (flat_map (λ y. map (λ u. y ∷ u) (F y)) xs))
    (λ t. all-flat_map (before (x ∷ t)) (λ y. map (λ u. y ∷ u) (F y)) xs
    ∙ all_weaker (int_lt x) (λ y. list_all (before (x ∷ t)) (map (λ u. y ∷ u) (F y)))
    (λ y l. all-map (before (x ∷ t)) (λ u. y ∷ u) (F y) ∙ all_always (λ u. before (x ∷ t) (y ∷ u)) (λ u. before_first x y t u l) (F y))
    xs (and_first (list_all (int_lt x) xs) (rising int_lt xs) a))
    (F x))

-- a place in the layers: in that of its first number
pub any_layers : (F : ℤ → List (List ℤ)) (xs : List ℤ) (a : ℤ) (c : List ℤ) → list_any (same (a ∷ c)) (flat_map (λ x. map (λ t. x ∷ t) (F x)) xs) ≡ (list_any (int_eq a) xs && list_any (same c) (F a))
unfolding same each
any_layers F xs a c =
    any-flat_map (each int_eq (a ∷ c)) (λ x. map (λ t. x ∷ t) (F x)) xs
    ∙ any_same (λ x. list_any (each int_eq (a ∷ c)) (map (λ t. x ∷ t) (F x))) (λ x. int_eq a x && list_any (each int_eq c) (F a))
    (λ x. any-map (each int_eq (a ∷ c)) (λ t. x ∷ t) (F x) ∙ any-and_left (int_eq a x) (each int_eq c) (F x) ∙ at_layer x (int_eq a x) refl) xs
    ∙ any-and_right (int_eq a) (list_any (each int_eq c) (F a)) xs
  where
    at_layer : (x : ℤ) (b : Bool) → int_eq a x ≡ b → (int_eq a x && list_any (each int_eq c) (F x)) ≡ (int_eq a x && list_any (each int_eq c) (F a))
    at_layer x true e = ap (λ z. int_eq a x && list_any (each int_eq c) (F z)) (sym (eq_is a x e))
    at_layer x false e = ap (λ b. b && list_any (each int_eq c) (F x)) e ∙ ap (λ b. b && list_any (each int_eq c) (F a)) (sym e)

pub any_layers_none : (F : ℤ → List (List ℤ)) (xs : List ℤ) → list_any (same []) (flat_map (λ x. map (λ t. x ∷ t) (F x)) xs) ≡ false
unfolding same each
any_layers_none F xs =
    any-flat_map (each int_eq []) (λ x. map (λ t. x ∷ t) (F x)) xs
    ∙ any_same (λ x. list_any (each int_eq []) (map (λ t. x ∷ t) (F x))) (λ x. false) (λ x. any-map (each int_eq []) (λ t. x ∷ t) (F x) ∙ any_never (F x)) xs
    ∙ any_never xs

-- a list of places of n + 1 numbers, by its layers F over the numbers xs
pub by_layers : (F : ℤ → List (List ℤ)) (xs : List ℤ) (S : List (List ℤ)) → rising int_lt xs ≡ true → ((x : ℤ) → ascending (F x) ≡ true) → ascending S ≡ true
    → has S [] ≡ false → ((a : ℤ) (c : List ℤ) → has S (a ∷ c) ≡ (list_any (int_eq a) xs && has (F a) c)) → S ≡ flat_map (λ x. map (λ t. x ∷ t) (F x)) xs
by_layers F xs S a b s none e =
    same_sets S (flat_map (λ x. map (λ t. x ∷ t) (F x)) xs) s
    (ascending-rising (flat_map (λ x. map (λ t. x ∷ t) (F x)) xs) ∙ rising_layers F xs a (λ x. sym (ascending-rising (F x)) ∙ b x)) at
  where
    at : (c : List ℤ) → has S c ≡ has (flat_map (λ x. map (λ t. x ∷ t) (F x)) xs) c
    at [] = none ∙ sym (has-any (flat_map (λ x. map (λ t. x ∷ t) (F x)) xs) [] ∙ any_layers_none F xs)
    at (y ∷ c) = e y c ∙ sym (has-any (flat_map (λ x. map (λ t. x ∷ t) (F x)) xs) (y ∷ c) ∙ any_layers F xs y c ∙ ap (λ t. list_any (int_eq y) xs && t) (sym (has-any (F y) c)))

no_empty_place : (n : ℕ) → is_cell (suc n) [] ≡ false
no_empty_place n = refuted (is_cell (suc n) []) (λ h. let (e, a) = cell_parts (suc n) [] h in omega arith)

pub no_empty_point : (n : ℕ) → is_point (suc n) [] ≡ false
no_empty_point n = refuted (is_point (suc n) []) (λ h. let (e, a) = point_parts (suc n) [] h in omega arith)

-- a cell set is its sections, one above the other
pub cells_by_sections : (n : ℕ) (S : List (List ℤ)) → IsCellSet (suc n) S → S ≡ flat_map (λ k. map (λ c. k ∷ c) (slice n 0 k S)) (cell_coords (suc n))
unfolding with_at
cells_by_sections n S h =
    by_layers (λ k. slice n 0 k S) (cell_coords (suc n)) S (rising-cell_coords (suc n)) (λ k. let c : IsCellSet n (slice n 0 k S) = cell_set-slice n 0 k S in c.ascends) h.ascends
    (refuted (has S []) (λ m. true≢false (sym (member_passes (is_cell (suc n)) S [] h.cells m) ∙ no_empty_place n)))
    (λ a c. sym (ap₂ (λ s t. s && t) (any-cell_coords (suc n) a) (has-slice_of n 0 a S c h)
    ∙ absorb (is_cell_coord (suc n) a) (has S (a ∷ c)) (λ m. let (u, v) = cell_of_with_at n 0 a c (member_passes (is_cell (suc n)) S (a ∷ c) h.cells m) in u)))

pub content_by_sections : (n : ℕ) (S : List (List ℤ)) → IsCellSet (suc n) S → length S ≡ sum_by (λ k. length (slice n 0 k S)) (cell_coords (suc n))
content_by_sections n S h =
    ap length (cells_by_sections n S h)
    ∙ length-flat_map (λ k. map (λ c. k ∷ c) (slice n 0 k S)) (cell_coords (suc n))
    ∙ ap (λ f. sum_by f (cell_coords (suc n))) (λ i k. length-map (slice n 0 k S) (λ (c : List ℤ). k ∷ c) i)

-- ---- the points at one height

each_sym : (p q : List ℤ) → each int_eq p q ≡ each int_eq q p
unfolding same
each_sym p q = same_sym p q

pub has-rows_at : (n i : ℕ) (k : ℤ) (V : List (List ℤ)) (r : List ℤ) → i < suc n → length r ≡ n → list_all (is_point (suc n)) V ≡ true → has (rows_at i k V) r ≡ has V (with_at i k r)
unfolding has rows_at same
has-rows_at n i k V r l e a =
    any-map (each int_eq r) (without i) (filter (λ q. int_eq (coord i q) k) V) ∙ in_list V a
  where
    at_head : (q : List ℤ) (R : List (List ℤ)) (b : Bool) → int_eq (coord i q) k ≡ b → length q ≡ suc n
        → list_any (λ p. each int_eq r (without i p)) (cond (int_eq (coord i q) k) (q ∷ R) R) ≡ ((int_eq (coord i q) k && each int_eq r (without i q)) || list_any (λ p. each int_eq r (without i p)) R)
    at_head q R true m f =
        ap (λ t. list_any (λ p. each int_eq r (without i p)) (cond t (q ∷ R) R)) m ∙ ap (λ t. (t && each int_eq r (without i q)) || list_any (λ p. each int_eq r (without i p)) R) (sym m)
    at_head q R false m f =
        ap (λ t. list_any (λ p. each int_eq r (without i p)) (cond t (q ∷ R) R)) m ∙ ap (λ t. (t && each int_eq r (without i q)) || list_any (λ p. each int_eq r (without i p)) R) (sym m)

    split : (q : List ℤ) → is_point (suc n) q ≡ true → (int_eq (coord i q) k && each int_eq r (without i q)) ≡ each int_eq (with_at i k r) q
    split q m =
        let (f, b) = point_parts (suc n) q m in
        ap (λ t. int_eq (coord i q) k && t) (each_sym r (without i q)) ∙ sym (each-with_at int_eq i k q r (omega arith) (omega arith)) ∙ each_sym q (with_at i k r)

    in_list : (W : List (List ℤ)) → list_all (is_point (suc n)) W ≡ true → list_any (λ p. each int_eq r (without i p)) (filter (λ q. int_eq (coord i q) k) W) ≡ list_any (each int_eq (with_at i k r)) W
    in_list [] b = refl
    in_list (q ∷ W) b =
        let m : is_point (suc n) q ≡ true = and_first (is_point (suc n) q) (list_all (is_point (suc n)) W) b in
        let (f, z) = point_parts (suc n) q m in
        at_head q (filter (λ p. int_eq (coord i p) k) W) (int_eq (coord i q) k) refl f
        ∙ ap₂ (λ s t. s || t) (split q m) (in_list W (and_second (is_point (suc n) q) (list_all (is_point (suc n)) W) b))

before_without : (i : ℕ) (p q : List ℤ) → length p ≡ length q → coord i p ≡ coord i q → before p q ≡ true → before (without i p) (without i q) ≡ true
unfolding before without
before_without i [] [] e c h = h
before_without i [] (y ∷ q) e c h = absurd (omega arith)
before_without i (x ∷ p) [] e c h = absurd (omega arith)
before_without zero (x ∷ p) (y ∷ q) e c h =
    ⊎_elim
    (λ l. absurd (strict_ints.one_way x y l (subst (λ z. int_lt z x ≡ true) c (subst (λ z. int_lt x z ≡ true) (sym c) l))))
    (λ r. and_second (int_eq x y) (before p q) r)
    (or_cases (int_lt x y) (int_eq x y && before p q) h)
before_without (suc i) (x ∷ p) (y ∷ q) e c h = ⊎_elim
    (λ l. or_left (int_lt x y) (int_eq x y && before (without i p) (without i q)) l)
    (λ r. or_right (int_lt x y) (int_eq x y && before (without i p) (without i q))
    (and_both (int_eq x y) (before (without i p) (without i q)) (and_first (int_eq x y) (before p q) r)
    (before_without i p q (omega arith) c (and_second (int_eq x y) (before p q) r))))
    (or_cases (int_lt x y) (int_eq x y && before p q) h)

pub all_and : {X : Type 0} (p q : X → Bool) (xs : List X) → list_all p xs ≡ true → list_all q xs ≡ true → list_all (λ x. p x && q x) xs ≡ true
all_and p q [] h k = refl
all_and p q (x ∷ xs) h k =
    and_both (p x && q x) (list_all (λ y. p y && q y) xs)
    (and_both (p x) (q x) (and_first (p x) (list_all p xs) h) (and_first (q x) (list_all q xs) k))
    (all_and p q xs (and_second (p x) (list_all p xs) h) (and_second (q x) (list_all q xs) k))

pub filter_all : {X : Type 0} (t : X → Bool) (xs : List X) → list_all t (filter t xs) ≡ true
filter_all t [] = refl
filter_all t (x ∷ xs) = at_test (t x) refl (filter_all t xs)
  where
    at_test : (b : Bool) → t x ≡ b → list_all t (filter t xs) ≡ true → list_all t (cond b (x ∷ filter t xs) (filter t xs)) ≡ true
    at_test true e h = and_both (t x) (list_all t (filter t xs)) e h
    at_test false e h = h

rising-without : (n i : ℕ) (k : ℤ) (W : List (List ℤ)) → rising before W ≡ true → list_all (λ q. int_eq (coord i q) k && is_point n q) W ≡ true → rising before (map (without i) W) ≡ true
unfolding rising
rising-without n i k [] a b = refl
rising-without n i k (q ∷ W) a b =
    let P : List ℤ → Bool = λ p. int_eq (coord i p) k && is_point n p in
    let hq : P q ≡ true = and_first (P q) (list_all P W) b in
    let hW : list_all P W ≡ true = and_second (P q) (list_all P W) b in
    and_both (list_all (before (without i q)) (map (without i) W)) (rising before (map (without i) W))
    (all-map (before (without i q)) (without i) W
    ∙ all_weaker (λ p. before q p && P p) (λ p. before (without i q) (without i p))
    (λ p m. let m1 : before q p ≡ true = and_first (before q p) (P p) m in
    let m2 : P p ≡ true = and_second (before q p) (P p) m in
    let (e, u) = point_parts n q (and_second (int_eq (coord i q) k) (is_point n q) hq) in
    let (f, v) = point_parts n p (and_second (int_eq (coord i p) k) (is_point n p) m2) in
    before_without i q p (e ∙ sym f)
    (eq_is (coord i q) k (and_first (int_eq (coord i q) k) (is_point n q) hq) ∙ sym (eq_is (coord i p) k (and_first (int_eq (coord i p) k) (is_point n p) m2))) m1)
    W (all_and (before q) P W (and_first (list_all (before q) W) (rising before W) a) hW))
    (rising-without n i k W (and_second (list_all (before q) W) (rising before W) a) hW)

pub ascending-rows_at : (n i : ℕ) (k : ℤ) (V : List (List ℤ)) → ascending V ≡ true → list_all (is_point n) V ≡ true → ascending (rows_at i k V) ≡ true
unfolding rows_at
ascending-rows_at n i k V a h =
    let F : List (List ℤ) = filter (λ q. int_eq (coord i q) k) V in
    ascending-rising (map (without i) F)
    ∙ rising-without n i k F (sym (ascending-rising F) ∙ ascending-filter (λ q. int_eq (coord i q) k) V a)
    (all_and (λ q. int_eq (coord i q) k) (is_point n) F (filter_all (λ q. int_eq (coord i q) k) V)
    (all-filter same before strict_places (is_point n) (λ q. int_eq (coord i q) k) V h))

pub points-rows_at : (n i : ℕ) (k : ℤ) (V : List (List ℤ)) → i < suc n → list_all (is_point (suc n)) V ≡ true → list_all (is_point n) (rows_at i k V) ≡ true
unfolding rows_at
points-rows_at n i k V l h =
    let F : List (List ℤ) = filter (λ q. int_eq (coord i q) k) V in
    all-map (is_point n) (without i) F
    ∙ all_weaker (is_point (suc n)) (λ q. is_point n (without i q)) (λ q m. point-without n i q l m) F
    (all-filter same before strict_places (is_point (suc n)) (λ q. int_eq (coord i q) k) V h)

pub both_guarded : (p x y : Bool) → (x ≡ true → p ≡ true) → (y ≡ true → p ≡ true) → (p ≡ true → x ≡ y) → x ≡ y
both_guarded true x y f g h = h refl
both_guarded false true y f g h = absurd (false≢true (f refl))
both_guarded false false true f g h = g refl
both_guarded false false false f g h = refl

-- the couplets of a cell set stand in its vertex list
pub rows-evm : (n i : ℕ) (k : ℤ) (S : List (List ℤ)) → IsCellSet (suc n) S → i < suc n → rows_at i k (evm (suc n) S) ≡ evm n (couplet n i k S)
rows-evm n i k S h l =
    same_sets (rows_at i k (evm (suc n) S)) (evm n (couplet n i k S))
    (ascending-rows_at (suc n) i k (evm (suc n) S) (ascending-evm (suc n) S) (points-evm (suc n) S)) (ascending-evm n (couplet n i k S))
    (λ r. both_guarded (is_point n r) (has (rows_at i k (evm (suc n) S)) r) (has (evm n (couplet n i k S)) r)
    (member_passes (is_point n) (rows_at i k (evm (suc n) S)) r (points-rows_at n i k (evm (suc n) S) l (points-evm (suc n) S)))
    (member_passes (is_point n) (evm n (couplet n i k S)) r (points-evm n (couplet n i k S)))
    (λ p. let (e, a) = point_parts n r p in has-rows_at n i k (evm (suc n) S) r l e (points-evm (suc n) S) ∙ sym (couplet_vertices n i k S r h l e)))

-- a list of points is the vertices of S if its rows at each height are those of the couplet there
pub vertices_by_couplets : (n : ℕ) (S W : List (List ℤ)) → IsCellSet (suc n) S → ascending W ≡ true → list_all (is_point (suc n)) W ≡ true → ((k : ℤ) → rows_at 0 k W ≡ evm n (couplet n 0 k S)) → W ≡ evm (suc n) S
unfolding with_at
vertices_by_couplets n S W h a b e = same_sets W (evm (suc n) S) a (ascending-evm (suc n) S) at
  where
    guard : (r : List ℤ) → (is_point (suc n) r ≡ true → has W r ≡ has (evm (suc n) S) r) → has W r ≡ has (evm (suc n) S) r
    guard r f = both_guarded (is_point (suc n) r) (has W r) (has (evm (suc n) S) r) (member_passes (is_point (suc n)) W r b) (member_passes (is_point (suc n)) (evm (suc n) S) r (points-evm (suc n) S)) f

    at : (r : List ℤ) → has W r ≡ has (evm (suc n) S) r
    at [] = guard [] (λ p. absurd (true≢false (sym p ∙ no_empty_point n)))
    at (k ∷ r) = guard (k ∷ r) (λ p. let (f, u) = point_parts (suc n) (k ∷ r) p in
        sym (has-rows_at n 0 k W r (omega arith) (omega arith) b) ∙ ap (λ L. has L r) (e k) ∙ couplet_vertices n 0 k S r h (omega arith) (omega arith))

-- ---- cuts

empty_is : (S : List (List ℤ)) → is_empty S ≡ true → S ≡ []
unfolding is_empty
empty_is [] h = refl
empty_is (c ∷ S) h = absurd (false≢true h)

empty_yes : (S : List (List ℤ)) → S ≡ [] → is_empty S ≡ true
unfolding is_empty
empty_yes S e = ap is_empty e

filter_none : {X : Type 0} (xs : List X) → filter (λ x. false) xs ≡ []
filter_none [] = refl
filter_none (x ∷ xs) = filter_none xs

pub evm-empty : (n : ℕ) → evm n [] ≡ []
unfolding evm around odd
evm-empty n = filter_none (every_point n)

pub cells-empty : (n : ℕ) → cells n [] ≡ []
unfolding cells odd
cells-empty n = filter_none (every_cell n)

-- only the empty set has no vertices
pub is_empty-evm : (n : ℕ) (S : List (List ℤ)) → IsCellSet n S → is_empty (evm n S) ≡ is_empty S
is_empty-evm n S h = same_tests (is_empty (evm n S)) (is_empty S)
    (λ e. empty_yes S (sym (cells-evm n S h) ∙ ap (cells n) (empty_is (evm n S) e) ∙ cells-empty n))
    (λ e. empty_yes (evm n S) (ap (evm n) (empty_is S e) ∙ evm-empty n))

-- the cuts are the heights at which vertices stand
pub cuts_are : (n i : ℕ) (S : List (List ℤ)) → IsCellSet (suc n) S → i < suc n → cuts n i S ≡ filter (λ k. not (is_empty (rows_at i k (evm (suc n) S)))) (point_coords (suc n))
unfolding cuts
cuts_are n i S h l =
    ap (λ t. filter t (point_coords (suc n)))
    (λ j k. not ((sym (is_empty-evm n (couplet n i k S) (cell_set-couplet n i k S)) ∙ ap is_empty (sym (rows-evm n i k S h l))) j))

-- no vertices at a height: the section does not change there
pub still_at : (n i : ℕ) (k : ℤ) (S : List (List ℤ)) → IsCellSet (suc n) S → i < suc n → rows_at i k (evm (suc n) S) ≡ [] → slice n i k S ≡ slice n i (k -ℤ pos 1) S
still_at n i k S h l e =
    let c : IsCellSet n (slice n i k S) = cell_set-slice n i k S in
    let d : IsCellSet n (slice n i (k -ℤ pos 1) S) = cell_set-slice n i (k -ℤ pos 1) S in
    let q : couplet n i k S ≡ [] = empty_is (couplet n i k S) (sym (is_empty-evm n (couplet n i k S) (cell_set-couplet n i k S)) ∙ empty_yes (evm n (couplet n i k S)) (sym (rows-evm n i k S h l) ∙ e)) in
    same_sets (slice n i k S) (slice n i (k -ℤ pos 1) S) c.ascends d.ascends
    (λ r. ap (λ T. has T r) (next_slice n i k S)
    ∙ has-xor_cells n (slice n i (k -ℤ pos 1) S) (couplet n i k S) r d (cell_set-couplet n i k S)
    ∙ ap (xor (has (slice n i (k -ℤ pos 1) S) r)) (ap (λ T. has T r) q ∙ has-any [] r)
    ∙ xor-false (has (slice n i (k -ℤ pos 1) S) r))

-- and so between neighbouring cuts
pub still : (n i : ℕ) (a : ℤ) (m : ℕ) (S : List (List ℤ)) → IsCellSet (suc n) S → i < suc n → ((j : ℕ) → j < m → rows_at i (a +ℤ pos (suc j)) (evm (suc n) S) ≡ []) → slice n i (a +ℤ pos m) S ≡ slice n i a S
still n i a zero S h l e = ap (λ z. slice n i z S) (let q : a +ℤ pos 0 ≡ a = omega (arith, int_facts) in q)
still n i a (suc m) S h l e =
    still_at n i (a +ℤ pos (suc m)) S h l (e m (omega arith))
    ∙ ap (λ z. slice n i z S) (let q : a +ℤ pos (suc m) -ℤ pos 1 ≡ a +ℤ pos m = omega (arith, int_facts) in q)
    ∙ still n i a m S h l (λ j b. e j (omega arith))

pub no_places : ascending [] ≡ true
unfolding ascending
no_places = refl

-- a section outside the limits is empty
pub slice_outside : (n i : ℕ) (k : ℤ) (S : List (List ℤ)) → IsCellSet (suc n) S → is_cell_coord (suc n) k ≡ false → slice n i k S ≡ []
slice_outside n i k S h e =
    let c : IsCellSet n (slice n i k S) = cell_set-slice n i k S in
    same_sets (slice n i k S) [] c.ascends no_places
    (λ r. has-slice_of n i k S r h
    ∙ refuted (has S (with_at i k r)) (λ m. let (u, v) = cell_of_with_at n i k r (member_passes (is_cell (suc n)) S (with_at i k r) h.cells m) in true≢false (sym u ∙ e))
    ∙ sym (has-any [] r))

-- sections of a combination
pub slice-combine : (op : Bool → Bool → Bool) (n i : ℕ) (k : ℤ) (A B : List (List ℤ)) → op false false ≡ false → IsCellSet (suc n) A → IsCellSet (suc n) B → slice n i k (combine op (suc n) A B) ≡ combine op n (slice n i k A) (slice n i k B)
slice-combine op n i k A B z a b =
    let S : List (List ℤ) = combine op (suc n) A B in
    let c : IsCellSet n (slice n i k S) = cell_set-slice n i k S in
    let d : IsCellSet n (combine op n (slice n i k A) (slice n i k B)) = cell_set-combine op n (slice n i k A) (slice n i k B) in
    same_sets (slice n i k S) (combine op n (slice n i k A) (slice n i k B)) c.ascends d.ascends
    (λ r. has-slice n i k S r
    ∙ ap (λ t. is_cell n r && t) (has-combine op (suc n) A B (with_at i k r)
    ∙ step (is_cell (suc n) (with_at i k r)) (has A (with_at i k r)) (has B (with_at i k r))
    (member_passes (is_cell (suc n)) A (with_at i k r) a.cells) (member_passes (is_cell (suc n)) B (with_at i k r) b.cells)
    ∙ ap₂ op (sym (has-slice_of n i k A r a)) (sym (has-slice_of n i k B r b)))
    ∙ sym (has-combine op n (slice n i k A) (slice n i k B) r))
  where
    step : (t x y : Bool) → (x ≡ true → t ≡ true) → (y ≡ true → t ≡ true) → (t && op x y) ≡ op x y
    step true x y f g = refl
    step false true y f g = absurd (false≢true (f refl))
    step false false true f g = absurd (false≢true (g refl))
    step false false false f g = sym z

-- a couplet is empty exactly where the section does not change
pub no_couplet : (n i : ℕ) (h : ℤ) (S : List (List ℤ)) → slice n i (h -ℤ pos 1) S ≡ slice n i h S → couplet n i h S ≡ []
unfolding couplet
no_couplet n i h S e =
    let c : IsCellSet n (xor_cells n (slice n i (h -ℤ pos 1) S) (slice n i h S)) = cell_set-xor n (slice n i (h -ℤ pos 1) S) (slice n i h S) in
    same_sets (xor_cells n (slice n i (h -ℤ pos 1) S) (slice n i h S)) [] c.ascends no_places
    (λ r. has-xor_cells n (slice n i (h -ℤ pos 1) S) (slice n i h S) r (cell_set-slice n i (h -ℤ pos 1) S) (cell_set-slice n i h S)
    ∙ ap (λ T. xor (has T r) (has (slice n i h S) r)) e ∙ xor_self (has (slice n i h S) r) ∙ sym (has-any [] r))

pub same_section : (n i : ℕ) (h : ℤ) (S : List (List ℤ)) → couplet n i h S ≡ [] → slice n i (h -ℤ pos 1) S ≡ slice n i h S
same_section n i h S e =
    let c : IsCellSet n (slice n i h S) = cell_set-slice n i h S in
    let d : IsCellSet n (slice n i (h -ℤ pos 1) S) = cell_set-slice n i (h -ℤ pos 1) S in
    same_sets (slice n i (h -ℤ pos 1) S) (slice n i h S) d.ascends c.ascends
    (λ r. sym (ap (λ T. has T r) (next_slice n i h S)
    ∙ has-xor_cells n (slice n i (h -ℤ pos 1) S) (couplet n i h S) r d (cell_set-couplet n i h S)
    ∙ ap (xor (has (slice n i (h -ℤ pos 1) S) r)) (ap (λ T. has T r) e ∙ has-any [] r)
    ∙ xor-false (has (slice n i (h -ℤ pos 1) S) r)))

pub empty_couplet : (n i : ℕ) (h : ℤ) (S : List (List ℤ)) → (couplet n i h S ≡ []) ↔ (slice n i (h -ℤ pos 1) S ≡ slice n i h S)
empty_couplet n i h S = (same_section n i h S, no_couplet n i h S)
