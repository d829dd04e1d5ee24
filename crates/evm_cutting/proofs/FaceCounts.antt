-- The faces of a cell set and of its two sides of a plane.
use Rattle.std.proofs.Common.{◌≡◌, ℕ, zero, suc, ◌+◌, ◌*◌, ◌<◌, ◌≤◌, Bool, true, false, not, cond, ◌&&◌, ◌||◌, ◌==◌, eqb-true, List, [], ◌∷◌, length, filter, count_by, sum_by, ℤ, pos, negsuc, ◌+ℤ◌, ◌-ℤ◌, int_le, int_lt, int_eq, refl, sym, ap, ap₂, ◌∙◌, arith}
use Rattle.std.specs.List.{list_all, range_with_len}
use Rattle.std.proofs.lemmas.Int.{ints as int_facts}
use Rattle.std.proofs.lemmas.Bool.{eqb-false}
use Rattle.std.proofs.lemmas.List.{length-map}
use Rattle.std.proofs.lemmas.List.Sums.{sum_by-cons, length-filter}
use Rattle.std.proofs.lemmas.List.Filters.{length-filter_both}
use Rattle.evm_cells.specs.Places.{has, without, with_at}
use Rattle.evm_cells.specs.Limits.{is_cell, every_cell, IsCellSet}
use Rattle.evm_cells.specs.Booleans.{xor, combine, and_cells, xor_cells}
use Rattle.evm_cells.specs.Measures.{content, boundary, moved, open_faces}
use Rattle.evm_cells.specs.Sections.{slice, couplet, rows_at}
use Rattle.evm_cells.specs.Windows.{is_under, is_over}
use Rattle.evm_cells.proofs.Xor.{and_first, and_second, and-false, and-true, and_comm, xor_self, xor-false, false-xor}
use Rattle.evm_cells.proofs.Coords.{le_yes, le_no, lt_yes, lt_no, eq_yes, eq_no, by_order}
use Rattle.evm_cells.proofs.Universe.{same_sets, has-filter, cells_are, cell_parts, member_passes}
use Rattle.evm_cells.proofs.Slices.{coord, has-slice, has-slice_of, cell_set-slice, cell_set-couplet}
use Rattle.evm_cells.proofs.Layers.{both_guarded}
use Rattle.evm_cells.proofs.Combine.{cell_set-combine, has-combine}
use Rattle.evm_cells.proofs.SectionSums.{section_rows, has-couplet}
use Rattle.evm_cells.proofs.Sides.{cell_set-part}

-- ---- sums

abbrev weight : Bool → ℕ
weight b = cond b 1 0

first_weighed : {X : Type 0} (f : X → ℕ) (t : X → Bool) (x : X) (xs : List X) → sum_by f (filter t (x ∷ xs)) ≡ cond (t x) (f x) 0 + sum_by f (filter t xs)
first_weighed f t x xs = at (t x)
  where
    at : (b : Bool) → sum_by f (cond b (x ∷ filter t xs) (filter t xs)) ≡ cond b (f x) 0 + sum_by f (filter t xs)
    at true = sum_by-cons f x (filter t xs)
    at false = omega arith

-- a sum over the places that pass, over all places
sum-passing : {X : Type 0} (f : X → ℕ) (t : X → Bool) (xs : List X) → sum_by f (filter t xs) ≡ sum_by (λ x. cond (t x) (f x) 0) xs
sum-passing f t [] = refl
sum-passing f t (x ∷ xs) =
    let a = first_weighed f t x xs in
    let b = sum-passing f t xs in
    let c = sum_by-cons (λ y. cond (t y) (f y) 0) x xs in
    omega arith

-- two sums are two others where they are term by term
sums_match : {X : Type 0} (p : X → Bool) (f g h k : X → ℕ) (xs : List X) → list_all p xs ≡ true → ((x : X) → p x ≡ true → f x + g x ≡ h x + k x)
    → sum_by f xs + sum_by g xs ≡ sum_by h xs + sum_by k xs
sums_match p f g h k [] a e = refl
sums_match p f g h k (x ∷ xs) a e =
    let i : f x + g x ≡ h x + k x = e x (and_first (p x) (list_all p xs) a) in
    let j : sum_by f xs + sum_by g xs ≡ sum_by h xs + sum_by k xs = sums_match p f g h k xs (and_second (p x) (list_all p xs) a) e in
    let q = sum_by-cons f x xs in
    let r = sum_by-cons g x xs in
    let s = sum_by-cons h x xs in
    let t = sum_by-cons k x xs in
    omega arith

sum_nothing : {X : Type 0} (xs : List X) → sum_by (λ x. 0) xs ≡ 0
sum_nothing [] = refl
sum_nothing (x ∷ xs) = let a = sum_by-cons (λ y. 0) x xs in let b = sum_nothing xs in omega arith

all_pass : {X : Type 0} (xs : List X) → list_all (λ x. true) xs ≡ true
all_pass [] = refl
all_pass (x ∷ xs) = all_pass xs

past : (i w a m : ℕ) → i < a → sum_by (λ j. cond (j == i) w 0) (range_with_len a m) ≡ 0
past i w a zero l = refl
past i w a (suc m) l =
    let c = sum_by-cons (λ j. cond (j == i) w 0) a (range_with_len (a + 1) m) in
    let b = past i w (a + 1) m (omega arith) in
    at (a == i) refl c b
  where
    at : (b : Bool) → (a == i) ≡ b → sum_by (λ j. cond (j == i) w 0) (range_with_len a (suc m)) ≡ cond (a == i) w 0 + sum_by (λ j. cond (j == i) w 0) (range_with_len (a + 1) m)
        → sum_by (λ j. cond (j == i) w 0) (range_with_len (a + 1) m) ≡ 0 → sum_by (λ j. cond (j == i) w 0) (range_with_len a (suc m)) ≡ 0
    at true e c b = let q : a ≡ i = eqb-true a i e in absurd (omega arith)
    at false e c b = let q : cond (a == i) w 0 ≡ 0 = ap (λ t. cond t w 0) e in omega arith

-- a sum over axes that has one term
only_at : (i w a m : ℕ) → a ≤ i → i < a + m → sum_by (λ j. cond (j == i) w 0) (range_with_len a m) ≡ w
only_at i w a zero l u = absurd (omega arith)
only_at i w a (suc m) l u =
    let c = sum_by-cons (λ j. cond (j == i) w 0) a (range_with_len (a + 1) m) in
    at (a == i) refl c (λ x y. only_at i w (a + 1) m x y)
  where
    at : (b : Bool) → (a == i) ≡ b → sum_by (λ j. cond (j == i) w 0) (range_with_len a (suc m)) ≡ cond (a == i) w 0 + sum_by (λ j. cond (j == i) w 0) (range_with_len (a + 1) m)
        → (a + 1 ≤ i → i < a + 1 + m → sum_by (λ j. cond (j == i) w 0) (range_with_len (a + 1) m) ≡ w) → sum_by (λ j. cond (j == i) w 0) (range_with_len a (suc m)) ≡ w
    at true e c f =
        let q : cond (a == i) w 0 ≡ w = ap (λ t. cond t w 0) e in
        let r : a ≡ i = eqb-true a i e in
        let b : sum_by (λ j. cond (j == i) w 0) (range_with_len (a + 1) m) ≡ 0 = past i w (a + 1) m (omega arith) in
        omega arith
    at false e c f =
        let q : cond (a == i) w 0 ≡ 0 = ap (λ t. cond t w 0) e in
        let n : a ≡ i → ⊥ = eqb-false a i e in
        let b : sum_by (λ j. cond (j == i) w 0) (range_with_len (a + 1) m) ≡ w = f (omega arith) (omega arith) in
        omega arith

-- ---- faces of the two sides of a plane

over_not : (at x : ℤ) → int_le at x ≡ not (int_lt x at)
over_not at x = by_order x at
    (λ l. le_no at x l ∙ ap not (sym (lt_yes x at l)))
    (λ e. le_yes at x (omega (arith, int_facts)) ∙ ap not (sym (lt_no x at (omega (arith, int_facts)))))
    (λ l. le_yes at x (omega (arith, int_facts)) ∙ ap not (sym (lt_no x at (omega (arith, int_facts)))))

-- the contents of the two sides add up
pub content_of_sides : (i : ℕ) (at : ℤ) (S : List (List ℤ)) → content (filter (is_under i at) S) + content (filter (is_over i at) S) ≡ content S
content_of_sides i at S = length-filter_both (is_under i at) (is_over i at) (λ c. over_not at (coord i c)) S

-- one place: a tells whether its neighbour is filled, u whether it is below the plane, v whether its neighbour is
one_face : (a u v : Bool) → cond u (weight (not (a && v))) 0 + cond (not u) (weight (not (a && not v))) 0 ≡ weight (not a) + weight (a && xor u v)
unfolding xor
one_face true true true = refl
one_face true true false = refl
one_face true false true = refl
one_face true false false = refl
one_face false true true = refl
one_face false true false = refl
one_face false false true = refl
one_face false false false = refl

has-under : (i : ℕ) (at : ℤ) (S : List (List ℤ)) (c : List ℤ) → has (filter (is_under i at) S) c ≡ (has S c && int_lt (coord i c) at)
has-under i at S c = has-filter (is_under i at) S c

has-over : (i : ℕ) (at : ℤ) (S : List (List ℤ)) (c : List ℤ) → has (filter (is_over i at) S) c ≡ (has S c && not (int_lt (coord i c) at))
has-over i at S c = has-filter (is_over i at) S c ∙ ap (λ t. has S c && t) (over_not at (coord i c))

-- what the two sides have more of open faces: those between a cell below the plane and one above
faces_of_sides : (m i j : ℕ) (d at : ℤ) (S : List (List ℤ)) (t : List ℤ → Bool) → IsCellSet m S
    → ((c : List ℤ) → is_cell m c ≡ true → (has S (moved j d c) && xor (int_lt (coord i c) at) (int_lt (coord i (moved j d c)) at)) ≡ t c)
    → open_faces j d (filter (is_under i at) S) + open_faces j d (filter (is_over i at) S) ≡ open_faces j d S + count_by t S
unfolding open_faces
faces_of_sides m i j d at S t s e =
    let U : List (List ℤ) = filter (is_under i at) S in
    let O : List (List ℤ) = filter (is_over i at) S in
    let f : List ℤ → ℕ = λ c. weight (not (has U (moved j d c))) in
    let g : List ℤ → ℕ = λ c. weight (not (has O (moved j d c))) in
    ap₂ (λ x y. x + y) (sum-passing f (is_under i at) S) (sum-passing g (is_over i at) S)
    ∙ sums_match (is_cell m) (λ c. cond (is_under i at c) (f c) 0) (λ c. cond (is_over i at c) (g c) 0) (λ c. weight (not (has S (moved j d c)))) (λ c. weight (t c)) S s.cells
    (λ c w. ap₂ (λ x y. cond (int_lt (coord i c) at) (weight (not x)) 0 + cond (is_over i at c) (weight (not y)) 0) (has-under i at S (moved j d c)) (has-over i at S (moved j d c))
    ∙ ap (λ o. cond (int_lt (coord i c) at) (weight (not (has S (moved j d c) && int_lt (coord i (moved j d c)) at))) 0
    + cond o (weight (not (has S (moved j d c) && not (int_lt (coord i (moved j d c)) at)))) 0) (over_not at (coord i c))
    ∙ one_face (has S (moved j d c)) (int_lt (coord i c) at) (int_lt (coord i (moved j d c)) at)
    ∙ ap (λ b. weight (not (has S (moved j d c))) + weight b) (e c w))

-- ---- steps

stays_on : (i j : ℕ) (d : ℤ) (c : List ℤ) → (j ≡ i → ⊥) → coord i (moved j d c) ≡ coord i c
unfolding moved
stays_on i j d [] n = refl
stays_on zero zero d (x ∷ c) n = absurd (n refl)
stays_on (suc i) zero d (x ∷ c) n = refl
stays_on zero (suc j) d (x ∷ c) n = refl
stays_on (suc i) (suc j) d (x ∷ c) n = stays_on i j d c (λ e. n (ap suc e))

goes_on : (i : ℕ) (d : ℤ) (c : List ℤ) → i < length c → coord i (moved i d c) ≡ coord i c +ℤ d
unfolding moved
goes_on i d [] l = absurd (omega arith)
goes_on zero d (x ∷ c) l = refl
goes_on (suc i) d (x ∷ c) l = goes_on i d c (omega arith)

moved_at : (i : ℕ) (k d : ℤ) (c : List ℤ) → i ≤ length c → moved i d (with_at i k c) ≡ with_at i (k +ℤ d) c
unfolding moved with_at
moved_at zero k d c l = refl
moved_at (suc i) k d [] l = absurd (omega arith)
moved_at (suc i) k d (x ∷ c) l = ap (λ (q : List ℤ). x ∷ q) (moved_at i k d c (omega arith))

-- along another axis no face lies between the sides
faces_along : (m i j : ℕ) (d at : ℤ) (S : List (List ℤ)) → IsCellSet m S → (j ≡ i → ⊥)
    → open_faces j d (filter (is_under i at) S) + open_faces j d (filter (is_over i at) S) ≡ open_faces j d S + 0
faces_along m i j d at S s n =
    faces_of_sides m i j d at S (λ c. false) s
    (λ c w. ap (λ x. has S (moved j d c) && xor (int_lt (coord i c) at) (int_lt x at)) (stays_on i j d c n)
    ∙ ap (λ b. has S (moved j d c) && b) (xor_self (int_lt (coord i c) at)) ∙ and-false (has S (moved j d c)))
    ∙ ap (λ x. open_faces j d S + x) (sum_nothing S)

-- ---- faces across the plane

guard : (p x y : Bool) → (p ≡ true → x ≡ y) → (p && x) ≡ (p && y)
guard true x y f = f refl
guard false x y f = refl

both_weighed : (a b : Bool) → cond a (weight b) 0 ≡ weight (a && b)
both_weighed true b = refl
both_weighed false b = refl

-- the cells at a height that have a filled neighbour, as what two sections share
shared_section : (n i : ℕ) (k d : ℤ) (S : List (List ℤ)) → IsCellSet (suc n) S → i < suc n
    → slice n i k (filter (λ c. has S (moved i d c)) S) ≡ and_cells n (slice n i k S) (slice n i (k +ℤ d) S)
unfolding and_cells
shared_section n i k d S s l =
    let T : List (List ℤ) = filter (λ c. has S (moved i d c)) S in
    let a : IsCellSet n (slice n i k T) = cell_set-slice n i k T in
    let b : IsCellSet n (combine (λ x y. x && y) n (slice n i k S) (slice n i (k +ℤ d) S)) = cell_set-combine (λ x y. x && y) n (slice n i k S) (slice n i (k +ℤ d) S) in
    same_sets (slice n i k T) (combine (λ x y. x && y) n (slice n i k S) (slice n i (k +ℤ d) S)) a.ascends b.ascends
    (λ r. has-slice n i k T r
    ∙ guard (is_cell n r) (has T (with_at i k r)) (has (slice n i k S) r && has (slice n i (k +ℤ d) S) r)
    (λ m. let (e, w) = cell_parts n r m in
    has-filter (λ c. has S (moved i d c)) S (with_at i k r)
    ∙ ap (λ x. has S (with_at i k r) && has S x) (moved_at i k d r (omega arith))
    ∙ sym (ap₂ (λ x y. x && y) (has-slice_of n i k S r s) (has-slice_of n i (k +ℤ d) S r s)))
    ∙ sym (has-combine (λ x y. x && y) n (slice n i k S) (slice n i (k +ℤ d) S) r))

shared_count : (n i : ℕ) (k d : ℤ) (S : List (List ℤ)) → IsCellSet (suc n) S → i < suc n
    → count_by (λ c. has S (moved i d c) && int_eq (coord i c) k) S ≡ content (and_cells n (slice n i k S) (slice n i (k +ℤ d) S))
unfolding rows_at
shared_count n i k d S s l =
    let T : List (List ℤ) = filter (λ c. has S (moved i d c)) S in
    let t : List ℤ → Bool = λ c. int_eq (coord i c) k in
    sym (length-map (filter t T) (without i) ∙ length-filter t T ∙ sum-passing (λ c. weight (t c)) (λ c. has S (moved i d c)) S
    ∙ ap (λ h. sum_by h S) (λ z c. both_weighed (has S (moved i d c)) (t c) z))
    ∙ ap length (sym (section_rows n i k T (cell_set-part (suc n) (λ c. has S (moved i d c)) S s) l) ∙ shared_section n i k d S s l)

and_other : (n : ℕ) (A B : List (List ℤ)) → and_cells n A B ≡ and_cells n B A
unfolding and_cells combine
and_other n A B = ap (λ t. filter t (every_cell n)) (λ i c. and_comm (has A c) (has B c) i)

crossing_up : (x at : ℤ) → xor (int_lt x at) (int_lt (x +ℤ pos 1) at) ≡ int_eq x (at -ℤ pos 1)
unfolding xor
crossing_up x at = by_order x (at -ℤ pos 1)
    (λ l. ap₂ xor (lt_yes x at (omega (arith, int_facts))) (lt_yes (x +ℤ pos 1) at (omega (arith, int_facts))) ∙ sym (eq_no x (at -ℤ pos 1) (λ e. omega (arith, int_facts))))
    (λ e. ap₂ xor (lt_yes x at (omega (arith, int_facts))) (lt_no (x +ℤ pos 1) at (omega (arith, int_facts))) ∙ sym (eq_yes x (at -ℤ pos 1) e))
    (λ l. ap₂ xor (lt_no x at (omega (arith, int_facts))) (lt_no (x +ℤ pos 1) at (omega (arith, int_facts))) ∙ sym (eq_no x (at -ℤ pos 1) (λ e. omega (arith, int_facts))))

crossing_down : (x at : ℤ) → xor (int_lt x at) (int_lt (x +ℤ negsuc 0) at) ≡ int_eq x at
unfolding xor
crossing_down x at = by_order x at
    (λ l. ap₂ xor (lt_yes x at l) (lt_yes (x +ℤ negsuc 0) at (omega (arith, int_facts))) ∙ sym (eq_no x at (λ e. omega (arith, int_facts))))
    (λ e. ap₂ xor (lt_no x at (omega (arith, int_facts))) (lt_yes (x +ℤ negsuc 0) at (omega (arith, int_facts))) ∙ sym (eq_yes x at e))
    (λ l. ap₂ xor (lt_no x at (omega (arith, int_facts))) (lt_no (x +ℤ negsuc 0) at (omega (arith, int_facts))) ∙ sym (eq_no x at (λ e. omega (arith, int_facts))))

-- what the sections just below a plane and just above it share
abbrev shared : ℕ → ℕ → ℤ → List (List ℤ) → List (List ℤ)
shared n i at S = and_cells n (slice n i (at -ℤ pos 1) S) (slice n i at S)

faces_across : (n i : ℕ) (d k at : ℤ) (S : List (List ℤ)) → IsCellSet (suc n) S → i < suc n → ((x : ℤ) → xor (int_lt x at) (int_lt (x +ℤ d) at) ≡ int_eq x k)
    → open_faces i d (filter (is_under i at) S) + open_faces i d (filter (is_over i at) S) ≡ open_faces i d S + content (and_cells n (slice n i k S) (slice n i (k +ℤ d) S))
faces_across n i d k at S s l e =
    faces_of_sides (suc n) i i d at S (λ c. has S (moved i d c) && int_eq (coord i c) k) s
    (λ c w. let (f, a) = cell_parts (suc n) c w in
    ap (λ x. has S (moved i d c) && xor (int_lt (coord i c) at) (int_lt x at)) (goes_on i d c (omega arith))
    ∙ ap (λ b. has S (moved i d c) && b) (e (coord i c)))
    ∙ ap (λ x. open_faces i d S + x) (shared_count n i k d S s l)

faces_up : (n i : ℕ) (at : ℤ) (S : List (List ℤ)) → IsCellSet (suc n) S → i < suc n
    → open_faces i (pos 1) (filter (is_under i at) S) + open_faces i (pos 1) (filter (is_over i at) S) ≡ open_faces i (pos 1) S + content (shared n i at S)
faces_up n i at S s l =
    faces_across n i (pos 1) (at -ℤ pos 1) at S s l (λ x. crossing_up x at)
    ∙ ap (λ z. open_faces i (pos 1) S + content (and_cells n (slice n i (at -ℤ pos 1) S) (slice n i z S))) (let q : at -ℤ pos 1 +ℤ pos 1 ≡ at = omega (arith, int_facts) in q)

faces_down : (n i : ℕ) (at : ℤ) (S : List (List ℤ)) → IsCellSet (suc n) S → i < suc n
    → open_faces i (negsuc 0) (filter (is_under i at) S) + open_faces i (negsuc 0) (filter (is_over i at) S) ≡ open_faces i (negsuc 0) S + content (shared n i at S)
faces_down n i at S s l =
    faces_across n i (negsuc 0) at at S s l (λ x. crossing_down x at)
    ∙ ap (λ z. open_faces i (negsuc 0) S + content (and_cells n (slice n i at S) (slice n i z S))) (let q : at +ℤ negsuc 0 ≡ at -ℤ pos 1 = omega (arith, int_facts) in q)
    ∙ ap (λ C. open_faces i (negsuc 0) S + content C) (and_other n (slice n i at S) (slice n i (at -ℤ pos 1) S))

-- the two sides have two faces more for each pair of neighbours across the plane
boundary_shared : (n i : ℕ) (at : ℤ) (S : List (List ℤ)) → IsCellSet (suc n) S → i < suc n
    → boundary (suc n) (filter (is_under i at) S) + boundary (suc n) (filter (is_over i at) S) ≡ boundary (suc n) S + (content (shared n i at S) + content (shared n i at S))
unfolding boundary
boundary_shared n i at S s l =
    let w : ℕ = content (shared n i at S) + content (shared n i at S) in
    sums_match (λ j. true) (faces (filter (is_under i at) S)) (faces (filter (is_over i at) S)) (faces S) (λ j. cond (j == i) w 0) (range_with_len 0 (suc n)) (all_pass (range_with_len 0 (suc n)))
    (λ j p. axis j (j == i) refl)
    ∙ ap (λ x. sum_by (faces S) (range_with_len 0 (suc n)) + x) (only_at i w 0 (suc n) (omega arith) (omega arith))
  where
    faces : List (List ℤ) → ℕ → ℕ
    faces A j = open_faces j (pos 1) A + open_faces j (negsuc 0) A

    axis : (j : ℕ) (b : Bool) → (j == i) ≡ b
        → faces (filter (is_under i at) S) j + faces (filter (is_over i at) S) j ≡ faces S j + cond (j == i) (content (shared n i at S) + content (shared n i at S)) 0
    axis j true e =
        let q : j ≡ i = eqb-true j i e in
        let a = faces_up n i at S s l in
        let b = faces_down n i at S s l in
        ap (λ x. faces (filter (is_under i at) S) x + faces (filter (is_over i at) S) x) q ∙ omega (arith, a, b)
        ∙ sym (ap₂ (λ x t. faces S x + cond t (content (shared n i at S) + content (shared n i at S)) 0) q e)
    axis j false e =
        let q : j ≡ i → ⊥ = eqb-false j i e in
        let a = faces_along (suc n) i j (pos 1) at S s q in
        let b = faces_along (suc n) i j (negsuc 0) at S s q in
        omega (arith, a, b) ∙ sym (ap (λ t. faces S j + cond t (content (shared n i at S) + content (shared n i at S)) 0) e)

-- ---- the couplets of the two sides at the plane

coord_with : (i : ℕ) (k : ℤ) (c : List ℤ) → i ≤ length c → coord i (with_at i k c) ≡ k
unfolding with_at
coord_with zero k c l = refl
coord_with (suc i) k [] l = absurd (omega arith)
coord_with (suc i) k (x ∷ c) l = coord_with i k c (omega arith)

-- the couplet at the plane of a part of a cell set whose cells are on one side of it, which t tells by their height
couplet_of_side : (n i : ℕ) (k at : ℤ) (t : ℤ → Bool) (S : List (List ℤ)) → IsCellSet (suc n) S → i < suc n
    → ((a b : Bool) → xor (a && t (at -ℤ pos 1)) (b && t at) ≡ cond (t at) b a) → slice n i k S ≡ cond (t at) (slice n i at S) (slice n i (at -ℤ pos 1) S)
    → couplet n i at (filter (λ c. t (coord i c)) S) ≡ slice n i k S
couplet_of_side n i k at t S s l e f =
    let T : List (List ℤ) = filter (λ c. t (coord i c)) S in
    let p : IsCellSet (suc n) T = cell_set-part (suc n) (λ c. t (coord i c)) S s in
    let a : IsCellSet n (couplet n i at T) = cell_set-couplet n i at T in
    let b : IsCellSet n (slice n i k S) = cell_set-slice n i k S in
    same_sets (couplet n i at T) (slice n i k S) a.ascends b.ascends
    (λ r. both_guarded (is_cell n r) (has (couplet n i at T) r) (has (slice n i k S) r) (member_passes (is_cell n) (couplet n i at T) r a.cells) (member_passes (is_cell n) (slice n i k S) r b.cells)
    (λ m. let (q, w) = cell_parts n r m in
    has-couplet n i at T r
    ∙ ap₂ xor (side r p (at -ℤ pos 1) (omega arith)) (side r p at (omega arith))
    ∙ e (has (slice n i (at -ℤ pos 1) S) r) (has (slice n i at S) r)
    ∙ either (t at) r ∙ ap (λ A. has A r) (sym f)))
  where
    side : (r : List ℤ) → IsCellSet (suc n) (filter (λ c. t (coord i c)) S) → (z : ℤ) → i ≤ length r → has (slice n i z (filter (λ c. t (coord i c)) S)) r ≡ (has (slice n i z S) r && t z)
    side r p z m =
        has-slice_of n i z (filter (λ c. t (coord i c)) S) r p ∙ has-filter (λ c. t (coord i c)) S (with_at i z r)
        ∙ ap₂ (λ x y. x && t y) (sym (has-slice_of n i z S r s)) (coord_with i z r m)

    either : (b : Bool) (r : List ℤ) → cond b (has (slice n i at S) r) (has (slice n i (at -ℤ pos 1) S) r) ≡ has (cond b (slice n i at S) (slice n i (at -ℤ pos 1) S)) r
    either true r = refl
    either false r = refl

couplet_under : (n i : ℕ) (at : ℤ) (S : List (List ℤ)) → IsCellSet (suc n) S → i < suc n → couplet n i at (filter (is_under i at) S) ≡ slice n i (at -ℤ pos 1) S
couplet_under n i at S s l =
    let no : int_lt at at ≡ false = lt_no at at (omega (arith, int_facts)) in
    let yes : int_lt (at -ℤ pos 1) at ≡ true = lt_yes (at -ℤ pos 1) at (omega (arith, int_facts)) in
    couplet_of_side n i (at -ℤ pos 1) at (λ z. int_lt z at) S s l
    (λ a b. ap₂ (λ x y. xor (a && x) (b && y)) yes no ∙ ap₂ xor (and-true a) (and-false b) ∙ xor-false a ∙ sym (ap (λ x. cond x b a) no))
    (sym (ap (λ x. cond x (slice n i at S) (slice n i (at -ℤ pos 1) S)) no))

couplet_over : (n i : ℕ) (at : ℤ) (S : List (List ℤ)) → IsCellSet (suc n) S → i < suc n → couplet n i at (filter (is_over i at) S) ≡ slice n i at S
couplet_over n i at S s l =
    let no : int_le at (at -ℤ pos 1) ≡ false = le_no at (at -ℤ pos 1) (omega (arith, int_facts)) in
    let yes : int_le at at ≡ true = le_yes at at (omega (arith, int_facts)) in
    couplet_of_side n i at at (λ z. int_le at z) S s l
    (λ a b. ap₂ (λ x y. xor (a && x) (b && y)) no yes ∙ ap₂ xor (and-false a) (and-true b) ∙ false-xor b ∙ sym (ap (λ x. cond x b a) yes))
    (sym (ap (λ x. cond x (slice n i at S) (slice n i (at -ℤ pos 1) S)) yes))

-- the two sides have two faces more for each cell that their couplets at the plane share
pub boundary_of_sides : (n i : ℕ) (at : ℤ) (S : List (List ℤ)) → IsCellSet (suc n) S → i < suc n
    → boundary (suc n) (filter (is_under i at) S) + boundary (suc n) (filter (is_over i at) S)
    ≡ boundary (suc n) S + 2 * content (and_cells n (couplet n i at (filter (is_under i at) S)) (couplet n i at (filter (is_over i at) S)))
boundary_of_sides n i at S s l =
    let e : content (and_cells n (couplet n i at (filter (is_under i at) S)) (couplet n i at (filter (is_over i at) S))) ≡ content (shared n i at S) =
    ap₂ (λ A B. content (and_cells n A B)) (couplet_under n i at S s l) (couplet_over n i at S s l) in
    let b = boundary_shared n i at S s l in
    omega (arith, e, b)

-- ---- what two cell sets share, by their contents

counted_cells : (n : ℕ) (S : List (List ℤ)) → IsCellSet n S → content S ≡ count_by (has S) (every_cell n)
counted_cells n S s = ap length (sym (cells_are n S s.ascends s.cells)) ∙ length-filter (has S) (every_cell n)

pub content_of_xor : (n : ℕ) (A B : List (List ℤ)) → IsCellSet n A → IsCellSet n B → content A + content B ≡ content (xor_cells n A B) + 2 * content (and_cells n A B)
unfolding xor_cells and_cells combine xor
content_of_xor n A B a b =
    let E : List (List ℤ) = every_cell n in
    let x : content (xor_cells n A B) ≡ count_by (λ c. xor (has A c) (has B c)) E = length-filter (λ c. xor (has A c) (has B c)) E in
    let y : content (and_cells n A B) ≡ count_by (λ c. has A c && has B c) E = length-filter (λ c. has A c && has B c) E in
    let p : count_by (λ c. xor (has A c) (has B c)) E + count_by (λ c. has A c && has B c) E ≡ count_by (λ c. has A c || has B c) E + sum_by (λ c. 0) E =
    sums_match (λ c. true) (λ c. weight (xor (has A c) (has B c))) (λ c. weight (has A c && has B c)) (λ c. weight (has A c || has B c)) (λ c. 0) E (all_pass E) (λ c w. first (has A c) (has B c)) in
    let q : count_by (λ c. has A c || has B c) E + count_by (λ c. has A c && has B c) E ≡ count_by (has A) E + count_by (has B) E =
    sums_match (λ c. true) (λ c. weight (has A c || has B c)) (λ c. weight (has A c && has B c)) (λ c. weight (has A c)) (λ c. weight (has B c)) E (all_pass E) (λ c w. second (has A c) (has B c)) in
    let f = counted_cells n A a in
    let g = counted_cells n B b in
    let z = sum_nothing E in
    omega (arith, x, y, p, q, f, g, z)
  where
    first : (u v : Bool) → weight (xor u v) + weight (u && v) ≡ weight (u || v) + 0
    first true true = refl
    first true false = refl
    first false true = refl
    first false false = refl

    second : (u v : Bool) → weight (u || v) + weight (u && v) ≡ weight u + weight v
    second true true = refl
    second true false = refl
    second false true = refl
    second false false = refl
