-- Sums of numbers over lists, and the measures of a cell set by its sections.
use Rattle.std.proofs.Common.{◌≡◌, ℕ, zero, suc, ◌+◌, ◌*◌, Bool, true, false, not, cond, ◌&&◌, List, [], ◌∷◌, length, map, flat_map, filter, count_by, sum_by, ℤ, pos, negsuc, neg_ℤ, ◌+ℤ◌, ◌-ℤ◌, refl, sym, ap, ap₂, ◌∙◌, arith, add-one, int_lt, int_le}
use Rattle.std.specs.List.{range_with_len}
use Rattle.std.proofs.lemmas.Int.{ints as int_facts}
use Rattle.std.proofs.lemmas.List.Sums.{sum_by-cons, sum_by-append, length-filter}
use Rattle.evm_cells.specs.Places.{has, with_at}
use Rattle.evm_cells.specs.Limits.{limit, ints, every_cell, is_cell_coord, cell_coords, point_coords, IsCellSet}
use Rattle.evm_cells.specs.Booleans.{xor, xor_cells, combine}
use Rattle.evm_cells.specs.Sections.{slice, couplet}
use Rattle.evm_cells.specs.Measures.{moved, open_faces, boundary}
use Rattle.evm_cells.proofs.Xor.{and-false}
use Rattle.evm_cells.proofs.Coords.{lt_no, le_no}
use Rattle.evm_cells.proofs.Universe.{cells_are}
use Rattle.evm_cells.proofs.Slices.{has-slice_of, cell_set-slice}
use Rattle.evm_cells.proofs.Layers.{cells_by_sections, slice_outside}

sum_same : {X : Type 0} (f g : X → ℕ) → ((x : X) → f x ≡ g x) → (xs : List X) → sum_by f xs ≡ sum_by g xs
sum_same f g e xs = ap (λ h. sum_by h xs) (λ i x. e x i)

sum-map : {X Y : Type 0} (f : Y → ℕ) (g : X → Y) (xs : List X) → sum_by f (map g xs) ≡ sum_by (λ x. f (g x)) xs
sum-map f g [] = refl
sum-map f g (x ∷ xs) = sum_by-cons f (g x) (map g xs) ∙ ap (λ n. f (g x) + n) (sum-map f g xs) ∙ sym (sum_by-cons (λ y. f (g y)) x xs)

sum-flat_map : {X Y : Type 0} (f : Y → ℕ) (g : X → List Y) (xs : List X) → sum_by f (flat_map g xs) ≡ sum_by (λ x. sum_by f (g x)) xs
sum-flat_map f g [] = refl
sum-flat_map f g (x ∷ xs) =
    sum_by-append f (g x) (flat_map g xs) ∙ ap (λ n. sum_by f (g x) + n) (sum-flat_map f g xs) ∙ sym (sum_by-cons (λ y. sum_by f (g y)) x xs)

sum-add : {X : Type 0} (f g : X → ℕ) (xs : List X) → sum_by (λ x. f x + g x) xs ≡ sum_by f xs + sum_by g xs
sum-add f g [] = refl
sum-add f g (x ∷ xs) =
    let a = sum_by-cons (λ y. f y + g y) x xs in
    let b = sum_by-cons f x xs in
    let c = sum_by-cons g x xs in
    let h = sum-add f g xs in
    omega arith

sum_none : {X : Type 0} (xs : List X) → sum_by (λ x. 0) xs ≡ 0
sum_none [] = refl
sum_none (x ∷ xs) = let a = sum_by-cons (λ y. 0) x xs in let h = sum_none xs in omega arith

sum-swap : {X Y : Type 0} (f : X → Y → ℕ) (xs : List X) (ys : List Y) → sum_by (λ x. sum_by (f x) ys) xs ≡ sum_by (λ y. sum_by (λ x. f x y) xs) ys
sum-swap f [] ys = sym (sum_none ys)
sum-swap f (x ∷ xs) ys =
    sum_by-cons (λ z. sum_by (f z) ys) x xs
    ∙ ap (λ n. sum_by (f x) ys + n) (sum-swap f xs ys)
    ∙ sym (sum-add (f x) (λ y. sum_by (λ z. f z y) xs) ys)
    ∙ sum_same (λ y. f x y + sum_by (λ z. f z y) xs) (λ y. sum_by (λ z. f z y) (x ∷ xs)) (λ y. sym (sum_by-cons (λ z. f z y) x xs)) ys

sum-filter : {X : Type 0} (f : X → ℕ) (p : X → Bool) (xs : List X) → sum_by f (filter p xs) ≡ sum_by (λ x. cond (p x) (f x) 0) xs
sum-filter f p [] = refl
sum-filter f p (x ∷ xs) = at_test f (p x) x (filter p xs) (sum-filter f p xs) ∙ sym (sum_by-cons (λ y. cond (p y) (f y) 0) x xs)
  where
    at_test : {X : Type 0} (f : X → ℕ) (b : Bool) (x : X) (F : List X) {n : ℕ} → sum_by f F ≡ n → sum_by f (cond b (x ∷ F) F) ≡ cond b (f x) 0 + n
    at_test f true x F h = sum_by-cons f x F ∙ ap (λ n. f x + n) h
    at_test f false x F h = h ∙ omega arith

abbrev weight : Bool → ℕ
weight b = cond b 1 0

-- how many of A are not in B
unfoldable pub more_than : List (List ℤ) → List (List ℤ) → ℕ
more_than A B = count_by (λ c. not (has B c)) A

more_than-all : (n : ℕ) (A B : List (List ℤ)) → IsCellSet n A → more_than A B ≡ sum_by (λ c. cond (has A c && not (has B c)) 1 0) (every_cell n)
unfolding more_than
more_than-all n A B h =
    ap (sum_by (λ c. cond (not (has B c)) 1 0)) (sym (cells_are n A h.ascends h.cells))
    ∙ sum-filter (λ c. cond (not (has B c)) 1 0) (has A) (every_cell n)
    ∙ sum_same (λ c. cond (has A c) (cond (not (has B c)) 1 0) 0) (λ c. cond (has A c && not (has B c)) 1 0) (λ c. step (has A c) (has B c)) (every_cell n)
  where
    step : (a b : Bool) → cond a (weight (not b)) 0 ≡ weight (a && not b)
    step true b = refl
    step false b = refl

-- the exclusive or counts what each has more than the other
pub length-xor_cells : (n : ℕ) (A B : List (List ℤ)) → IsCellSet n A → IsCellSet n B → length (xor_cells n A B) ≡ more_than A B + more_than B A
unfolding xor_cells combine xor
length-xor_cells n A B a b =
    length-filter (λ c. xor (has A c) (has B c)) (every_cell n)
    ∙ sum_same (λ c. cond (xor (has A c) (has B c)) 1 0) (λ c. cond (has A c && not (has B c)) 1 0 + cond (has B c && not (has A c)) 1 0) (λ c. step (has A c) (has B c)) (every_cell n)
    ∙ sum-add (λ c. cond (has A c && not (has B c)) 1 0) (λ c. cond (has B c && not (has A c)) 1 0) (every_cell n)
    ∙ ap₂ (λ u v. u + v) (sym (more_than-all n A B a)) (sym (more_than-all n B A b))
  where
    step : (x y : Bool) → weight (xor x y) ≡ weight (x && not y) + weight (y && not x)
    step true true = refl
    step true false = refl
    step false true = refl
    step false false = refl

more_than-none : (B : List (List ℤ)) → more_than [] B ≡ 0
unfolding more_than
more_than-none B = refl

-- sums over numbers in a row
sum-ints_last : (f : ℤ → ℕ) (a : ℤ) (m : ℕ) → sum_by f (ints a (suc m)) ≡ sum_by f (ints a m) + f (a +ℤ pos m)
unfolding ints
sum-ints_last f a zero = sum_by-cons f a [] ∙ ap (λ x. f x + 0) (let e : a ≡ a +ℤ pos 0 = omega (arith, int_facts) in e) ∙ omega arith
sum-ints_last f a (suc m) =
    let h = sum-ints_last f (a +ℤ pos 1) m in
    let c = sum_by-cons f a (ints (a +ℤ pos 1) (suc m)) in
    let d = sum_by-cons f a (ints (a +ℤ pos 1) m) in
    let e : f (a +ℤ pos 1 +ℤ pos m) ≡ f (a +ℤ pos (suc m)) = ap f (let q : a +ℤ pos 1 +ℤ pos m ≡ a +ℤ pos (suc m) = omega (arith, int_facts) in q) in
    omega arith

sum-ints_down : (f : ℤ → ℕ) (a : ℤ) (m : ℕ) → sum_by (λ h. f (h -ℤ pos 1)) (ints (a +ℤ pos 1) m) ≡ sum_by f (ints a m)
unfolding ints
sum-ints_down f a zero = refl
sum-ints_down f a (suc m) =
    sum_by-cons (λ h. f (h -ℤ pos 1)) (a +ℤ pos 1) (ints (a +ℤ pos 1 +ℤ pos 1) m)
    ∙ ap₂ (λ u v. u + v) (ap f (let q : a +ℤ pos 1 -ℤ pos 1 ≡ a = omega (arith, int_facts) in q)) (sum-ints_down f (a +ℤ pos 1) m)
    ∙ sym (sum_by-cons f a (ints (a +ℤ pos 1) m))

sum-ints_first : (f : ℤ → ℕ) (a : ℤ) (m : ℕ) → sum_by f (ints a (suc m)) ≡ f a + sum_by f (ints (a +ℤ pos 1) m)
unfolding ints
sum-ints_first f a m = sum_by-cons f a (ints (a +ℤ pos 1) m)

-- over points, of what is nothing outside the cells
pub sum-points_low : (n : ℕ) (f : ℤ → ℕ) → f (neg_ℤ (pos (limit n)) -ℤ pos 1) ≡ 0 → sum_by (λ h. f (h -ℤ pos 1)) (point_coords n) ≡ sum_by f (cell_coords n)
unfolding point_coords cell_coords
sum-points_low n f z =
    ap (λ m. sum_by (λ h. f (h -ℤ pos 1)) (ints (neg_ℤ (pos (limit n))) m)) (add-one (2 * limit n))
    ∙ sum-ints_first (λ h. f (h -ℤ pos 1)) (neg_ℤ (pos (limit n))) (2 * limit n)
    ∙ ap₂ (λ u v. u + v) z (sum-ints_down f (neg_ℤ (pos (limit n))) (2 * limit n))
    ∙ omega arith

pub sum-points_high : (n : ℕ) (f : ℤ → ℕ) → f (pos (limit n)) ≡ 0 → sum_by f (point_coords n) ≡ sum_by f (cell_coords n)
unfolding point_coords cell_coords
sum-points_high n f z =
    ap (λ m. sum_by f (ints (neg_ℤ (pos (limit n))) m)) (add-one (2 * limit n))
    ∙ sum-ints_last f (neg_ℤ (pos (limit n))) (2 * limit n)
    ∙ ap (λ v. sum_by f (ints (neg_ℤ (pos (limit n))) (2 * limit n)) + v)
    (ap f (let q : neg_ℤ (pos (limit n)) +ℤ pos (2 * limit n) ≡ pos (limit n) = omega (arith, int_facts) in q) ∙ z)
    ∙ omega arith

-- ---- the open faces of a cell set, by its sections

open_by_sections : (n i : ℕ) (d : ℤ) (S : List (List ℤ)) → IsCellSet (suc n) S → open_faces (suc i) d S ≡ sum_by (λ k. open_faces i d (slice n 0 k S)) (cell_coords (suc n))
unfolding open_faces moved with_at
open_by_sections n i d S h =
    ap (count_by (λ c. not (has S (moved (suc i) d c)))) (cells_by_sections n S h)
    ∙ sum-flat_map (λ c. cond (not (has S (moved (suc i) d c))) 1 0) (λ k. map (λ c. k ∷ c) (slice n 0 k S)) (cell_coords (suc n))
    ∙ sum_same (λ k. sum_by (λ c. cond (not (has S (moved (suc i) d c))) 1 0) (map (λ c. k ∷ c) (slice n 0 k S))) (λ k. count_by (λ c. not (has (slice n 0 k S) (moved i d c))) (slice n 0 k S))
    (λ k. sum-map (λ c. cond (not (has S (moved (suc i) d c))) 1 0) (λ c. k ∷ c) (slice n 0 k S)
    ∙ sum_same (λ c. cond (not (has S (k ∷ moved i d c))) 1 0) (λ c. cond (not (has (slice n 0 k S) (moved i d c))) 1 0) (λ c. ap (λ b. cond (not b) 1 0) (sym (has-slice_of n 0 k S (moved i d c) h))) (slice n 0 k S))
    (cell_coords (suc n))

open_first : (n : ℕ) (d : ℤ) (S : List (List ℤ)) → IsCellSet (suc n) S → open_faces 0 d S ≡ sum_by (λ k. more_than (slice n 0 k S) (slice n 0 (k +ℤ d) S)) (cell_coords (suc n))
unfolding open_faces moved more_than with_at
open_first n d S h =
    ap (count_by (λ c. not (has S (moved 0 d c)))) (cells_by_sections n S h)
    ∙ sum-flat_map (λ c. cond (not (has S (moved 0 d c))) 1 0) (λ k. map (λ c. k ∷ c) (slice n 0 k S)) (cell_coords (suc n))
    ∙ sum_same (λ k. sum_by (λ c. cond (not (has S (moved 0 d c))) 1 0) (map (λ c. k ∷ c) (slice n 0 k S))) (λ k. count_by (λ c. not (has (slice n 0 (k +ℤ d) S) c)) (slice n 0 k S))
    (λ k. sum-map (λ c. cond (not (has S (moved 0 d c))) 1 0) (λ c. k ∷ c) (slice n 0 k S)
    ∙ sum_same (λ c. cond (not (has S ((k +ℤ d) ∷ c))) 1 0) (λ c. cond (not (has (slice n 0 (k +ℤ d) S) c)) 1 0) (λ c. ap (λ b. cond (not b) 1 0) (sym (has-slice_of n 0 (k +ℤ d) S c h))) (slice n 0 k S))
    (cell_coords (suc n))

low_outside : (n : ℕ) → is_cell_coord n (neg_ℤ (pos (limit n)) -ℤ pos 1) ≡ false
unfolding is_cell_coord
low_outside n = ap (λ b. b && int_lt (neg_ℤ (pos (limit n)) -ℤ pos 1) (pos (limit n))) (le_no (neg_ℤ (pos (limit n))) (neg_ℤ (pos (limit n)) -ℤ pos 1) (omega (arith, int_facts)))

high_outside : (n : ℕ) → is_cell_coord n (pos (limit n)) ≡ false
unfolding is_cell_coord
high_outside n = ap (λ b. int_le (neg_ℤ (pos (limit n))) (pos (limit n)) && b) (lt_no (pos (limit n)) (pos (limit n)) (omega (arith, int_facts))) ∙ and-false (int_le (neg_ℤ (pos (limit n))) (pos (limit n)))

-- across the first axis the open faces are the cells of the couplets
faces_by_couplets : (n : ℕ) (S : List (List ℤ)) → IsCellSet (suc n) S → open_faces 0 (pos 1) S + open_faces 0 (negsuc 0) S ≡ sum_by (λ h. length (couplet n 0 h S)) (point_coords (suc n))
unfolding couplet
faces_by_couplets n S h =
    let T : ℤ → List (List ℤ) = λ k. slice n 0 k S in
    let up : ℤ → ℕ = λ k. more_than (T k) (T (k +ℤ pos 1)) in
    let dn : ℤ → ℕ = λ k. more_than (T k) (T (k -ℤ pos 1)) in
    let low : up (neg_ℤ (pos (limit (suc n))) -ℤ pos 1) ≡ 0 =
    ap (λ A. more_than A (T (neg_ℤ (pos (limit (suc n))) -ℤ pos 1 +ℤ pos 1))) (slice_outside n 0 (neg_ℤ (pos (limit (suc n))) -ℤ pos 1) S h (low_outside (suc n))) ∙ more_than-none (T (neg_ℤ (pos (limit (suc n))) -ℤ pos 1 +ℤ pos 1)) in
    let high : dn (pos (limit (suc n))) ≡ 0 =
    ap (λ A. more_than A (T (pos (limit (suc n)) -ℤ pos 1))) (slice_outside n 0 (pos (limit (suc n))) S h (high_outside (suc n))) ∙ more_than-none (T (pos (limit (suc n)) -ℤ pos 1)) in
    ap₂ (λ u v. u + v) (open_first n (pos 1) S h ∙ sym (sum-points_low (suc n) up low)) (open_first n (negsuc 0) S h ∙ sym (sum-points_high (suc n) dn high))
    ∙ sym (sum-add (λ k. up (k -ℤ pos 1)) dn (point_coords (suc n)))
    ∙ sum_same (λ k. up (k -ℤ pos 1) + dn k) (λ k. length (xor_cells n (T (k -ℤ pos 1)) (T k)))
    (λ k. ap (λ z. more_than (T (k -ℤ pos 1)) (T z) + dn k) (let q : k -ℤ pos 1 +ℤ pos 1 ≡ k = omega (arith, int_facts) in q)
    ∙ sym (length-xor_cells n (T (k -ℤ pos 1)) (T k) (cell_set-slice n 0 (k -ℤ pos 1) S) (cell_set-slice n 0 k S)))
    (point_coords (suc n))

range-suc : (a n : ℕ) → range_with_len (suc a) n ≡ map suc (range_with_len a n)
range-suc a zero = refl
range-suc a (suc n) = ap (λ (r : List ℕ). suc a ∷ r) (ap (λ m. range_with_len m n) (let q : suc a + 1 ≡ suc (a + 1) = omega arith in q) ∙ range-suc (a + 1) n)

-- the boundary content is that of the sections, and the content of the couplets
pub boundary_by_sections : (n : ℕ) (S : List (List ℤ)) → IsCellSet (suc n) S → boundary (suc n) S ≡ sum_by (λ k. boundary n (slice n 0 k S)) (cell_coords (suc n)) + sum_by (λ h. length (couplet n 0 h S)) (point_coords (suc n))
unfolding boundary
boundary_by_sections n S h =
    let F : ℕ → List (List ℤ) → ℕ = λ i T. open_faces i (pos 1) T + open_faces i (negsuc 0) T in
    let T : ℤ → List (List ℤ) = λ k. slice n 0 k S in
    let rest : sum_by (λ i. F i S) (range_with_len 1 n) ≡ sum_by (λ k. sum_by (λ i. F i (T k)) (range_with_len 0 n)) (cell_coords (suc n)) =
    ap (sum_by (λ i. F i S)) (range-suc 0 n)
    ∙ sum-map (λ i. F i S) suc (range_with_len 0 n)
    ∙ sum_same (λ i. F (suc i) S) (λ i. sum_by (λ k. F i (T k)) (cell_coords (suc n)))
    (λ i. ap₂ (λ u v. u + v) (open_by_sections n i (pos 1) S h) (open_by_sections n i (negsuc 0) S h)
    ∙ sym (sum-add (λ k. open_faces i (pos 1) (T k)) (λ k. open_faces i (negsuc 0) (T k)) (cell_coords (suc n)))) (range_with_len 0 n)
    ∙ sum-swap (λ i k. F i (T k)) (range_with_len 0 n) (cell_coords (suc n)) in
    let all : sum_by (λ i. F i S) (range_with_len 0 (suc n)) ≡ F 0 S + sum_by (λ i. F i S) (range_with_len 1 n) = sum_by-cons (λ i. F i S) 0 (range_with_len 1 n) in
    let first : F 0 S ≡ sum_by (λ k. length (couplet n 0 k S)) (point_coords (suc n)) = faces_by_couplets n S h in
    all ∙ ap₂ (λ u v. u + v) first rest ∙ omega arith
