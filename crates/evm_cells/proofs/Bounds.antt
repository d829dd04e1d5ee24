-- How large the measures can be.
use Rattle.std.proofs.Common.{◌≡◌, ℕ, zero, suc, ◌+◌, ◌*◌, ◌^◌, ◌<◌, ◌≤◌, Bool, true, false, not, cond, List, [], ◌∷◌, length, map, filter, count_by, sum_by, ℤ, pos, negsuc, neg_ℤ, ◌+ℤ◌, refl, sym, ap, ◌∙◌, arith}
use Rattle.std.specs.List.{range_with_len}
use Rattle.std.proofs.Math.Nat.{pow-le-pow_right, pow-zero, pow-succ', mul-le-mul, mul_assoc}
use Rattle.std.proofs.lemmas.List.{length-map}
use Rattle.std.proofs.lemmas.List.Concat.{length-flat_map}
use Rattle.std.proofs.lemmas.List.FromFn.{length-range_with_len}
use Rattle.std.proofs.lemmas.List.Sums.{sum_by-cons, sum_by-le-sum_by, length-filter}
use Rattle.evm_cells.specs.Places.{has}
use Rattle.evm_cells.specs.Limits.{limit, ints, tuples, cell_coords, every_cell, IsCellSet}
use Rattle.evm_cells.specs.Measures.{content, moved, open_faces, boundary}
use Rattle.evm_cells.proofs.Universe.{cells_are}

pub length-ints : (a : ℤ) (m : ℕ) → length (ints a m) ≡ m
unfolding ints
length-ints a zero = refl
length-ints a (suc m) = ap suc (length-ints (a +ℤ pos 1) m)

pub sum-const : {X : Type 0} (v : ℕ) (xs : List X) → sum_by (λ (x : X). v) xs ≡ length xs * v
sum-const v [] = omega arith
sum-const v (x ∷ xs) = let a = sum_by-cons (λ y. v) x xs in let b = sum-const v xs in a ∙ ap (λ n. v + n) b ∙ omega arith

pub length-tuples : (xs : List ℤ) (n : ℕ) → length (tuples xs n) ≡ length xs ^ n
unfolding tuples
length-tuples xs zero = sym (pow-zero (length xs))
length-tuples xs (suc n) =
    length-flat_map (λ x. map (λ t. x ∷ t) (tuples xs n)) xs
    ∙ ap (λ f. sum_by f xs) (λ i x. length-map (tuples xs n) (λ (t : List ℤ). x ∷ t) i)
    ∙ sum-const (length (tuples xs n)) xs
    ∙ ap (λ k. length xs * k) (length-tuples xs n)
    ∙ sym (pow-succ' (length xs) n)

pub filter-shorter : {X : Type 0} (t : X → Bool) (xs : List X) → length (filter t xs) ≤ length xs
filter-shorter t [] = omega arith
filter-shorter t (x ∷ xs) = at (t x) (filter-shorter t xs)
  where
    at : (b : Bool) → length (filter t xs) ≤ length xs → length (cond b (x ∷ filter t xs) (filter t xs)) ≤ suc (length xs)
    at true h = omega arith
    at false h = omega arith

pub count-shorter : {X : Type 0} (t : X → Bool) (xs : List X) → count_by t xs ≤ length xs
count-shorter t xs = let a = length-filter t xs in let b = filter-shorter t xs in omega arith

pub content_bound : (n : ℕ) (S : List (List ℤ)) → IsCellSet n S → content S ≤ (2 * limit n) ^ n
unfolding every_cell cell_coords
content_bound n S s =
    let a : length (filter (has S) (every_cell n)) ≡ length S = ap length (cells_are n S s.ascends s.cells) in
    let b : length (filter (has S) (every_cell n)) ≤ length (every_cell n) = filter-shorter (has S) (every_cell n) in
    let c : length (every_cell n) ≡ (2 * limit n) ^ n =
    length-tuples (cell_coords n) n ∙ ap (λ k. k ^ n) (length-ints (neg_ℤ (pos (limit n))) (2 * limit n)) in
    omega (arith, a, b, c)

pub boundary_bound : (n : ℕ) (S : List (List ℤ)) → boundary n S ≤ 2 * n * content S
unfolding boundary open_faces
boundary_bound n S =
    let F : ℕ → ℕ = λ i. open_faces i (pos 1) S + open_faces i (negsuc 0) S in
    let a : sum_by F (range_with_len 0 n) ≤ sum_by (λ (i : ℕ). 2 * length S) (range_with_len 0 n) =
    sum_by-le-sum_by F (λ (i : ℕ). 2 * length S) (range_with_len 0 n) (λ i. two (λ c. not (has S (moved i (pos 1) c))) (λ c. not (has S (moved i (negsuc 0) c)))) in
    let b : sum_by (λ (i : ℕ). 2 * length S) (range_with_len 0 n) ≡ n * (2 * length S) =
    sum-const (2 * length S) (range_with_len 0 n) ∙ ap (λ k. k * (2 * length S)) (length-range_with_len 0 n) in
    let c : n * (2 * length S) ≡ 2 * n * length S = sym (mul_assoc n 2 (length S)) ∙ ap (λ k. k * length S) (let q : n * 2 ≡ 2 * n = omega arith in q) in
    omega (arith, a, b, c)
  where
    two : (f g : List ℤ → Bool) → count_by f S + count_by g S ≤ 2 * length S
    two f g = let a = count-shorter f S in let b = count-shorter g S in omega arith

-- up to dimension 6 there are at most 2 ^ 120 cells
pub room : (n : ℕ) → n ≤ 6 → (2 * limit n) ^ n ≤ 2 ^ 120
unfolding limit
room zero l = omega arith
room (suc zero) l = omega arith
room (suc (suc zero)) l = omega arith
room (suc (suc (suc zero))) l = omega arith
room (suc (suc (suc (suc zero)))) l = omega arith
room (suc (suc (suc (suc (suc zero))))) l = omega arith
room (suc (suc (suc (suc (suc (suc zero)))))) l = omega arith
room (suc (suc (suc (suc (suc (suc (suc n))))))) l = absurd (omega arith)

pub content-fits : (n : ℕ) (S : List (List ℤ)) → n ≤ 6 → IsCellSet n S → content S ≤ 2 ^ 120
content-fits n S l s = let a = content_bound n S s in let b = room n l in omega (arith, a, b)

pub boundary-fits : (n : ℕ) (S : List (List ℤ)) → n ≤ 6 → IsCellSet n S → boundary n S < 2 ^ 124
boundary-fits n S l s =
    let a : boundary n S ≤ 2 * n * length S = boundary_bound n S in
    let b : length S ≤ 2 ^ 120 = content-fits n S l s in
    let c : 2 * n * length S ≤ 12 * 2 ^ 120 = mul-le-mul (let q : 2 * n ≤ 12 = omega arith in q) b in
    let d : 12 * 2 ^ 120 < 2 ^ 124 = omega arith in
    omega (arith, a, c, d)

pub measures-fit : (n : ℕ) (S : List (List ℤ)) → n ≤ 6 → IsCellSet n S → (content S ≤ 2 ^ 120) × (boundary n S < 2 ^ 124)
measures-fit n S l s = (content-fits n S l s, boundary-fits n S l s)
