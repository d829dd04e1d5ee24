-- Corners in order, each once, and their numbers.
use Rattle.std.proofs.Common.{◌≡◌, ℕ, zero, suc, ◌+◌, ◌≤◌, Bool, true, false, not, ◌&&◌, ◌||◌, List, [], ◌∷◌, length, get_or, cond, count_by, ℤ, int_eq, refl, sym, ap, ap₂, ◌∙◌, arith}
use Rattle.std.specs.List.{list_any, list_all, dedup, AllByRecursion, filter}
use Rattle.std.specs.List.Sorted.{IsSorted, IsPermutation, IsStrictlySortedBy, IsPartitionedBy, IsPartitionPoint}
use Rattle.std.specs.Ordering.{is_lt, eq_by_cmp}
use Rattle.std.specs.Cmp.Lexicographic.{pointwise}
use Rattle.std.specs.declared.cmp.Ordering.TheVariants.{Less}
use Rattle.std.proofs.lemmas.List.Kept.{IsStrictlySortedBy-dedup}
use Rattle.std.proofs.lemmas.List.Sorted.{list_any-IsPermutation}
use Rattle.std.proofs.lemmas.List.Sums.{AllPass-from_list_all, sum_by-cons}
use Rattle.evm_cells.specs.Places.{has, same, before, ascending}
use Rattle.evm_cells.specs.Limits.{is_point, every_point, points_where}
use Rattle.evm_cells.proofs.Places.{strict_places, has-any}
use Rattle.evm_cells.proofs.Universe.{points_are}
use Rattle.evm_cells.proofs.Xor.{and_both}
use Rattle.evm_rows.specs.Rows.{row_cmp}
use Rattle.evm_rows.proofs.Bridge.{before-cmp, same-cmp}
use Rattle.evm_rows.proofs.RowsOrder.{row_order}
use Rattle.evm_rows.proofs.Pairs.{asc_parts, before_trans}
use Rattle.evm_rows.proofs.Solids.{pointwise-same}
use Rattle.evm_faces.proofs.CutLists.{any-once}

-- ---- in order, each once

equal_rows : List ℤ → List ℤ → Bool
equal_rows = pointwise int_eq

equal_are : (x y : List ℤ) → pointwise int_eq x y ≡ true → x ≡ y
equal_are x y e = strict_places.equal x y (sym (pointwise-same x y) ∙ e)

ties : (x y : List ℤ) → pointwise int_eq x y ≡ eq_by_cmp row_cmp x y
ties x y = pointwise-same x y ∙ same-cmp x y

all_before : (x : List ℤ) (xs : List (List ℤ)) → AllByRecursion (λ y. row_cmp x y ≡ Less) xs → list_all (before x) xs ≡ true
all_before x [] a = refl
all_before x (y ∷ xs) a = and_both (before x y) (list_all (before x) xs) (before-cmp x y ∙ ap is_lt a.0) (all_before x xs a.1)

ascending-strict : (xs : List (List ℤ)) → IsStrictlySortedBy row_cmp xs → ascending xs ≡ true
unfolding ascending IsStrictlySortedBy
ascending-strict [] a = refl
ascending-strict (x ∷ xs) a = and_both (list_all (before x) xs) (ascending xs) (all_before x xs a.0) (ascending-strict xs a.1)

-- all pass a test where none fails it
all-none : {X : Type 0} (p : X → Bool) (xs : List X) → list_all p xs ≡ not (list_any (λ x. not (p x)) xs)
all-none p [] = refl
all-none p (x ∷ xs) = at (p x) (list_all p xs) (list_any (λ x. not (p x)) xs) (all-none p xs)
  where
    at : (a b c : Bool) → b ≡ not c → (a && b) ≡ not (not a || c)
    at true b c e = e
    at false b c e = refl

-- what a sort and a `dedup` leave passes the same tests
any-vertices : (f : List ℤ → Bool) (L S D : List (List ℤ)) → IsPermutation L S → D ≡ dedup (pointwise int_eq) S → list_any f D ≡ list_any f L
any-vertices f L S D p d = ap (list_any f) d ∙ any-once f (pointwise int_eq) equal_are S ∙ sym (list_any-IsPermutation f L S p)

pub vertices_ascend : (S D : List (List ℤ)) → IsSorted row_cmp S → D ≡ dedup (pointwise int_eq) S → ascending D ≡ true
vertices_ascend S D o d = ap ascending d ∙ ascending-strict (dedup (pointwise int_eq) S) (IsStrictlySortedBy-dedup row_order ties S o)

-- the corners, sorted and each once, are the points that are corners
pub vertices_are : (n : ℕ) (L S D : List (List ℤ)) → list_all (is_point n) L ≡ true → IsPermutation L S → IsSorted row_cmp S → D ≡ dedup (pointwise int_eq) S → D ≡ points_where n (has L)
vertices_are n L S D points p o d =
    let inside : list_all (is_point n) D ≡ true = all-none (is_point n) D ∙ ap not (any-vertices (λ q. not (is_point n q)) L S D p d) ∙ sym (all-none (is_point n) L) ∙ points in
    let alike : (q : List ℤ) → has D q ≡ has L q = λ q. has-any D q ∙ any-vertices (same q) L S D p d ∙ sym (has-any L q) in
    sym (points_are n D (vertices_ascend S D o d) inside) ∙ ap (λ (t : List ℤ → Bool). filter t (every_point n)) (λ i q. alike q i)

-- ---- numbers

-- what comes before a place stands in front
pub parted : (p : List ℤ) (V : List (List ℤ)) → ascending V ≡ true → IsPartitionedBy (λ q. before q p) V
parted p [] a i j d l m h = absurd (omega arith)
parted p (x ∷ V) a zero zero d l m h = h
parted p (x ∷ V) a zero (suc j) d l m h =
    let parts = asc_parts x V a in
    before_trans x (get_or V j d) p (AllPass-from_list_all (before x) V parts.0 j d (omega arith)) h
parted p (x ∷ V) a (suc i) zero d l m h = absurd (omega arith)
parted p (x ∷ V) a (suc i) (suc j) d l m h = parted p V (asc_parts x V a).1 i j d (omega arith) (omega arith) h

-- and as much is counted
pub count-point : {X : Type 0} (t : X → Bool) (xs : List X) (i : ℕ) → i ≤ length xs → IsPartitionPoint (λ y. t y ≡ true) (λ y. t y ≡ false) xs i → count_by t xs ≡ i
count-point t [] i l h = omega arith
count-point t (x ∷ xs) zero l h =
    sum_by-cons (λ y. cond (t y) 1 0) x xs
    ∙ ap₂ (λ b (k : ℕ). cond b 1 0 + k) (h.1 0 x (omega arith) (omega arith)) (count-point t xs 0 (omega arith) ((λ k d a b. absurd (omega arith)), (λ k d a b. h.1 (suc k) d (omega arith) (omega arith))))
count-point t (x ∷ xs) (suc i) l h =
    sum_by-cons (λ y. cond (t y) 1 0) x xs
    ∙ ap₂ (λ b (k : ℕ). cond b 1 0 + k) (h.0 0 x (omega arith) (omega arith)) (count-point t xs i (omega arith) ((λ k d a b. h.0 (suc k) d (omega arith) (omega arith)), (λ k d a b. h.1 (suc k) d (omega arith) (omega arith))))
    ∙ (let e : 1 + i ≡ suc i = omega arith in e)
