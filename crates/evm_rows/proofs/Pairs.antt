-- Places in order, and places that occur an odd number of times.
use Rattle.std.proofs.Common.{◌≡◌, ℕ, suc, ◌+◌, ◌<◌, Bool, true, false, not, cond, List, [], ◌∷◌, ◌++◌, length, drop, get_or, count_by, ℤ, refl, sym, ap, ◌∙◌, arith}
use Rattle.std.specs.List.{list_all}
use Rattle.std.specs.declared.cmp.Ordering.{Ordering}
use Rattle.std.specs.declared.cmp.Ordering.TheVariants.{Less, Equal, Greater}
use Rattle.std.specs.Ordering.{is_lt, is_eq, int_cmp, ordering_reverse}
use Rattle.std.specs.Cmp.Lexicographic.{slice_cmp}
use Rattle.std.specs.List.Sorted.{IsPermutation, IsSorted}
use Rattle.std.proofs.lemmas.List.{drop_more, map-append}
use Rattle.std.proofs.lemmas.List.Sorted.{IsPermutation-map, sum_by-IsPermutation}
use Rattle.std.proofs.lemmas.Bool.{true≢false}
use denote.Ref.{Bor}
use Rattle.evm_cells.specs.Places.{same, before, ascending}
use Rattle.evm_cells.specs.Booleans.{xor}
use Rattle.evm_cells.specs.Vertices.{odd}
use Rattle.evm_cells.proofs.Xor.{xsum, xsum-cons, odd-count, and_first, and_second, and_both, false-xor, xor_self, xor_assoc}
use Rattle.evm_rows.specs.Rows.{row_cmp}
use Rattle.evm_rows.specs.Groups.{reaches, steady, targets}
use Rattle.evm_rows.proofs.Bridge.{before-cmp, same-cmp}
use Rattle.evm_rows.proofs.RowsOrder.{row_order, less_from_test}

-- ---- places in order

before_is : (p q : List ℤ) → before p q ≡ true → row_cmp p q ≡ Less
before_is p q h = less_from_test (row_cmp p q) (sym (before-cmp p q) ∙ h)

pub before_trans : (p q r : List ℤ) → before p q ≡ true → before q r ≡ true → before p r ≡ true
before_trans p q r a b = before-cmp p r ∙ ap is_lt (row_order.trans p q r (before_is p q a) (before_is q r b))

-- the parts of a list that ascends
pub asc_parts : (x : List ℤ) (S : List (List ℤ)) → ascending (x ∷ S) ≡ true → (list_all (before x) S ≡ true) × (ascending S ≡ true)
unfolding ascending
asc_parts x S a = (and_first (list_all (before x) S) (ascending S) a, and_second (list_all (before x) S) (ascending S) a)

-- of two different places one comes first
pub earlier_of : (x y : List ℤ) → before y x ≡ false → same x y ≡ false → before x y ≡ true
earlier_of x y b s = at (row_cmp x y) refl
  where
    at : (o : Ordering) → row_cmp x y ≡ o → before x y ≡ true
    at Less e = before-cmp x y ∙ ap is_lt e
    at Equal e = absurd (true≢false (sym (ap is_eq e) ∙ sym (same-cmp x y) ∙ s))
    at Greater e = absurd (true≢false (sym (ap is_lt (row_order.antisymm y x ∙ ap ordering_reverse e)) ∙ sym (before-cmp y x) ∙ b))

pub not_true : (b : Bool) → not b ≡ true → b ≡ false
not_true true e = sym e
not_true false e = refl

pub not_false : (b : Bool) → b ≡ false → not b ≡ true
not_false b e = ap not e

steady_parts : (x : List ℤ) (xs : List (List ℤ)) → steady (x ∷ xs) ≡ true → (reaches x xs ≡ true) × (steady xs ≡ true)
unfolding steady
steady_parts x xs h = (and_first (reaches x xs) (steady xs) h, and_second (reaches x xs) (steady xs) h)

pub count_of : (S : List (List ℤ)) (q : List ℤ) → odd (count_by (λ s. same s q) S) ≡ xsum (λ s. same s q) S
count_of S q = odd-count (λ s. same s q) S

-- two equal places cancel
pub pair_cancels : (x y q : List ℤ) (S : List (List ℤ)) → x ≡ y → xsum (λ s. same s q) (x ∷ y ∷ S) ≡ xsum (λ s. same s q) S
pair_cancels x y q S e =
    xsum-cons (λ s. same s q) x (y ∷ S) ∙ ap (xor (same x q)) (xsum-cons (λ s. same s q) y S ∙ ap (λ z. xor (same z q) (xsum (λ s. same s q) S)) (sym e))
    ∙ sym (xor_assoc (same x q) (same x q) (xsum (λ s. same s q) S)) ∙ ap (λ t. xor t (xsum (λ s. same s q) S)) (xor_self (same x q)) ∙ false-xor (xsum (λ s. same s q) S)

-- what a sort gives
pub steady_sorted : (bs : List (Bor (List ℤ))) → IsSorted (λ (x y : Bor (List ℤ)). slice_cmp int_cmp x.now y.now) bs → steady (targets bs) ≡ true
unfolding steady
steady_sorted [] h = refl
steady_sorted (b ∷ []) h = refl
steady_sorted (b ∷ b' ∷ bs) h =
    and_both (not (before b'.now b.now)) (steady (targets (b' ∷ bs)))
    (not_false (before b'.now b.now) (before-cmp b'.now b.now ∙ h 0 b (omega arith) (omega arith)))
    (steady_sorted (b' ∷ bs) (λ k d l m. let e : suc k + 1 ≡ suc (k + 1) = omega arith in
    ap (λ (j : ℕ). is_lt (slice_cmp int_cmp (get_or (b ∷ b' ∷ bs) j d).now (get_or (b' ∷ bs) k d).now)) (sym e) ∙ h (suc k) d (omega arith) (omega arith)))

pub count_sorted : (bs cs : List (Bor (List ℤ))) (q : List ℤ) → IsPermutation bs cs → odd (count_by (λ s. same s q) (targets cs)) ≡ odd (count_by (λ s. same s q) (targets bs))
count_sorted bs cs q h =
    ap odd (sum_by-IsPermutation (λ (s : List ℤ). cond (same s q) 1 0) (targets bs) (targets cs) (IsPermutation-map (λ (b : Bor (List ℤ)). b.now) bs cs h))

pub two_ahead : {X : Type 0} (xs : List X) (i : ℕ) (d : X) → i + 1 < length xs → drop i xs ≡ get_or xs i d ∷ get_or xs (i + 1) d ∷ drop (i + 2) xs
two_ahead xs i d l =
    let e : i + 1 + 1 ≡ i + 2 = omega arith in
    drop_more xs i d (omega arith) ∙ ap (λ ys. get_or xs i d ∷ ys) (drop_more xs (i + 1) d l ∙ ap (λ (j : ℕ). get_or xs (i + 1) d ∷ drop j xs) e)

pub targets_push : (bs cs : List (Bor (List ℤ))) (b : Bor (List ℤ)) → cs ≡ bs ++ b ∷ [] → targets cs ≡ targets bs ++ b.now ∷ []
targets_push bs cs b e = ap targets e ∙ map-append (λ (x : Bor (List ℤ)). x.now) bs (b ∷ [])
