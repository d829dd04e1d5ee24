-- Rows in order, and what is left of them where equal rows cancel.
use Rattle.std.proofs.Common.{◌≡◌, ℕ, zero, suc, ◌+◌, ◌-◌, ◌<◌, ◌≤◌, ◌%◌, Bool, true, false, not, cond, ◌==◌, List, [], ◌∷◌, ◌++◌, length, drop, get_or, map, sum_by, ℤ, refl, sym, ap, ap₂, ◌∙◌, subst, arith, ⊎_elim, append_assoc, append-nil, eq-eqb, eqb-true, zero-add}
use Rattle.std.specs.List.{list_all}
use Rattle.std.specs.List.Sorted.{IsPermutation}
use Rattle.std.proofs.lemmas.List.{drop_more}
use Rattle.std.proofs.lemmas.List.Sums.{sum_by-cons}
use Rattle.std.proofs.lemmas.List.Sorted.{sum_by-IsPermutation}
use Rattle.std.proofs.lemmas.Bool.{cases_lt, true≢false}
use denote.Ref.{Bor}
use Rattle.evm_cells.specs.Places.{same, before, ascending, has}
use Rattle.evm_cells.specs.Booleans.{xor}
use Rattle.evm_cells.specs.Vertices.{odd}
use Rattle.evm_cells.proofs.Xor.{xsum, xsum-cons, odd-count, and_first, and_second, and_both}
use Rattle.evm_cells.proofs.Places.{strict_places}
use Rattle.evm_cells.proofs.Universe.{xsum-same_place}
use Rattle.evm_rows.specs.Rows.{rows_of, flat_of}
use Rattle.evm_rows.proofs.RowsOrder.{Wide, rows_of-flat_of, length-flat_of}
use Rattle.evm_rows.specs.Groups.{reaches, steady, targets}
use Rattle.evm_rows.proofs.Pairs.{before_trans, earlier_of, not_true, pair_cancels, two_ahead, targets_push}
use native.Mathlib.Nat.{mul-mod_left}
use Rattle.evm_shapes.specs.Order.{starts_pair, unpaired}
use Rattle.evm_cells.specs.Windows.{IsReduced}

-- rows that all pass, by the number of those that do not
misses : (p : List ℤ → Bool) (S : List (List ℤ)) → list_all p S ≡ true → sum_by (λ (s : List ℤ). cond (p s) 0 1) S ≡ 0
misses p [] a = refl
misses p (x ∷ S) a =
    let rest : sum_by (λ (s : List ℤ). cond (p s) 0 1) S ≡ 0 = misses p S (and_second (p x) (list_all p S) a) in
    sum_by-cons (λ (s : List ℤ). cond (p s) 0 1) x S ∙ ap₂ (λ (b : Bool) (k : ℕ). cond b 0 1 + k) (and_first (p x) (list_all p S) a) rest

not_one : (n : ℕ) → 1 + n ≡ 0 → ⊥
not_one n e = omega arith

no_misses : (p : List ℤ → Bool) (S : List (List ℤ)) → sum_by (λ (s : List ℤ). cond (p s) 0 1) S ≡ 0 → list_all p S ≡ true
no_misses p [] e = refl
no_misses p (x ∷ S) e = at (p x) refl (sym (sum_by-cons (λ (s : List ℤ). cond (p s) 0 1) x S) ∙ e) (no_misses p S)
  where
    at : (b : Bool) → p x ≡ b → cond (p x) 0 1 + sum_by (λ (s : List ℤ). cond (p s) 0 1) S ≡ 0 → (sum_by (λ (s : List ℤ). cond (p s) 0 1) S ≡ 0 → list_all p S ≡ true) → list_all p (x ∷ S) ≡ true
    at true t f g =
        let k : ℕ = sum_by (λ (s : List ℤ). cond (p s) 0 1) S in
        let h : 0 + k ≡ 0 = ap (λ (b : Bool). cond b 0 1 + k) (sym t) ∙ f in
        and_both (p x) (list_all p S) t (g (let z : 0 + k ≡ k = zero-add k in sym z ∙ h))
    at false t f g = absurd (not_one (sum_by (λ (s : List ℤ). cond (p s) 0 1) S) (ap (λ (b : Bool). cond b 0 1 + sum_by (λ (s : List ℤ). cond (p s) 0 1) S) (sym t) ∙ f))

pub all_sorted : (p : List ℤ → Bool) (V S : List (List ℤ)) → IsPermutation V S → list_all p V ≡ true → list_all p S ≡ true
all_sorted p V S h a = no_misses p S (sum_by-IsPermutation (λ (s : List ℤ). cond (p s) 0 1) V S h ∙ misses p V a)

-- what cancels does not count
sum-unpaired : (q : List ℤ) (S : List (List ℤ)) → xsum (λ s. same s q) (unpaired S) ≡ xsum (λ s. same s q) S
unfolding unpaired
sum-unpaired q [] = refl
sum-unpaired q (x ∷ []) = refl
sum-unpaired q (x ∷ y ∷ S) = at (same x y) refl (sum-unpaired q S) (sum-unpaired q (y ∷ S))
  where
    at : (b : Bool) → same x y ≡ b → xsum (λ s. same s q) (unpaired S) ≡ xsum (λ s. same s q) S → xsum (λ s. same s q) (unpaired (y ∷ S)) ≡ xsum (λ s. same s q) (y ∷ S)
        → xsum (λ s. same s q) (cond (same x y) (unpaired S) (x ∷ unpaired (y ∷ S))) ≡ xsum (λ s. same s q) (x ∷ y ∷ S)
    at true e f g = ap (λ b. xsum (λ s. same s q) (cond b (unpaired S) (x ∷ unpaired (y ∷ S)))) e ∙ f ∙ sym (pair_cancels x y q S (strict_places.equal x y e))
    at false e f g =
        ap (λ b. xsum (λ s. same s q) (cond b (unpaired S) (x ∷ unpaired (y ∷ S)))) e
        ∙ xsum-cons (λ s. same s q) x (unpaired (y ∷ S)) ∙ ap (xor (same x q)) g ∙ sym (xsum-cons (λ s. same s q) x (y ∷ S))

all-unpaired : (p : List ℤ → Bool) (S : List (List ℤ)) → list_all p S ≡ true → list_all p (unpaired S) ≡ true
unfolding unpaired
all-unpaired p [] a = refl
all-unpaired p (x ∷ []) a = a
all-unpaired p (x ∷ y ∷ S) a =
    let rest : list_all p (y ∷ S) ≡ true = and_second (p x) (list_all p (y ∷ S)) a in
    at (same x y) (all-unpaired p S (and_second (p y) (list_all p S) rest)) (all-unpaired p (y ∷ S) rest)
  where
    at : (b : Bool) → list_all p (unpaired S) ≡ true → list_all p (unpaired (y ∷ S)) ≡ true → list_all p (cond b (unpaired S) (x ∷ unpaired (y ∷ S))) ≡ true
    at true f g = f
    at false f g = and_both (p x) (list_all p (unpaired (y ∷ S))) (and_first (p x) (list_all p (y ∷ S)) a) g

steady_after : (x : List ℤ) (S : List (List ℤ)) → steady (x ∷ S) ≡ true → steady S ≡ true
unfolding steady
steady_after x S h = and_second (reaches x S) (steady S) h

steady_two : (x y : List ℤ) (S : List (List ℤ)) → steady (x ∷ y ∷ S) ≡ true → before y x ≡ false
unfolding steady
steady_two x y S h = not_true (before y x) (and_first (not (before y x)) (steady (y ∷ S)) h)

before_steady : (x y z : List ℤ) → before x y ≡ true → before z y ≡ false → before x z ≡ true
before_steady x y z l b = at (same y z) refl
  where
    at : (t : Bool) → same y z ≡ t → before x z ≡ true
    at true e = ap (before x) (sym (strict_places.equal y z e)) ∙ l
    at false e = before_trans x y z l (earlier_of y z b e)

below_all : (x y : List ℤ) (ys : List (List ℤ)) → before x y ≡ true → steady (y ∷ ys) ≡ true → list_all (before x) (y ∷ ys) ≡ true
below_all x y [] l h = and_both (before x y) true l refl
below_all x y (z ∷ ys) l h =
    and_both (before x y) (list_all (before x) (z ∷ ys)) l (below_all x z ys (before_steady x y z l (steady_two y z ys h)) (steady_after y (z ∷ ys) h))

-- what is left of rows in order ascends
ascending-unpaired : (S : List (List ℤ)) → steady S ≡ true → ascending (unpaired S) ≡ true
unfolding unpaired ascending
ascending-unpaired [] h = refl
ascending-unpaired (x ∷ []) h = refl
ascending-unpaired (x ∷ y ∷ S) h =
    let rest : steady (y ∷ S) ≡ true = steady_after x (y ∷ S) h in
    at (same x y) refl (ascending-unpaired S (steady_after y S rest)) (ascending-unpaired (y ∷ S) rest)
  where
    at : (b : Bool) → same x y ≡ b → ascending (unpaired S) ≡ true → ascending (unpaired (y ∷ S)) ≡ true → ascending (cond b (unpaired S) (x ∷ unpaired (y ∷ S))) ≡ true
    at true e f g = f
    at false e f g =
        and_both (list_all (before x) (unpaired (y ∷ S))) (ascending (unpaired (y ∷ S)))
        (all-unpaired (before x) (y ∷ S) (below_all x y S (earlier_of x y (steady_two x y S h) e) (steady_after x (y ∷ S) h))) g

-- ---- what the functions take from all this

-- one more row is gathered
pub gathered_more : (bs cs : List (Bor (List ℤ))) (b : Bor (List ℤ)) (R rest all : List (List ℤ)) → cs ≡ bs ++ b ∷ [] → R ≡ b.now ∷ rest → targets bs ++ R ≡ all → targets cs ++ rest ≡ all
gathered_more bs cs b R rest all e r h =
    ap (λ z. z ++ rest) (targets_push bs cs b e) ∙ append_assoc (targets bs) (b.now ∷ []) rest ∙ ap (λ z. targets bs ++ z) (sym r) ∙ h

pub gathered_all : (bs : List (Bor (List ℤ))) (R all : List (List ℤ)) → R ≡ [] → targets bs ++ R ≡ all → targets bs ≡ all
gathered_all bs R all e h = sym (append-nil (targets bs)) ∙ ap (λ z. targets bs ++ z) (sym e) ∙ h

drop_none : {X : Type 0} (xs : List X) (k : ℕ) → length xs ≤ k → drop k xs ≡ []
drop_none [] zero e = refl
drop_none [] (suc k) e = refl
drop_none (x ∷ xs) zero e = absurd (omega arith)
drop_none (x ∷ xs) (suc k) e = drop_none xs k (omega arith)

-- whether a pair starts at i, where each x stands for the row f x
pub pair_at : {X : Type 0} (f : X → List ℤ) (xs : List X) (i : ℕ) (d : X) → i + 1 < length xs → starts_pair (map f (drop i xs)) ≡ same (f (get_or xs i d)) (f (get_or xs (i + 1) d))
pair_at f xs i d l = ap (λ ys. starts_pair (map f ys)) (two_ahead xs i d l)

pub pair_last : {X : Type 0} (f : X → List ℤ) (xs : List X) (i : ℕ) (d : X) → i < length xs → length xs ≤ i + 1 → starts_pair (map f (drop i xs)) ≡ false
pair_last f xs i d l m =
    ap (λ ys. starts_pair (map f ys)) (drop_more xs i d l ∙ ap (λ ys. get_or xs i d ∷ ys) (drop_none xs (i + 1) m))

pub starts_pair-at : (bs : List (Bor (List ℤ))) (i : ℕ) (d : Bor (List ℤ)) → i + 1 < length bs → starts_pair (targets (drop i bs)) ≡ same (get_or bs i d).now (get_or bs (i + 1) d).now
starts_pair-at bs i d l = pair_at (λ (b : Bor (List ℤ)). b.now) bs i d l

pub starts_pair-last : (bs : List (Bor (List ℤ))) (i : ℕ) (d : Bor (List ℤ)) → i < length bs → length bs ≤ i + 1 → starts_pair (targets (drop i bs)) ≡ false
starts_pair-last bs i d l m = pair_last (λ (b : Bor (List ℤ)). b.now) bs i d l m

-- a pair is left out
unpaired_pair : (S : List (List ℤ)) (x y : List ℤ) (R : List (List ℤ)) → S ≡ x ∷ y ∷ R → starts_pair S ≡ true → unpaired S ≡ unpaired R
unfolding unpaired
unpaired_pair S x y R e h =
    let t : same x y ≡ true = ap starts_pair (sym e) ∙ h in
    ap unpaired e ∙ ap (λ b. cond b (unpaired R) (x ∷ unpaired (y ∷ R))) t

unpaired_one : (S : List (List ℤ)) (x : List ℤ) (R : List (List ℤ)) → S ≡ x ∷ R → starts_pair S ≡ false → unpaired S ≡ x ∷ unpaired R
unfolding unpaired
unpaired_one S x [] e h = ap unpaired e
unpaired_one S x (y ∷ R) e h =
    let t : same x y ≡ false = ap starts_pair (sym e) ∙ h in
    ap unpaired e ∙ ap (λ b. cond b (unpaired R) (x ∷ unpaired (y ∷ R))) t

-- the steps of a loop that leaves pairs out
pub pair_out : {X : Type 0} (f : X → List ℤ) (d : X) (xs : List X) (i : ℕ) (out all : List ℤ) → i < length xs → true ≡ starts_pair (map f (drop i xs)) → out ++ flat_of (unpaired (map f (drop i xs))) ≡ all
    → (i + 2 ≤ length xs) × (out ++ flat_of (unpaired (map f (drop (i + 2) xs))) ≡ all)
pair_out f d xs i out all l h e = ⊎_elim
    (λ (m : i + 1 < length xs).
    let two : map f (drop i xs) ≡ f (get_or xs i d) ∷ f (get_or xs (i + 1) d) ∷ map f (drop (i + 2) xs) = ap (map f) (two_ahead xs i d m) in (
      omega arith,
      ap (λ V. out ++ flat_of V) (sym (unpaired_pair (map f (drop i xs)) (f (get_or xs i d)) (f (get_or xs (i + 1) d)) (map f (drop (i + 2) xs)) two (sym h))) ∙ e,
    ))
    (λ (m : length xs ≤ i + 1). absurd (true≢false (h ∙ pair_last f xs i d l m)))
    (cases_lt (i + 1) (length xs))

pub one_out : {X : Type 0} (f : X → List ℤ) (xs : List X) (i : ℕ) (d : X) (out new all : List ℤ) → i < length xs → false ≡ starts_pair (map f (drop i xs)) → new ≡ out ++ f (get_or xs i d) → out ++ flat_of (unpaired (map f (drop i xs))) ≡ all
    → new ++ flat_of (unpaired (map f (drop (i + 1) xs))) ≡ all
one_out f xs i d out new all l h n e =
    let one : map f (drop i xs) ≡ f (get_or xs i d) ∷ map f (drop (i + 1) xs) = ap (map f) (drop_more xs i d l) in
    ap (λ z. z ++ flat_of (unpaired (map f (drop (i + 1) xs)))) n
    ∙ append_assoc out (f (get_or xs i d)) (flat_of (unpaired (map f (drop (i + 1) xs))))
    ∙ ap (λ V. out ++ flat_of V) (sym (unpaired_one (map f (drop i xs)) (f (get_or xs i d)) (map f (drop (i + 1) xs)) one (sym h))) ∙ e

pub all_out : {X : Type 0} (f : X → List ℤ) (xs : List X) (i : ℕ) (out all : List ℤ) → length xs ≤ i → out ++ flat_of (unpaired (map f (drop i xs))) ≡ all → out ≡ all
unfolding unpaired
all_out f xs i out all m e = sym (append-nil out) ∙ ap (λ ys. out ++ flat_of (unpaired (map f ys))) (sym (drop_none xs i m)) ∙ e

pub out_pair : (bs : List (Bor (List ℤ))) (i : ℕ) (out all : List ℤ) → i < length bs → true ≡ starts_pair (targets (drop i bs)) → out ++ flat_of (unpaired (targets (drop i bs))) ≡ all
    → (i + 2 ≤ length bs) × (out ++ flat_of (unpaired (targets (drop (i + 2) bs))) ≡ all)
out_pair bs i out all l h e = pair_out (λ (b : Bor (List ℤ)). b.now) (record { ref_ptr = (0, 0); now = [] }) bs i out all l h e

pub out_one : (bs : List (Bor (List ℤ))) (i : ℕ) (d : Bor (List ℤ)) (out new all : List ℤ) → i < length bs → false ≡ starts_pair (targets (drop i bs)) → new ≡ out ++ (get_or bs i d).now → out ++ flat_of (unpaired (targets (drop i bs))) ≡ all
    → new ++ flat_of (unpaired (targets (drop (i + 1) bs))) ≡ all
out_one bs i d out new all l h n e = one_out (λ (b : Bor (List ℤ)). b.now) bs i d out new all l h n e

pub out_done : (bs : List (Bor (List ℤ))) (i : ℕ) (out all : List ℤ) → length bs ≤ i → out ++ flat_of (unpaired (targets (drop i bs))) ≡ all → out ≡ all
out_done bs i out all m e = all_out (λ (b : Bor (List ℤ)). b.now) bs i out all m e

wide_from : (n : ℕ) (S : List (List ℤ)) → Wide n S → list_all (λ p. length p == n) S ≡ true
wide_from n [] w = refl
wide_from n (x ∷ S) w = and_both (length x == n) (list_all (λ p. length p == n) S) (eq-eqb (length x) n w.0) (wide_from n S w.1)

from_wide : (n : ℕ) (S : List (List ℤ)) → list_all (λ p. length p == n) S ≡ true → Wide n S
from_wide n [] a = tt
from_wide n (x ∷ S) a = (eqb-true (length x) n (and_first (length x == n) (list_all (λ p. length p == n) S) a), from_wide n S (and_second (length x == n) (list_all (λ p. length p == n) S) a))

-- sorted and without pairs, the rows are reduced
pub reduced_is : (n : ℕ) (L S : List (List ℤ)) (flat : List ℤ) → 0 < n → Wide (n - 0) L → IsPermutation L S → steady S ≡ true → flat ≡ flat_of (unpaired S)
    → (length flat % n ≡ 0) × IsReduced n L (rows_of flat n 0)
reduced_is n L S flat some wide0 h s f =
    let less : n - 0 ≡ n = omega arith in
    let wide : Wide n L = subst (λ (k : ℕ). Wide k L) less wide0 in
    let W : List (List ℤ) = unpaired S in
    let a : ascending W ≡ true = ascending-unpaired S s in
    let b : list_all (λ p. length p == n) W ≡ true = all-unpaired (λ p. length p == n) S (all_sorted (λ p. length p == n) L S h (wide_from n L wide)) in
    let w : Wide n W = from_wide n W b in
    let r : rows_of flat n 0 ≡ W = ap (λ (z : List ℤ). rows_of z n 0) f ∙ rows_of-flat_of n W some w in (
      ap (λ (z : List ℤ). length z % n) f ∙ ap (λ (k : ℕ). k % n) (length-flat_of n W w) ∙ mul-mod_left (length W) n,
      record {
        ascends = ap ascending r ∙ a;
        wide = ap (list_all (λ p. length p == n)) r ∙ b;
        odd_times = λ p.
            ap (λ V. has V p) r ∙ sym (xsum-same_place W p a) ∙ sum-unpaired p S ∙ sym (odd-count (λ (q : List ℤ). same q p) S)
            ∙ ap odd (sum_by-IsPermutation (λ (s : List ℤ). cond (same s p) 1 0) L S h);
      },
    )
