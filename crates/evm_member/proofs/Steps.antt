-- The steps of the loops.
use Rattle.std.proofs.Common.{◌≡◌, ℕ, ◌+◌, ◌*◌, ◌^◌, ◌<◌, Bool, true, false, not, cond, ◌&&◌, ◌==◌, List, [], ◌∷◌, ℤ, ◌<ℤ◌, ◌%◌, count_by, Some, None, refl, sym, ap, ap₂, ◌∙◌, arith, int_le, int_lt, int_eq, eqb-true, eq-eqb, ⊎_elim}
use Rattle.std.specs.Prelude.{if◌then◌else◌}
use Rattle.std.specs.List.{list_all}
use Rattle.std.specs.Int.{bit_at}
use Rattle.std.specs.Int.RustNames.{bit_xor}
use Rattle.std.proofs.Math.Pow.{pow-lt}
use native.Mathlib.Nat.{mod-eq_of_lt}
use Rattle.std.proofs.lemmas.Nat.Bits.{bit_at-zero, bit_at_xor, bit_at-pow_same, bit_at-pow_other, bit_at-lt}
use Rattle.std.proofs.lemmas.Int.{ints as int_facts}
use Rattle.std.proofs.lemmas.Bool.{false≢true, or_cases}
use Rattle.evm_cells.specs.Places.{each, has, before, ascending}
use Rattle.evm_cells.specs.Limits.{is_cell}
use Rattle.evm_cells.specs.Booleans.{xor}
use Rattle.evm_cells.specs.Vertices.{cells, IsVertexList}
use Rattle.evm_cells.proofs.Xor.{xsum, xsum-cons, xsum-nil, xsum-same_on, xor-false, xor_assoc, and_first, and_second, and_both}
use Rattle.evm_cells.proofs.Sum.{xsum-none}
use Rattle.evm_cells.proofs.Lists.{all_weaker}
use Rattle.evm_cells.proofs.Universe.{cell_parts}
use Rattle.evm_cells.proofs.Core.{has-cells_even}
use Rattle.evm_cells.proofs.Coords.{le_no, lt_is, eq_is}
use Rattle.evm_member.specs.Levels.{starts_above, level_axes, is_level}
use Rattle.evm_member.proofs.Round.{count-cons, count_none}

-- the parity of the rows V that are above the cell c on no axis
unfoldable pub parity : List ℤ → List (List ℤ) → Bool
parity c V = xsum (λ q. each int_le q c) V

-- ---- rows past the place

not_below : (x : ℤ) (q : List ℤ) (y : ℤ) (c r : List ℤ) → y <ℤ x → before (x ∷ q) r ≡ true → not (each int_le r (y ∷ c)) ≡ true
unfolding before each
not_below x q y c [] l b = absurd (false≢true b)
not_below x q y c (z ∷ r) l b =
    let m : y <ℤ z = ⊎_elim
    (λ (t : int_lt x z ≡ true). let k : x <ℤ z = lt_is x z t in omega (arith, int_facts))
    (λ (t : (int_eq x z && before q r) ≡ true). let k : x ≡ z = eq_is x z (and_first (int_eq x z) (before q r) t) in omega (arith, int_facts))
    (or_cases (int_lt x z) (int_eq x z && before q r) b) in
    ap (λ t. not (t && each int_le r c)) (le_no z y m)

-- a row that is above the place on the first axis, and all rows after it, are above it on some axis
all_past : (r : List ℤ) (rs : List (List ℤ)) (c : List ℤ) → ascending (r ∷ rs) ≡ true → starts_above r c ≡ true → list_all (λ q. not (each int_le q c)) (r ∷ rs) ≡ true
unfolding ascending each
all_past [] rs c a s = absurd (false≢true s)
all_past (x ∷ q) rs [] a s = absurd (false≢true s)
all_past (x ∷ q) rs (y ∷ c) a s =
    let l : y <ℤ x = lt_is y x s in
    and_both (not (each int_le (x ∷ q) (y ∷ c))) (list_all (λ r. not (each int_le r (y ∷ c))) rs)
    (ap (λ t. not (t && each int_le q c)) (le_no x y l))
    (all_weaker (before (x ∷ q)) (λ r. not (each int_le r (y ∷ c))) (λ r b. not_below x q y c r l b) rs (and_first (list_all (before (x ∷ q)) rs) (ascending rs) a))

untrue : (b : Bool) → not b ≡ true → b ≡ false
untrue true h = sym h
untrue false h = refl

xsum-past : (f : List ℤ → Bool) (r : List ℤ) (rs : List (List ℤ)) (c : List ℤ) → ((q : List ℤ) → each int_le q c ≡ false → f q ≡ false) → ascending (r ∷ rs) ≡ true → starts_above r c ≡ true → xsum f (r ∷ rs) ≡ false
xsum-past f r rs c e a s =
    xsum-same_on (λ q. not (each int_le q c)) f (λ q. false) (λ q h. e q (untrue (each int_le q c) h)) (r ∷ rs) (all_past r rs c a s) ∙ xsum-none (r ∷ rs)

pub ascending-rest : (left : List (List ℤ)) (r : List ℤ) (rs : List (List ℤ)) → left ≡ r ∷ rs → ascending left ≡ true → ascending rs ≡ true
unfolding ascending
ascending-rest left r rs e a = and_second (list_all (before r) rs) (ascending rs) (rw e at a)

-- ---- the loop over the rows

-- whatever is counted by parity: a row more, no rows, and the rows that are past
sum_more : (f : List ℤ → Bool) (s t : Bool) (r : List ℤ) (left rs : List (List ℤ)) (all : Bool) → left ≡ r ∷ rs → t ≡ xor s (f r) → xor s (xsum f left) ≡ all → xor t (xsum f rs) ≡ all
sum_more f s t r left rs all e g so_far =
    ap (λ b. xor b (xsum f rs)) g ∙ xor_assoc s (f r) (xsum f rs) ∙ ap (xor s) (sym (xsum-cons f r rs) ∙ ap (xsum f) (sym e)) ∙ so_far

sum_end : (f : List ℤ → Bool) (s : Bool) (left : List (List ℤ)) (all : Bool) → left ≡ [] → xor s (xsum f left) ≡ all → s ≡ all
sum_end f s left all e so_far = sym (ap (xor s) (ap (xsum f) e ∙ xsum-nil f) ∙ xor-false s) ∙ so_far

sum_past : (f : List ℤ → Bool) (s : Bool) (r : List ℤ) (left rs : List (List ℤ)) (c : List ℤ) (all : Bool) → ((q : List ℤ) → each int_le q c ≡ false → f q ≡ false)
    → left ≡ r ∷ rs → ascending left ≡ true → starts_above r c ≡ true → xor s (xsum f left) ≡ all → s ≡ all
sum_past f s r left rs c all e l a p so_far =
    sym (ap (xor s) (ap (xsum f) l ∙ xsum-past f r rs c e (rw l at a) p) ∙ xor-false s) ∙ so_far

-- the cell is above one row more on each axis, or it is not
pub filled_more : (s : Bool) (c r : List ℤ) (left rs : List (List ℤ)) (all : Bool) → left ≡ r ∷ rs → each int_le r c ≡ true → xor s (parity c left) ≡ all → xor (not s) (parity c rs) ≡ all
unfolding parity xor
filled_more s c r left rs all e h = sum_more (λ q. each int_le q c) s (not s) r left rs all e (flipped s ∙ ap (xor s) (sym h))
  where
    flipped : (b : Bool) → not b ≡ xor b true
    flipped true = refl
    flipped false = refl

pub filled_same : (s : Bool) (c r : List ℤ) (left rs : List (List ℤ)) (all : Bool) → left ≡ r ∷ rs → each int_le r c ≡ false → xor s (parity c left) ≡ all → xor s (parity c rs) ≡ all
unfolding parity
filled_same s c r left rs all e h = sum_more (λ q. each int_le q c) s s r left rs all e (sym (ap (xor s) h ∙ xor-false s))

pub filled_end : (s : Bool) (c : List ℤ) (left : List (List ℤ)) (all : Bool) → left ≡ [] → xor s (parity c left) ≡ all → s ≡ all
unfolding parity
filled_end s c left all e so_far = sum_end (λ q. each int_le q c) s left all e so_far

pub filled_past : (s : Bool) (c r : List ℤ) (left rs : List (List ℤ)) (all : Bool) → left ≡ r ∷ rs → ascending left ≡ true → starts_above r c ≡ true → xor s (parity c left) ≡ all → s ≡ all
unfolding parity
filled_past s c r left rs all e a p so_far = sum_past (λ q. each int_le q c) s r left rs c all (λ q h. h) e a p so_far

-- an odd number of rows below the cell: it is filled
pub filled-is : (n : ℕ) (V : List (List ℤ)) (c : List ℤ) (s : Bool) → IsVertexList n V → is_cell n c ≡ true → s ≡ parity c V → s ≡ has (cells n V) c
unfolding parity
filled-is n V c s v k e = let (l, a) = cell_parts n c k in e ∙ sym (has-cells_even n V c v l)

-- ---- the loop that counts rows by the axes on which they are level with the point

pub levels_none : (i m : ℕ) → (bit_at 0 i + m) % 2 ≡ m % 2
levels_none i m = ap (λ b. (b + m) % 2) (bit_at-zero i) ∙ plain m
  where
    plain : (m : ℕ) → (0 + m) % 2 ≡ m % 2
    plain m = omega arith

some_is : (b : Bool) (k m : ℕ) → Some k ≡ (if b then Some m else None) → (b ≡ true) × (k ≡ m)
some_is true k m e = (refl, cc)
some_is false k m e = cc

none_is : (b : Bool) (m : ℕ) → None ≡ (if b then Some m else None) → b ≡ false
none_is true m e = cc
none_is false m e = refl

-- one bit more
shifted : (k : ℕ) → k < 64 → 1 * 2 ^ k % 18446744073709551616 ≡ 2 ^ k
shifted k h = let l : 2 ^ k < 2 ^ 64 = pow-lt {i = k} {j = 64} h in omega (arith, mod-eq_of_lt l)

bit_flipped : (odd k i : ℕ) → k < 64 → bit_at (bit_xor odd (1 * 2 ^ k % 18446744073709551616)) i ≡ (bit_at odd i + cond (k == i) 1 0) % 2
bit_flipped odd k i h =
    ap (λ m. bit_at (bit_xor odd m) i) (shifted k h) ∙ bit_at_xor odd (2 ^ k) i ∙ ap (λ m. (bit_at odd i + m) % 2) (at (k == i) refl)
  where
    at : (b : Bool) → (k == i) ≡ b → bit_at (2 ^ k) i ≡ cond (k == i) 1 0
    at true e = rw e (ap (bit_at (2 ^ k)) (sym (eqb-true k i e)) ∙ bit_at-pow_same k)
    at false e = rw e (bit_at-pow_other k i (λ q. false≢true (sym e ∙ eq-eqb k i (sym q))))

pub levels_more : (odd k i : ℕ) (p r : List ℤ) (left rs : List (List ℤ)) (all : ℕ) → k < 64 → left ≡ r ∷ rs → Some k ≡ (if each int_le r p then Some (level_axes 1 r p) else None)
    → (bit_at odd i + count_by (is_level p i) left) % 2 ≡ all → (bit_at (bit_xor odd (1 * 2 ^ k % 18446744073709551616)) i + count_by (is_level p i) rs) % 2 ≡ all
unfolding is_level
levels_more odd k i p r left rs all h e s so_far =
    let (b, q) = some_is (each int_le r p) k (level_axes 1 r p) s in
    sums (bit_at (bit_xor odd (1 * 2 ^ k % 18446744073709551616)) i) (bit_at odd i) (cond (k == i) 1 0) (count_by (is_level p i) rs) (count_by (is_level p i) left) all
    (bit_flipped odd k i h)
    (ap (count_by (is_level p i)) e ∙ count-cons (is_level p i) r rs
    ∙ ap (λ t. cond t 1 0 + count_by (is_level p i) rs) (ap₂ (λ u m. u && (m == i)) b (sym q)))
    so_far
  where
    sums : (x b e t c all : ℕ) → x ≡ (b + e) % 2 → c ≡ e + t → (b + c) % 2 ≡ all → (x + t) % 2 ≡ all
    sums x b e t c all f g h = omega arith

pub levels_same : (odd i : ℕ) (p r : List ℤ) (left rs : List (List ℤ)) (all : ℕ) → left ≡ r ∷ rs → None ≡ (if each int_le r p then Some (level_axes 1 r p) else None)
    → (bit_at odd i + count_by (is_level p i) left) % 2 ≡ all → (bit_at odd i + count_by (is_level p i) rs) % 2 ≡ all
unfolding is_level
levels_same odd i p r left rs all e s so_far =
    ap (λ m. (bit_at odd i + m) % 2) (sym (ap (count_by (is_level p i)) e ∙ count-cons (is_level p i) r rs
    ∙ ap (λ t. cond t 1 0 + count_by (is_level p i) rs) (ap (λ u. u && (level_axes 1 r p == i)) (none_is (each int_le r p) (level_axes 1 r p) s))
    ∙ none (count_by (is_level p i) rs))) ∙ so_far
  where
    none : (m : ℕ) → 0 + m ≡ m
    none m = omega arith

levels_done : (odd i m all : ℕ) → m ≡ 0 → (bit_at odd i + m) % 2 ≡ all → bit_at odd i ≡ all
levels_done odd i m all e so_far = let l = bit_at-lt odd i in plain (bit_at odd i) m all l e so_far
  where
    plain : (b m all : ℕ) → b < 2 → m ≡ 0 → (b + m) % 2 ≡ all → b ≡ all
    plain b m all l e h = omega arith

pub levels_end : (odd i : ℕ) (p : List ℤ) (left : List (List ℤ)) (all : ℕ) → left ≡ [] → (bit_at odd i + count_by (is_level p i) left) % 2 ≡ all → bit_at odd i ≡ all
levels_end odd i p left all e so_far = levels_done odd i (count_by (is_level p i) left) all (ap (count_by (is_level p i)) e) so_far

pub levels_past : (odd i : ℕ) (p r : List ℤ) (left rs : List (List ℤ)) (all : ℕ) → left ≡ r ∷ rs → ascending left ≡ true → starts_above r p ≡ true
    → (bit_at odd i + count_by (is_level p i) left) % 2 ≡ all → bit_at odd i ≡ all
unfolding is_level
levels_past odd i p r left rs all e a s so_far =
    levels_done odd i (count_by (is_level p i) left) all
    (ap (count_by (is_level p i)) e ∙ count_none (is_level p i) (r ∷ rs)
    (all_weaker (λ q. not (each int_le q p)) (λ q. not (is_level p i q)) (λ q h. ap (λ t. not (t && (level_axes 1 q p == i))) (untrue (each int_le q p) h))
    (r ∷ rs) (all_past r rs p (rw e at a) s)))
    so_far
