-- The first row past the limits, and the first that is not greater than the row before it.
use Rattle.std.proofs.Common.{◌≡◌, ℕ, zero, suc, ◌+◌, ◌-◌, ◌<◌, ◌≤◌, Bool, true, false, List, [], ◌∷◌, length, drop, get_or, ℤ, refl, sym, ap, ap₂, ◌∙◌, arith, below_more}
use Rattle.std.specs.List.{list_all}
use Rattle.std.specs.Ordering.{is_lt}
use Rattle.evm_cells.specs.Places.{before, ascending}
use Rattle.evm_cells.specs.Limits.{is_point}
use Rattle.evm_cells.proofs.Xor.{and_both}
use Rattle.evm_rows.specs.Rows.{row_cmp, ascends}
use Rattle.evm_rows.specs.Check.{IsFirstOut, IsFirstFall}
use Rattle.evm_rows.proofs.Bridge.{before-cmp, ascending_from}

-- what stands at a place of a list
pub at_front : {X : Type 0} (V : List X) (k : ℕ) (d x : X) (xs : List X) → drop k V ≡ x ∷ xs → (k < length V) × (get_or V k d ≡ x) × (drop (k + 1) V ≡ xs)
at_front [] zero d x xs e = cc
at_front [] (suc k) d x xs e = cc
at_front (y ∷ V) zero d x xs e = (omega arith, cc e, cc e)
at_front (y ∷ V) (suc k) d x xs e = let h = at_front V k d x xs e in (let l = h.0 in omega arith, h.1, let m : suc k + 1 ≡ suc (k + 1) = omega arith in ap (λ (n : ℕ). drop n (y ∷ V)) m ∙ h.2)

pub at_end : {X : Type 0} (V : List X) (k : ℕ) → drop k V ≡ [] → length V ≤ k
at_end [] k e = omega arith
at_end (y ∷ V) zero e = cc
at_end (y ∷ V) (suc k) e = let h = at_end V k e in omega (arith, h)

pub all_by_place : {X : Type 0} (p : X → Bool) (d : X) (V : List X) → ((j : ℕ) → j < length V → p (get_or V j d) ≡ true) → list_all p V ≡ true
all_by_place p d [] h = refl
all_by_place p d (x ∷ V) h = and_both (p x) (list_all p V) (h 0 (omega arith)) (all_by_place p d V (λ j l. h (suc j) (omega arith)))

pub asc_none : ascending [] ≡ true
unfolding ascending
asc_none = refl

rises_by_place : (V : List (List ℤ)) → ((j : ℕ) → suc j < length V → before (get_or V j []) (get_or V (suc j) []) ≡ true) → ascends V ≡ true
rises_by_place [] h = refl
rises_by_place (x ∷ []) h = refl
rises_by_place (x ∷ y ∷ V) h =
    and_both (is_lt (row_cmp x y)) (ascends (y ∷ V)) (sym (before-cmp x y) ∙ h 0 (omega arith)) (rises_by_place (y ∷ V) (λ j l. h (suc j) (omega arith)))

-- each row is before the next
pub asc_by_place : (V : List (List ℤ)) → ((j : ℕ) → suc j < length V → before (get_or V j []) (get_or V (suc j) []) ≡ true) → ascending V ≡ true
asc_by_place V h = ascending_from V (rises_by_place V h)

-- the steps of the tests of limits and of order
pub left_more : (V : List (List ℤ)) (k : ℕ) (row : List ℤ) (rest R : List (List ℤ)) → drop k V ≡ R → R ≡ row ∷ rest → drop (k + 1) V ≡ rest
left_more V k row rest R e f = (at_front V k [] row rest (e ∙ f)).2

pub out_here : (n : ℕ) (V : List (List ℤ)) (k : ℕ) (row : List ℤ) (rest R : List (List ℤ)) → drop k V ≡ R → R ≡ row ∷ rest → length row ≡ n → false ≡ is_point (length row) row
    → ((j : ℕ) → j < k → is_point n (get_or V j []) ≡ true) → IsFirstOut n V k
out_here n V k row rest R e f l t p =
    let h = at_front V k [] row rest (e ∙ f) in
    record { within = h.0; out = ap (is_point n) h.1 ∙ ap (λ (m : ℕ). is_point m row) (sym l) ∙ sym t; earlier = p }

pub pass_more : (n : ℕ) (V : List (List ℤ)) (k : ℕ) (row : List ℤ) (rest R : List (List ℤ)) → drop k V ≡ R → R ≡ row ∷ rest → length row ≡ n → true ≡ is_point (length row) row
    → ((j : ℕ) → j < k → is_point n (get_or V j []) ≡ true) → (j : ℕ) → j < k + 1 → is_point n (get_or V j []) ≡ true
pass_more n V k row rest R e f l t p =
    let h = at_front V k [] row rest (e ∙ f) in
    below_more (λ (j : ℕ). is_point n (get_or V j []) ≡ true) k p (ap (is_point n) h.1 ∙ ap (λ (m : ℕ). is_point m row) (sym l) ∙ sym t)

pub all_passed : (n : ℕ) (V : List (List ℤ)) (k : ℕ) → drop k V ≡ [] → ((j : ℕ) → j < k → is_point n (get_or V j []) ≡ true) → list_all (is_point n) V ≡ true
all_passed n V k e p = let m : length V ≤ k = at_end V k e in all_by_place (is_point n) [] V (λ j l. p j (omega arith))

pub fall_here : (V : List (List ℤ)) (k : ℕ) (last row : List ℤ) (rest R : List (List ℤ)) → drop k V ≡ R → R ≡ row ∷ rest → get_or V (k - 1) [] ≡ last → false ≡ before last row → 0 < k
    → ((j : ℕ) → 0 < j → j < k → before (get_or V (j - 1) []) (get_or V j []) ≡ true) → IsFirstFall V k
fall_here V k last row rest R e f g t s p =
    let h = at_front V k [] row rest (e ∙ f) in
    record { some = s; within = h.0; falls = ap₂ before g h.1 ∙ sym t; earlier = p }

pub rise_more : (V : List (List ℤ)) (k : ℕ) (last row : List ℤ) (rest R : List (List ℤ)) → drop k V ≡ R → R ≡ row ∷ rest → get_or V (k - 1) [] ≡ last → true ≡ before last row
    → ((j : ℕ) → 0 < j → j < k → before (get_or V (j - 1) []) (get_or V j []) ≡ true) → (j : ℕ) → 0 < j → j < k + 1 → before (get_or V (j - 1) []) (get_or V j []) ≡ true
rise_more V k last row rest R e f g t p =
    let h = at_front V k [] row rest (e ∙ f) in
    λ j s l. below_more (λ (i : ℕ). 0 < i → before (get_or V (i - 1) []) (get_or V i []) ≡ true) k (λ i m q. p i q m) (λ q. ap₂ before g h.1 ∙ sym t) j l s

pub latest_more : (V : List (List ℤ)) (k : ℕ) (row : List ℤ) (rest R : List (List ℤ)) → drop k V ≡ R → R ≡ row ∷ rest → get_or V (k + 1 - 1) [] ≡ row
latest_more V k row rest R e f =
    let m : k + 1 - 1 ≡ k = omega arith in
    ap (λ (j : ℕ). get_or V j []) m ∙ (at_front V k [] row rest (e ∙ f)).1

pub all_rise : (V : List (List ℤ)) (k : ℕ) → drop k V ≡ [] → ((j : ℕ) → 0 < j → j < k → before (get_or V (j - 1) []) (get_or V j []) ≡ true) → ascending V ≡ true
all_rise V k e p =
    let m : length V ≤ k = at_end V k e in
    asc_by_place V (λ j l. let q : suc j - 1 ≡ j = omega arith in ap (λ (i : ℕ). before (get_or V i []) (get_or V (suc j) [])) (sym q) ∙ p (suc j) (omega arith) (omega arith))
