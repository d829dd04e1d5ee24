-- There is one first refusal, and none of a vertex list.
use Rattle.std.proofs.Common.{◌≡◌, ℕ, zero, suc, ◌+◌, ◌-◌, ◌<◌, ◌≤◌, Bool, true, List, [], ◌∷◌, length, get_or, ℤ, sym, ap, ◌∙◌, arith, inl, ◌⊎◌, ⊎_elim, Result, Err}
use Rattle.std.specs.List.{list_all}
use Rattle.std.specs.Result.{IsErrOf}
use Rattle.std.proofs.lemmas.Bool.{true≢false, cases_lt}
use Rattle.evm_cells.specs.Places.{before, ascending}
use Rattle.evm_cells.specs.Limits.{is_point}
use Rattle.evm_cells.specs.Vertices.{IsVertexList, IsEven}
use Rattle.evm_cells.proofs.Xor.{and_first, and_second}
use Rattle.evm_rows.specs.declared.check.RowError.{RowError}
use Rattle.evm_rows.specs.declared.check.RowError.TheVariants.{Range, Order, Odd, NoMemory}
use Rattle.evm_rows.specs.Check.{IsFirstOut, IsFirstFall, IsLeastOdd, IsRefusal, IsEvenOn, HasOddLine}
use Rattle.evm_rows.proofs.Pairs.{asc_parts}

-- two numbers of which neither is below the other
one_place : (j k : ℕ) → (j < k → ⊥) → (k < j → ⊥) → j ≡ k
one_place j k f g = ⊎_elim (λ (l : j < k). absurd (f l)) (λ (h : k ≤ j). ⊎_elim (λ (l : k < j). absurd (g l)) (λ (m : j ≤ k). omega arith) (cases_lt k j)) (cases_lt j k)

out_after : (n : ℕ) (V : List (List ℤ)) (j k : ℕ) → IsFirstOut n V j → IsFirstOut n V k → j < k → ⊥
out_after n V j k a b l = true≢false (sym (b.earlier j l) ∙ a.out)

fall_after : (V : List (List ℤ)) (j k : ℕ) → IsFirstFall V j → IsFirstFall V k → j < k → ⊥
fall_after V j k a b l = true≢false (sym (b.earlier j a.some l) ∙ a.falls)

even_odd : (i : ℕ) (V : List (List ℤ)) → IsEvenOn i V → HasOddLine i V → ⊥
even_odd i V e w = let (line, o) = w in true≢false (sym o ∙ e line)

odd_after : (n : ℕ) (V : List (List ℤ)) (j k : ℕ) → IsLeastOdd n V j → IsLeastOdd n V k → j < k → ⊥
odd_after n V j k a b l = even_odd (j - 1) V (b.earlier j a.some l) a.odd

all_at : {X : Type 0} (p : X → Bool) (d : X) (V : List X) (k : ℕ) → list_all p V ≡ true → k < length V → p (get_or V k d) ≡ true
all_at p d [] k a l = absurd (omega arith)
all_at p d (x ∷ V) zero a l = and_first (p x) (list_all p V) a
all_at p d (x ∷ V) (suc k) a l = all_at p d V k (and_second (p x) (list_all p V) a) (omega arith)

asc_at : (V : List (List ℤ)) (k : ℕ) → ascending V ≡ true → suc k < length V → before (get_or V k []) (get_or V (suc k) []) ≡ true
asc_at [] k a l = absurd (omega arith)
asc_at (x ∷ V) zero a l = all_at (before x) [] V 0 (asc_parts x V a).0 (omega arith)
asc_at (x ∷ V) (suc k) a l = asc_at V k (asc_parts x V a).1 (omega arith)

out_denies : (n : ℕ) (V : List (List ℤ)) (k : ℕ) → list_all (is_point n) V ≡ true → IsFirstOut n V k → ⊥
out_denies n V k a o = true≢false (sym (all_at (is_point n) [] V k a o.within) ∙ o.out)

fall_denies : (V : List (List ℤ)) (k : ℕ) → ascending V ≡ true → IsFirstFall V k → ⊥
fall_denies V zero a f = let s = f.some in omega arith
fall_denies V (suc k) a f =
    let e : suc k - 1 ≡ k = omega arith in
    true≢false (sym (asc_at V k a f.within) ∙ ap (λ (j : ℕ). before (get_or V j []) (get_or V (suc k) [])) (sym e) ∙ f.falls)

odd_denies : (n : ℕ) (V : List (List ℤ)) (a : ℕ) → IsEven n V → IsLeastOdd n V a → ⊥
odd_denies n V a e o = even_odd (a - 1) V (λ line. e (a - 1) line (let s = o.some in let w = o.within in omega arith)) o.odd

pub refusal_unique : (n : ℕ) (V : List (List ℤ)) (e f : RowError) → IsRefusal n V e → IsRefusal n V f → e ≡ f
refusal_unique n V (Range j) (Range k) a b = ap Range (one_place j k (out_after n V j k a b) (out_after n V k j b a))
refusal_unique n V (Range j) (Order k) a b = absurd (out_denies n V j b.0 a)
refusal_unique n V (Range j) (Odd k) a b = absurd (out_denies n V j b.0 a)
refusal_unique n V (Range j) NoMemory a b = absurd b
refusal_unique n V (Order j) (Range k) a b = absurd (out_denies n V k a.0 b)
refusal_unique n V (Order j) (Order k) a b = ap Order (one_place j k (fall_after V j k a.1 b.1) (fall_after V k j b.1 a.1))
refusal_unique n V (Order j) (Odd k) a b = absurd (fall_denies V j b.1 a.1)
refusal_unique n V (Order j) NoMemory a b = absurd b
refusal_unique n V (Odd j) (Range k) a b = absurd (out_denies n V k a.0 b)
refusal_unique n V (Odd j) (Order k) a b = absurd (fall_denies V k a.1 b.1)
refusal_unique n V (Odd j) (Odd k) a b = ap Odd (one_place j k (odd_after n V j k a.2 b.2) (odd_after n V k j b.2 a.2))
refusal_unique n V (Odd j) NoMemory a b = absurd b
refusal_unique n V NoMemory f a b = absurd a

pub refusal_denies : (n : ℕ) (V : List (List ℤ)) (e : RowError) → IsRefusal n V e → IsVertexList n V → ⊥
refusal_denies n V (Range k) r v = out_denies n V k v.points r
refusal_denies n V (Order k) r v = fall_denies V k v.ascends r.1
refusal_denies n V (Odd a) r v = odd_denies n V a v.even r.2
refusal_denies n V NoMemory r v = r

abbrev pub is_err_with : {T : Type 0} → RowError → Result T RowError
is_err_with e = Err e

-- what the answer `Err e` owes
pub refused_by : {T : Type 0} (n : ℕ) (V : List (List ℤ)) (e : RowError) → IsRefusal n V e
    → (f : RowError) → IsRefusal n V f → IsErrOf (is_err_with {T = T} e) f ⊎ IsErrOf (is_err_with {T = T} e) NoMemory
refused_by {T} n V e r f s = inl (ap (λ (x : RowError). is_err_with {T = T} x) (refusal_unique n V e f r s))

pub least_odd : (n i : ℕ) (V : List (List ℤ)) → i < n → ((j : ℕ) → j < i → IsEvenOn j V) → HasOddLine i V → IsLeastOdd n V (i + 1)
least_odd n i V l p o = record {
  some = omega arith;
  within = omega arith;
  odd = let e : i + 1 - 1 ≡ i = omega arith in rw e o;
  earlier = λ j s m. p (j - 1) (omega arith);
}
