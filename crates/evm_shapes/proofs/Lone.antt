-- Rows that cancel as they come.
use Rattle.std.proofs.Common.{Bool, ◌≡◌, ℕ, zero, suc, ◌+◌, ◌-◌, ◌<◌, ◌%◌, true, ◌==◌, List, [], ◌∷◌, ◌++◌, length, take, get_or, ℤ, refl, sym, ap, ◌∙◌, subst, arith, eqb-true, eq-eqb}
use Rattle.std.specs.List.{list_all}
use Rattle.std.specs.List.Sorted.{IsPermutation}
use Rattle.std.proofs.lemmas.List.Sorted.{IsPermutation-map}
use denote.Ref.{Bor}
use Rattle.evm_cells.specs.Places.{same}
use Rattle.evm_cells.specs.Booleans.{xor}
use Rattle.evm_cells.specs.Windows.{IsReduced}
use Rattle.evm_cells.proofs.Lists.{all-append}
use Rattle.evm_cells.proofs.Places.{strict_places}
use Rattle.evm_cells.proofs.Sum.{xsum-append}
use Rattle.evm_cells.proofs.Xor.{xsum, xsum-cons, xsum-nil, odd-count, xor_self, xor-false, false-xor, xor_assoc, and_first, and_second, and_both}
use Rattle.evm_rows.specs.Rows.{rows_of, flat_of}
use Rattle.evm_rows.specs.Groups.{targets, steady}
use Rattle.evm_rows.proofs.Pairs.{targets_push}
use Rattle.evm_rows.proofs.RowsOrder.{Wide}
use Rattle.evm_shapes.specs.Order.{unpaired, AreLone}
use Rattle.evm_shapes.proofs.Sorted.{reduced_is}

-- how far the gathered rows are: each test holds of as many of them and of those that are left, by parity, as of all
pub record Gathered (n : ℕ) (W R L : List (List ℤ)) : Type 0 where
  pub wide : list_all (λ p. length p == n) W ≡ true
  pub odd_times : (f : List ℤ → Bool) → xor (xsum f W) (xsum f R) ≡ xsum f L

pub none_gathered : (n : ℕ) (L : List (List ℤ)) → Gathered n [] L L
none_gathered n L = record { wide = refl; odd_times = λ p. ap (λ t. xor t (xsum p L)) (xsum-nil p) ∙ false-xor (xsum p L) }

pub gathered_start : (n : ℕ) (bs : List (Bor (List ℤ))) (L : List (List ℤ)) → bs ≡ [] → Gathered n (targets bs) L L
gathered_start n bs L e = subst (λ (z : List (Bor (List ℤ))). Gathered n (targets z) L L) (sym e) (none_gathered n L)

one : (p : List ℤ → Bool) (x : List ℤ) → xsum p (x ∷ []) ≡ p x
one p x = xsum-cons p x [] ∙ ap (xor (p x)) (xsum-nil p) ∙ xor-false (p x)

-- a row more is gathered
pub gathered_one : (n : ℕ) (V W : List (List ℤ)) (row : List ℤ) (R rest L : List (List ℤ)) → W ≡ V ++ row ∷ [] → R ≡ row ∷ rest → length row ≡ n → Gathered n V R L → Gathered n W rest L
gathered_one n V W row R rest L e r w g = record {
  wide = ap (list_all (λ p. length p == n)) e ∙ all-append (λ (p : List ℤ). length p == n) V (row ∷ []) ∙ and_both (list_all (λ p. length p == n) V) (list_all (λ p. length p == n) (row ∷ [])) g.wide (and_both (length row == n) true (eq-eqb (length row) n w) refl);
  odd_times = λ p.
      ap (λ z. xor (xsum p z) (xsum p rest)) e
      ∙ ap (λ t. xor t (xsum p rest)) (xsum-append p V (row ∷ []) ∙ ap (xor (xsum p V)) (one p row))
      ∙ xor_assoc (xsum p V) (p row) (xsum p rest)
      ∙ ap (xor (xsum p V)) (sym (xsum-cons p row rest) ∙ ap (xsum p) (sym r))
      ∙ g.odd_times p;
}

pub gathered_push : (n : ℕ) (bs cs : List (Bor (List ℤ))) (b : Bor (List ℤ)) (R rest L : List (List ℤ)) → cs ≡ bs ++ b ∷ [] → R ≡ b.now ∷ rest → length b.now ≡ n → Gathered n (targets bs) R L → Gathered n (targets cs) rest L
gathered_push n bs cs b R rest L e r w g = gathered_one n (targets bs) (targets cs) b.now R rest L (targets_push bs cs b e) r w g

-- the last that is gathered, and those before it
pub last_apart : {X : Type 0} (bs : List X) (k : ℕ) (d : X) → k + 1 ≡ length bs → bs ≡ take k bs ++ get_or bs k d ∷ []
last_apart [] k d e = absurd (omega arith)
last_apart (b ∷ []) zero d e = refl
last_apart (b ∷ c ∷ bs) zero d e = absurd (omega arith)
last_apart (b ∷ bs) (suc k) d e = ap (λ z. b ∷ z) (last_apart bs k d (omega arith))

-- the last gathered row is the next, and both go
pub gathered_less : (n : ℕ) (V W : List (List ℤ)) (row : List ℤ) (R rest L : List (List ℤ)) → V ≡ W ++ row ∷ [] → R ≡ row ∷ rest → Gathered n V R L → Gathered n W rest L
gathered_less n V W row R rest L t r g = record {
  wide = and_first (list_all (λ p. length p == n) W) (list_all (λ p. length p == n) (row ∷ [])) (sym (all-append (λ (p : List ℤ). length p == n) W (row ∷ [])) ∙ ap (list_all (λ p. length p == n)) (sym t) ∙ g.wide);
  odd_times = λ p.
      sym (ap (λ z. xor z (xsum p R)) (ap (xsum p) t ∙ xsum-append p W (row ∷ []) ∙ ap (xor (xsum p W)) (one p row))
      ∙ ap (xor (xor (xsum p W) (p row))) (ap (xsum p) r ∙ xsum-cons p row rest)
      ∙ xor_assoc (xsum p W) (p row) (xor (p row) (xsum p rest))
      ∙ ap (xor (xsum p W)) (sym (xor_assoc (p row) (p row) (xsum p rest)) ∙ ap (λ z. xor z (xsum p rest)) (xor_self (p row)) ∙ false-xor (xsum p rest)))
      ∙ g.odd_times p;
}

pub gathered_pop : (n : ℕ) (bs cs : List (Bor (List ℤ))) (k : ℕ) (d : Bor (List ℤ)) (row : List ℤ) (R rest L : List (List ℤ)) → k + 1 ≡ length bs → cs ≡ take k bs → same (get_or bs k d).now row ≡ true → R ≡ row ∷ rest → Gathered n (targets bs) R L → Gathered n (targets cs) rest L
gathered_pop n bs cs k d row R rest L e c s r g =
    let b : Bor (List ℤ) = get_or bs k d in
    let t : targets bs ≡ targets cs ++ b.now ∷ [] = targets_push cs bs b (last_apart bs k d e ∙ ap (λ z. z ++ b ∷ []) (sym c)) in
    gathered_less n (targets bs) (targets cs) row R rest L (t ∙ ap (λ (z : List ℤ). targets cs ++ z ∷ []) (strict_places.equal b.now row s)) r g

pub gathered_end : (n : ℕ) (W R L : List (List ℤ)) → R ≡ [] → Gathered n W R L → AreLone n L W
gathered_end n W R L e g = record {
  wide = g.wide;
  odd_times = λ p.
      odd-count p W
      ∙ sym (xor-false (xsum p W)) ∙ ap (xor (xsum p W)) (sym (ap (xsum p) e ∙ xsum-nil p))
      ∙ g.odd_times p ∙ sym (odd-count p L);
}

from_wide : (n : ℕ) (S : List (List ℤ)) → list_all (λ p. length p == n) S ≡ true → Wide n S
from_wide n [] h = tt
from_wide n (p ∷ S) h = (eqb-true (length p) n (and_first (length p == n) (list_all (λ q. length q == n) S) h), from_wide n S (and_second (length p == n) (list_all (λ q. length q == n) S) h))

-- what is left, sorted
pub lone_rows_are : (n : ℕ) (L V S : List (List ℤ)) (flat : List ℤ) → 0 < n → AreLone n L V → IsPermutation V S → steady S ≡ true → flat ≡ flat_of (unpaired S)
    → (length flat % n ≡ 0) × IsReduced n L (rows_of flat n 0)
lone_rows_are n L V S flat some a h s f =
    let less : n ≡ n - 0 = omega arith in
    let all = reduced_is n V S flat some (subst (λ (k : ℕ). Wide k V) less (from_wide n V a.wide)) h s f in (
      all.0,
      record { ascends = all.1.ascends; wide = all.1.wide; odd_times = λ p. all.1.odd_times p ∙ a.odd_times (λ q. same q p) },
    )

pub lone_is : (n : ℕ) (L : List (List ℤ)) (bs cs : List (Bor (List ℤ))) (flat : List ℤ) → 0 < n → AreLone n L (targets bs) → IsPermutation bs cs → steady (targets cs) ≡ true → flat ≡ flat_of (unpaired (targets cs))
    → (length flat % n ≡ 0) × IsReduced n L (rows_of flat n 0)
lone_is n L bs cs flat some a h s f = lone_rows_are n L (targets bs) (targets cs) flat some a (IsPermutation-map (λ (b : Bor (List ℤ)). b.now) bs cs h) s f
