-- Steps of the readers of bodies.
use Rattle.std.proofs.Common.{◌≡◌, ℕ, zero, suc, ◌+◌, ◌-◌, ◌<◌, ◌≤◌, ◌==◌, nat_lt, Bool, true, false, cond, Option, Some, None, List, [], ◌∷◌, ◌++◌, length, take, drop, ℤ, w32, refl, sym, ap, ap₂, ◌∙◌, subst, arith, length-append, append-nil}
use Rattle.std.specs.Prelude.{option_and_then}
use Rattle.std.specs.Int.{cast_signed}
use Rattle.std.proofs.lemmas.Bool.Decides.{nat_tests}
use Rattle.byteorder.specs.Endian.{big_number}
use Rattle.byteorder.specs.Numbers.{big_from-take}
use Rattle.evm_formats.specs.Nested.{Reading, noted, falls, next_count, next_height, is_cut_off, after_count, after_height, after_row, read_heights, read_body}
use Rattle.evm_rows.specs.Rows.{flat_of}
use Rattle.evm_rows.proofs.BoxTests.{flat_of-append}
use Rattle.evm_formats.proofs.BodyBytes.{some_is}
use Rattle.evm_file.specs.declared.nested.Tally.{Tally}
use Rattle.evm_file.specs.Scanning.{IsTally}

-- ---- one step of a reading

pub heights_step : (below : List ℤ → Reading → Option Reading) (front : List ℤ) (k : ℕ) (last : Option ℤ) (s : Reading) → 0 < k
    → read_heights below front k last s ≡ cond (is_cut_off s) None (option_and_then (λ t. read_heights below front (k - 1) (Some (next_height s)) t) (below (front ++ next_height s ∷ []) (after_height last s)))
unfolding read_heights
heights_step below front zero last s h = absurd (omega arith)
heights_step below front (suc k) last s h =
    let e : k ≡ suc k - 1 = omega arith in
    ap (λ (m : ℕ). cond (is_cut_off s) None (option_and_then (λ t. read_heights below front m (Some (next_height s)) t) (below (front ++ next_height s ∷ []) (after_height last s)))) e

pub heights_done : (below : List ℤ → Reading → Option Reading) (front : List ℤ) (k : ℕ) (last : Option ℤ) (s : Reading) → k ≡ 0 → read_heights below front k last s ≡ Some s
unfolding read_heights
heights_done below front k last s e = rw e refl

pub body_step : (n : ℕ) (front : List ℤ) (s : Reading) → 0 < n
    → read_body n front s ≡ cond (is_cut_off s) None (read_heights (read_body (n - 1)) front (next_count s) None (after_count s))
unfolding read_body
body_step zero front s h = absurd (omega arith)
body_step (suc n) front s h =
    let e : n ≡ suc n - 1 = omega arith in
    ap (λ (m : ℕ). cond (is_cut_off s) None (read_heights (read_body m) front (next_count s) None (after_count s))) e

pub body_done : (n : ℕ) (front : List ℤ) (s : Reading) → n ≡ 0 → read_body n front s ≡ Some (after_row front s)
unfolding read_body
body_done n front s e = rw e refl

pub cut : (s : Reading) (bytes : List ℕ) → s.rest ≡ bytes → length bytes < 4 → is_cut_off s ≡ true
cut s bytes e l = let q = ap length e in grind (arith, nat_tests, q, l)

pub not_cut : (s : Reading) (bytes : List ℕ) → s.rest ≡ bytes → 4 ≤ length bytes → is_cut_off s ≡ false
not_cut s bytes e l = let q = ap length e in grind (arith, nat_tests, q, l)

-- the number in the first four bytes
pub first_four : (s : Reading) (bytes front : List ℕ) → s.rest ≡ bytes → front ≡ take 4 bytes → big_number 4 s.rest ≡ big_number 4 front
first_four s bytes front e f = ap (big_number 4) e ∙ sym (ap (big_number 4) f ∙ big_from-take 0 4 4 bytes (omega arith))

-- ---- tallies

pub tally_row : (a b : Tally) (bytes : List ℕ) (front : List ℤ) (s : Reading) → IsTally a bytes s → b.rows ≡ a.rows + 1 → b.gap ≡ a.gap → b.fall ≡ a.fall → IsTally b bytes (after_row front s)
tally_row a b bytes front s t r g f =
    let n = t.rows in
    record { rows = omega (arith, length-append s.rows (front ∷ []), n, r); gap = t.gap ∙ sym g; fall = t.fall ∙ sym f; left = t.left }

pub tally_count : (a b : Tally) (bytes rest : List ℕ) (k : ℕ) (s : Reading) → IsTally a bytes s → next_count s ≡ k → rest ≡ drop 4 bytes
    → b.rows ≡ a.rows → b.gap ≡ noted a.gap (k == 0) a.rows → b.fall ≡ a.fall → IsTally b rest (after_count s)
tally_count a b bytes rest k s t e d r g f = record {
  rows = t.rows ∙ sym r;
  gap = ap₂ (λ (m : ℕ) (o : Option ℕ). noted o (m == 0) (length s.rows)) e t.gap ∙ ap (λ (m : ℕ). noted a.gap (k == 0) m) t.rows ∙ sym g;
  fall = t.fall ∙ sym f;
  left = ap (drop 4) t.left ∙ sym d;
}

pub tally_height : (a b : Tally) (bytes rest : List ℕ) (last : Option ℤ) (h : ℤ) (s : Reading) → IsTally a bytes s → next_height s ≡ h → rest ≡ drop 4 bytes
    → b.rows ≡ a.rows → b.gap ≡ a.gap → b.fall ≡ noted a.fall (falls last h) a.rows → IsTally b rest (after_height last s)
tally_height a b bytes rest last h s t e d r g f = record {
  rows = t.rows ∙ sym r;
  gap = t.gap ∙ sym g;
  fall = ap₂ (λ (z : ℤ) (o : Option ℕ). noted o (falls last z) (length s.rows)) e t.fall ∙ ap (λ (m : ℕ). noted a.fall (falls last h) m) t.rows ∙ sym f;
  left = ap (drop 4) t.left ∙ sym d;
}

-- ---- steps of the scan

pub scan_short : (n : ℕ) (bytes : List ℕ) (front : List ℤ) (s : Reading) → 0 < n → length bytes < 4 → s.rest ≡ bytes → read_body n front s ≡ None
scan_short n bytes front s some l e =
    body_step n front s some ∙ ap (λ (b : Bool). cond b None (read_heights (read_body (n - 1)) front (next_count s) None (after_count s))) (cut s bytes e l)

pub scan_count : (n left : ℕ) (bytes four : List ℕ) (front : List ℤ) (s : Reading) → 0 < n → 4 ≤ length bytes → s.rest ≡ bytes → four ≡ take 4 bytes → left ≡ big_number 4 four
    → read_body n front s ≡ read_heights (read_body (n - 1)) front left None (after_count s)
scan_count n left bytes four front s some l e f k =
    body_step n front s some ∙ ap (λ (b : Bool). cond b None (read_heights (read_body (n - 1)) front (next_count s) None (after_count s))) (not_cut s bytes e l)
    ∙ ap (λ (m : ℕ). read_heights (read_body (n - 1)) front m None (after_count s)) (first_four s bytes four e f ∙ sym k)

pub scan_cut : (n left : ℕ) (rest : List ℕ) (front : List ℤ) (last : Option ℤ) (t : Reading) → 0 < left → length rest < 4 → t.rest ≡ rest
    → read_heights (read_body n) front left last t ≡ None
scan_cut n left rest front last t some l e =
    heights_step (read_body n) front left last t some
    ∙ ap (λ (b : Bool). cond b None (option_and_then (λ u. read_heights (read_body n) front (left - 1) (Some (next_height t)) u) (read_body n (front ++ next_height t ∷ []) (after_height last t)))) (cut t rest e l)

pub height_is : (t : Reading) (rest four : List ℕ) (h : ℤ) → t.rest ≡ rest → four ≡ take 4 rest → h ≡ cast_signed w32 (big_number 4 four) → next_height t ≡ h
height_is t rest four h e f q = ap (cast_signed w32) (first_four t rest four e f) ∙ sym q

pub scan_height : (n left : ℕ) (rest four : List ℕ) (front : List ℤ) (last : Option ℤ) (h : ℤ) (t : Reading) → 0 < left → 4 ≤ length rest → t.rest ≡ rest → four ≡ take 4 rest
    → h ≡ cast_signed w32 (big_number 4 four)
    → read_heights (read_body n) front left last t ≡ option_and_then (λ u. read_heights (read_body n) front (left - 1) (Some h) u) (read_body n (front ++ h ∷ []) (after_height last t))
scan_height n left rest four front last h t some l e f q =
    heights_step (read_body n) front left last t some
    ∙ ap (λ (b : Bool). cond b None (option_and_then (λ u. read_heights (read_body n) front (left - 1) (Some (next_height t)) u) (read_body n (front ++ next_height t ∷ []) (after_height last t)))) (not_cut t rest e l)
    ∙ ap (λ (z : ℤ). option_and_then (λ u. read_heights (read_body n) front (left - 1) (Some z) u) (read_body n (front ++ z ∷ []) (after_height last t))) (height_is t rest four h e f q)

-- what is below a height is read, or not
pub below_read : (n left : ℕ) (front : List ℤ) (h : ℤ) (o : Option Reading) (t : Reading) → o ≡ Some t
    → option_and_then (λ u. read_heights (read_body n) front left (Some h) u) o ≡ read_heights (read_body n) front left (Some h) t
below_read n left front h o t e = ap (option_and_then (λ (u : Reading). read_heights (read_body n) front left (Some h) u)) e

pub below_none : (n left : ℕ) (front : List ℤ) (h : ℤ) (o : Option Reading) → o ≡ None
    → option_and_then (λ u. read_heights (read_body n) front left (Some h) u) o ≡ None
below_none n left front h o e = ap (option_and_then (λ (u : Reading). read_heights (read_body n) front left (Some h) u)) e

-- ---- rows

pub none_some : (v : Reading) → None ≡ Some v → ⊥
none_some v e = cc

-- a row is appended
pub row_done : (n : ℕ) (front out new : List ℤ) (bytes : List ℕ) (s v : Reading) → n ≡ 0 → s.rest ≡ bytes → out ≡ flat_of s.rows → read_body n front s ≡ Some v → new ≡ out ++ front
    → (bytes ≡ v.rest) × (new ≡ flat_of v.rows)
row_done n front out new bytes s v z r o e q =
    let same = some_is (after_row front s) v (sym (body_done n front s z) ∙ e) in
    (sym r ∙ ap (λ (y : Reading). y.rest) same, q ∙ ap (λ (zs : List ℤ). zs ++ front) o ∙ sym (flat_of-append s.rows (front ∷ []) ∙ ap (λ (zs : List ℤ). flat_of s.rows ++ zs) (append-nil front)) ∙ ap (λ (y : Reading). flat_of y.rows) same)
