-- Rows that are shifted.
use Rattle.std.proofs.Common.{◌≡◌, ℕ, zero, suc, ◌+◌, ◌*◌, ◌<◌, ◌≤◌, ◌%◌, Bool, true, false, ◌&&◌, ◌==◌, List, [], ◌∷◌, ◌++◌, length, drop, get_or, map, ℤ, pos, neg_ℤ, ◌+ℤ◌, ◌-ℤ◌, ◌≤ℤ◌, ◌<ℤ◌, int_le, refl, sym, ap, ap₂, ◌∙◌, arith, append_assoc, append-nil, eqb-true, eq-eqb, w32, w64, to_z, of_z}
use Rattle.std.specs.List.{list_all}
use mir.Val.{SFits}
use Rattle.std.proofs.lemmas.Int.{ints as int_facts, to_z-of_z}
use Rattle.std.proofs.lemmas.List.{drop_more}
use Rattle.evm_cells.specs.Limits.{is_point, is_point_coord, limit}
use Rattle.evm_cells.specs.Vertices.{IsVertexList}
use Rattle.evm_cells.specs.Shapes.{added, is_shift}
use Rattle.evm_cells.proofs.Xor.{and_first, and_second, and-false}
use Rattle.evm_cells.proofs.Coords.{le_is, le_no, point_is, limit-small}
use Rattle.evm_cells.proofs.Universe.{point_parts}
use Rattle.evm_cells.proofs.Slices.{all-coord}
use Rattle.evm_cells.proofs.Moves.{length-added}
use Rattle.evm_rows.specs.Rows.{rows_of, flat_of}
use Rattle.evm_rows.proofs.RowsOrder.{Wide, rows_of-flat_of, length-flat_of}
use Rattle.evm_rows.proofs.Bridge.{wide-points}
use native.Mathlib.Nat.{mul-mod_left}

-- the numbers of a shift
pub shift_parts : (n : ℕ) (d : List ℤ) → is_shift n d ≡ true → length d ≡ n
unfolding is_shift
shift_parts n d h = eqb-true (length d) n (and_first (length d == n) (list_all (λ a. int_le (neg_ℤ (pos (2 * limit n))) a && int_le a (pos (2 * limit n))) d) h)

pub shift_near : (n : ℕ) (d : List ℤ) (k : ℕ) → is_shift n d ≡ true → k < n → (neg_ℤ (pos (2 * limit n)) ≤ℤ get_or d k (pos 0)) × (get_or d k (pos 0) ≤ℤ pos (2 * limit n))
unfolding is_shift
shift_near n d k h l =
    let p : ℤ → Bool = λ a. int_le (neg_ℤ (pos (2 * limit n))) a && int_le a (pos (2 * limit n)) in
    let e : length d ≡ n = eqb-true (length d) n (and_first (length d == n) (list_all p d) h) in
    let a : p (get_or d k (pos 0)) ≡ true = all-coord p k d (omega arith) (and_second (length d == n) (list_all p d) h) in
    let x : ℤ = get_or d k (pos 0) in
    let b : neg_ℤ (pos (2 * limit n)) ≤ℤ x = le_is (neg_ℤ (pos (2 * limit n))) x (and_first (int_le (neg_ℤ (pos (2 * limit n))) x) (int_le x (pos (2 * limit n))) a) in
    let c : x ≤ℤ pos (2 * limit n) = le_is x (pos (2 * limit n)) (and_second (int_le (neg_ℤ (pos (2 * limit n))) x) (int_le x (pos (2 * limit n))) a) in
    (b, c)

-- the moved row from the axis k on
pub added-more : (d c : List ℤ) (k : ℕ) → k < length d → k < length c → added (drop k d) (drop k c) ≡ (get_or c k (pos 0) +ℤ get_or d k (pos 0)) ∷ added (drop (k + 1) d) (drop (k + 1) c)
unfolding added
added-more d c k l m = ap₂ added (drop_more d k (pos 0) l) (drop_more c k (pos 0) m)

added-none : (d : List ℤ) → added d [] ≡ []
unfolding added
added-none [] = refl
added-none (a ∷ d) = refl

pub added-end : (d c : List ℤ) (k : ℕ) → length c ≤ k → added (drop k d) (drop k c) ≡ []
added-end d c k l = ap (added (drop k d)) (drop-none c k l) ∙ added-none (drop k d)
  where
    drop-none : (xs : List ℤ) (k : ℕ) → length xs ≤ k → drop k xs ≡ []
    drop-none [] zero e = refl
    drop-none [] (suc k) e = refl
    drop-none (x ∷ xs) zero e = absurd (omega arith)
    drop-none (x ∷ xs) (suc k) e = drop-none xs k (omega arith)

-- ---- the test of limits

-- the coordinates from the axis k on
pub test_more : (n : ℕ) (d c : List ℤ) (k : ℕ) (t : Bool) → k < length d → k < length c → is_point_coord n (get_or c k (pos 0) +ℤ get_or d k (pos 0)) ≡ true
    → t ≡ list_all (is_point_coord n) (added (drop k d) (drop k c)) → t ≡ list_all (is_point_coord n) (added (drop (k + 1) d) (drop (k + 1) c))
test_more n d c k t l m p h = h ∙ ap (list_all (is_point_coord n)) (added-more d c k l m) ∙ ap (λ (b : Bool). b && list_all (is_point_coord n) (added (drop (k + 1) d) (drop (k + 1) c))) p

pub test_fails : (n : ℕ) (d c : List ℤ) (k : ℕ) (t : Bool) → k < length d → k < length c → is_point_coord n (get_or c k (pos 0) +ℤ get_or d k (pos 0)) ≡ false → t ≡ list_all (is_point_coord n) (added (drop k d) (drop k c)) → false ≡ t
test_fails n d c k t l m p h = sym (h ∙ ap (list_all (is_point_coord n)) (added-more d c k l m) ∙ ap (λ (b : Bool). b && list_all (is_point_coord n) (added (drop (k + 1) d) (drop (k + 1) c))) p)

pub test_passes : (n : ℕ) (d c : List ℤ) (k : ℕ) (t : Bool) → length c ≤ k → t ≡ list_all (is_point_coord n) (added (drop k d) (drop k c)) → true ≡ t
test_passes n d c k t l h = sym (h ∙ ap (list_all (is_point_coord n)) (added-end d c k l))

-- the moved row has its length, so that it is a point is a matter of its coordinates
pub point-added : (n : ℕ) (d c : List ℤ) → length d ≡ n → length c ≡ n → is_point n (added d c) ≡ list_all (is_point_coord n) (added d c)
unfolding is_point
point-added n d c l e = ap (λ (b : Bool). b && list_all (is_point_coord n) (added d c)) (eq-eqb (length (added d c)) n (length-added d c (l ∙ sym e) ∙ e))

coord_no : (n : ℕ) (x : ℤ) → (x <ℤ neg_ℤ (pos (limit n))) → is_point_coord n x ≡ false
unfolding is_point_coord
coord_no n x l = ap (λ (b : Bool). b && int_le x (pos (limit n))) (le_no (neg_ℤ (pos (limit n))) x l)

pub coord_low : (n : ℕ) (x : ℤ) → x <ℤ neg_ℤ (pos (limit n)) → is_point_coord n x ≡ false
coord_low n x l = coord_no n x l

pub coord_high : (n : ℕ) (x : ℤ) → pos (limit n) <ℤ x → is_point_coord n x ≡ false
unfolding is_point_coord
coord_high n x l = ap (λ (b : Bool). int_le (neg_ℤ (pos (limit n))) x && b) (le_no x (pos (limit n)) l) ∙ and-false (int_le (neg_ℤ (pos (limit n))) x)

-- ---- rows

pub added_rows : (n : ℕ) (d : List ℤ) (V : List (List ℤ)) (flat : List ℤ) → 0 < n → length d ≡ n → IsVertexList n V → flat ≡ flat_of (map (added d) V) → (length flat % n ≡ 0) × (rows_of flat n 0 ≡ map (added d) V)
added_rows n d V flat some l v f =
    let w : Wide n (map (added d) V) = wide-added n d V l (wide-points n V v.points) in (
      ap (λ (z : List ℤ). length z % n) f ∙ ap (λ (j : ℕ). j % n) (length-flat_of n (map (added d) V) w) ∙ mul-mod_left (length (map (added d) V)) n,
      ap (λ (z : List ℤ). rows_of z n 0) f ∙ rows_of-flat_of n (map (added d) V) some w,
    )
  where
    wide-added : (n : ℕ) (d : List ℤ) (V : List (List ℤ)) → length d ≡ n → Wide n V → Wide n (map (added d) V)
    wide-added n d [] l w = tt
    wide-added n d (p ∷ V) l w = (let e = w.0 in length-added d p (l ∙ sym e) ∙ e, wide-added n d V l w.1)

-- a number of 64 bits, cast to its bits and back
pub same64 : (z : ℤ) → SFits w64 z → to_z w64 (of_z w64 z) ≡ z
same64 z fits = to_z-of_z w64 z fits

-- the sum of a coordinate of 32 bits and a number of a shift
pub sum_fits : (n : ℕ) (x y : ℤ) → SFits w32 x → neg_ℤ (pos (2 * limit n)) ≤ℤ y → y ≤ℤ pos (2 * limit n) → SFits w64 (x +ℤ y)
sum_fits n x y f a b = let m = limit-small n in grind (arith, int_facts)

-- the test of one coordinate
pub within_low : (n : ℕ) (x l : ℤ) → l ≡ pos (limit n) → int_le (pos 0 -ℤ l) x ≡ true → int_le x l ≡ is_point_coord n x
unfolding is_point_coord
within_low n x l e h =
    let f : pos 0 -ℤ l ≡ neg_ℤ (pos (limit n)) = omega (arith, int_facts) in
    ap (int_le x) e ∙ sym (ap (λ (b : Bool). b && int_le x (pos (limit n))) (ap (λ (z : ℤ). int_le z x) (sym f) ∙ h))

pub within_no : (n : ℕ) (x l : ℤ) → l ≡ pos (limit n) → int_le (pos 0 -ℤ l) x ≡ false → false ≡ is_point_coord n x
unfolding is_point_coord
within_no n x l e h =
    let f : pos 0 -ℤ l ≡ neg_ℤ (pos (limit n)) = omega (arith, int_facts) in
    sym (ap (λ (b : Bool). b && int_le x (pos (limit n))) (ap (λ (z : ℤ). int_le z x) (sym f) ∙ h))

pub limit_fits : (n : ℕ) (l : ℤ) → l ≡ pos (limit n) → SFits w64 l × SFits w64 (pos 0 -ℤ l)
limit_fits n l e = let m = limit-small n in (grind (arith, int_facts), grind (arith, int_facts))

-- ---- the steps of the loops

-- one row more is tested
pub rows_more : (n : ℕ) (d : List ℤ) (t : Bool) (p : List ℤ) (R rest : List (List ℤ)) → R ≡ p ∷ rest → is_point n (added d p) ≡ true → t ≡ list_all (is_point n) (map (added d) R) → t ≡ list_all (is_point n) (map (added d) rest)
rows_more n d t p R rest r h e = e ∙ ap (λ (V : List (List ℤ)). list_all (is_point n) (map (added d) V)) r ∙ ap (λ (b : Bool). b && list_all (is_point n) (map (added d) rest)) h

pub rows_fail : (n : ℕ) (d : List ℤ) (t : Bool) (p : List ℤ) (R rest : List (List ℤ)) → R ≡ p ∷ rest → is_point n (added d p) ≡ false → t ≡ list_all (is_point n) (map (added d) R) → false ≡ t
rows_fail n d t p R rest r h e = sym (e ∙ ap (λ (V : List (List ℤ)). list_all (is_point n) (map (added d) V)) r ∙ ap (λ (b : Bool). b && list_all (is_point n) (map (added d) rest)) h)

pub rows_pass : (n : ℕ) (d : List ℤ) (t : Bool) (R : List (List ℤ)) → R ≡ [] → t ≡ list_all (is_point n) (map (added d) R) → true ≡ t
rows_pass n d t R r e = sym (e ∙ ap (λ (V : List (List ℤ)). list_all (is_point n) (map (added d) V)) r)

-- the first of rows that fit fits, and so do the others
pub first_fits : (n : ℕ) (d p : List ℤ) (R rest : List (List ℤ)) → R ≡ p ∷ rest → list_all (is_point n) (map (added d) R) ≡ true → (is_point n (added d p) ≡ true) × (list_all (is_point n) (map (added d) rest) ≡ true)
first_fits n d p R rest r h =
    let e : list_all (is_point n) (map (added d) (p ∷ rest)) ≡ true = ap (λ (V : List (List ℤ)). list_all (is_point n) (map (added d) V)) (sym r) ∙ h in
    (and_first (is_point n (added d p)) (list_all (is_point n) (map (added d) rest)) e, and_second (is_point n (added d p)) (list_all (is_point n) (map (added d) rest)) e)

-- one coordinate more is written
pub coord_fits : (n : ℕ) (d c : List ℤ) (k : ℕ) → k < length d → k < length c → list_all (is_point_coord n) (added (drop k d) (drop k c)) ≡ true
    → (is_point_coord n (get_or c k (pos 0) +ℤ get_or d k (pos 0)) ≡ true) × (list_all (is_point_coord n) (added (drop (k + 1) d) (drop (k + 1) c)) ≡ true)
coord_fits n d c k l m h =
    let e : list_all (is_point_coord n) ((get_or c k (pos 0) +ℤ get_or d k (pos 0)) ∷ added (drop (k + 1) d) (drop (k + 1) c)) ≡ true = ap (list_all (is_point_coord n)) (sym (added-more d c k l m)) ∙ h in
    let x : ℤ = get_or c k (pos 0) +ℤ get_or d k (pos 0) in
    (and_first (is_point_coord n x) (list_all (is_point_coord n) (added (drop (k + 1) d) (drop (k + 1) c))) e, and_second (is_point_coord n x) (list_all (is_point_coord n) (added (drop (k + 1) d) (drop (k + 1) c))) e)

pub coord_32 : (n : ℕ) (x : ℤ) → is_point_coord n x ≡ true → SFits w32 x
coord_32 n x h = let (a, b) = point_is n x h in let m = limit-small n in grind (arith, int_facts)

pub written_more : (d c : List ℤ) (k : ℕ) (out new all : List ℤ) → k < length d → k < length c → new ≡ out ++ (get_or c k (pos 0) +ℤ get_or d k (pos 0)) ∷ [] → out ++ added (drop k d) (drop k c) ≡ all → new ++ added (drop (k + 1) d) (drop (k + 1) c) ≡ all
written_more d c k out new all l m n h =
    let x : ℤ = get_or c k (pos 0) +ℤ get_or d k (pos 0) in
    let rest : List ℤ = added (drop (k + 1) d) (drop (k + 1) c) in
    ap (λ (z : List ℤ). z ++ rest) n ∙ append_assoc out (x ∷ []) rest ∙ ap (λ (z : List ℤ). out ++ z) (sym (added-more d c k l m)) ∙ h

pub written_all : (d c : List ℤ) (k : ℕ) (out all : List ℤ) → length c ≤ k → out ++ added (drop k d) (drop k c) ≡ all → out ≡ all
written_all d c k out all l h = sym (append-nil out) ∙ ap (λ (z : List ℤ). out ++ z) (sym (added-end d c k l)) ∙ h

pub point_coords_of : (n : ℕ) (p : List ℤ) → is_point n p ≡ true → list_all (is_point_coord n) p ≡ true
point_coords_of n p h = let (e, a) = point_parts n p h in a
