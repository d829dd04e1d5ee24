-- Boxes and their numbers.
use Rattle.std.proofs.Common.{◌≡◌, ℕ, ◌+◌, ◌*◌, ◌<◌, ◌≤◌, List, [], ◌∷◌, ◌++◌, map, length, take, drop, get_or, ℤ, refl, sym, ap, ap₂, ◌∙◌, subst, arith, length-append, append_assoc, All}
use Rattle.std.proofs.Math.Nat.{mul-mod_left, mul-le-mul_left}
use Rattle.std.proofs.Math.Seq.{take-append_seam, drop-append_seam}
use Rattle.std.proofs.lemmas.List.{length-map, get_or-map}
use Rattle.std.proofs.lemmas.List.Elements.{All-head, All-tail}
use Rattle.evm_cells.specs.Boxes.{IsBox}
use Rattle.evm_cells.specs.Unions.{Ends}
use Rattle.evm_cells.proofs.Universe.{point_parts}
use Rattle.evm_rows.specs.Rows.{rows_of, flat_of}
use Rattle.evm_rows.proofs.RowsOrder.{Wide, rows_of-flat_of, length-flat_of}
use Rattle.evm_rows.proofs.RowsPlaces.{length-rows_of, row-within, get_or-rows_of}
use Rattle.evm_partition.specs.BoxLists.{AreBoxes, box_of, boxes_of, numbers_of}

-- the numbers of a box
row : Ends → List ℤ
row b = b.lo ++ b.hi

numbers-rows : (bs : List Ends) → numbers_of bs ≡ flat_of (map row bs)
unfolding row
numbers-rows [] = refl
numbers-rows (b ∷ bs) = ap (λ t. b.lo ++ b.hi ++ t) (numbers-rows bs)

pub numbers-append : (xs ys : List Ends) → numbers_of (xs ++ ys) ≡ numbers_of xs ++ numbers_of ys
numbers-append [] ys = refl
numbers-append (a ∷ xs) ys = ap (λ t. a.lo ++ a.hi ++ t) (numbers-append xs ys) ∙ sym (append_assoc (a.lo ++ a.hi) (numbers_of xs) (numbers_of ys))

wide : (n : ℕ) (bs : List Ends) → All (λ b. IsBox n b.lo b.hi) bs → Wide (2 * n) (map row bs)
unfolding row
wide n [] h = tt
wide n (b ∷ bs) h =
    let x = All-head (λ b. IsBox n b.lo b.hi) b bs h in
    let (e, u) = point_parts n b.lo x.low in
    let (f, v) = point_parts n b.hi x.high in
    let g = length-append b.lo b.hi in
    (omega arith, wide n bs (All-tail (λ b. IsBox n b.lo b.hi) b bs h))

boxes-rows : (n : ℕ) (bs : List Ends) → All (λ b. IsBox n b.lo b.hi) bs → map (box_of n) (map row bs) ≡ bs
unfolding row
boxes-rows n [] h = refl
boxes-rows n (b ∷ bs) h =
    let x = All-head (λ b. IsBox n b.lo b.hi) b bs h in
    let (e, u) = point_parts n b.lo x.low in
    let l : take n (b.lo ++ b.hi) ≡ b.lo = ap (λ m. take m (b.lo ++ b.hi)) (sym e) ∙ take-append_seam b.lo b.hi in
    let r : drop n (b.lo ++ b.hi) ≡ b.hi = ap (λ m. drop m (b.lo ++ b.hi)) (sym e) ∙ drop-append_seam b.lo b.hi in
    ap₂ (λ y ys. y ∷ ys) (λ i. record { lo = l i; hi = r i }) (boxes-rows n bs (All-tail (λ b. IsBox n b.lo b.hi) b bs h))

-- the boxes of their numbers are the boxes
pub boxes_again : (n : ℕ) (bs : List Ends) → 0 < n → All (λ b. IsBox n b.lo b.hi) bs → boxes_of n (numbers_of bs) ≡ bs
boxes_again n bs some h =
    ap (λ t. map (box_of n) (rows_of t (2 * n) 0)) (numbers-rows bs)
    ∙ ap (map (box_of n)) (rows_of-flat_of (2 * n) (map row bs) (omega arith) (wide n bs h))
    ∙ boxes-rows n bs h

pub are_boxes : (n : ℕ) (flat : List ℤ) (bs : List Ends) → 0 < n → n ≤ 6 → All (λ b. IsBox n b.lo b.hi) bs → flat ≡ numbers_of bs → AreBoxes n flat
are_boxes n flat bs some few h e = record {
  low = some;
  high = few;
  whole = rw (ap length (e ∙ numbers-rows bs) ∙ length-flat_of (2 * n) (map row bs) (wide n bs h)) (mul-mod_left (length (map row bs)) (2 * n));
  boxes = let P : List Ends → Type 0 = λ t. All (λ b. IsBox n b.lo b.hi) t in subst P (sym (ap (boxes_of n) e ∙ boxes_again n bs some h)) h;
}

-- ---- their places

pub count_boxes : (n : ℕ) (flat : List ℤ) → AreBoxes n flat → length (boxes_of n flat) * (2 * n) ≡ length flat
count_boxes n flat b =
    let l = b.low in
    ap (λ m. m * (2 * n)) (length-map (rows_of flat (2 * n) 0) (box_of n)) ∙ length-rows_of flat (2 * n) 0 (omega arith) b.whole

pub box_within : (n k : ℕ) (flat : List ℤ) → AreBoxes n flat → k < length (boxes_of n flat) → k * (2 * n) + 2 * n ≤ length flat
box_within n k flat b l = row-within k (length (boxes_of n flat)) (2 * n) (length flat) l (count_boxes n flat b)

pub box_at : (n k : ℕ) (flat : List ℤ) (d : Ends) → AreBoxes n flat → k < length (boxes_of n flat) → get_or (boxes_of n flat) k d ≡ box_of n (take (2 * n) (drop (k * (2 * n)) flat))
box_at n k flat d b l =
    let q = box_within n k flat b l in
    let some = b.low in
    let e = length-map (rows_of flat (2 * n) 0) (box_of n) in
    get_or-map (box_of n) (rows_of flat (2 * n) 0) k [] d (omega (arith, e, l))
    ∙ ap (box_of n) (get_or-rows_of k flat (2 * n) 0 (omega arith) q)

pub next_place : (k w : ℕ) → (k + 1) * w ≡ k * w + w
next_place k w = omega arith

pub place_width : (k n : ℕ) → 0 < n → k < k * (2 * n) + 2 * n
place_width k n l = let h : 1 ≤ 2 * n = omega arith in omega (arith, mul-le-mul_left k h)

-- a list of boxes has a box at each place
pub is_box_at : (n k : ℕ) (flat lo hi : List ℤ) → AreBoxes n flat → k < length (boxes_of n flat) → ((d : Ends) → get_or (boxes_of n flat) k d ≡ record { lo = lo; hi = hi }) → IsBox n lo hi
is_box_at n k flat lo hi b l e =
    let none : Ends = record { lo = []; hi = [] } in
    subst (λ (x : Ends). IsBox n x.lo x.hi) (e none) (b.boxes k none l)

pub box_is_long : (n : ℕ) (lo hi : List ℤ) → 0 < n → IsBox n lo hi → 0 < length lo
box_is_long n lo hi some b = let (e, u) = point_parts n lo b.low in omega arith
