-- The rows of boxes that stand apart, where equal rows cancel in pairs, are the extreme vertices of the union.
use Rattle.std.proofs.Common.{◌≡◌, ℕ, ◌+◌, ◌≤◌, ◌==◌, Bool, true, false, cond, ◌&&◌, ◌||◌, ℤ, List, [], ◌∷◌, count_by, if◌then◌else◌, refl, sym, ap, ◌∙◌, subst, arith}
use Rattle.evm_cells.specs.Places.{has, same}
use Rattle.evm_cells.specs.Limits.{IsCellSet}
use Rattle.evm_cells.specs.Booleans.{xor, xor_cells, or_cells}
use Rattle.evm_cells.specs.Unions.{Ends, union_of}
use Rattle.evm_cells.specs.Vertices.{evm}
use Rattle.evm_cells.specs.Windows.{IsReduced}
use Rattle.evm_cells.proofs.Xor.{xsum, xsum-nil, xsum-cons, xsum-same, odd-count, or-xor}
use Rattle.evm_cells.proofs.Sum.{xsum-flat_map}
use Rattle.evm_cells.proofs.Combine.{cell_set-xor, has-xor_cells, has-evm-xor}
use Rattle.evm_cells.proofs.Corners.{cell_set-box}
use Rattle.evm_cells.proofs.Layers.{evm-empty}
use Rattle.evm_cells.proofs.Booleans.{by_cells}
use Rattle.evm_cells.proofs.Moves.{by_place}
use Rattle.evm_cells.proofs.Unions.{cell_set-union, no_boxes, one_box, two_unions}
use Rattle.evm_cells.proofs.Universe.{same_sets, xsum-same_place, ascending-evm}
use Rattle.evm_partition.specs.Partition.{partition}
use Rattle.evm_partition.proofs.Once.{bit, count-cons, cells_stand_once}
use Rattle.evm_parts.specs.Labels.{labelled}
use Rattle.evm_parts.specs.PartRows.{cells_in, rows_of_boxes, AreApart}

-- ---- how many boxes a cell stands in

holds : ℕ → List ℤ → Ends → Bool
holds n c b = has (cells_in n b) c

at_most_one : (b : Bool) → (if b then 1 else 0) ≤ 1
at_most_one true = omega arith
at_most_one false = omega arith

-- the boxes of the stated partition stand apart
pub partition_apart : (n : ℕ) (S : List (List ℤ)) → IsCellSet n S → AreApart n (partition n S)
partition_apart n S s = record { once = λ c. subst (λ k. k ≤ 1) (sym (cells_stand_once n S c s)) (at_most_one (has S c)) }

count_labelled : (p : Ends → Bool) (root : ℕ) (labels : List ℕ) (boxes : List Ends) → count_by p (labelled root labels boxes) ≤ count_by p boxes
unfolding labelled
count_labelled p root [] boxes = omega arith
count_labelled p root (x ∷ labels) [] = omega arith
count_labelled p root (x ∷ labels) (b ∷ boxes) = at (x == root) (labelled root labels boxes) (count_labelled p root labels boxes)
  where
    at : (c : Bool) (bs : List Ends) → count_by p bs ≤ count_by p boxes → count_by p (cond c (b ∷ bs) bs) ≤ count_by p (b ∷ boxes)
    at true bs h = let u = count-cons p b bs in let v = count-cons p b boxes in omega (arith, u, v, h)
    at false bs h = let v = count-cons p b boxes in omega (arith, v, h)

-- some of the boxes stand apart
pub labelled_apart : (n root : ℕ) (labels : List ℕ) (boxes : List Ends) → AreApart n boxes → AreApart n (labelled root labels boxes)
labelled_apart n root labels boxes a = record {
  once = λ c. let p = λ (b : Ends). has (cells_in n b) c in let u = count_labelled p root labels boxes in let v = a.once c in omega (arith, u, v);
}

pub rest_apart : (n : ℕ) (b : Ends) (boxes : List Ends) → AreApart n (b ∷ boxes) → AreApart n boxes
rest_apart n b boxes a = record {
  once = λ c. let p = λ (d : Ends). has (cells_in n d) c in let u = count-cons p b boxes in let v = a.once c in omega (arith, u, v);
}

-- ---- unions

has-first : (n : ℕ) (b : Ends) (boxes : List Ends) (c : List ℤ) → has (union_of n (b ∷ boxes)) c ≡ (has (cells_in n b) c || has (union_of n boxes) c)
has-first n b boxes c =
    ap (λ (A : List (List ℤ)). has A c) (sym (two_unions n (b ∷ []) boxes) ∙ ap (λ (A : List (List ℤ)). or_cells n A (union_of n boxes)) (one_box n b))
    ∙ (by_cells n (cells_in n b) (union_of n boxes) c (cell_set-box n b.lo b.hi) (cell_set-union n boxes)).0

has-none : (c : List ℤ) → has [] c ≡ false
unfolding has
has-none c = refl

-- a cell that stands in no box is not in the union
pub in_none : (n : ℕ) (boxes : List Ends) (c : List ℤ) → count_by (λ b. has (cells_in n b) c) boxes ≡ 0 → has (union_of n boxes) c ≡ false
in_none n [] c h = ap (λ (A : List (List ℤ)). has A c) (no_boxes n) ∙ has-none c
in_none n (b ∷ boxes) c h =
    let p = λ (d : Ends). has (cells_in n d) c in
    has-first n b boxes c ∙ at (p b) (count-cons p b boxes) (in_none n boxes c)
  where
    at : (t : Bool) → count_by (λ d. has (cells_in n d) c) (b ∷ boxes) ≡ bit t + count_by (λ d. has (cells_in n d) c) boxes
        → (count_by (λ d. has (cells_in n d) c) boxes ≡ 0 → has (union_of n boxes) c ≡ false) → (t || has (union_of n boxes) c) ≡ false
    at true u f = absurd (omega (arith, u, h))
    at false u f = f (omega (arith, u, h))

-- the first box has no cell of the union of the others
not_both : (n : ℕ) (b : Ends) (boxes : List Ends) (c : List ℤ) → AreApart n (b ∷ boxes) → (has (cells_in n b) c && has (union_of n boxes) c) ≡ false
not_both n b boxes c a =
    let p = λ (d : Ends). has (cells_in n d) c in
    at (p b) (count-cons p b boxes)
  where
    at : (t : Bool) → count_by (λ d. has (cells_in n d) c) (b ∷ boxes) ≡ bit t + count_by (λ d. has (cells_in n d) c) boxes → (t && has (union_of n boxes) c) ≡ false
    at true u = let v = a.once c in in_none n boxes c (omega (arith, u, v))
    at false u = refl

pub union_is_xor : (n : ℕ) (b : Ends) (boxes : List Ends) → AreApart n (b ∷ boxes) → xor_cells n (cells_in n b) (union_of n boxes) ≡ union_of n (b ∷ boxes)
union_is_xor n b boxes a =
    let x = cell_set-xor n (cells_in n b) (union_of n boxes) in
    let u = cell_set-union n (b ∷ boxes) in
    same_sets (xor_cells n (cells_in n b) (union_of n boxes)) (union_of n (b ∷ boxes)) x.ascends u.ascends
    (λ c. has-xor_cells n (cells_in n b) (union_of n boxes) c (cell_set-box n b.lo b.hi) (cell_set-union n boxes)
    ∙ sym (has-first n b boxes c ∙ or-xor (has (cells_in n b) c) (has (union_of n boxes) c) (not_both n b boxes c a)))

-- a point is an extreme vertex of the union where it is one of an odd number of the boxes
odd_boxes : (n : ℕ) (boxes : List Ends) (p : List ℤ) → AreApart n boxes → xsum (λ b. has (evm n (cells_in n b)) p) boxes ≡ has (evm n (union_of n boxes)) p
odd_boxes n [] p a =
    xsum-nil (λ b. has (evm n (cells_in n b)) p) ∙ sym (ap (λ (A : List (List ℤ)). has (evm n A) p) (no_boxes n) ∙ ap (λ (V : List (List ℤ)). has V p) (evm-empty n) ∙ has-none p)
odd_boxes n (b ∷ boxes) p a =
    xsum-cons (λ d. has (evm n (cells_in n d)) p) b boxes
    ∙ ap (xor (has (evm n (cells_in n b)) p)) (odd_boxes n boxes p (rest_apart n b boxes a))
    ∙ sym (has-evm-xor n (cells_in n b) (union_of n boxes) p (cell_set-box n b.lo b.hi) (cell_set-union n boxes))
    ∙ ap (λ (A : List (List ℤ)). has (evm n A) p) (union_is_xor n b boxes a)

pub reduced_is : (n : ℕ) (boxes : List Ends) (W : List (List ℤ)) → AreApart n boxes → IsReduced n (rows_of_boxes n boxes) W → W ≡ evm n (union_of n boxes)
reduced_is n boxes W a r =
    by_place n (union_of n boxes) W (cell_set-union n boxes) r.ascends r.wide
    (λ p e.
    let f = λ (q : List ℤ). same q p in
    r.odd_times p ∙ odd-count f (rows_of_boxes n boxes) ∙ xsum-flat_map f (λ b. evm n (cells_in n b)) boxes
    ∙ xsum-same (λ b. xsum f (evm n (cells_in n b))) (λ b. has (evm n (cells_in n b)) p) (λ b. xsum-same_place (evm n (cells_in n b)) p (ascending-evm n (cells_in n b))) boxes
    ∙ odd_boxes n boxes p a)
