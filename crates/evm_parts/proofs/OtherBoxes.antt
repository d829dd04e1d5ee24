-- The boxes of a label, as what the others leave.
use Rattle.std.proofs.Common.{◌≡◌, ℕ, zero, suc, ◌+◌, ◌<◌, ◌≤◌, ◌==◌, ⊎_elim, Bool, true, false, cond, ℤ, List, [], ◌∷◌, ◌++◌, length, take, count_by, refl, sym, ap, ◌∙◌, arith, append-nil}
use Rattle.std.proofs.lemmas.Grind.{flat_map-append}
use Rattle.std.proofs.lemmas.List.{take_all}
use Rattle.std.proofs.lemmas.Bool.Decides.{eqb_tells}
use Rattle.evm_cells.specs.Places.{has}
use Rattle.evm_cells.specs.Booleans.{xor, xor_cells}
use Rattle.evm_cells.specs.Unions.{Ends, union_of}
use Rattle.evm_cells.specs.Vertices.{evm, cells}
use Rattle.evm_cells.proofs.Xor.{xor-false, xor_self, xor_comm, xor_assoc}
use Rattle.evm_cells.proofs.Combine.{cell_set-xor, has-xor_cells}
use Rattle.evm_cells.proofs.Core.{cells-evm}
use Rattle.evm_cells.proofs.Corners.{cell_set-box}
use Rattle.evm_cells.proofs.Unions.{cell_set-union}
use Rattle.evm_cells.proofs.Universe.{same_sets}
use Rattle.evm_partition.proofs.Once.{count-cons}
use Rattle.evm_rows.specs.Rows.{flat_of, combined_rows, xor_rows}
use Rattle.evm_rows.proofs.BoxTests.{flat_of-append}
use Rattle.evm_parts.specs.Labels.{box_at, label_at, labelled, unlabelled}
use Rattle.evm_parts.specs.PartRows.{cells_in, rows_of_boxes, part_at, AreApart}
use Rattle.evm_parts.proofs.Apart.{labelled_apart, rest_apart, in_none, union_is_xor}

-- ---- the other boxes stand apart

count_others : (p : Ends → Bool) (root : ℕ) (labels : List ℕ) (boxes : List Ends) → count_by p (unlabelled root labels boxes) ≤ count_by p boxes
unfolding unlabelled
count_others p root [] boxes = omega arith
count_others p root (x ∷ labels) [] = omega arith
count_others p root (x ∷ labels) (b ∷ boxes) = at (x == root) (count_others p root labels boxes)
  where
    at : (c : Bool) → count_by p (unlabelled root labels boxes) ≤ count_by p boxes
        → count_by p (cond c (unlabelled root labels boxes) (b ∷ unlabelled root labels boxes)) ≤ count_by p (b ∷ boxes)
    at true h = let v = count-cons p b boxes in omega (arith, v, h)
    at false h = let u = count-cons p b (unlabelled root labels boxes) in let v = count-cons p b boxes in omega (arith, u, v, h)

pub others_apart : (n root : ℕ) (labels : List ℕ) (boxes : List Ends) → AreApart n boxes → AreApart n (unlabelled root labels boxes)
others_apart n root labels boxes a = record {
  once = λ c. let u = count_others (λ (b : Ends). has (cells_in n b) c) root labels boxes in let v = a.once c in omega (arith, u, v);
}

-- ---- a cell of the boxes is either in one of the label or in one of the others

has-more : (n : ℕ) (b : Ends) (boxes : List Ends) (c : List ℤ) → AreApart n (b ∷ boxes) → has (union_of n (b ∷ boxes)) c ≡ xor (has (cells_in n b) c) (has (union_of n boxes) c)
has-more n b boxes c a =
    ap (λ (A : List (List ℤ)). has A c) (sym (union_is_xor n b boxes a))
    ∙ has-xor_cells n (cells_in n b) (union_of n boxes) c (cell_set-box n b.lo b.hi) (cell_set-union n boxes)

two_sides : (n root : ℕ) (labels : List ℕ) (boxes : List Ends) (c : List ℤ) → length labels ≡ length boxes → AreApart n boxes
    → has (union_of n boxes) c ≡ xor (has (union_of n (labelled root labels boxes)) c) (has (union_of n (unlabelled root labels boxes)) c)
unfolding labelled unlabelled
two_sides n root [] [] c e a = in_none n [] c refl ∙ sym (xor_self (has (union_of n []) c))
two_sides n root [] (b ∷ boxes) c e a = absurd (omega (arith, e))
two_sides n root (x ∷ labels) [] c e a = absurd (omega (arith, e))
two_sides n root (x ∷ labels) (b ∷ boxes) c e a =
    at (x == root) (labelled_apart n root (x ∷ labels) (b ∷ boxes) a) (others_apart n root (x ∷ labels) (b ∷ boxes) a)
    (has-more n b boxes c a ∙ ap (xor (has (cells_in n b) c)) (two_sides n root labels boxes c (omega (arith, e)) (rest_apart n b boxes a)))
  where
    L : List Ends
    L = labelled root labels boxes

    O : List Ends
    O = unlabelled root labels boxes

    hb : Bool
    hb = has (cells_in n b) c

    hl : Bool
    hl = has (union_of n L) c

    ho : Bool
    ho = has (union_of n O) c

    at : (t : Bool) → AreApart n (cond t (b ∷ L) L) → AreApart n (cond t O (b ∷ O)) → has (union_of n (b ∷ boxes)) c ≡ xor hb (xor hl ho)
        → has (union_of n (b ∷ boxes)) c ≡ xor (has (union_of n (cond t (b ∷ L) L)) c) (has (union_of n (cond t O (b ∷ O))) c)
    at true l o whole = whole ∙ sym (xor_assoc hb hl ho) ∙ ap (λ t. xor t ho) (sym (has-more n b L c l))
    at false l o whole = whole ∙ sym (xor_assoc hb hl ho) ∙ ap (λ t. xor t ho) (xor_comm hb hl) ∙ xor_assoc hl hb ho ∙ ap (xor hl) (sym (has-more n b O c o))

left_over : (n root : ℕ) (labels : List ℕ) (boxes : List Ends) → length labels ≡ length boxes → AreApart n boxes
    → xor_cells n (union_of n boxes) (union_of n (unlabelled root labels boxes)) ≡ union_of n (labelled root labels boxes)
left_over n root labels boxes e a =
    let U = union_of n boxes in
    let L = union_of n (labelled root labels boxes) in
    let O = union_of n (unlabelled root labels boxes) in
    let x = cell_set-xor n U O in
    let l = cell_set-union n (labelled root labels boxes) in
    same_sets (xor_cells n U O) L x.ascends l.ascends
    (λ c.
    has-xor_cells n U O c (cell_set-union n boxes) (cell_set-union n (unlabelled root labels boxes))
    ∙ ap (λ t. xor t (has O c)) (two_sides n root labels boxes c e a)
    ∙ xor_assoc (has L c) (has O c) (has O c) ∙ ap (xor (has L c)) (xor_self (has O c)) ∙ xor-false (has L c))

-- the rows of a part, from those of the solid and of the others
pub remainder_is : (n root : ℕ) (labels : List ℕ) (boxes : List Ends) (V W Z : List (List ℤ)) → length labels ≡ length boxes → AreApart n boxes → union_of n boxes ≡ cells n V
    → W ≡ evm n (union_of n (unlabelled root labels boxes)) → Z ≡ xor_rows n V W → Z ≡ part_at n boxes labels root
unfolding xor_rows combined_rows xor_cells
remainder_is n root labels boxes V W Z e a u w z =
    let O = union_of n (unlabelled root labels boxes) in
    z
    ∙ ap (λ (T : List (List ℤ)). evm n (xor_cells n T (cells n W))) (sym u)
    ∙ ap (λ (T : List (List ℤ)). evm n (xor_cells n (union_of n boxes) T)) (ap (cells n) w ∙ cells-evm n O (cell_set-union n (unlabelled root labels boxes)))
    ∙ ap (evm n) (left_over n root labels boxes e a)

-- ---- the rows of the others, gathered box after box

-- the box unless it has the label
abbrev unless_labelled : ℕ → ℕ → Ends → List Ends
unless_labelled root label b = cond (label == root) [] (b ∷ [])

others_more : (root i : ℕ) (labels : List ℕ) (boxes : List Ends) → i < length labels → i < length boxes
    → unlabelled root (take (suc i) labels) (take (suc i) boxes) ≡ unlabelled root (take i labels) (take i boxes) ++ unless_labelled root (label_at labels i) (box_at boxes i)
unfolding unlabelled
others_more root i [] boxes l m = absurd (omega (arith, l))
others_more root i (x ∷ labels) [] l m = absurd (omega (arith, m))
others_more root zero (x ∷ labels) (b ∷ boxes) l m = at (x == root)
  where
    at : (c : Bool) → cond c [] (b ∷ []) ≡ [] ++ cond c [] (b ∷ [])
    at c = refl
others_more root (suc i) (x ∷ labels) (b ∷ boxes) l m =
    at (x == root) (unlabelled root (take (suc i) labels) (take (suc i) boxes)) (unlabelled root (take i labels) (take i boxes)) (unless_labelled root (label_at labels i) (box_at boxes i))
    (others_more root i labels boxes (omega (arith, l)) (omega (arith, m)))
  where
    at : (c : Bool) (xs ys zs : List Ends) → xs ≡ ys ++ zs → cond c xs (b ∷ xs) ≡ cond c ys (b ∷ ys) ++ zs
    at true xs ys zs e = e
    at false xs ys zs e = ap (λ us. b ∷ us) e

-- the rows of the others among the first boxes
abbrev pub others_to : ℕ → ℕ → List ℕ → List Ends → ℕ → List ℤ
others_to n root labels boxes i = flat_of (rows_of_boxes n (unlabelled root (take i labels) (take i boxes)))

pub others_start : (n root : ℕ) (labels : List ℕ) (boxes : List Ends) → others_to n root labels boxes 0 ≡ []
unfolding unlabelled
others_start n root [] boxes = refl
others_start n root (x ∷ labels) boxes = refl

grown : (n root : ℕ) (labels : List ℕ) (boxes : List Ends) (i : ℕ) → i < length labels → length labels ≡ length boxes
    → others_to n root labels boxes (i + 1) ≡ others_to n root labels boxes i ++ flat_of (rows_of_boxes n (unless_labelled root (label_at labels i) (box_at boxes i)))
grown n root labels boxes i l many =
    let next : i + 1 ≡ suc i = omega arith in
    ap (others_to n root labels boxes) next
    ∙ ap (λ bs. flat_of (rows_of_boxes n bs)) (others_more root i labels boxes l (omega (arith, l, many)))
    ∙ ap flat_of (flat_map-append (λ c. evm n (cells_in n c)) (unlabelled root (take i labels) (take i boxes)) (unless_labelled root (label_at labels i) (box_at boxes i)))
    ∙ flat_of-append (rows_of_boxes n (unlabelled root (take i labels) (take i boxes))) (rows_of_boxes n (unless_labelled root (label_at labels i) (box_at boxes i)))

-- a box that does not have the label
pub others_next : (n root : ℕ) (labels : List ℕ) (boxes : List Ends) (i : ℕ) → i < length labels → length labels ≡ length boxes → (label_at labels i ≡ root → ⊥)
    → others_to n root labels boxes (i + 1) ≡ others_to n root labels boxes i ++ flat_of (evm n (cells_in n (box_at boxes i)))
others_next n root labels boxes i l many other =
    let b : Ends = box_at boxes i in
    grown n root labels boxes i l many
    ∙ ⊎_elim
    (λ u. absurd (other u.1))
    (λ u.
    ap (λ xs. others_to n root labels boxes i ++ xs)
    (ap (λ t. flat_of (rows_of_boxes n (cond t [] (b ∷ [])))) u.0 ∙ ap flat_of (append-nil (evm n (cells_in n b)))))
    (eqb_tells (label_at labels i) root)

-- a box that has it
pub others_same : (n root : ℕ) (labels : List ℕ) (boxes : List Ends) (i : ℕ) → i < length labels → length labels ≡ length boxes → label_at labels i ≡ root
    → others_to n root labels boxes (i + 1) ≡ others_to n root labels boxes i
others_same n root labels boxes i l many own =
    grown n root labels boxes i l many
    ∙ ⊎_elim
    (λ u. ap (λ t. others_to n root labels boxes i ++ flat_of (rows_of_boxes n (cond t [] (box_at boxes i ∷ [])))) u.0 ∙ append-nil (others_to n root labels boxes i))
    (λ u. absurd (u.1 own))
    (eqb_tells (label_at labels i) root)

pub others_all : (n root : ℕ) (labels : List ℕ) (boxes : List Ends) (i : ℕ) → length labels ≡ length boxes → length labels ≤ i
    → others_to n root labels boxes i ≡ flat_of (rows_of_boxes n (unlabelled root labels boxes))
others_all n root labels boxes i many end =
    ap (λ (ls : List ℕ). flat_of (rows_of_boxes n (unlabelled root ls (take i boxes)))) (take_all i labels end)
    ∙ ap (λ (bs : List Ends). flat_of (rows_of_boxes n (unlabelled root labels bs))) (take_all i boxes (omega (arith, many, end)))
