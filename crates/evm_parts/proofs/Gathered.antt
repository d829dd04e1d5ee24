-- The rows of the boxes of each label, gathered box after box.
use Rattle.std.proofs.Common.{◌≡◌, ◌≢◌, ℕ, zero, suc, ◌+◌, ◌<◌, ◌≤◌, ◌==◌, ⊎_elim, Bool, true, false, cond, ℤ, Option, Some, List, [], ◌∷◌, ◌++◌, map, length, take, get_or, set, refl, sym, ap, ap₂, ◌∙◌, subst, arith, append-nil, All, Vec, Global}
use Rattle.std.proofs.lemmas.Grind.{flat_map-append}
use Rattle.std.proofs.lemmas.List.{take_all, map-set, length-map, get_or-map, get_or-set_same, get_or-set_other}
use Rattle.std.proofs.lemmas.Bool.Decides.{eqb_tells}
use Rattle.std.proofs.Math.ListN.{length-set}
use Rattle.evm_cells.specs.Unions.{Ends}
use Rattle.evm_cells.specs.Vertices.{evm}
use Rattle.evm_rows.specs.Rows.{flat_of}
use Rattle.evm_rows.proofs.BoxTests.{flat_of-append}
use Rattle.evm_parts.specs.Labels.{box_at, label_at, labelled}
use Rattle.evm_parts.specs.PartRows.{cells_in, rows_of_boxes, numbers_in, AreGathered}

-- ---- the boxes of a label, one box more

-- the box if it has the label
abbrev pub if_labelled : ℕ → ℕ → Ends → List Ends
if_labelled root label b = cond (label == root) (b ∷ []) []

pub labelled_more : (root i : ℕ) (labels : List ℕ) (boxes : List Ends) → i < length labels → i < length boxes
    → labelled root (take (suc i) labels) (take (suc i) boxes) ≡ labelled root (take i labels) (take i boxes) ++ if_labelled root (label_at labels i) (box_at boxes i)
unfolding labelled
labelled_more root i [] boxes l m = absurd (omega (arith, l))
labelled_more root i (x ∷ labels) [] l m = absurd (omega (arith, m))
labelled_more root zero (x ∷ labels) (b ∷ boxes) l m = at (x == root)
  where
    at : (c : Bool) → cond c (b ∷ []) [] ≡ [] ++ cond c (b ∷ []) []
    at c = refl
labelled_more root (suc i) (x ∷ labels) (b ∷ boxes) l m =
    at (x == root) (labelled root (take (suc i) labels) (take (suc i) boxes)) (labelled root (take i labels) (take i boxes)) (if_labelled root (label_at labels i) (box_at boxes i))
    (labelled_more root i labels boxes (omega (arith, l)) (omega (arith, m)))
  where
    at : (c : Bool) (xs ys zs : List Ends) → xs ≡ ys ++ zs → cond c (b ∷ xs) xs ≡ cond c (b ∷ ys) ys ++ zs
    at true xs ys zs e = ap (λ us. b ∷ us) e
    at false xs ys zs e = e

-- ---- lists of numbers

numbers_in-here : (lists : List (Vec ℤ Global)) (i : ℕ) (v : Vec ℤ Global) → i < length lists → numbers_in (set lists i v) i ≡ v.items
numbers_in-here lists i v low =
    let items = λ (x : Vec ℤ Global). x.items in
    ap (λ (xs : List (List ℤ)). get_or xs i []) (map-set items lists i v)
    ∙ get_or-set_same (map items lists) i v.items [] (omega (arith, length-map lists items))

numbers_in-other : (lists : List (Vec ℤ Global)) (i j : ℕ) (v : Vec ℤ Global) → j ≢ i → numbers_in (set lists i v) j ≡ numbers_in lists j
numbers_in-other lists i j v other =
    let items = λ (x : Vec ℤ Global). x.items in
    ap (λ (xs : List (List ℤ)). get_or xs j []) (map-set items lists i v) ∙ get_or-set_other (map items lists) i j v.items [] other

pub numbers_in-read : (lists : List (Vec ℤ Global)) (i : ℕ) (v : Vec ℤ Global) → i < length lists → v ≡ get_or lists i v → v.items ≡ numbers_in lists i
numbers_in-read lists i v low is =
    let items = λ (x : Vec ℤ Global). x.items in
    ap items is ∙ sym (get_or-map items lists i v [] low)

-- ---- gathered so far

-- the lists of all labels but the main one have the rows of the first boxes
pub record IsGatheredTo (n : ℕ) (boxes : List Ends) (labels : List ℕ) (main : Option ℕ) (lists : List (Vec ℤ Global)) (i : ℕ) : Type 0 where
  pub many : length lists ≡ length labels
  pub rows : (root : ℕ) → root < length labels → main ≢ Some root → numbers_in lists root ≡ flat_of (rows_of_boxes n (labelled root (take i labels) (take i boxes)))

none_in : (lists : List (Vec ℤ Global)) (i : ℕ) → i < length lists → All (λ w. w.items ≡ []) lists → numbers_in lists i ≡ []
none_in [] i l empty = absurd (omega (arith, l))
none_in (v ∷ lists) i l empty = get_or-map (λ (x : Vec ℤ Global). x.items) (v ∷ lists) i v [] l ∙ empty i v l

none_labelled : (n root : ℕ) (labels : List ℕ) (boxes : List Ends) → flat_of (rows_of_boxes n (labelled root (take 0 labels) (take 0 boxes))) ≡ []
unfolding labelled
none_labelled n root [] boxes = refl
none_labelled n root (x ∷ labels) boxes = refl

pub gathered_start : (n : ℕ) (boxes : List Ends) (labels : List ℕ) (main : Option ℕ) (lists : List (Vec ℤ Global)) → length lists ≡ length labels → All (λ w. w.items ≡ []) lists
    → IsGatheredTo n boxes labels main lists 0
gathered_start n boxes labels main lists many empty = record {
  many = many;
  rows = λ root l o. none_in lists root (omega (arith, l, many)) empty ∙ sym (none_labelled n root labels boxes);
}

-- the rows of the first boxes that have a label
abbrev gathered : ℕ → List ℕ → List Ends → ℕ → ℕ → List ℤ
gathered n labels boxes root k = flat_of (rows_of_boxes n (labelled root (take k labels) (take k boxes)))

-- with the next box, if it has the label
grown : (n : ℕ) (labels : List ℕ) (boxes : List Ends) (root i : ℕ) → i < length labels → length labels ≡ length boxes
    → gathered n labels boxes root (suc i) ≡ gathered n labels boxes root i ++ flat_of (rows_of_boxes n (if_labelled root (label_at labels i) (box_at boxes i)))
grown n labels boxes root i within many =
    let b : Ends = box_at boxes i in
    ap (λ bs. flat_of (rows_of_boxes n bs)) (labelled_more root i labels boxes within (omega (arith, within, many)))
    ∙ ap flat_of (flat_map-append (λ c. evm n (cells_in n c)) (labelled root (take i labels) (take i boxes)) (if_labelled root (label_at labels i) b))
    ∙ flat_of-append (rows_of_boxes n (labelled root (take i labels) (take i boxes))) (rows_of_boxes n (if_labelled root (label_at labels i) b))

-- the next box does not have the label
not_grown : (n : ℕ) (labels : List ℕ) (boxes : List Ends) (root i : ℕ) → i < length labels → length labels ≡ length boxes → (label_at labels i ≡ root → ⊥)
    → gathered n labels boxes root i ≡ gathered n labels boxes root (suc i)
not_grown n labels boxes root i within many other =
    ⊎_elim
    (λ u. absurd (other u.1))
    (λ u.
    sym (append-nil (gathered n labels boxes root i))
    ∙ ap (λ ys. gathered n labels boxes root i ++ ys) (sym (ap (λ t. flat_of (rows_of_boxes n (cond t (box_at boxes i ∷ []) []))) u.0))
    ∙ sym (grown n labels boxes root i within many))
    (eqb_tells (label_at labels i) root)

-- the rows of one box more
pub gathered_more : (n : ℕ) (boxes : List Ends) (labels : List ℕ) (main : Option ℕ) (lists new : List (Vec ℤ Global)) (i label : ℕ) (v : Vec ℤ Global) → IsGatheredTo n boxes labels main lists i
    → length labels ≡ length boxes → i < length labels → label ≡ label_at labels i → label < length labels
    → v.items ≡ numbers_in lists label ++ flat_of (evm n (cells_in n (box_at boxes i))) → new ≡ set lists label v → main ≢ Some label → IsGatheredTo n boxes labels main new (i + 1)
gathered_more n boxes labels main lists new i label v h many within is low more e aside =
    subst (λ (ls : List (Vec ℤ Global)). IsGatheredTo n boxes labels main ls (i + 1)) (sym e)
    (record { many = length-set lists label v ∙ h.many; rows = λ root l o. rows root l o ∙ ap (gathered n labels boxes root) (sym next) })
  where
    b : Ends
    b = box_at boxes i

    next : i + 1 ≡ suc i
    next = omega arith

    with_box : (root : ℕ) (c : Bool) → c ≡ true → flat_of (rows_of_boxes n (cond c (b ∷ []) [])) ≡ flat_of (evm n (cells_in n b))
    with_box root c q = ap (λ t. flat_of (rows_of_boxes n (cond t (b ∷ []) []))) q ∙ ap flat_of (append-nil (evm n (cells_in n b)))

    rows : (root : ℕ) → root < length labels → main ≢ Some root → numbers_in (set lists label v) root ≡ gathered n labels boxes root (suc i)
    rows root l o =
        ⊎_elim
        (λ u.
        let q : label ≡ root = is ∙ u.1 in
        ap (numbers_in (set lists label v)) (sym q) ∙ numbers_in-here lists label v (omega (arith, low, h.many)) ∙ more
        ∙ ap₂ (λ xs ys. xs ++ ys) (ap (numbers_in lists) q ∙ h.rows root l o) (sym (with_box root (label_at labels i == root) u.0))
        ∙ sym (grown n labels boxes root i within many))
        (λ u.
        let q : root ≢ label = λ w. u.1 (sym is ∙ sym w) in
        numbers_in-other lists label root v q ∙ h.rows root l o ∙ not_grown n labels boxes root i within many u.1)
        (eqb_tells (label_at labels i) root)

-- a box of the main label is passed over
pub gathered_same : (n : ℕ) (boxes : List Ends) (labels : List ℕ) (main : Option ℕ) (lists : List (Vec ℤ Global)) (i : ℕ) → IsGatheredTo n boxes labels main lists i
    → length labels ≡ length boxes → i < length labels → main ≡ Some (label_at labels i) → IsGatheredTo n boxes labels main lists (i + 1)
gathered_same n boxes labels main lists i h many within is =
    let next : i + 1 ≡ suc i = omega arith in
    record {
      many = h.many;
      rows = λ root l o.
          h.rows root l o ∙ not_grown n labels boxes root i within many (λ e. o (is ∙ ap Some e)) ∙ ap (gathered n labels boxes root) (sym next);
    }

pub gathered_all : (n : ℕ) (boxes : List Ends) (labels : List ℕ) (main : Option ℕ) (lists : List (Vec ℤ Global)) (i : ℕ) → IsGatheredTo n boxes labels main lists i → length labels ≡ length boxes
    → length labels ≤ i → AreGathered n boxes labels main lists
gathered_all n boxes labels main lists i h many end = record {
  many = h.many;
  rows = λ root l o. h.rows root l o ∙ ap₂ (λ (ls : List ℕ) (bs : List Ends). flat_of (rows_of_boxes n (labelled root ls bs))) (take_all i labels end) (take_all i boxes (omega (arith, many, end)));
}
