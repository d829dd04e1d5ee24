-- The parts, label after label.
use Rattle.std.proofs.Common.{◌≡◌, ◌≢◌, ℕ, ◌+◌, ◌<◌, ◌≤◌, ◌%◌, ◌==◌, ⊎_elim, cond, ℤ, Option, Some, List, [], ◌∷◌, ◌++◌, map, filter, length, sym, ap, ◌∙◌, subst, arith, append-nil, eq-eqb, get_or, Vec, Global, All}
use Rattle.std.specs.List.{range_with_len}
use Rattle.std.proofs.lemmas.Bool.Decides.{eqb_tells}
use Rattle.std.proofs.lemmas.List.{map-append, get_or_default}
use Rattle.std.proofs.lemmas.List.Elements.{filter-append}
use Rattle.std.proofs.lemmas.Simd.{map-map}
use native.Mathlib.Nat.{mul-mod_left}
use Rattle.evm_cells.specs.Limits.{IsCellSet}
use Rattle.evm_cells.specs.Parts.{parts}
use Rattle.evm_cells.specs.Unions.{Ends, union_of}
use Rattle.evm_cells.specs.Vertices.{evm}
use Rattle.evm_cells.specs.Windows.{IsReduced}
use Rattle.evm_cells.proofs.Universe.{points-evm}
use Rattle.evm_cells.proofs.Unions.{cell_set-union}
use Rattle.evm_rows.specs.Rows.{rows_of, flat_of}
use Rattle.evm_rows.proofs.Bridge.{wide-points}
use Rattle.evm_rows.proofs.RowsOrder.{Wide, rows_of-flat_of, length-flat_of}
use Rattle.evm_shapes.proofs.Shaped.{are_rows_of}
use Rattle.evm_partition.specs.Partition.{partition}
use Rattle.evm_parts.specs.Labels.{label_at, labelled, roots, AreLabels}
use Rattle.evm_parts.specs.PartRows.{cells_in, rows_of_boxes, part_at, parts_at, AreApart, AreGathered, IsUnion, IsPartAppended}
use Rattle.evm_parts.proofs.Gathered.{numbers_in-read}
use Rattle.evm_parts.proofs.Stretches.{AreListed, listed_more}
use Rattle.evm_parts.proofs.Apart.{reduced_is}
use Rattle.evm_parts.proofs.FloodParts.{parts_by_labels}
use Rattle.evm_parts.proofs.Ranges.{range_more}

-- ---- rows of one length

wide_append : (n : ℕ) (V W : List (List ℤ)) → Wide n V → Wide n W → Wide n (V ++ W)
wide_append n [] W v w = w
wide_append n (p ∷ V) W v w = (v.0, wide_append n V W v.1 w)

wide_rows : (n : ℕ) (boxes : List Ends) → Wide n (rows_of_boxes n boxes)
wide_rows n [] = tt
wide_rows n (b ∷ boxes) = wide_append n (evm n (cells_in n b)) (rows_of_boxes n boxes) (wide-points n (evm n (cells_in n b)) (points-evm n (cells_in n b))) (wide_rows n boxes)

pub whole_rows : (n : ℕ) (boxes : List Ends) (flat : List ℤ) → flat ≡ flat_of (rows_of_boxes n boxes) → length flat % n ≡ 0
whole_rows n boxes flat e =
    ap (λ (xs : List ℤ). length xs % n) e ∙ ap (λ (k : ℕ). k % n) (length-flat_of n (rows_of_boxes n boxes) (wide_rows n boxes)) ∙ mul-mod_left (length (rows_of_boxes n boxes)) n

-- ---- the rows of a union

-- what is left of the rows of boxes that stand apart
pub union_is : (n : ℕ) (bs : List Ends) (rows flat : List ℤ) → 0 < n → n ≤ 6 → AreApart n bs → rows ≡ flat_of (rows_of_boxes n bs)
    → length flat % n ≡ 0 → IsReduced n (rows_of rows n 0) (rows_of flat n 0) → IsUnion n bs flat
union_is n bs rows flat some few a e whole r = record { are_rows = are_rows_of n flat (union_of n bs) some few whole (cell_set-union n bs) is; rows = is }
  where
    is : rows_of flat n 0 ≡ evm n (union_of n bs)
    is =
        reduced_is n bs (rows_of flat n 0) a
        (subst (λ (V : List (List ℤ)). IsReduced n V (rows_of flat n 0)) (ap (λ xs. rows_of xs n 0) e ∙ rows_of-flat_of n (rows_of_boxes n bs) some (wide_rows n bs)) r)

-- the same, where a program read the dimension
pub odd_union : (n m : ℕ) (bs : List Ends) (rows flat : List ℤ) → 0 < n → n ≤ 6 → m ≡ n → AreApart n bs → rows ≡ flat_of (rows_of_boxes n bs)
    → length flat % m ≡ 0 → IsReduced m (rows_of rows m 0) (rows_of flat m 0) → IsUnion n bs flat
odd_union n m bs rows flat some few d a e whole r =
    union_is n bs rows flat some few a e (subst (λ (k : ℕ). length flat % k ≡ 0) d whole) (subst (λ (k : ℕ). IsReduced k (rows_of rows k 0) (rows_of flat k 0)) d r)

-- ---- the labels in order

-- the parts of the labels below i
abbrev pub parts_to : ℕ → List Ends → List ℕ → ℕ → List (List (List ℤ))
parts_to n boxes labels i = map (part_at n boxes labels) (filter (λ k. label_at labels k == k) (range_with_len 0 i))

grown : (n : ℕ) (boxes : List Ends) (labels : List ℕ) (i : ℕ) → parts_to n boxes labels (i + 1) ≡ parts_to n boxes labels i ++ map (part_at n boxes labels) (cond (label_at labels i == i) (i ∷ []) [])
grown n boxes labels i =
    let p = λ (k : ℕ). label_at labels k == k in
    ap (λ ks. map (part_at n boxes labels) (filter p ks)) (range_more i)
    ∙ ap (map (part_at n boxes labels)) (filter-append p (range_with_len 0 i) (i ∷ []))
    ∙ map-append (part_at n boxes labels) (filter p (range_with_len 0 i)) (filter p (i ∷ []))

pub parts_more : (n : ℕ) (boxes : List Ends) (labels : List ℕ) (i : ℕ) → label_at labels i ≡ i → parts_to n boxes labels (i + 1) ≡ parts_to n boxes labels i ++ part_at n boxes labels i ∷ []
parts_more n boxes labels i e =
    grown n boxes labels i ∙ ap (λ t. parts_to n boxes labels i ++ map (part_at n boxes labels) (cond t (i ∷ []) [])) (eq-eqb (label_at labels i) i e)

pub parts_same : (n : ℕ) (boxes : List Ends) (labels : List ℕ) (i : ℕ) → (label_at labels i ≡ i → ⊥) → parts_to n boxes labels (i + 1) ≡ parts_to n boxes labels i
parts_same n boxes labels i o =
    grown n boxes labels i
    ∙ ⊎_elim
    (λ u. absurd (o u.1))
    (λ u. ap (λ t. parts_to n boxes labels i ++ map (part_at n boxes labels) (cond t (i ∷ []) [])) u.0)
    (eqb_tells (label_at labels i) i)
    ∙ append-nil (parts_to n boxes labels i)

-- ---- one label more

-- the list of a label, as it is read
pub list_is : (n : ℕ) (boxes : List Ends) (labels : List ℕ) (main : Option ℕ) (lists : List (Vec ℤ Global)) (i : ℕ) (v : Vec ℤ Global) (rows : List ℤ) → AreGathered n boxes labels main lists → i < length labels
    → main ≢ Some i → v ≡ get_or lists i v → rows ≡ v.items → rows ≡ flat_of (rows_of_boxes n (labelled i labels boxes))
list_is n boxes labels main lists i v rows g l other is e = let m = g.many in e ∙ numbers_in-read lists i v (omega (arith, l, m)) is ∙ g.rows i l other

pub listed_part : (n : ℕ) (boxes : List Ends) (labels : List ℕ) (i : ℕ) (part flat new : List ℤ) (ends later : List ℕ) → label_at labels i ≡ i
    → IsUnion n (labelled i labels boxes) part → IsPartAppended part flat new ends later → AreListed n flat ends (parts_to n boxes labels i)
    → AreListed n new later (parts_to n boxes labels (i + 1))
listed_part n boxes labels i part flat new ends later own p h l =
    subst (AreListed n new later) (sym (parts_more n boxes labels i own))
    (listed_more n flat part new ends later (parts_to n boxes labels i) (part_at n boxes labels i) l p.are_rows p.rows h.numbers h.end)

-- ---- the labels of the boxes of the stated partition

pub labels_within : (boxes : List Ends) (labels : List ℕ) → AreLabels boxes labels → All (λ label. label < length labels) labels
labels_within boxes labels h k d l =
    let q = h.low k (subst (λ m. k < m) h.many l) in
    let e = get_or_default labels k d 0 l in
    omega (arith, q, e, l)

-- the parts of a cell set, from the labels of the boxes of its stated partition
pub all_parts : (n : ℕ) (S : List (List ℤ)) (labels : List ℕ) → IsCellSet n S → AreLabels (partition n S) labels → parts_at n (partition n S) labels ≡ map (evm n) (parts S)
all_parts n S labels s h =
    sym (ap (map (evm n)) (parts_by_labels n S labels s h) ∙ map-map (evm n) (λ root. union_of n (labelled root labels (partition n S))) (roots labels))
