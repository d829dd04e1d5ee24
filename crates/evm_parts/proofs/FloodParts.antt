-- The parts of a cell set are the unions of the boxes of one label.
use Rattle.std.proofs.Common.{◌≡◌, ℕ, ◌<◌, ◌⊎◌, inl, inr, ⊎_elim, Bool, true, ◌&&◌, ◌==◌, List, [], ◌∷◌, map, filter, length, ℤ, refl, sym, ap, ◌∙◌, subst, arith, eqb-true, eq-eqb}
use Rattle.std.specs.List.{list_any, list_all}
use Rattle.std.proofs.lemmas.Bool.{false≢true, or_left, or_cases, cases_order}
use Rattle.std.proofs.lemmas.Simd.{map-map}
use Rattle.evm_cells.specs.Places.{has, same, before, ascending}
use Rattle.evm_cells.specs.Limits.{is_cell, IsCellSet}
use Rattle.evm_cells.specs.Boxes.{box_cells}
use Rattle.evm_cells.specs.Unions.{Ends, union_of}
use Rattle.evm_cells.specs.Parts.{share_face, flood, begins_with, parts}
use Rattle.evm_cells.proofs.Xor.{and_first, and_second, and_both}
use Rattle.evm_cells.proofs.Order.{same_tests}
use Rattle.evm_cells.proofs.Lists.{any-map}
use Rattle.evm_cells.proofs.Places.{strict_places}
use Rattle.evm_cells.proofs.Universe.{has-filter, ascending-filter, member_passes, same_sets}
use Rattle.evm_cells.proofs.Corners.{has-box_cells}
use Rattle.evm_cells.proofs.Unions.{cell_set-union, has-or_all}
use Rattle.evm_rows.proofs.Pairs.{before_trans}
use Rattle.evm_partition.specs.Partition.{partition}
use Rattle.evm_parts.specs.Labels.{box_at, label_at, labelled, roots, AreLinked, IsChained, AreLabels}
use Rattle.evm_parts.specs.Laws.{PartsByLabels}
use Rattle.evm_parts.proofs.Floods.{IsClosed, share_face_sym, flood_within, flood_has, flood_closed, flood_passes, ascending-flood}
use Rattle.evm_parts.proofs.Meeting.{inside_is, inside_yes, low_inside, low_first, walk, cell_in_both, cells_at_face, overlap_or_touch}
use Rattle.evm_parts.proofs.FloodBoxes.{IsIn, box_of_cell, cell_of_box, one_box_of, room_at, rise_at, any_labelled, labelled_any, map_picked, picked_ascend, picked_is, picked_has}

-- ---- the first of a list that ascends

-- nothing comes before the first
begins_least : (c : List ℤ) (T : List (List ℤ)) → begins_with c T ≡ true → ascending T ≡ true → (e : List ℤ) → has T e ≡ true → (c ≡ e) ⊎ (before c e ≡ true)
unfolding begins_with ascending has
begins_least c [] h a e m = absurd (false≢true h)
begins_least c (d ∷ T) h a e m =
    let k = strict_places.equal c d h in
    ⊎_elim
    (λ u. inl (k ∙ sym (strict_places.equal e d u)))
    (λ u. inr (ap (λ z. before z e) k ∙ member_passes (before d) T e (and_first (list_all (before d) T) (ascending T) a) u))
    (or_cases (same e d) (list_any (same e) T) m)

least_begins : (c : List ℤ) (T : List (List ℤ)) → ascending T ≡ true → has T c ≡ true → ((e : List ℤ) → has T e ≡ true → (c ≡ e) ⊎ (before c e ≡ true)) → begins_with c T ≡ true
unfolding begins_with ascending has
least_begins c [] a m f = absurd (false≢true m)
least_begins c (d ∷ T) a m f = ⊎_elim
    (λ k. ap (same c) (sym k) ∙ strict_places.itself c)
    (λ l. ⊎_elim (λ u. u)
    (λ u. absurd (strict_places.one_way c d l (member_passes (before d) T c (and_first (list_all (before d) T) (ascending T) a) u)))
    (or_cases (same c d) (list_any (same c) T) m))
    (f d (or_left (same d d) (list_any (same d) T) (strict_places.itself d)))

-- ---- unions of boxes

has-union_of : (n : ℕ) (boxes : List Ends) (c : List ℤ) → has (union_of n boxes) c ≡ (is_cell n c && list_any (λ b. has (box_cells n b.lo b.hi) c) boxes)
unfolding union_of
has-union_of n boxes c =
    has-or_all n (map (λ b. box_cells n b.lo b.hi) boxes) c
    ∙ ap (λ t. is_cell n c && t) (any-map (λ A. has A c) (λ b. box_cells n b.lo b.hi) boxes)

-- ---- chains

module _ (n : ℕ) (S : List (List ℤ)) (s : IsCellSet n S) where
  -- boxes of which cells share a face are one, or linked
  linked : (i j : ℕ) (c d : List ℤ) → IsIn (partition n S) i c → IsIn (partition n S) j d → share_face c d ≡ true → (i ≡ j) ⊎ AreLinked (partition n S) i j
  linked i j c d u v h =
      let a = box_at (partition n S) i in
      let b = box_at (partition n S) j in
      ⊎_elim
      (λ o.
      let (e, p, q) = cell_in_both a.lo a.hi b.lo b.hi (room_at n S s i u.there) (room_at n S s j v.there) o in
      inl (one_box_of n S s i j e (record { there = u.there; inside = p }) (record { there = v.there; inside = q })))
      (λ t. inr (record { first = u.there; second = v.there; near = t }))
      (overlap_or_touch a.lo a.hi b.lo b.hi c d u.inside v.inside h)

  -- some cell of the box i is there
  abbrev Touches : List (List ℤ) → ℕ → Type 0
  Touches T i = (c : List ℤ) × IsIn (partition n S) i c × (has T c ≡ true)

  module _ (T : List (List ℤ)) (closed : IsClosed S T) where
    -- with one cell of a box, all of them
    fills : (i : ℕ) (d : List ℤ) → Touches T i → IsIn (partition n S) i d → has T d ≡ true
    fills i d t v =
        let b = box_at (partition n S) i in
        walk b.lo b.hi t.0 d (λ c. has T c ≡ true)
        (λ e f p q h m. closed f e (cell_of_box n S s i f (record { there = v.there; inside = q })) m h)
        t.1.inside v.inside t.2

    pass_on : (i j : ℕ) → AreLinked (partition n S) i j → Touches T i → Touches T j
    pass_on i j l t =
        let a = box_at (partition n S) i in
        let b = box_at (partition n S) j in
        let (c, d, p, q, h) = cells_at_face a.lo a.hi b.lo b.hi (room_at n S s i l.first) (room_at n S s j l.second) l.near in
        let v : IsIn (partition n S) j d = record { there = l.second; inside = q } in
        (d, v, closed d c (cell_of_box n S s j d v) (fills i c t (record { there = l.first; inside = p })) (share_face_sym d c ∙ h))

    pass_back : (i j : ℕ) → AreLinked (partition n S) i j → Touches T j → Touches T i
    pass_back i j l t =
        let a = box_at (partition n S) i in
        let b = box_at (partition n S) j in
        let (c, d, p, q, h) = cells_at_face a.lo a.hi b.lo b.hi (room_at n S s i l.first) (room_at n S s j l.second) l.near in
        let u : IsIn (partition n S) i c = record { there = l.first; inside = p } in
        (c, u, closed c d (cell_of_box n S s i c u) (fills j d t (record { there = l.second; inside = q })) h)

    chain_on : (i j : ℕ) → IsChained (partition n S) i j → Touches T i → Touches T j
    chain_on _ _ (IsChained.here i) t = t
    chain_on _ _ (IsChained.onward i j k l h) t = chain_on j k h (pass_on i j l t)

    chain_back : (i j : ℕ) → IsChained (partition n S) i j → Touches T j → Touches T i
    chain_back _ _ (IsChained.here i) t = t
    chain_back _ _ (IsChained.onward i j k l h) t = pass_back i j l (chain_back j k h t)

  module _ (labels : List ℕ) (are : AreLabels (partition n S) labels) where
    chain_alike : (i j : ℕ) → IsChained (partition n S) i j → label_at labels i ≡ label_at labels j
    chain_alike _ _ (IsChained.here i) = refl
    chain_alike _ _ (IsChained.onward i j k l h) = are.alike i j l ∙ chain_alike j k h

    -- ---- floods

    -- what a flood reaches has its label
    flood_label : (i : ℕ) (c : List ℤ) → IsIn (partition n S) i c → (d : List ℤ) → has (flood S c) d ≡ true
        → (j : ℕ) × IsIn (partition n S) j d × (label_at labels j ≡ label_at labels i)
    flood_label i c u = flood_passes S c (cell_of_box n S s i c u) (λ d. (j : ℕ) × IsIn (partition n S) j d × (label_at labels j ≡ label_at labels i))
        (λ d e m p h.
        let (j, v) = box_of_cell n S s d m in
        (j, v, ⊎_elim (λ q. ap (label_at labels) q) (λ l. are.alike j p.0 l) (linked j p.0 d e v p.1 h) ∙ p.2))
        (i, u, refl)

    -- and it reaches all that has it
    label_flood : (i j : ℕ) (c d : List ℤ) → IsIn (partition n S) i c → IsIn (partition n S) j d → label_at labels j ≡ label_at labels i → has (flood S c) d ≡ true
    label_flood i j c d u v e =
        let m = cell_of_box n S s i c u in
        let T = flood S c in
        let closed = flood_closed S c m in
        let t = chain_on T closed i (label_at labels i) (are.reached i u.there) (c, u, flood_has S c m) in
        let w = chain_back T closed j (label_at labels j) (are.reached j v.there) (subst (Touches T) (sym e) t) in
        fills T closed j d w v

    -- the union of the boxes of a label
    abbrev Group : ℕ → List (List ℤ)
    Group root = union_of n (labelled root labels (partition n S))

    flood-group : (i : ℕ) (c : List ℤ) → IsIn (partition n S) i c → flood S c ≡ Group (label_at labels i)
    flood-group i c u =
        let m = cell_of_box n S s i c u in
        let r = label_at labels i in
        let boxes = labelled r labels (partition n S) in
        same_sets (flood S c) (union_of n boxes) (ascending-flood S c m s.ascends) (cell_set-union n boxes).ascends
        (λ d. same_tests (has (flood S c) d) (has (union_of n boxes) d)
        (λ h.
        let (j, v, e) = flood_label i c u d h in
        let b = box_at (partition n S) j in
        let k = member_passes (is_cell n) S d s.cells (flood_within S c m d h) in
        let many = are.many in
        let lt = v.there in
        has-union_of n boxes d
        ∙ and_both (is_cell n d) (list_any (λ x. has (box_cells n x.lo x.hi) d) boxes) k
        (labelled_any (λ x. has (box_cells n x.lo x.hi) d) r labels (partition n S) j (omega (arith, many, lt)) lt e
        (has-box_cells n b.lo b.hi d ∙ and_both (is_cell n d) _ k (inside_yes b.lo b.hi d v.inside))))
        (λ h.
        let (j, l, e, w) = any_labelled (λ x. has (box_cells n x.lo x.hi) d) r labels (partition n S)
        (and_second (is_cell n d) (list_any (λ x. has (box_cells n x.lo x.hi) d) boxes) (sym (has-union_of n boxes d) ∙ h)) in
        let b = box_at (partition n S) j in
        label_flood i j c d u (record { there = l; inside = inside_is b.lo b.hi d (and_second (is_cell n d) _ (sym (has-box_cells n b.lo b.hi d) ∙ w)) }) e))

    -- ---- their first cells

    abbrev low_at : ℕ → List ℤ
    low_at i = (box_at (partition n S) i).lo

    abbrev is_root : ℕ → Bool
    is_root i = label_at labels i == i

    low_in : (i : ℕ) → i < length (partition n S) → IsIn (partition n S) i (low_at i)
    low_in i l = let b = box_at (partition n S) i in record { there = l; inside = low_inside b.lo b.hi (room_at n S s i l) }

    -- no cell with a label comes before the first of the box that is the label
    least : (i : ℕ) (c : List ℤ) → IsIn (partition n S) i c → (low_at (label_at labels i) ≡ c) ⊎ (before (low_at (label_at labels i)) c ≡ true)
    least i c u =
        let b = box_at (partition n S) i in
        let r = label_at labels i in
        let low = are.low i u.there in
        let h = low_first b.lo b.hi c u.inside in
        ⊎_elim
        (λ e. ⊎_elim (λ g. inl (ap low_at e ∙ g)) (λ g. inr (ap (λ z. before (low_at z) c) e ∙ g)) h)
        (λ k. ⊎_elim
        (λ l.
        let o = rise_at n S s r i l u.there in
        inr (⊎_elim (λ g. ap (before (low_at r)) (sym g) ∙ o) (λ g. before_trans (low_at r) b.lo c o g) h))
        (λ l. absurd (omega (arith, low, l)))
        k)
        (cases_order r i)

    -- the label of a box is a root
    root_of : (i : ℕ) → i < length (partition n S) → (label_at labels i < length (partition n S)) × (label_at labels (label_at labels i) ≡ label_at labels i)
    root_of i l = let low = are.low i l in (omega (arith, low, l), sym (chain_alike i (label_at labels i) (are.reached i l)))

    abbrev begins : List ℤ → Bool
    begins c = begins_with c (flood S c)

    head_is_low : (c : List ℤ) → has (filter begins S) c ≡ true → has (map low_at (roots labels)) c ≡ true
    head_is_low c h =
        let u = sym (has-filter begins S c) ∙ h in
        let m = and_first (has S c) (begins c) u in
        let (i, v) = box_of_cell n S s c m in
        let r = label_at labels i in
        let (l, e) = root_of i v.there in
        let w = label_flood i r c (low_at r) v (low_in r l) e in
        let many = are.many in
        let k : c ≡ low_at r = ⊎_elim sym
        (λ g. ⊎_elim (λ f. f) (λ f. absurd (strict_places.one_way c (low_at r) f g))
        (begins_least c (flood S c) (and_second (has S c) (begins c) u) (ascending-flood S c m s.ascends) (low_at r) w))
        (least i c v) in
        ap (has (map low_at (roots labels))) k ∙ picked_has low_at is_root 0 (length labels) r (omega arith) (omega (arith, many, l)) (eq-eqb (label_at labels r) r e)

    low_is_head : (c : List ℤ) → has (map low_at (roots labels)) c ≡ true → has (filter begins S) c ≡ true
    low_is_head c h =
        let (i, l, t, e) = picked_is low_at is_root 0 (length labels) c h in
        let many = are.many in
        let v : IsIn (partition n S) i c = subst (IsIn (partition n S) i) (sym e) (low_in i (omega (arith, many, l))) in
        let m = cell_of_box n S s i c v in
        has-filter begins S c
        ∙ and_both (has S c) (begins c) m
        (least_begins c (flood S c) (ascending-flood S c m s.ascends) (flood_has S c m)
        (λ d w.
        let (j, x, q) = flood_label i c v d w in
        subst (λ z. (z ≡ d) ⊎ (before z d ≡ true)) (ap low_at (q ∙ eqb-true (label_at labels i) i t) ∙ sym e) (least j d x)))

    -- the cells that come first in their own floods are the first of the roots
    heads : filter begins S ≡ map low_at (roots labels)
    heads =
        same_sets (filter begins S) (map low_at (roots labels)) (ascending-filter begins S s.ascends)
        (picked_ascend low_at is_root 0 (length labels) (λ i j k l. let many = are.many in rise_at n S s i j k (omega (arith, many, l))))
        (λ c. same_tests (has (filter begins S) c) (has (map low_at (roots labels)) c) (head_is_low c) (low_is_head c))

    by_labels : parts S ≡ map Group (roots labels)
    unfolding parts
    by_labels =
        ap (map (flood S)) heads ∙ map-map (flood S) low_at (roots labels)
        ∙ map_picked is_root (λ i. flood S (low_at i)) Group 0 (length labels)
        (λ i l t. let many = are.many in flood-group i (low_at i) (low_in i (omega (arith, many, l))) ∙ ap Group (eqb-true (label_at labels i) i t))

pub parts_by_labels : PartsByLabels
parts_by_labels n S labels s are = by_labels n S s labels are
