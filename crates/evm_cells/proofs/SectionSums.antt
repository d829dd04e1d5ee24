-- A section as the exclusive or of couplets, and lists of places by what they have at each height.
use Rattle.std.proofs.Common.{◌≡◌, ℕ, zero, suc, ◌<◌, ◌+◌, ◌*◌, Bool, true, false, not, cond, ◌&&◌, List, [], ◌∷◌, length, map, filter, ℤ, pos, neg_ℤ, ◌-ℤ◌, ◌+ℤ◌, ◌<ℤ◌, ◌≤ℤ◌, refl, sym, ap, ap₂, ◌∙◌, arith, int_le}
use Rattle.std.specs.List.{list_all}
use Rattle.std.proofs.lemmas.Int.{ints as int_facts, by_lt_z}
use Rattle.evm_cells.specs.Places.{ascending, has, is_empty, without, with_at}
use Rattle.evm_cells.specs.Limits.{limit, ints, point_coords, is_cell, is_point, is_cell_coord, IsCellSet}
use Rattle.evm_cells.specs.Booleans.{xor, xor_all}
use Rattle.evm_cells.specs.Vertices.{IsVertexList}
use Rattle.evm_cells.specs.Sections.{slice, couplet, rows_at, cuts}
use Rattle.evm_cells.proofs.Xor.{xsum, xsum-same, xor_self, false-xor, and-false}
use Rattle.evm_cells.proofs.Sum.{xsum-filter}
use Rattle.evm_cells.proofs.Order.{refuted}
use Rattle.evm_cells.proofs.Lists.{all_weaker}
use Rattle.evm_cells.proofs.Coords.{le_yes, le_no, cell_is}
use Rattle.evm_cells.proofs.Places.{has-any}
use Rattle.evm_cells.proofs.Universe.{same_sets, member_passes, cell_is_point, point_parts}
use Rattle.evm_cells.proofs.Combine.{cell_set-xor, has-xor_cells}
use Rattle.evm_cells.proofs.Core.{length-without}
use Rattle.evm_cells.proofs.Slices.{coord, has-slice_of, cell_set-slice, cell_set-couplet}
use Rattle.evm_cells.proofs.Layers.{has-rows_at, ascending-rows_at, points-rows_at, both_guarded, no_places, slice_outside}

-- ---- lists of places by what they have at each height

pub with_at-without : (i : ℕ) (p : List ℤ) → i < length p → with_at i (coord i p) (without i p) ≡ p
unfolding with_at without
with_at-without i [] l = absurd (omega arith)
with_at-without zero (x ∷ p) l = refl
with_at-without (suc i) (x ∷ p) l = ap (λ (q : List ℤ). x ∷ q) (with_at-without i p (omega arith))

-- lists of points that ascend are equal if they have the same at each height
pub lists_by_rows : (n i : ℕ) (V W : List (List ℤ)) → ascending V ≡ true → list_all (is_point (suc n)) V ≡ true → ascending W ≡ true → list_all (is_point (suc n)) W ≡ true
    → i < suc n → ((h : ℤ) → rows_at i h V ≡ rows_at i h W) → V ≡ W
lists_by_rows n i V W a v b w l e = same_sets V W a b
    (λ p. both_guarded (is_point (suc n) p) (has V p) (has W p) (member_passes (is_point (suc n)) V p v) (member_passes (is_point (suc n)) W p w)
    (λ m. let (f, u) = point_parts (suc n) p m in at p f))
  where
    at : (p : List ℤ) → length p ≡ suc n → has V p ≡ has W p
    at p f =
        let r : List ℤ = without i p in
        let k : ℤ = coord i p in
        let q : with_at i k r ≡ p = with_at-without i p (omega arith) in
        let g : suc (length r) ≡ length p = length-without i p (omega arith) in
        let z : length r ≡ n = omega arith in
        ap (has V) (sym q) ∙ sym (has-rows_at n i k V r l z v) ∙ ap (λ L. has L r) (e k) ∙ has-rows_at n i k W r l z w ∙ ap (has W) q

pub list_by_couplets : (n i : ℕ) (V W : List (List ℤ)) → IsVertexList (suc n) V → IsVertexList (suc n) W → i < suc n → ((h : ℤ) → rows_at i h V ≡ rows_at i h W) → V ≡ W
list_by_couplets n i V W v w l e = lists_by_rows n i V W v.ascends v.points w.ascends w.points l e

pub points-of_cells : (n : ℕ) (S : List (List ℤ)) → IsCellSet n S → list_all (is_point n) S ≡ true
points-of_cells n S s = all_weaker (is_cell n) (is_point n) (cell_is_point n) S s.cells

-- a section is the cells at its height
pub section_rows : (n i : ℕ) (k : ℤ) (S : List (List ℤ)) → IsCellSet (suc n) S → i < suc n → slice n i k S ≡ rows_at i k S
section_rows n i k S s l =
    let c : IsCellSet n (slice n i k S) = cell_set-slice n i k S in
    let p : list_all (is_point (suc n)) S ≡ true = points-of_cells (suc n) S s in
    same_sets (slice n i k S) (rows_at i k S) c.ascends (ascending-rows_at (suc n) i k S s.ascends p)
    (λ r. both_guarded (is_point n r) (has (slice n i k S) r) (has (rows_at i k S) r)
    (member_passes (is_point n) (slice n i k S) r (points-of_cells n (slice n i k S) c))
    (member_passes (is_point n) (rows_at i k S) r (points-rows_at n i k S l p))
    (λ m. let (e, u) = point_parts n r m in has-slice_of n i k S r s ∙ sym (has-rows_at n i k S r l e p)))

-- ---- a section by the couplets below it

middle : (x y z : Bool) → xor (xor x y) (xor y z) ≡ xor x z
unfolding xor
middle true true z = refl
middle true false true = refl
middle true false false = refl
middle false true true = refl
middle false true false = refl
middle false false z = refl

telescope : (g : ℤ → Bool) (a : ℤ) (m : ℕ) → xsum (λ h. xor (g (h -ℤ pos 1)) (g h)) (ints a m) ≡ xor (g (a -ℤ pos 1)) (g (a -ℤ pos 1 +ℤ pos m))
unfolding ints xsum
telescope g a zero =
    sym (ap (λ z. xor (g (a -ℤ pos 1)) (g z)) (let e : a -ℤ pos 1 +ℤ pos 0 ≡ a -ℤ pos 1 = omega (arith, int_facts) in e) ∙ xor_self (g (a -ℤ pos 1)))
telescope g a (suc m) =
    ap (xor (xor (g (a -ℤ pos 1)) (g a))) (telescope g (a +ℤ pos 1) m)
    ∙ ap₂ (λ y z. xor (xor (g (a -ℤ pos 1)) (g a)) (xor (g y) (g z)))
    (let e : a +ℤ pos 1 -ℤ pos 1 ≡ a = omega (arith, int_facts) in e)
    (let e : a +ℤ pos 1 -ℤ pos 1 +ℤ pos m ≡ a -ℤ pos 1 +ℤ pos (suc m) = omega (arith, int_facts) in e)
    ∙ middle (g (a -ℤ pos 1)) (g a) (g (a -ℤ pos 1 +ℤ pos (suc m)))

pub cell_set-xor_all : (n : ℕ) (As : List (List (List ℤ))) → IsCellSet n (xor_all n As)
unfolding xor_all
cell_set-xor_all n [] = record { ascends = no_places; cells = refl }
cell_set-xor_all n (A ∷ As) = cell_set-xor n A (xor_all n As)

pub has-xor_all : (n : ℕ) (f : ℤ → List (List ℤ)) → ((h : ℤ) → IsCellSet n (f h)) → (hs : List ℤ) (r : List ℤ) → has (xor_all n (map f hs)) r ≡ xsum (λ h. has (f h) r) hs
unfolding xor_all xsum
has-xor_all n f c [] r = has-any [] r
has-xor_all n f c (h ∷ hs) r =
    has-xor_cells n (f h) (xor_all n (map f hs)) r (c h) (cell_set-xor_all n (map f hs)) ∙ ap (xor (has (f h) r)) (has-xor_all n f c hs r)

filled : (b : Bool) (A : List (List ℤ)) (r : List ℤ) → (not (is_empty A) && (b && has A r)) ≡ (b && has A r)
unfolding is_empty
filled b [] r = sym (ap (λ t. b && t) (has-any [] r) ∙ and-false b)
filled b (c ∷ A) r = refl

pub has-couplet : (n i : ℕ) (j : ℤ) (S : List (List ℤ)) (r : List ℤ) → has (couplet n i j S) r ≡ xor (has (slice n i (j -ℤ pos 1) S) r) (has (slice n i j S) r)
unfolding couplet
has-couplet n i j S r = has-xor_cells n (slice n i (j -ℤ pos 1) S) (slice n i j S) r (cell_set-slice n i (j -ℤ pos 1) S) (cell_set-slice n i j S)

cuts_of : (n i : ℕ) (S : List (List ℤ)) → cuts n i S ≡ filter (λ h. not (is_empty (couplet n i h S))) (ints (neg_ℤ (pos (limit (suc n)))) (2 * limit (suc n) + 1))
unfolding cuts point_coords
cuts_of n i S = refl

pub section_by_couplets : (n i : ℕ) (k : ℤ) (S : List (List ℤ)) → IsCellSet (suc n) S → i < suc n
    → slice n i k S ≡ xor_all n (map (λ h. couplet n i h S) (filter (λ h. int_le h k) (cuts n i S)))
section_by_couplets n i k S s l =
    let c : IsCellSet n (slice n i k S) = cell_set-slice n i k S in
    let x : IsCellSet n (xor_all n (map (λ h. couplet n i h S) (filter (λ h. int_le h k) (cuts n i S)))) = cell_set-xor_all n (map (λ h. couplet n i h S) (filter (λ h. int_le h k) (cuts n i S))) in
    same_sets (slice n i k S) (xor_all n (map (λ h. couplet n i h S) (filter (λ h. int_le h k) (cuts n i S)))) c.ascends x.ascends
    (λ r. sym (has-xor_all n (λ h. couplet n i h S) (λ h. cell_set-couplet n i h S) (filter (λ h. int_le h k) (cuts n i S)) r ∙ sum_up r))
  where
    -- whether r is in the section at j, or in that at k where j is above k
    at : List ℤ → ℤ → Bool
    at r j = has (slice n i j S) r

    held : List ℤ → ℤ → Bool
    held r j = cond (int_le j k) (at r j) (at r k)

    none : (r : List ℤ) (j : ℤ) → (is_cell_coord (suc n) j ≡ true → ⊥) → at r j ≡ false
    none r j f = ap (λ T. has T r) (slice_outside n i j S s (refuted (is_cell_coord (suc n) j) f)) ∙ has-any [] r

    low : (r : List ℤ) (j : ℤ) → j <ℤ neg_ℤ (pos (limit (suc n))) → at r j ≡ false
    low r j m = none r j (λ q. let (a, b) = cell_is (suc n) j q in omega (arith, int_facts))

    high : (r : List ℤ) (j : ℤ) → pos (limit (suc n)) ≤ℤ j → at r j ≡ false
    high r j m = none r j (λ q. let (a, b) = cell_is (suc n) j q in omega (arith, int_facts))

    held_low : (r : List ℤ) (j : ℤ) → j <ℤ neg_ℤ (pos (limit (suc n))) → held r j ≡ false
    held_low r j m = by_lt_z k j
        (λ u. rw (le_no j k u) (low r k (omega (arith, int_facts))))
        (λ u. rw (le_yes j k u) (low r j m))

    held_high : (r : List ℤ) (j : ℤ) → pos (limit (suc n)) ≤ℤ j → held r j ≡ at r k
    held_high r j m = by_lt_z k j
        (λ u. rw (le_no j k u))
        (λ u. rw (le_yes j k u) (high r j m ∙ sym (high r k (omega (arith, int_facts)))))

    step : (r : List ℤ) (j : ℤ) → (int_le j k && xor (at r (j -ℤ pos 1)) (at r j)) ≡ xor (held r (j -ℤ pos 1)) (held r j)
    step r j = by_lt_z k j
        (λ u. by_lt_z k (j -ℤ pos 1)
        (λ v. rw (le_no j k u, le_no (j -ℤ pos 1) k v) (sym (xor_self (at r k))))
        (λ v. rw (le_no j k u, le_yes (j -ℤ pos 1) k v) (sym (ap (λ z. xor (at r z) (at r k)) (let e : j -ℤ pos 1 ≡ k = omega (arith, int_facts) in e) ∙ xor_self (at r k)))))
        (λ u. rw (le_yes j k u, le_yes (j -ℤ pos 1) k (omega (arith, int_facts))))

    sum_up : (r : List ℤ) → xsum (λ h. has (couplet n i h S) r) (filter (λ h. int_le h k) (cuts n i S)) ≡ at r k
    sum_up r =
        let low_end : ℤ = neg_ℤ (pos (limit (suc n))) in
        let m : ℕ = 2 * limit (suc n) + 1 in
        ap (λ L. xsum (λ h. has (couplet n i h S) r) (filter (λ h. int_le h k) L)) (cuts_of n i S)
        ∙ xsum-filter (λ h. has (couplet n i h S) r) (λ h. int_le h k) (filter (λ h. not (is_empty (couplet n i h S))) (ints low_end m))
        ∙ xsum-filter (λ h. int_le h k && has (couplet n i h S) r) (λ h. not (is_empty (couplet n i h S))) (ints low_end m)
        ∙ xsum-same (λ h. not (is_empty (couplet n i h S)) && (int_le h k && has (couplet n i h S) r)) (λ h. xor (held r (h -ℤ pos 1)) (held r h))
        (λ h. filled (int_le h k) (couplet n i h S) r ∙ ap (λ t. int_le h k && t) (has-couplet n i h S r) ∙ step r h) (ints low_end m)
        ∙ telescope (held r) low_end m
        ∙ ap₂ xor (held_low r (low_end -ℤ pos 1) (omega (arith, int_facts))) (held_high r (low_end -ℤ pos 1 +ℤ pos m) (omega (arith, int_facts)))
        ∙ false-xor (at r k)
