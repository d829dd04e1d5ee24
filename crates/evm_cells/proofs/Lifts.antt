-- Cell sets that lose or gain an axis, and their extreme vertices.
use Rattle.std.proofs.Common.{◌≡◌, ℕ, zero, suc, ◌<◌, ◌≤◌, Bool, true, false, cond, ◌&&◌, ◌||◌, List, [], ◌∷◌, length, filter, count_by, ℤ, pos, negsuc, neg_ℤ, ◌+ℤ◌, ◌-ℤ◌, ◌≤ℤ◌, ◌<ℤ◌, nat_abs, refl, sym, ap, ap₂, ◌∙◌, arith, int_le, int_lt, int_eq, ⊎_elim}
use Rattle.std.specs.List.{list_all, list_any}
use Rattle.std.proofs.lemmas.Bool.{false≢true, or_cases, or_left, or_right}
use Rattle.std.proofs.lemmas.Int.{ints as int_facts}
use Rattle.evm_cells.specs.Places.{same, has, each, without, with_at}
use Rattle.evm_cells.specs.Limits.{limit, ints, every_cell, cell_coords, is_cell, is_point, is_cell_coord, is_point_coord, IsCellSet}
use Rattle.evm_cells.specs.Booleans.{xor, xor_cells}
use Rattle.evm_cells.specs.Vertices.{evm, cells, touch, odd, IsVertexList}
use Rattle.evm_cells.specs.Sections.{slice, couplet}
use Rattle.evm_cells.specs.Shapes.{fronted, unfronted, front, proj, lift, lift_fits}
use Rattle.evm_cells.proofs.Xor.{xsum, xsum-same_on, xor-and, and_first, and_second, and_both, and-false, and-true, odd-count}
use Rattle.evm_cells.proofs.Sum.{xsum-none, xsum-xor}
use Rattle.evm_cells.proofs.Order.{same_tests, refuted, at_member}
use Rattle.evm_cells.proofs.Coords.{eq_yes, eq_is, eq_no, le_yes, le_no, le_is, lt_yes, lt_no, lt_is, by_order, cell_is, cell_yes, point_is, any-cell_coords, any-ints, strict_ints}
use Rattle.evm_cells.proofs.Places.{strict_places, has-any}
use Rattle.evm_cells.proofs.Universe.{absorb, guarded, cell_parts, cell_from, point_parts, same_sets, member_passes, xsum-same_place, has-cells, cell_set-cells}
use Rattle.evm_cells.proofs.Combine.{cell_set-filter, has-evm-xor}
use Rattle.evm_cells.proofs.Core.{length-without, all-without, evm-cells}
use Rattle.evm_cells.proofs.Slices.{coord, each-with_at, length-with_at, all-with_at, all-coord, has-slice, has-slice_of, cell_set-slice, couplet_vertices, next_section}
use Rattle.evm_cells.proofs.Layers.{slice_outside, evm-empty, no_places}
use Rattle.evm_cells.proofs.Moves.{has-moved}

-- ---- an axis put first

cell-fronted : (n i : ℕ) (s : List ℤ) → i < suc n → is_cell (suc n) s ≡ true → is_cell (suc n) (fronted i s) ≡ true
unfolding fronted
cell-fronted n i s l h =
    let (e, a) = cell_parts (suc n) s h in
    let f : suc (length (without i s)) ≡ length s = length-without i s (omega arith) in
    cell_from (suc n) (coord i s ∷ without i s) (f ∙ e)
    (and_both (is_cell_coord (suc n) (coord i s)) (list_all (is_cell_coord (suc n)) (without i s)) (all-coord (is_cell_coord (suc n)) i s (omega arith) a) (all-without (is_cell_coord (suc n)) i s a))

-- putting the axis first may be made on either side of a relation
pub each-fronted : (r : ℤ → ℤ → Bool) (i : ℕ) (s p : List ℤ) → i < length s → length s ≡ length p → each r s (unfronted i p) ≡ each r (fronted i s) p
unfolding fronted unfronted each
each-fronted r i s [] l e = absurd (omega arith)
each-fronted r i s (k ∷ p) l e = each-with_at r i k s p l e

same-fronted : (n i : ℕ) (s c : List ℤ) → i < suc n → is_cell (suc n) s ≡ true → is_cell (suc n) c ≡ true → same s (unfronted i c) ≡ same (fronted i s) c
unfolding same
same-fronted n i s c l h k = let (e, a) = cell_parts (suc n) s h in let (f, b) = cell_parts (suc n) c k in each-fronted int_eq i s c (omega arith) (omega arith)

pub length-unfronted : (i : ℕ) (p : List ℤ) → length (unfronted i p) ≡ length p
unfolding unfronted
length-unfronted i [] = refl
length-unfronted i (k ∷ p) = length-with_at i k p

pub has-front : (n i : ℕ) (S : List (List ℤ)) (p : List ℤ) → i < suc n → IsCellSet (suc n) S → length p ≡ suc n → has (evm (suc n) (front (suc n) i S)) p ≡ has (evm (suc n) S) (unfronted i p)
unfolding front
has-front n i S p l h e =
    has-moved (suc n) (suc n) (unfronted i) (fronted i) (unfronted i) S p h e (length-unfronted i p ∙ e)
    (λ s c k m. same-fronted n i s c l k m) (λ s k. cell-fronted n i s l k)
    (λ s k. let (f, a) = cell_parts (suc n) s k in sym (each-fronted touch i s p (omega arith) (omega arith)))

pub cell_set-front : (n i : ℕ) (S : List (List ℤ)) → IsCellSet n (front n i S)
unfolding front
cell_set-front n i S = cell_set-filter n (λ c. has S (unfronted i c))

-- ---- slice

at_height : (n i : ℕ) (k : ℤ) (V : List (List ℤ)) (p : List ℤ) → i < suc n → IsVertexList (suc n) V → length p ≡ n → has V (with_at i k p) ≡ xsum (λ q. int_eq (coord i q) k && same (without i q) p) V
unfolding same
at_height n i k V p l v e =
    sym (xsum-same_place V (with_at i k p) v.ascends)
    ∙ xsum-same_on (is_point (suc n)) (λ q. each int_eq q (with_at i k p)) (λ q. int_eq (coord i q) k && each int_eq (without i q) p)
    (λ q m. let (f, a) = point_parts (suc n) q m in each-with_at int_eq i k q p (omega arith) (omega arith)) V v.points

-- up to the height k: up to the one before, and at it
up_one : (x k : ℤ) → xor (int_le x (k -ℤ pos 1)) (int_eq x k) ≡ int_le x k
unfolding xor
up_one x k = by_order x k
    (λ l. rw (le_yes x (k -ℤ pos 1) (omega (arith, int_facts)), le_yes x k (omega (arith, int_facts)), eq_no x k (λ e. omega (arith, int_facts))))
    (λ e. rw (le_no x (k -ℤ pos 1) (omega (arith, int_facts)), le_yes x k (omega (arith, int_facts)), eq_yes x k e))
    (λ l. rw (le_no x (k -ℤ pos 1) (omega (arith, int_facts)), le_no x k l, eq_no x k (λ e. omega (arith, int_facts))))

-- below all points the section is empty
under_all : (n i : ℕ) (k : ℤ) (V : List (List ℤ)) (p : List ℤ) → i < suc n → IsVertexList (suc n) V → k <ℤ neg_ℤ (pos (limit (suc n)))
    → has (evm n (slice n i k (cells (suc n) V))) p ≡ xsum (λ q. int_le (coord i q) k && same (without i q) p) V
under_all n i k V p l v low =
    ap (λ S. has (evm n S) p) (slice_outside n i k (cells (suc n) V) (cell_set-cells (suc n) V) (refuted (is_cell_coord (suc n) k) (λ m. let (a, b) = cell_is (suc n) k m in omega (arith, int_facts))))
    ∙ ap (λ S. has S p) (evm-empty n) ∙ has-any [] p
    ∙ sym (xsum-same_on (is_point (suc n)) (λ q. int_le (coord i q) k && same (without i q) p) (λ q. false)
    (λ q m. let (f, a) = point_parts (suc n) q m in
    let (b, c) = point_is (suc n) (coord i q) (all-coord (is_point_coord (suc n)) i q (omega arith) a) in
    ap (λ t. t && same (without i q) p) (le_no (coord i q) k (omega (arith, int_facts)))) V v.points
    ∙ xsum-none V)

above_all : (n i m : ℕ) (k : ℤ) (V : List (List ℤ)) (p : List ℤ) → i < suc n → IsVertexList (suc n) V → length p ≡ n → k ≡ (neg_ℤ (pos (limit (suc n))) -ℤ pos 1) +ℤ pos m
    → has (evm n (slice n i k (cells (suc n) V))) p ≡ xsum (λ q. int_le (coord i q) k && same (without i q) p) V
above_all n i zero k V p l v e h = under_all n i k V p l v (omega (arith, int_facts))
above_all n i (suc m) k V p l v e h =
    next_section n i k (cells (suc n) V) p (cell_set-cells (suc n) V) l e
    ∙ ap₂ xor (above_all n i m (k -ℤ pos 1) V p l v e (omega (arith, int_facts)))
    (ap (λ W. has W (with_at i k p)) (evm-cells (suc n) V v) ∙ at_height n i k V p l v e)
    ∙ sym (xsum-xor (λ q. int_le (coord i q) (k -ℤ pos 1) && same (without i q) p) (λ q. int_eq (coord i q) k && same (without i q) p) V)
    ∙ ap (λ f. xsum f V) (λ j q. (sym (xor-and (int_le (coord i q) (k -ℤ pos 1)) (int_eq (coord i q) k) (same (without i q) p)) ∙ ap (λ t. t && same (without i q) p) (up_one (coord i q) k)) j)

-- the extreme vertices of a section
pub has-evm-slice : (n i : ℕ) (k : ℤ) (V : List (List ℤ)) (p : List ℤ) → i < suc n → IsVertexList (suc n) V → length p ≡ n
    → has (evm n (slice n i k (cells (suc n) V))) p ≡ odd (count_by (λ q. int_le (coord i q) k && same (without i q) p) V)
has-evm-slice n i k V p l v e = at (k -ℤ (neg_ℤ (pos (limit (suc n))) -ℤ pos 1)) refl ∙ sym (odd-count (λ q. int_le (coord i q) k && same (without i q) p) V)
  where
    at : (d : ℤ) → k -ℤ (neg_ℤ (pos (limit (suc n))) -ℤ pos 1) ≡ d → has (evm n (slice n i k (cells (suc n) V))) p ≡ xsum (λ q. int_le (coord i q) k && same (without i q) p) V
    at (pos m) h = above_all n i m k V p l v e (omega (arith, int_facts))
    at (negsuc m) h = under_all n i k V p l v (omega (arith, int_facts))

-- ---- lift

pub without-with_at : (i : ℕ) (k : ℤ) (c : List ℤ) → i ≤ length c → without i (with_at i k c) ≡ c
unfolding without with_at
without-with_at zero k c l = refl
without-with_at (suc i) k [] l = absurd (omega arith)
without-with_at (suc i) k (x ∷ c) l = ap (λ z. x ∷ z) (without-with_at i k c (omega arith))

pub coord-with_at : (i : ℕ) (k : ℤ) (c : List ℤ) → i ≤ length c → coord i (with_at i k c) ≡ k
unfolding with_at
coord-with_at zero k c l = refl
coord-with_at (suc i) k [] l = absurd (omega arith)
coord-with_at (suc i) k (x ∷ c) l = coord-with_at i k c (omega arith)

pub with_at-without : (i : ℕ) (p : List ℤ) → i < length p → with_at i (coord i p) (without i p) ≡ p
unfolding without with_at
with_at-without i [] l = absurd (omega arith)
with_at-without zero (x ∷ p) l = refl
with_at-without (suc i) (x ∷ p) l = ap (λ z. x ∷ z) (with_at-without i p (omega arith))

abbrev between : ℤ → ℤ → ℤ → Bool
between lo hi k = int_le lo k && int_lt k hi

has-lift : (n i : ℕ) (lo hi : ℤ) (S : List (List ℤ)) (c : List ℤ) → has (lift n i lo hi S) c ≡ (is_cell n c && (has S (without i c) && between lo hi (coord i c)))
unfolding lift
has-lift n i lo hi S c = has-cells n (λ d. has S (without i d) && between lo hi (coord i d)) c

pub cell_set-lift : (n i : ℕ) (lo hi : ℤ) (S : List (List ℤ)) → IsCellSet n (lift n i lo hi S)
unfolding lift
cell_set-lift n i lo hi S = cell_set-filter n (λ d. has S (without i d) && between lo hi (coord i d))

length_between : (lo hi : ℤ) → lo <ℤ hi → pos (nat_abs (hi -ℤ lo)) ≡ hi -ℤ lo
length_between lo hi l = at (hi -ℤ lo) refl
  where
    at : (d : ℤ) → hi -ℤ lo ≡ d → pos (nat_abs d) ≡ d
    at (pos m) e = refl
    at (negsuc m) e = absurd (omega (arith, int_facts))

-- the heights of a prism are those between its ends
pub heights_are : (lo hi k : ℤ) → int_lt lo hi ≡ true → list_any (int_eq k) (ints lo (nat_abs (hi -ℤ lo))) ≡ between lo hi k
heights_are lo hi k m =
    let l : lo <ℤ hi = lt_is lo hi m in
    let d : pos (nat_abs (hi -ℤ lo)) ≡ hi -ℤ lo = length_between lo hi l in
    any-ints k lo (nat_abs (hi -ℤ lo)) ∙ ap (λ t. int_le lo k && int_lt k t) (let e : lo +ℤ pos (nat_abs (hi -ℤ lo)) ≡ hi = omega (arith, int_facts, d) in e)

pub lifted_cell : (n i : ℕ) (lo hi k : ℤ) (S : List (List ℤ)) (c : List ℤ) → int_lt lo hi ≡ true → lift_fits n i lo hi S ≡ true → has S c ≡ true → between lo hi k ≡ true
    → is_cell n (with_at i k c) ≡ true
unfolding lift_fits
lifted_cell n i lo hi k S c m f h r =
    at_member int_eq int_lt strict_ints (λ j. is_cell n (with_at i j c)) k (ints lo (nat_abs (hi -ℤ lo))) (heights_are lo hi k m ∙ r)
    (member_passes (λ d. list_all (λ j. is_cell n (with_at i j d)) (ints lo (nat_abs (hi -ℤ lo)))) S c f h)

-- a section of the prism is its base, or empty
slice-lift : (n i : ℕ) (lo hi k : ℤ) (S : List (List ℤ)) → i < suc n → IsCellSet n S → int_lt lo hi ≡ true → lift_fits (suc n) i lo hi S ≡ true → slice n i k (lift (suc n) i lo hi S) ≡ cond (between lo hi k) S []
slice-lift n i lo hi k S l h b f = at (between lo hi k) refl
  where
    T : List (List ℤ)
    T = lift (suc n) i lo hi S

    test : (c : List ℤ) → has (slice n i k T) c ≡ (has S c && between lo hi k)
    test c =
        has-slice n i k T c
        ∙ guarded (is_cell n c) (has T (with_at i k c)) (has S c && between lo hi k)
        (λ m. let (e, w) = cell_parts n c m in
        has-lift (suc n) i lo hi S (with_at i k c)
        ∙ ap (λ t. is_cell (suc n) (with_at i k c) && t) (ap₂ (λ d j. has S d && between lo hi j) (without-with_at i k c (omega arith)) (coord-with_at i k c (omega arith)))
        ∙ absorb (is_cell (suc n) (with_at i k c)) (has S c && between lo hi k) (λ r. lifted_cell (suc n) i lo hi k S c b f (and_first (has S c) (between lo hi k) r) (and_second (has S c) (between lo hi k) r)))
        (λ r. member_passes (is_cell n) S c h.cells (and_first (has S c) (between lo hi k) r))

    at : (t : Bool) → between lo hi k ≡ t → slice n i k T ≡ cond (between lo hi k) S []
    at true e =
        let s : IsCellSet n (slice n i k T) = cell_set-slice n i k T in
        same_sets (slice n i k T) S s.ascends h.ascends (λ c. test c ∙ ap (λ t. has S c && t) e ∙ and-true (has S c)) ∙ ap (λ t. cond t S []) (sym e)
    at false e =
        let s : IsCellSet n (slice n i k T) = cell_set-slice n i k T in
        same_sets (slice n i k T) [] s.ascends no_places (λ c. test c ∙ ap (λ t. has S c && t) e ∙ and-false (has S c) ∙ sym (has-any [] c)) ∙ ap (λ t. cond t S []) (sym e)

has-evm-chosen : (n : ℕ) (b : Bool) (S : List (List ℤ)) (p : List ℤ) → has (evm n (cond b S [])) p ≡ (b && has (evm n S) p)
has-evm-chosen n true S p = refl
has-evm-chosen n false S p = ap (λ V. has V p) (evm-empty n) ∙ has-any [] p

cell_set-chosen : (n : ℕ) (b : Bool) (S : List (List ℤ)) → IsCellSet n S → IsCellSet n (cond b S [])
cell_set-chosen n true S h = h
cell_set-chosen n false S h = record { ascends = no_places; cells = refl }

-- the prism begins at lo and ends at hi
ends_of : (lo hi x : ℤ) → int_lt lo hi ≡ true → xor (between lo hi (x -ℤ pos 1)) (between lo hi x) ≡ (int_eq lo x || int_eq hi x)
unfolding xor
ends_of lo hi x h =
    let m : lo <ℤ hi = lt_is lo hi h in
    by_order x lo
    (λ l. rw (eq_no lo x (λ e. omega (arith, int_facts)), eq_no hi x (λ e. omega (arith, int_facts)), le_no lo (x -ℤ pos 1) (omega (arith, int_facts)), le_no lo x l))
    (λ e. rw (eq_yes lo x (sym e), le_no lo (x -ℤ pos 1) (omega (arith, int_facts)), le_yes lo x (omega (arith, int_facts)), lt_yes x hi (omega (arith, int_facts))))
    (λ l. by_order x hi
    (λ u. rw (eq_no lo x (λ e. omega (arith, int_facts)), eq_no hi x (λ e. omega (arith, int_facts)), le_yes lo (x -ℤ pos 1) (omega (arith, int_facts)), le_yes lo x (omega (arith, int_facts)), lt_yes (x -ℤ pos 1) hi (omega (arith, int_facts)), lt_yes x hi u))
    (λ u. rw (eq_no lo x (λ e. omega (arith, int_facts)), eq_yes hi x (sym u), le_yes lo (x -ℤ pos 1) (omega (arith, int_facts)), le_yes lo x (omega (arith, int_facts)), lt_yes (x -ℤ pos 1) hi (omega (arith, int_facts)), lt_no x hi (omega (arith, int_facts))))
    (λ u. rw (eq_no lo x (λ e. omega (arith, int_facts)), eq_no hi x (λ e. omega (arith, int_facts)), le_yes lo (x -ℤ pos 1) (omega (arith, int_facts)), le_yes lo x (omega (arith, int_facts)), lt_no (x -ℤ pos 1) hi (omega (arith, int_facts)), lt_no x hi (omega (arith, int_facts)))))

pub has-evm-lift : (n i : ℕ) (lo hi : ℤ) (S : List (List ℤ)) (p : List ℤ) → i < suc n → IsCellSet n S → length p ≡ suc n → int_lt lo hi ≡ true → lift_fits (suc n) i lo hi S ≡ true
    → has (evm (suc n) (lift (suc n) i lo hi S)) p ≡ ((int_eq lo (coord i p) || int_eq hi (coord i p)) && has (evm n S) (without i p))
unfolding couplet
has-evm-lift n i lo hi S p l h e m f =
    let T : List (List ℤ) = lift (suc n) i lo hi S in
    let x : ℤ = coord i p in
    let w : suc (length (without i p)) ≡ length p = length-without i p (omega arith) in
    ap (has (evm (suc n) T)) (sym (with_at-without i p (omega arith)))
    ∙ sym (couplet_vertices n i x T (without i p) (cell_set-lift (suc n) i lo hi S) l (omega arith))
    ∙ ap₂ (λ A B. has (evm n (xor_cells n A B)) (without i p)) (slice-lift n i lo hi (x -ℤ pos 1) S l h m f) (slice-lift n i lo hi x S l h m f)
    ∙ has-evm-xor n (cond (between lo hi (x -ℤ pos 1)) S []) (cond (between lo hi x) S []) (without i p) (cell_set-chosen n (between lo hi (x -ℤ pos 1)) S h) (cell_set-chosen n (between lo hi x) S h)
    ∙ ap₂ xor (has-evm-chosen n (between lo hi (x -ℤ pos 1)) S (without i p)) (has-evm-chosen n (between lo hi x) S (without i p))
    ∙ sym (xor-and (between lo hi (x -ℤ pos 1)) (between lo hi x) (has (evm n S) (without i p)))
    ∙ ap (λ t. t && has (evm n S) (without i p)) (ends_of lo hi x m)

-- ---- projection

-- some element that passes, and a test that an element passes
pub some_passing : {X : Type 0} (p : X → Bool) (xs : List X) → list_any p xs ≡ true → (x : X) × (p x ≡ true) × ((q : X → Bool) → q x ≡ true → list_any q xs ≡ true)
some_passing p [] h = absurd (false≢true h)
some_passing p (x ∷ xs) h = ⊎_elim
    (λ e. (x, e, λ q f. or_left (q x) (list_any q xs) f))
    (λ e. let (y, a, b) = some_passing p xs e in (y, a, λ q f. or_right (q x) (list_any q xs) (b q f)))
    (or_cases (p x) (list_any p xs) h)

-- a cell of the projection stands in some section
any_section : (n i : ℕ) (S : List (List ℤ)) (c : List ℤ) → i < suc n → IsCellSet (suc n) S → length c ≡ n → list_any (λ s. same (without i s) c) S ≡ list_any (λ k. has (slice n i k S) c) (cell_coords (suc n))
any_section n i S c l h e = same_tests (list_any (λ s. same (without i s) c) S) (list_any (λ k. has (slice n i k S) c) (cell_coords (suc n)))
    (λ m. let (s, a, inside) = some_passing (λ s. same (without i s) c) S m in
    let here : has S s ≡ true = has-any S s ∙ inside (same s) (strict_places.itself s) in
    let (f, b) = cell_parts (suc n) s (member_passes (is_cell (suc n)) S s h.cells here) in
    let k : list_any (int_eq (coord i s)) (cell_coords (suc n)) ≡ true = any-cell_coords (suc n) (coord i s) ∙ all-coord (is_cell_coord (suc n)) i s (omega arith) b in
    let (z, d, within) = some_passing (int_eq (coord i s)) (cell_coords (suc n)) k in
    let t : with_at i z c ≡ s = ap₂ (with_at i) (sym (eq_is (coord i s) z d)) (sym (strict_places.equal (without i s) c a)) ∙ with_at-without i s (omega arith) in
    within (λ j. has (slice n i j S) c) (has-slice_of n i z S c h ∙ ap (has S) t ∙ here))
    (λ m. let (z, a, inside) = some_passing (λ k. has (slice n i k S) c) (cell_coords (suc n)) m in
    let here : list_any (same (with_at i z c)) S ≡ true = sym (has-any S (with_at i z c)) ∙ sym (has-slice_of n i z S c h) ∙ a in
    let (s, d, within) = some_passing (same (with_at i z c)) S here in
    within (λ q. same (without i q) c)
    (ap (λ q. same (without i q) c) (sym (strict_places.equal (with_at i z c) s d)) ∙ ap (λ q. same q c) (without-with_at i z c (omega arith)) ∙ strict_places.itself c))

pub proj_of_sections : (n i : ℕ) (S : List (List ℤ)) → i < suc n → IsCellSet (suc n) S → proj n i S ≡ filter (λ c. list_any (λ k. has (slice n i k S) c) (cell_coords (suc n))) (every_cell n)
unfolding proj
proj_of_sections n i S l h =
    let A : IsCellSet n (filter (λ c. list_any (λ s. same (without i s) c) S) (every_cell n)) = cell_set-filter n (λ c. list_any (λ s. same (without i s) c) S) in
    let B : IsCellSet n (filter (λ c. list_any (λ k. has (slice n i k S) c) (cell_coords (suc n))) (every_cell n)) = cell_set-filter n (λ c. list_any (λ k. has (slice n i k S) c) (cell_coords (suc n))) in
    same_sets (filter (λ c. list_any (λ s. same (without i s) c) S) (every_cell n)) (filter (λ c. list_any (λ k. has (slice n i k S) c) (cell_coords (suc n))) (every_cell n)) A.ascends B.ascends
    (λ c. has-cells n (λ d. list_any (λ s. same (without i s) d) S) c
    ∙ both (is_cell n c) (list_any (λ s. same (without i s) c) S) (list_any (λ k. has (slice n i k S) c) (cell_coords (suc n))) (λ m. let (e, a) = cell_parts n c m in any_section n i S c l h e)
    ∙ sym (has-cells n (λ d. list_any (λ k. has (slice n i k S) d) (cell_coords (suc n))) c))
  where
    both : (p x y : Bool) → (p ≡ true → x ≡ y) → (p && x) ≡ (p && y)
    both true x y f = f refl
    both false x y f = refl

pub cell_set-proj : (n i : ℕ) (S : List (List ℤ)) → IsCellSet n (proj n i S)
unfolding proj
cell_set-proj n i S = cell_set-filter n (λ c. list_any (λ s. same (without i s) c) S)

-- the sections along an axis are those along the first, where it is put first
slice_of_front : (n i : ℕ) (k : ℤ) (S : List (List ℤ)) (c : List ℤ) → IsCellSet (suc n) S → has (slice n i k S) c ≡ has (slice n 0 k (front (suc n) i S)) c
unfolding front unfronted with_at
slice_of_front n i k S c h =
    has-slice_of n i k S c h
    ∙ sym (has-slice_of n 0 k (front (suc n) i S) c (cell_set-front (suc n) i S)
    ∙ has-cells (suc n) (λ d. has S (unfronted i d)) (k ∷ c)
    ∙ absorb (is_cell (suc n) (k ∷ c)) (has S (with_at i k c))
    (λ m. let (e, a) = cell_parts (suc n) (with_at i k c) (member_passes (is_cell (suc n)) S (with_at i k c) h.cells m) in
    cell_from (suc n) (k ∷ c) (sym (length-with_at i k c) ∙ e) (sym (all-with_at (is_cell_coord (suc n)) i k c) ∙ a)))

pub proj_of_front : (n i : ℕ) (S : List (List ℤ)) → i < suc n → IsCellSet (suc n) S → proj n i S ≡ proj n 0 (front (suc n) i S)
proj_of_front n i S l h =
    proj_of_sections n i S l h
    ∙ ap (λ f. filter f (every_cell n)) (λ j c. list_any (λ k. slice_of_front n i k S c h j) (cell_coords (suc n)))
    ∙ sym (proj_of_sections n 0 (front (suc n) i S) (omega arith) (cell_set-front (suc n) i S))
