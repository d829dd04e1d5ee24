-- Rows that are written couplet by couplet, at ascending heights of the first axis.
use Rattle.std.proofs.Common.{◌≡◌, ℕ, suc, ◌+◌, ◌<◌, ◌≤ℤ◌, ◌<ℤ◌, Bool, true, false, not, cond, ◌&&◌, ◌||◌, Some, List, [], ◌∷◌, ◌++◌, length, map, filter, get_or, ℤ, pos, neg_ℤ, ◌-ℤ◌, int_le, int_lt, int_eq, refl, sym, ap, ap₂, ◌∙◌, subst, arith, append_assoc}
use Rattle.std.specs.List.{list_any, list_all}
use Rattle.std.proofs.lemmas.Bool.{false≢true, true≢false}
use Rattle.std.proofs.lemmas.Int.{ints as int_facts}
use Rattle.evm_cells.specs.Places.{each, same, before, has, with_at, ascending}
use Rattle.evm_cells.specs.Limits.{is_point, is_point_coord, is_cell_coord, limit, IsCellSet}
use Rattle.evm_cells.specs.Booleans.{xor_cells}
use Rattle.evm_cells.specs.Sections.{slice, couplet, rows_at}
use Rattle.evm_cells.specs.Vertices.{evm}
use Rattle.evm_cells.proofs.Xor.{and_first, and_second, and_both, and-true, and-false}
use Rattle.evm_cells.proofs.Order.{rising, refuted, at_member}
use Rattle.evm_cells.proofs.Lists.{any-append, any-map, any-and_left, all_weaker, all-map, rising-append}
use Rattle.evm_cells.proofs.Coords.{by_order, le_yes, le_no, lt_yes, lt_no, le_is, lt_is, eq_is, eq_yes, eq_no, strict_ints, point_is}
use Rattle.evm_cells.proofs.Places.{ascending-rising, has-any, before_first, rising_prefixed, strict_places}
use Rattle.evm_cells.proofs.Universe.{same_sets, has-filter, ascending-filter, ascending-evm, points-evm, member_passes, point_parts}
use Rattle.evm_cells.proofs.Slices.{cell_set-slice, cell_set-couplet}
use Rattle.evm_cells.proofs.Layers.{rows-evm, has-rows_at, both_guarded, evm-empty, no_empty_point, slice_outside, filter_all}
use Rattle.evm_rows.specs.Rows.{flat_of, raised, xor_rows}
use Rattle.evm_rows.proofs.BoxTests.{flat_of-append}
use Rattle.evm_sections.proofs.Sections.{calm, xor_rows-evm}

-- the rows up to a height of the first axis
abbrev pub rows_upto : ℤ → List (List ℤ) → List (List ℤ)
rows_upto k V = filter (λ q. int_le (get_or q 0 (pos 0)) k) V

-- whether a vertex of S stands at k, on the line r of the other axes
vertex_at : (n : ℕ) (S : List (List ℤ)) (k : ℤ) (r : List ℤ) → IsCellSet (suc n) S → length r ≡ n → has (evm n (couplet n 0 k S)) r ≡ has (evm (suc n) S) (k ∷ r)
unfolding with_at
vertex_at n S k r s l = ap (λ L. has L r) (sym (rows-evm n 0 k S s (omega arith))) ∙ has-rows_at n 0 k (evm (suc n) S) r (omega arith) l (points-evm (suc n) S)

none_at : (n : ℕ) (S : List (List ℤ)) (k : ℤ) (r : List ℤ) → IsCellSet (suc n) S → length r ≡ n → couplet n 0 k S ≡ [] → has (evm (suc n) S) (k ∷ r) ≡ false
unfolding has
none_at n S k r s l e = sym (vertex_at n S k r s l) ∙ ap (λ L. has (evm n L) r) e ∙ ap (λ L. has L r) (evm-empty n)

has-raised : (h k : ℤ) (W : List (List ℤ)) (r : List ℤ) → has (map (λ t. h ∷ t) W) (k ∷ r) ≡ (int_eq k h && has W r)
unfolding same each
has-raised h k W r =
    has-any (map (λ t. h ∷ t) W) (k ∷ r) ∙ any-map (same (k ∷ r)) (λ t. h ∷ t) W ∙ any-and_left (int_eq k h) (same r) W ∙ ap (λ t. int_eq k h && t) (sym (has-any W r))

has-append : (A B : List (List ℤ)) (q : List ℤ) → has (A ++ B) q ≡ (has A q || has B q)
has-append A B q = has-any (A ++ B) q ∙ any-append (same q) A B ∙ ap₂ (λ s t. s || t) (sym (has-any A q)) (sym (has-any B q))

points-raised : (n : ℕ) (h : ℤ) (S : List (List ℤ)) (q : List ℤ) → IsCellSet (suc n) S → has (map (λ t. h ∷ t) (evm n (couplet n 0 h S))) q ≡ true → is_point (suc n) q ≡ true
unfolding has same each
points-raised n h S [] s m = absurd (false≢true (sym (none (evm n (couplet n 0 h S))) ∙ m))
  where
    none : (W : List (List ℤ)) → list_any (same []) (map (λ t. h ∷ t) W) ≡ false
    none [] = refl
    none (w ∷ W) = none W
points-raised n h S (k ∷ r) s m =
    let W = evm n (couplet n 0 h S) in
    let e : (int_eq k h && has W r) ≡ true = sym (has-raised h k W r) ∙ m in
    let p : is_point n r ≡ true = member_passes (is_point n) W r (points-evm n (couplet n 0 h S)) (and_second (int_eq k h) (has W r) e) in
    let (l, u) = point_parts n r p in
    member_passes (is_point (suc n)) (evm (suc n) S) (k ∷ r) (points-evm (suc n) S)
    (ap (λ z. has (evm (suc n) S) (z ∷ r)) (eq_is k h (and_first (int_eq k h) (has W r) e)) ∙ sym (vertex_at n S h r s l) ∙ and_second (int_eq k h) (has W r) e)

-- where no couplet stands between two heights, the rows up to the higher are those up to the lower, and its couplet
pub upto_more : (n : ℕ) (S : List (List ℤ)) (l h : ℤ) → IsCellSet (suc n) S → l <ℤ h → ((k : ℤ) → l <ℤ k → k <ℤ h → couplet n 0 k S ≡ [])
    → rows_upto h (evm (suc n) S) ≡ rows_upto l (evm (suc n) S) ++ map (λ t. h ∷ t) (evm n (couplet n 0 h S))
upto_more n S l h s up none = same_sets (rows_upto h V) (rows_upto l V ++ R) (ascending-filter (λ q. int_le (get_or q 0 (pos 0)) h) V (ascending-evm (suc n) S)) asc at
  where
    V : List (List ℤ)
    V = evm (suc n) S

    W : List (List ℤ)
    W = evm n (couplet n 0 h S)

    R : List (List ℤ)
    R = map (λ t. h ∷ t) W

    higher : (q : List ℤ) → (int_le (get_or q 0 (pos 0)) l && is_point (suc n) q) ≡ true → list_all (before q) R ≡ true
    higher [] m = absurd (false≢true (sym (no_empty_point n) ∙ and_second (int_le (pos 0) l) (is_point (suc n) []) m))
    higher (x ∷ q) m =
        let e : x ≤ℤ l = le_is x l (and_first (int_le x l) (is_point (suc n) (x ∷ q)) m) in
        all-map (before (x ∷ q)) (λ t. h ∷ t) W ∙ all_weaker (λ t. true) (λ t. before (x ∷ q) (h ∷ t)) (λ t u. before_first x h q t (lt_yes x h (omega (arith, int_facts)))) W (always W)
      where
        always : (X : List (List ℤ)) → list_all (λ t. true) X ≡ true
        always [] = refl
        always (t ∷ X) = always X

    low_points : (X : List (List ℤ)) → list_all (is_point (suc n)) X ≡ true → list_all (λ q. int_le (get_or q 0 (pos 0)) l && is_point (suc n) q) (rows_upto l X) ≡ true
    low_points [] a = refl
    low_points (q ∷ X) a = at_test (int_le (get_or q 0 (pos 0)) l) refl (low_points X (and_second (is_point (suc n) q) (list_all (is_point (suc n)) X) a))
      where
        at_test : (b : Bool) → int_le (get_or q 0 (pos 0)) l ≡ b → list_all (λ p. int_le (get_or p 0 (pos 0)) l && is_point (suc n) p) (rows_upto l X) ≡ true
            → list_all (λ p. int_le (get_or p 0 (pos 0)) l && is_point (suc n) p) (cond b (q ∷ rows_upto l X) (rows_upto l X)) ≡ true
        at_test true e f =
            and_both (int_le (get_or q 0 (pos 0)) l && is_point (suc n) q) (list_all (λ p. int_le (get_or p 0 (pos 0)) l && is_point (suc n) p) (rows_upto l X))
            (and_both (int_le (get_or q 0 (pos 0)) l) (is_point (suc n) q) e (and_first (is_point (suc n) q) (list_all (is_point (suc n)) X) a)) f
        at_test false e f = f

    asc : ascending (rows_upto l V ++ R) ≡ true
    asc =
        ascending-rising (rows_upto l V ++ R)
        ∙ rising-append before (rows_upto l V) R
        (sym (ascending-rising (rows_upto l V)) ∙ ascending-filter (λ q. int_le (get_or q 0 (pos 0)) l) V (ascending-evm (suc n) S))
        (rising_prefixed h W (sym (ascending-rising W) ∙ ascending-evm n (couplet n 0 h S)))
        (all_weaker (λ q. int_le (get_or q 0 (pos 0)) l && is_point (suc n) q) (λ q. list_all (before q) R) higher (rows_upto l V) (low_points V (points-evm (suc n) S)))

    in_rows : (k : ℤ) (q : List ℤ) → has (rows_upto k V) q ≡ true → is_point (suc n) q ≡ true
    in_rows k q m = member_passes (is_point (suc n)) V q (points-evm (suc n) S) (and_first (has V q) (int_le (get_or q 0 (pos 0)) k) (sym (has-filter (λ p. int_le (get_or p 0 (pos 0)) k) V q) ∙ m))

    in_both : (q : List ℤ) (a b : Bool) → has (rows_upto l V) q ≡ a → has R q ≡ b → (a || b) ≡ true → is_point (suc n) q ≡ true
    in_both q true b e f m = in_rows l q e
    in_both q false b e f m = points-raised n h S q s (f ∙ m)

    at : (q : List ℤ) → has (rows_upto h V) q ≡ has (rows_upto l V ++ R) q
    at q = both_guarded (is_point (suc n) q) (has (rows_upto h V) q) (has (rows_upto l V ++ R) q) (in_rows h q)
        (λ m. in_both q (has (rows_upto l V) q) (has R q) refl refl (sym (has-append (rows_upto l V) R q) ∙ m)) (at_point q)
      where
        at_point : (p : List ℤ) → is_point (suc n) p ≡ true → has (rows_upto h V) p ≡ has (rows_upto l V ++ R) p
        at_point [] m = absurd (false≢true (sym (no_empty_point n) ∙ m))
        at_point (k ∷ r) m =
            let (e, u) = point_parts (suc n) (k ∷ r) m in
            let wide : length r ≡ n = omega arith in
            has-filter (λ p. int_le (get_or p 0 (pos 0)) h) V (k ∷ r)
            ∙ by_place k r wide
            ∙ sym (has-append (rows_upto l V) R (k ∷ r) ∙ ap₂ (λ a b. a || b) (has-filter (λ p. int_le (get_or p 0 (pos 0)) l) V (k ∷ r)) (has-raised h k W r ∙ ap (λ t. int_eq k h && t) (vertex_at n S h r s wide)))
          where
            or_none : (b : Bool) → b ≡ ((b && true) || false)
            or_none true = refl
            or_none false = refl

            by_place : (x : ℤ) (t : List ℤ) → length t ≡ n → (has V (x ∷ t) && int_le x h) ≡ ((has V (x ∷ t) && int_le x l) || (int_eq x h && has V (h ∷ t)))
            by_place x t w =
                by_order x h
                (λ under. by_order l x
                (λ over. rw (none_at n S x t s w (none x over under), eq_no x h (λ e. omega (arith, int_facts))) refl)
                (λ e. rw (le_yes x h (omega (arith, int_facts)), le_yes x l (omega (arith, int_facts)), eq_no x h (λ e. omega (arith, int_facts))) (and-true (has V (x ∷ t)) ∙ or_none (has V (x ∷ t))))
                (λ low. rw (le_yes x h (omega (arith, int_facts)), le_yes x l (omega (arith, int_facts)), eq_no x h (λ e. omega (arith, int_facts))) (and-true (has V (x ∷ t)) ∙ or_none (has V (x ∷ t)))))
                (λ e. rw (le_yes x h (omega (arith, int_facts)), le_no x l (omega (arith, int_facts)), eq_yes x h e, and-false (has V (x ∷ t))) (and-true (has V (x ∷ t)) ∙ ap (λ z. has V (z ∷ t)) e))
                (λ over. rw (le_no x h (omega (arith, int_facts)), le_no x l (omega (arith, int_facts)), eq_no x h (λ e. omega (arith, int_facts)), and-false (has V (x ∷ t))) refl)

-- above the last couplet there is no row
pub upto_all : (n : ℕ) (S : List (List ℤ)) (l : ℤ) → IsCellSet (suc n) S → ((k : ℤ) → l <ℤ k → couplet n 0 k S ≡ []) → rows_upto l (evm (suc n) S) ≡ evm (suc n) S
upto_all n S l s none = same_sets (rows_upto l V) V (ascending-filter (λ q. int_le (get_or q 0 (pos 0)) l) V (ascending-evm (suc n) S)) (ascending-evm (suc n) S)
    (λ q. has-filter (λ p. int_le (get_or p 0 (pos 0)) l) V q ∙ kept q)
  where
    V : List (List ℤ)
    V = evm (suc n) S

    kept : (q : List ℤ) → (has V q && int_le (get_or q 0 (pos 0)) l) ≡ has V q
    kept q = both_guarded (is_point (suc n) q) (has V q && int_le (get_or q 0 (pos 0)) l) (has V q)
        (λ m. member_passes (is_point (suc n)) V q (points-evm (suc n) S) (and_first (has V q) (int_le (get_or q 0 (pos 0)) l) m))
        (member_passes (is_point (suc n)) V q (points-evm (suc n) S)) (at_point q)
      where
        at_point : (p : List ℤ) → is_point (suc n) p ≡ true → (has V p && int_le (get_or p 0 (pos 0)) l) ≡ has V p
        at_point [] m = absurd (false≢true (sym (no_empty_point n) ∙ m))
        at_point (k ∷ r) m =
            let (e, u) = point_parts (suc n) (k ∷ r) m in
            by_order l k
            (λ over. ap (λ t. t && int_le k l) (none_at n S k r s (omega arith) (none k over)) ∙ sym (none_at n S k r s (omega arith) (none k over)))
            (λ same. ap (λ t. has V (k ∷ r) && t) (le_yes k l (omega (arith, int_facts))) ∙ and-true (has V (k ∷ r)))
            (λ low. ap (λ t. has V (k ∷ r) && t) (le_yes k l (omega (arith, int_facts))) ∙ and-true (has V (k ∷ r)))

-- below the limits there is none either
pub upto_none : (n : ℕ) (S : List (List ℤ)) (l : ℤ) → l <ℤ neg_ℤ (pos (limit (suc n))) → rows_upto l (evm (suc n) S) ≡ []
upto_none n S l low = none (evm (suc n) S) (points-evm (suc n) S)
  where
    none : (X : List (List ℤ)) → list_all (is_point (suc n)) X ≡ true → rows_upto l X ≡ []
    none [] a = refl
    none ([] ∷ X) a = absurd (false≢true (sym (no_empty_point n) ∙ and_first (is_point (suc n) []) (list_all (is_point (suc n)) X) a))
    none ((x ∷ q) ∷ X) a =
        let (e, u) = point_parts (suc n) (x ∷ q) (and_first (is_point (suc n) (x ∷ q)) (list_all (is_point (suc n)) X) a) in
        let (v, w) = point_is (suc n) x (and_first (is_point_coord (suc n) x) (list_all (is_point_coord (suc n)) q) u) in
        ap (λ t. cond t ((x ∷ q) ∷ rows_upto l X) (rows_upto l X)) (le_no x l (omega (arith, int_facts))) ∙ none X (and_second (is_point (suc n) (x ∷ q)) (list_all (is_point (suc n)) X) a)

-- ---- the loop over heights

-- the rows of S up to a level are written; the heights that are left are above it, and no couplet stands between them
pub record Written (n : ℕ) (S : List (List ℤ)) (level : ℤ) (out left : List ℤ) : Type 0 where
  pub done : out ≡ flat_of (rows_upto level (evm (suc n) S))
  pub above : list_all (int_lt level) left ≡ true
  pub rises : rising int_lt left ≡ true
  pub calm : (k : ℤ) → level <ℤ k → list_any (int_eq k) left ≡ false → couplet n 0 k S ≡ []

-- between a level and the next height no couplet stands
pub calm_between : (n : ℕ) (S : List (List ℤ)) (level h : ℤ) (out left : List ℤ) → Written n S level out (h ∷ left) → (k : ℤ) → level <ℤ k → k <ℤ h → couplet n 0 k S ≡ []
unfolding rising
calm_between n S level h out left w k up low = w.calm k up (rw (eq_no k h (λ e. omega (arith, int_facts))) (refuted (list_any (int_eq k) left)
    (λ m. let over : h <ℤ k = lt_is h k (at_member int_eq int_lt strict_ints (int_lt h) k left m (and_first (list_all (int_lt h) left) (rising int_lt left) w.rises)) in omega (arith, int_facts))))

pub first_above : (n : ℕ) (S : List (List ℤ)) (level h : ℤ) (out left : List ℤ) → Written n S level out (h ∷ left) → level <ℤ h
first_above n S level h out left w = lt_is level h (and_first (int_lt level h) (list_all (int_lt level) left) w.above)

pub written_more : (n : ℕ) (S : List (List ℤ)) (level h : ℤ) (out grown left : List ℤ) → IsCellSet (suc n) S → Written n S level out (h ∷ left)
    → grown ≡ out ++ flat_of (raised (Some h) (evm n (couplet n 0 h S))) → Written n S h grown left
unfolding rising
written_more n S level h out grown left s w e = record {
  done = e ∙ ap (λ (o : List ℤ). o ++ flat_of (raised (Some h) (evm n (couplet n 0 h S)))) w.done
      ∙ sym (flat_of-append (rows_upto level (evm (suc n) S)) (map (λ t. h ∷ t) (evm n (couplet n 0 h S))))
      ∙ ap flat_of (sym (upto_more n S level h s (first_above n S level h out left w) (calm_between n S level h out left w)));
  above = and_first (list_all (int_lt h) left) (rising int_lt left) w.rises;
  rises = and_second (list_all (int_lt h) left) (rising int_lt left) w.rises;
  calm = λ k up none. let low : level <ℤ h = first_above n S level h out left w in
      w.calm k (omega (arith, int_facts)) (rw (eq_no k h (λ q. omega (arith, int_facts))) none);
}

pub written_all : (n : ℕ) (S : List (List ℤ)) (level : ℤ) (out : List ℤ) → IsCellSet (suc n) S → Written n S level out [] → out ≡ flat_of (evm (suc n) S)
written_all n S level out s w = w.done ∙ ap flat_of (upto_all n S level s (λ k up. w.calm k up refl))

-- the level just below the limits
abbrev pub bottom : ℕ → ℤ
bottom n = neg_ℤ (pos (limit (suc n))) -ℤ pos 1

pub written_start : (n : ℕ) (S : List (List ℤ)) (out left : List ℤ) → out ≡ [] → rising int_lt left ≡ true → list_all (int_lt (bottom n)) left ≡ true
    → ((k : ℤ) → list_any (int_eq k) left ≡ false → couplet n 0 k S ≡ []) → Written n S (bottom n) out left
written_start n S out left e up above calm = record {
  done = e ∙ sym (ap flat_of (upto_none n S (bottom n) (omega (arith, int_facts))));
  above = above;
  rises = up;
  calm = λ k u none. calm k none;
}

pub section_start : (n : ℕ) (S : List (List ℤ)) → IsCellSet (suc n) S → slice n 0 (bottom n) S ≡ []
unfolding is_cell_coord
section_start n S s = slice_outside n 0 (bottom n) S s (ap (λ t. t && int_lt (bottom n) (pos (limit (suc n)))) (le_no (neg_ℤ (pos (limit (suc n)))) (bottom n) (omega (arith, int_facts))))

-- ---- a couplet from the sections on both sides

pub couplet_of_sections : (n : ℕ) (S : List (List ℤ)) (level h : ℤ) (out left : List ℤ) (below above : List (List ℤ)) → IsCellSet (suc n) S → Written n S level out (h ∷ left)
    → below ≡ evm n (slice n 0 level S) → above ≡ evm n (slice n 0 h S) → xor_rows n below above ≡ evm n (couplet n 0 h S)
unfolding couplet
couplet_of_sections n S level h out left below above s w b a =
    let low : level <ℤ h = first_above n S level h out left w in
    let still : slice n 0 (h -ℤ pos 1) S ≡ slice n 0 level S =
    calm n S level (h -ℤ pos 1) s (omega (arith, int_facts)) (λ k up le. ap (evm n) (calm_between n S level h out left w k up (omega (arith, int_facts))) ∙ evm-empty n) in
    ap₂ (xor_rows n) (b ∙ ap (evm n) (sym still)) a ∙ xor_rows-evm n (slice n 0 (h -ℤ pos 1) S) (slice n 0 h S) (cell_set-slice n 0 (h -ℤ pos 1) S) (cell_set-slice n 0 h S)
