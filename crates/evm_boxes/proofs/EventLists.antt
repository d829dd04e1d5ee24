-- The heights at which boxes come or go, gathered and put in order.
use Rattle.std.proofs.Common.{◌≡◌, ℕ, suc, ◌+◌, ◌<◌, ◌≤◌, ◌<ℤ◌, Bool, true, false, ◌&&◌, List, [], ◌∷◌, ◌++◌, length, map, take, get_or, ℤ, int_lt, int_eq, refl, sym, ap, ap₂, ◌∙◌, subst, arith, append_assoc}
use Rattle.std.specs.declared.cmp.Ordering.TheVariants.{Less}
use Rattle.std.specs.List.{dedup, Contains, list_any, list_all, All, AllByRecursion}
use Rattle.std.specs.List.Sorted.{IsStrictlySortedBy, IsSorted, IsPermutation}
use Rattle.std.specs.Ordering.{int_cmp, eq_by_cmp}
use Rattle.std.proofs.lemmas.Bool.{true≢false}
use Rattle.std.proofs.lemmas.Cmp.{int_cmp_total, int_eq_equiv}
use Rattle.std.proofs.lemmas.Grind.{flat_map-append}
use Rattle.std.proofs.lemmas.Int.{ints as int_facts}
use Rattle.std.proofs.lemmas.List.{take_more}
use Rattle.std.proofs.lemmas.List.Elements.{All-tail}
use Rattle.std.proofs.lemmas.List.Kept.{IsStrictlySortedBy-dedup, Contains-dedup, Contains-from_dedup}
use Rattle.std.proofs.lemmas.List.Sorted.{Contains-permutation, IsPermutation-sym}
use Rattle.std.proofs.lemmas.Map.Views.{list_any-from_Contains, Contains-from_any}
use Rattle.evm_cells.specs.Places.{each}
use Rattle.evm_cells.specs.Limits.{is_point, is_point_coord}
use Rattle.evm_cells.specs.Boxes.{IsBox}
use Rattle.evm_cells.specs.Unions.{union_of}
use Rattle.evm_cells.proofs.Xor.{and_first, and_both}
use Rattle.evm_cells.proofs.Order.{rising, refuted, at_member}
use Rattle.evm_cells.proofs.Lists.{all_members}
use Rattle.evm_cells.proofs.Coords.{strict_ints, eq_is, lt_is, lt_yes, point_is}
use Rattle.evm_cells.specs.Vertices.{evm}
use Rattle.evm_cells.proofs.Core.{vertices-evm}
use Rattle.evm_cells.proofs.Unions.{cell_set-union}
use Rattle.evm_cells.proofs.Universe.{point_parts, points-evm}
use Rattle.evm_rows.specs.Rows.{rows_of, flat_of, AreRows}
use Rattle.evm_rows.proofs.Bridge.{are_rows-flat, wide-points}
use Rattle.evm_rows.proofs.RowsOrder.{rows_of-flat_of}
use Rattle.evm_rows.proofs.BoxTests.{box_from}
use Rattle.evm_boxes.specs.BoxRows.{ends_of, IsBoxRow}
use Rattle.evm_boxes.specs.Fills.{low_of, high_of, events_of, AreEvents}
use Rattle.evm_boxes.specs.declared.BoxRow.{BoxRow}
use Rattle.evm_boxes.proofs.Fills.{parts_of, calm_at}
use Rattle.evm_boxes.proofs.Written.{Written, written_start, bottom}

pub events_more : (rows : List BoxRow) (i : ℕ) (d : BoxRow) (ends one two : List ℤ) (a b : ℤ) → i < length rows → a ≡ low_of 0 (get_or rows i d) → b ≡ high_of 0 (get_or rows i d)
    → one ≡ ends ++ a ∷ [] → two ≡ one ++ b ∷ [] → ends ≡ events_of (take i rows) → two ≡ events_of (take (i + 1) rows)
events_more rows i d ends one two a b l p q e f so_far =
    let row = get_or rows i d in
    f ∙ ap (λ (u : List ℤ). u ++ b ∷ []) e ∙ append_assoc ends (a ∷ []) (b ∷ [])
    ∙ ap₂ (λ (u w : List ℤ). u ++ w) so_far (ap₂ (λ (x y : ℤ). x ∷ y ∷ []) p q)
    ∙ sym (ap events_of (take_more rows i d l) ∙ flat_map-append (λ (r : BoxRow). low_of 0 r ∷ high_of 0 r ∷ []) (take i rows) (row ∷ []))

ties : (x y : ℤ) → int_eq x y ≡ eq_by_cmp int_cmp x y
ties x y = refl

-- sorted, and each once
pub are_events : (rows : List BoxRow) (ends sorted heights : List ℤ) → ends ≡ events_of rows → IsPermutation ends sorted → IsSorted int_cmp sorted → heights ≡ dedup int_eq sorted → AreEvents rows heights
are_events rows ends sorted heights e p s d = record {
  rise = subst (IsStrictlySortedBy int_cmp) (sym d) (IsStrictlySortedBy-dedup int_cmp_total ties sorted s);
  within = λ k h. subst (λ (xs : List ℤ). Contains xs k) e (Contains-permutation sorted ends k (IsPermutation-sym ends sorted p) (Contains-from_dedup int_eq sorted k (subst (λ (xs : List ℤ). Contains xs k) d h)));
  all = λ k h. subst (λ (xs : List ℤ). Contains xs k) (sym d) (Contains-dedup int_eq_equiv eq_is sorted k (Contains-permutation ends sorted k p (subst (λ (xs : List ℤ). Contains xs k) (sym e) h)));
}

-- ---- in ascending order

lt_of_less : (x y : ℤ) → int_cmp x y ≡ Less → int_lt x y ≡ true
lt_of_less x y e = grind (arith, int_facts)

all-less : (x : ℤ) (xs : List ℤ) → AllByRecursion (λ y. int_cmp x y ≡ Less) xs → list_all (int_lt x) xs ≡ true
all-less x [] a = refl
all-less x (y ∷ xs) a = and_both (int_lt x y) (list_all (int_lt x) xs) (lt_of_less x y a.0) (all-less x xs a.1)

rises : (xs : List ℤ) → IsStrictlySortedBy int_cmp xs → rising int_lt xs ≡ true
unfolding rising IsStrictlySortedBy
rises [] a = refl
rises (x ∷ xs) a = and_both (list_all (int_lt x) xs) (rising int_lt xs) (all-less x xs a.0) (rises xs a.1)

-- a test that all elements of a list pass
all_contained : (t : ℤ → Bool) (xs ys : List ℤ) → ((k : ℤ) → Contains xs k → Contains ys k) → list_all t ys ≡ true → list_all t xs ≡ true
all_contained t xs ys w a =
    all_members int_eq int_lt strict_ints t xs
    (λ k m. at_member int_eq int_lt strict_ints t k ys (list_any-from_Contains int_eq_equiv k ys (w k (Contains-from_any eq_is k xs m))) a)

-- the ends of boxes are above the level just below the limits
ends_above : (n : ℕ) (rows : List BoxRow) → All (IsBoxRow (suc n)) rows → list_all (int_lt (bottom n)) (events_of rows) ≡ true
unfolding each
ends_above n [] a = refl
ends_above n (row ∷ rows) a =
    let b : IsBoxRow (suc n) row = a 0 row (omega arith) in
    let p = parts_of n row b in
    let x : IsBox (suc n) (ends_of row).lo (ends_of row).hi = box_from (suc n) (ends_of row).lo (ends_of row).hi (sym b.box) in
    let low : is_point (suc n) (low_of 0 row ∷ p.los) ≡ true = sym (ap (is_point (suc n)) p.lo_is) ∙ x.low in
    let room : each int_lt (low_of 0 row ∷ p.los) (high_of 0 row ∷ p.his) ≡ true = sym (ap₂ (each int_lt) p.lo_is p.hi_is) ∙ x.room in
    let (e, u) = point_parts (suc n) (low_of 0 row ∷ p.los) low in
    let (v, w) = point_is (suc n) (low_of 0 row) (and_first (is_point_coord (suc n) (low_of 0 row)) (list_all (is_point_coord (suc n)) p.los) u) in
    let over : low_of 0 row <ℤ high_of 0 row = lt_is (low_of 0 row) (high_of 0 row) (and_first (int_lt (low_of 0 row) (high_of 0 row)) (each int_lt p.los p.his) room) in
    and_both (int_lt (bottom n) (low_of 0 row)) (int_lt (bottom n) (high_of 0 row) && list_all (int_lt (bottom n)) (events_of rows)) (lt_yes (bottom n) (low_of 0 row) (omega (arith, int_facts)))
    (and_both (int_lt (bottom n) (high_of 0 row)) (list_all (int_lt (bottom n)) (events_of rows)) (lt_yes (bottom n) (high_of 0 row) (omega (arith, int_facts)))
    (ends_above n rows (All-tail (IsBoxRow (suc n)) row rows a)))

-- before the first height nothing is written
pub events_start : (n : ℕ) (rows : List BoxRow) (out heights : List ℤ) → All (IsBoxRow (suc n)) rows → AreEvents rows heights → out ≡ [] → Written n (union_of (suc n) (map ends_of rows)) (bottom n) out heights
events_start n rows out heights a e o =
    written_start n (union_of (suc n) (map ends_of rows)) out heights o (rises heights e.rise) (all_contained (int_lt (bottom n)) heights (events_of rows) e.within (ends_above n rows a))
    (λ k none. calm_at n k rows a (refuted (list_any (int_eq k) (events_of rows))
    (λ m. absurd (true≢false (sym (list_any-from_Contains int_eq_equiv k heights (e.all k (Contains-from_any eq_is k (events_of rows) m))) ∙ none)))))

-- when all is written, the numbers are those of the union
pub written_are : (n : ℕ) (rows : List BoxRow) (out : List ℤ) → 0 < n → n ≤ 6 → out ≡ flat_of (evm n (union_of n (map ends_of rows))) → AreRows out n 0
written_are n rows out some few e =
    subst (λ (f : List ℤ). AreRows f n 0) (sym e) (are_rows-flat n (evm n (union_of n (map ends_of rows))) some few (vertices-evm n (union_of n (map ends_of rows)) (cell_set-union n (map ends_of rows))))

pub written_rows : (n : ℕ) (rows : List BoxRow) (out : List ℤ) → 0 < n → out ≡ flat_of (evm n (union_of n (map ends_of rows))) → rows_of out n 0 ≡ evm n (union_of n (map ends_of rows))
written_rows n rows out some e =
    ap (λ (f : List ℤ). rows_of f n 0) e ∙ rows_of-flat_of n (evm n (union_of n (map ends_of rows))) some (wide-points n (evm n (union_of n (map ends_of rows))) (points-evm n (union_of n (map ends_of rows))))
