-- The cells of a union of boxes, its sections and its couplets, by what the boxes hold.
use Rattle.std.proofs.Common.{◌≡◌, ℕ, zero, suc, ◌<◌, ◌≤ℤ◌, ◌<ℤ◌, Bool, true, false, ◌&&◌, ◌||◌, List, [], ◌∷◌, length, map, take, get_or, ℤ, pos, ◌-ℤ◌, int_le, int_lt, int_eq, refl, sym, ap, ap₂, ◌∙◌, subst, arith, ⊎_elim}
use Rattle.std.specs.List.{list_any, list_all, All}
use Rattle.std.proofs.lemmas.Bool.{false≢true, or_cases}
use Rattle.std.proofs.lemmas.Int.{ints as int_facts}
use Rattle.std.proofs.lemmas.List.{get_or-take}
use Rattle.std.proofs.lemmas.List.Elements.{All-tail}
use Rattle.evm_cells.specs.Places.{each, has, with_at}
use Rattle.evm_cells.specs.Limits.{is_cell, is_cell_coord, is_point, is_point_coord, IsCellSet}
use Rattle.evm_cells.specs.Boxes.{is_box, IsBox, box_cells}
use Rattle.evm_cells.specs.Sections.{slice, couplet}
use Rattle.evm_cells.specs.Unions.{Ends, or_all, union_of}
use Rattle.evm_cells.proofs.Xor.{and_first, and_second, and_both}
use Rattle.evm_cells.proofs.Order.{refuted}
use Rattle.evm_cells.proofs.Coords.{by_order, le_yes, le_no, lt_yes, lt_no, le_is, lt_is, point_is, cell_yes, eq_yes}
use Rattle.evm_cells.proofs.Universe.{same_sets, absorb, point_parts, cell_from}
use Rattle.evm_cells.proofs.Corners.{has-box_cells}
use Rattle.evm_cells.proofs.Insides.{box_lengths}
use Rattle.evm_cells.proofs.Slices.{has-slice_of, cell_set-slice}
use Rattle.evm_cells.proofs.Layers.{no_couplet}
use Rattle.evm_cells.proofs.Unions.{cell_set-union, has-or_all}
use Rattle.evm_rows.proofs.BoxTests.{box_from}
use Rattle.evm_boxes.specs.BoxRows.{ends_of, IsBoxRow}
use Rattle.evm_boxes.specs.Fills.{holds, filled, low_of, high_of, events_of}
use Rattle.evm_boxes.specs.declared.BoxRow.{BoxRow}

-- ---- what a box holds are cells

between-cells : (n : ℕ) (lo c hi : List ℤ) → list_all (is_point_coord n) lo ≡ true → list_all (is_point_coord n) hi ≡ true → each int_le lo c ≡ true → each int_lt c hi ≡ true
    → (length lo ≡ length c) × (list_all (is_cell_coord n) c ≡ true)
unfolding each
between-cells n [] [] [] p q a b = (refl, refl)
between-cells n [] [] (h ∷ hi) p q a b = absurd (false≢true b)
between-cells n [] (x ∷ c) hi p q a b = absurd (false≢true a)
between-cells n (l ∷ lo) [] hi p q a b = absurd (false≢true a)
between-cells n (l ∷ lo) (x ∷ c) [] p q a b = absurd (false≢true b)
between-cells n (l ∷ lo) (x ∷ c) (h ∷ hi) p q a b =
    let (e, f) = between-cells n lo c hi (and_second (is_point_coord n l) (list_all (is_point_coord n) lo) p) (and_second (is_point_coord n h) (list_all (is_point_coord n) hi) q)
    (and_second (int_le l x) (each int_le lo c) a) (and_second (int_lt x h) (each int_lt c hi) b) in
    let (u, v) = point_is n l (and_first (is_point_coord n l) (list_all (is_point_coord n) lo) p) in
    let (s, t) = point_is n h (and_first (is_point_coord n h) (list_all (is_point_coord n) hi) q) in
    let low : l ≤ℤ x = le_is l x (and_first (int_le l x) (each int_le lo c) a) in
    let high : x <ℤ h = lt_is x h (and_first (int_lt x h) (each int_lt c hi) b) in
    (ap suc e, and_both (is_cell_coord n x) (list_all (is_cell_coord n) c) (cell_yes n x (omega (arith, int_facts)) (omega (arith, int_facts))) f)

pub ends-cell : (n : ℕ) (e : Ends) (c : List ℤ) → is_box n e.lo e.hi ≡ true → holds c e ≡ true → is_cell n c ≡ true
ends-cell n e c b h =
    let x : IsBox n e.lo e.hi = box_from n e.lo e.hi (sym b) in
    let (u, p) = point_parts n e.lo x.low in
    let (v, q) = point_parts n e.hi x.high in
    let (s, t) = between-cells n e.lo c e.hi p q (and_first (each int_le e.lo c) (each int_lt c e.hi) h) (and_second (each int_le e.lo c) (each int_lt c e.hi) h) in
    cell_from n c (sym s ∙ u) t

pub holds-cell : (n : ℕ) (row : BoxRow) (c : List ℤ) → IsBoxRow n row → holds c (ends_of row) ≡ true → is_cell n c ≡ true
holds-cell n row c b h = ends-cell n (ends_of row) c b.box h

-- ---- the cells of the union

pub filled-cell : (n : ℕ) (rows : List BoxRow) (c : List ℤ) → All (IsBoxRow n) rows → filled rows c ≡ true → is_cell n c ≡ true
filled-cell n [] c a h = absurd (false≢true h)
filled-cell n (row ∷ rows) c a h =
    ⊎_elim
    (λ e. holds-cell n row c (a 0 row (omega arith)) e)
    (λ e. filled-cell n rows c (All-tail (IsBoxRow n) row rows a) e)
    (or_cases (holds c (ends_of row)) (filled rows c) h)

any-rows : (n : ℕ) (rows : List BoxRow) (c : List ℤ) → All (IsBoxRow n) rows
    → list_any (λ A. has A c) (map (λ ends. box_cells n ends.lo ends.hi) (map ends_of rows)) ≡ filled rows c
any-rows n [] c a = refl
any-rows n (row ∷ rows) c a =
    ap₂ (λ s t. s || t)
    (has-box_cells n (ends_of row).lo (ends_of row).hi c
    ∙ absorb (is_cell n c) (holds c (ends_of row)) (λ h. holds-cell n row c (a 0 row (omega arith)) h))
    (any-rows n rows c (All-tail (IsBoxRow n) row rows a))

pub has-rows : (n : ℕ) (rows : List BoxRow) (c : List ℤ) → All (IsBoxRow n) rows → has (union_of n (map ends_of rows)) c ≡ filled rows c
unfolding union_of
has-rows n rows c a =
    has-or_all n (map (λ ends. box_cells n ends.lo ends.hi) (map ends_of rows)) c
    ∙ ap (λ t. is_cell n c && t) (any-rows n rows c a)
    ∙ absorb (is_cell n c) (filled rows c) (λ h. filled-cell n rows c a h)

-- ---- the sections

pub has-section : (n : ℕ) (k : ℤ) (rows : List BoxRow) (c : List ℤ) → All (IsBoxRow (suc n)) rows → has (slice n 0 k (union_of (suc n) (map ends_of rows))) c ≡ filled rows (k ∷ c)
unfolding with_at
has-section n k rows c a = has-slice_of n 0 k (union_of (suc n) (map ends_of rows)) c (cell_set-union (suc n) (map ends_of rows)) ∙ has-rows (suc n) rows (k ∷ c) a

-- the first axis, and the others
pub record Parts (n : ℕ) (row : BoxRow) : Type 0 where
  pub los : List ℤ
  pub his : List ℤ
  pub lo_is : (ends_of row).lo ≡ low_of 0 row ∷ los
  pub hi_is : (ends_of row).hi ≡ high_of 0 row ∷ his

first_of : (n m : ℕ) (xs : List ℤ) → length (take m xs) ≡ suc n → (rest : List ℤ) × (take m xs ≡ get_or xs 0 (pos 0) ∷ rest)
first_of n zero xs e = absurd (omega arith)
first_of n (suc m) [] e = absurd (omega arith)
first_of n (suc m) (x ∷ xs) e = (take m xs, refl)

pub parts_of : (n : ℕ) (row : BoxRow) → IsBoxRow (suc n) row → Parts n row
parts_of n row b =
    let (e, f) = box_lengths (suc n) (ends_of row).lo (ends_of row).hi b.box in
    let (los, p) = first_of n row.dim row.lo e in
    let (his, q) = first_of n row.dim row.hi f in
    record { los = los; his = his; lo_is = p; hi_is = q }

pub holds-first : (n : ℕ) (k : ℤ) (c : List ℤ) (row : BoxRow) (p : Parts n row)
    → holds (k ∷ c) (ends_of row) ≡ ((int_le (low_of 0 row) k && each int_le p.los c) && (int_lt k (high_of 0 row) && each int_lt c p.his))
unfolding each
holds-first n k c row p = ap₂ (λ (lo hi : List ℤ). each int_le lo (k ∷ c) && each int_lt (k ∷ c) hi) p.lo_is p.hi_is

-- ---- where nothing comes or goes

pub le-still : (l k : ℤ) → int_eq k l ≡ false → int_le l k ≡ int_le l (k -ℤ pos 1)
le-still l k e =
    by_order l k
    (λ h. le_yes l k (omega (arith, int_facts)) ∙ sym (le_yes l (k -ℤ pos 1) (omega (arith, int_facts))))
    (λ h. absurd (false≢true (sym e ∙ eq_yes k l (sym h))))
    (λ h. le_no l k (omega (arith, int_facts)) ∙ sym (le_no l (k -ℤ pos 1) (omega (arith, int_facts))))

pub lt-still : (h k : ℤ) → int_eq k h ≡ false → int_lt k h ≡ int_lt (k -ℤ pos 1) h
lt-still h k e =
    by_order h k
    (λ m. lt_no k h (omega (arith, int_facts)) ∙ sym (lt_no (k -ℤ pos 1) h (omega (arith, int_facts))))
    (λ m. absurd (false≢true (sym e ∙ eq_yes k h (sym m))))
    (λ m. lt_yes k h (omega (arith, int_facts)) ∙ sym (lt_yes (k -ℤ pos 1) h (omega (arith, int_facts))))

pub neither : (a b : Bool) → (a || b) ≡ false → (a ≡ false) × (b ≡ false)
neither true b h = absurd (false≢true (sym h))
neither false b h = (refl, h)

pub still_rows : (n : ℕ) (k : ℤ) (c : List ℤ) (rows : List BoxRow) → All (IsBoxRow (suc n)) rows → list_any (int_eq k) (events_of rows) ≡ false → filled rows (k ∷ c) ≡ filled rows ((k -ℤ pos 1) ∷ c)
still_rows n k c [] a e = refl
still_rows n k c (row ∷ rows) a e =
    let (low, more) = neither (int_eq k (low_of 0 row)) (int_eq k (high_of 0 row) || list_any (int_eq k) (events_of rows)) e in
    let (high, rest) = neither (int_eq k (high_of 0 row)) (list_any (int_eq k) (events_of rows)) more in
    let p = parts_of n row (a 0 row (omega arith)) in
    ap₂ (λ s t. s || t)
    (holds-first n k c row p
    ∙ ap₂ (λ s t. (s && each int_le p.los c) && (t && each int_lt c p.his)) (le-still (low_of 0 row) k low) (lt-still (high_of 0 row) k high)
    ∙ sym (holds-first n (k -ℤ pos 1) c row p))
    (still_rows n k c rows (All-tail (IsBoxRow (suc n)) row rows a) rest)

-- there the couplet is empty
pub calm_at : (n : ℕ) (k : ℤ) (rows : List BoxRow) → All (IsBoxRow (suc n)) rows → list_any (int_eq k) (events_of rows) ≡ false → couplet n 0 k (union_of (suc n) (map ends_of rows)) ≡ []
calm_at n k rows a e =
    let S = union_of (suc n) (map ends_of rows) in
    let s : IsCellSet n (slice n 0 k S) = cell_set-slice n 0 k S in
    let t : IsCellSet n (slice n 0 (k -ℤ pos 1) S) = cell_set-slice n 0 (k -ℤ pos 1) S in
    no_couplet n 0 k S
    (same_sets (slice n 0 (k -ℤ pos 1) S) (slice n 0 k S) t.ascends s.ascends
    (λ c. has-section n (k -ℤ pos 1) rows c a ∙ sym (still_rows n k c rows a e) ∙ sym (has-section n k rows c a)))
