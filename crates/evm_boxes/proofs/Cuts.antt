-- What a plane leaves of boxes on each side.
use Rattle.std.proofs.Common.{◌≡◌, ℕ, zero, suc, ◌<◌, ◌≤◌, ◌≤ℤ◌, ◌<ℤ◌, Bool, true, false, cond, ◌&&◌, ◌||◌, List, [], ◌∷◌, ◌++◌, length, map, filter, take, set, get_or, ℤ, pos, int_le, int_lt, refl, sym, ap, ap₂, ◌∙◌, subst, ◌+◌, arith}
use Rattle.std.specs.Int.{int_min, int_max}
use Rattle.std.specs.List.{list_all}
use Rattle.std.proofs.lemmas.Bool.{false≢true}
use Rattle.std.proofs.lemmas.Int.{ints as int_facts}
use Rattle.std.proofs.lemmas.List.{map-append, get_or-take, get_or-set_same, length-set, take_more, take_all}
use Rattle.std.proofs.lemmas.List.Elements.{All-append, All-cons, All-nil}
use Rattle.std.proofs.Math.Seq.{take-set-lt}
use Rattle.evm_cells.specs.Places.{ascending, each, has}
use Rattle.evm_cells.specs.Limits.{is_cell, is_point, is_point_coord, IsCellSet}
use Rattle.evm_cells.specs.Booleans.{or_cells, xor_cells}
use Rattle.evm_cells.specs.Boxes.{is_box, IsBox, box_cells}
use Rattle.evm_cells.specs.Vertices.{evm, cells}
use Rattle.evm_cells.specs.Unions.{union_of}
use Rattle.evm_cells.specs.Windows.{is_under, is_over}
use Rattle.evm_cells.proofs.Xor.{and_first, and_second, and_both, and_comm, and-false}
use Rattle.evm_cells.proofs.Order.{refuted}
use Rattle.evm_cells.proofs.Coords.{by_order, le_yes, lt_yes, lt_no, le_is, lt_is, point_is, point_yes}
use Rattle.evm_cells.proofs.Universe.{same_sets, has-filter, point_parts, point_from, absorb}
use Rattle.evm_cells.proofs.Booleans.{by_cells, cell_sets}
use Rattle.evm_cells.proofs.Core.{cells-evm}
use Rattle.evm_cells.proofs.Corners.{cell_set-box, has-box_cells}
use Rattle.evm_cells.proofs.Insides.{box_lengths}
use Rattle.evm_cells.proofs.Sides.{cell_set-part, two_sides}
use Rattle.evm_cells.proofs.Unions.{cell_set-union, no_boxes, one_box, two_unions}
use Rattle.evm_rows.specs.Rows.{Vertices, combined_rows, xor_rows}
use Rattle.evm_rows.proofs.BoxTests.{box_from}
use Rattle.evm_boxes.specs.BoxRows.{ends_of, IsBoxRow}
use Rattle.evm_boxes.specs.Cuts.{IsKept, AreSides}
use Rattle.evm_boxes.specs.declared.BoxRow.{BoxRow}

-- ---- one number

min_first : (b at : ℤ) → b ≤ℤ at → int_min b at ≡ b
min_first b at h = ap (λ t. cond t at b) (lt_no at b h)

min_second : (b at : ℤ) → at <ℤ b → int_min b at ≡ at
min_second b at h = ap (λ t. cond t at b) (lt_yes at b h)

max_first : (a at : ℤ) → at <ℤ a → int_max a at ≡ a
max_first a at h = ap (λ t. cond t a at) (lt_yes at a h)

max_second : (a at : ℤ) → a ≤ℤ at → int_max a at ≡ at
max_second a at h = ap (λ t. cond t a at) (lt_no at a h)

two_ways : {P : Type 0} (a b : ℤ) → (a <ℤ b → P) → (b ≤ℤ a → P) → P
two_ways a b f g = by_order a b f (λ e. g (omega (arith, int_facts))) (λ l. g (omega (arith, int_facts)))

-- below the lesser of two numbers
lt_min : (x b at : ℤ) → int_lt x (int_min b at) ≡ (int_lt x b && int_lt x at)
lt_min x b at =
    two_ways at b
    (λ l. ap (int_lt x) (min_second b at l)
    ∙ sym (absorb (int_lt x b) (int_lt x at) (λ h. let m : x <ℤ at = lt_is x at h in lt_yes x b (omega (arith, int_facts)))))
    (λ l. ap (int_lt x) (min_first b at l)
    ∙ sym (and_comm (int_lt x b) (int_lt x at) ∙ absorb (int_lt x at) (int_lt x b) (λ h. let m : x <ℤ b = lt_is x b h in lt_yes x at (omega (arith, int_facts)))))

-- above the greater of two numbers
pub max_le : (x a at : ℤ) → int_le (int_max a at) x ≡ (int_le a x && int_le at x)
max_le x a at =
    two_ways at a
    (λ l. ap (λ t. int_le t x) (max_first a at l)
    ∙ sym (and_comm (int_le a x) (int_le at x) ∙ absorb (int_le at x) (int_le a x) (λ h. let m : a ≤ℤ x = le_is a x h in le_yes at x (omega (arith, int_facts)))))
    (λ l. ap (λ t. int_le t x) (max_second a at l)
    ∙ sym (absorb (int_le a x) (int_le at x) (λ h. let m : at ≤ℤ x = le_is at x h in le_yes a x (omega (arith, int_facts)))))

pub min_under : (b at : ℤ) → int_min b at ≤ℤ b
min_under b at =
    two_ways at b
    (λ l. let e : int_min b at ≡ at = min_second b at l in omega (arith, int_facts))
    (λ l. let e : int_min b at ≡ b = min_first b at l in omega (arith, int_facts))

pub max_over : (a at : ℤ) → a ≤ℤ int_max a at
max_over a at =
    two_ways at a
    (λ l. let e : int_max a at ≡ a = max_first a at l in omega (arith, int_facts))
    (λ l. let e : int_max a at ≡ at = max_second a at l in omega (arith, int_facts))

pub max_right : (a at : ℤ) → at ≤ℤ int_max a at
max_right a at =
    two_ways at a
    (λ l. let e : int_max a at ≡ a = max_first a at l in omega (arith, int_facts))
    (λ l. let e : int_max a at ≡ at = max_second a at l in omega (arith, int_facts))

pub min_right : (b at : ℤ) → int_min b at ≤ℤ at
min_right b at =
    two_ways at b
    (λ l. let e : int_min b at ≡ at = min_second b at l in omega (arith, int_facts))
    (λ l. let e : int_min b at ≡ b = min_first b at l in omega (arith, int_facts))

-- what holds of both numbers holds of the greater and of the lesser
pub max_at : (P : ℤ → Type 0) (a at : ℤ) → P a → P at → P (int_max a at)
max_at P a at p q = two_ways at a (λ l. subst P (sym (max_first a at l)) p) (λ l. subst P (sym (max_second a at l)) q)

pub min_at : (P : ℤ → Type 0) (b at : ℤ) → P b → P at → P (int_min b at)
min_at P b at p q = two_ways at b (λ l. subst P (sym (min_second b at l)) q) (λ l. subst P (sym (min_first b at l)) p)

-- ---- one end of a box, moved to a plane

middle : (a b c : Bool) → (a && (b && c)) ≡ ((a && b) && c)
middle true b c = refl
middle false b c = refl

last : (a b c : Bool) → ((a && b) && c) ≡ ((a && c) && b)
last true true true = refl
last true true false = refl
last true false true = refl
last true false false = refl
last false b c = refl

pub each_under : (i : ℕ) (at : ℤ) (c hi : List ℤ) → i < length hi → each int_lt c (set hi i (int_min (get_or hi i (pos 0)) at)) ≡ (each int_lt c hi && int_lt (get_or c i (pos 0)) at)
unfolding each
each_under i at c [] l = absurd (omega arith)
each_under zero at [] (b ∷ hi) l = refl
each_under (suc i) at [] (b ∷ hi) l = refl
each_under zero at (x ∷ c) (b ∷ hi) l = ap (λ t. t && each int_lt c hi) (lt_min x b at) ∙ last (int_lt x b) (int_lt x at) (each int_lt c hi)
each_under (suc i) at (x ∷ c) (b ∷ hi) l =
    ap (λ t. int_lt x b && t) (each_under i at c hi (omega arith)) ∙ middle (int_lt x b) (each int_lt c hi) (int_lt (get_or c i (pos 0)) at)

pub each_over : (i : ℕ) (at : ℤ) (lo c : List ℤ) → i < length lo → each int_le (set lo i (int_max (get_or lo i (pos 0)) at)) c ≡ (each int_le lo c && int_le at (get_or c i (pos 0)))
unfolding each
each_over i at [] c l = absurd (omega arith)
each_over zero at (a ∷ lo) [] l = refl
each_over (suc i) at (a ∷ lo) [] l = refl
each_over zero at (a ∷ lo) (x ∷ c) l = ap (λ t. t && each int_le lo c) (max_le x a at) ∙ last (int_le a x) (int_le at x) (each int_le lo c)
each_over (suc i) at (a ∷ lo) (x ∷ c) l =
    ap (λ t. int_le a x && t) (each_over i at lo c (omega arith)) ∙ middle (int_le a x) (each int_le lo c) (int_le at (get_or c i (pos 0)))

-- what a box has on a side of a plane is a box, or empty
box_under : (n i : ℕ) (at : ℤ) (lo hi : List ℤ) → i < length hi → box_cells n lo (set hi i (int_min (get_or hi i (pos 0)) at)) ≡ filter (is_under i at) (box_cells n lo hi)
box_under n i at lo hi l =
    let B = box_cells n lo hi in
    let top = set hi i (int_min (get_or hi i (pos 0)) at) in
    let b : IsCellSet n (box_cells n lo top) = cell_set-box n lo top in
    let f : IsCellSet n (filter (is_under i at) B) = cell_set-part n (is_under i at) B (cell_set-box n lo hi) in
    same_sets (box_cells n lo top) (filter (is_under i at) B) b.ascends f.ascends
    (λ c. has-box_cells n lo top c
    ∙ ap (λ t. is_cell n c && (each int_le lo c && t)) (each_under i at c hi l)
    ∙ regroup (is_cell n c) (each int_le lo c) (each int_lt c hi) (int_lt (get_or c i (pos 0)) at)
    ∙ sym (has-filter (is_under i at) B c ∙ ap (λ t. t && int_lt (get_or c i (pos 0)) at) (has-box_cells n lo hi c)))
  where
    regroup : (k a b t : Bool) → (k && (a && (b && t))) ≡ ((k && (a && b)) && t)
    regroup true true b t = refl
    regroup true false b t = refl
    regroup false a b t = refl

box_over : (n i : ℕ) (at : ℤ) (lo hi : List ℤ) → i < length lo → box_cells n (set lo i (int_max (get_or lo i (pos 0)) at)) hi ≡ filter (is_over i at) (box_cells n lo hi)
box_over n i at lo hi l =
    let B = box_cells n lo hi in
    let low = set lo i (int_max (get_or lo i (pos 0)) at) in
    let b : IsCellSet n (box_cells n low hi) = cell_set-box n low hi in
    let f : IsCellSet n (filter (is_over i at) B) = cell_set-part n (is_over i at) B (cell_set-box n lo hi) in
    same_sets (box_cells n low hi) (filter (is_over i at) B) b.ascends f.ascends
    (λ c. has-box_cells n low hi c
    ∙ ap (λ t. is_cell n c && (t && each int_lt c hi)) (each_over i at lo c l)
    ∙ regroup (is_cell n c) (each int_le lo c) (each int_lt c hi) (int_le at (get_or c i (pos 0)))
    ∙ sym (has-filter (is_over i at) B c ∙ ap (λ t. t && int_le at (get_or c i (pos 0))) (has-box_cells n lo hi c)))
  where
    regroup : (k a b t : Bool) → (k && ((a && t) && b)) ≡ ((k && (a && b)) && t)
    regroup true true true true = refl
    regroup true true true false = refl
    regroup true true false true = refl
    regroup true true false false = refl
    regroup true false b t = refl
    regroup false a b t = refl

-- coordinate by coordinate, at one of them
pub each_here : (r : ℤ → ℤ → Bool) (i : ℕ) (p q : List ℤ) → i < length p → each r p q ≡ true → r (get_or p i (pos 0)) (get_or q i (pos 0)) ≡ true
unfolding each
each_here r i [] q l h = absurd (omega arith)
each_here r i (x ∷ p) [] l h = absurd (false≢true h)
each_here r zero (x ∷ p) (y ∷ q) l h = and_first (r x y) (each r p q) h
each_here r (suc i) (x ∷ p) (y ∷ q) l h = each_here r i p q (omega arith) (and_second (r x y) (each r p q) h)

pub each_length : (r : ℤ → ℤ → Bool) (p q : List ℤ) → each r p q ≡ true → length p ≡ length q
unfolding each
each_length r [] [] h = refl
each_length r [] (y ∷ q) h = absurd (false≢true h)
each_length r (x ∷ p) [] h = absurd (false≢true h)
each_length r (x ∷ p) (y ∷ q) h = ap suc (each_length r p q (and_second (r x y) (each r p q) h))

-- with one of them replaced
each_left : (r : ℤ → ℤ → Bool) (i : ℕ) (a : ℤ) (p q : List ℤ) → each r p q ≡ true → r a (get_or q i (pos 0)) ≡ true → each r (set p i a) q ≡ true
unfolding each
each_left r i a [] q h k = h
each_left r i a (x ∷ p) [] h k = absurd (false≢true h)
each_left r zero a (x ∷ p) (y ∷ q) h k = and_both (r a y) (each r p q) k (and_second (r x y) (each r p q) h)
each_left r (suc i) a (x ∷ p) (y ∷ q) h k =
    and_both (r x y) (each r (set p i a) q) (and_first (r x y) (each r p q) h) (each_left r i a p q (and_second (r x y) (each r p q) h) k)

each_right : (r : ℤ → ℤ → Bool) (i : ℕ) (b : ℤ) (p q : List ℤ) → each r p q ≡ true → r (get_or p i (pos 0)) b ≡ true → each r p (set q i b) ≡ true
unfolding each
each_right r i b [] [] h k = h
each_right r i b [] (y ∷ q) h k = absurd (false≢true h)
each_right r i b (x ∷ p) [] h k = absurd (false≢true h)
each_right r zero b (x ∷ p) (y ∷ q) h k = and_both (r x b) (each r p q) k (and_second (r x y) (each r p q) h)
each_right r (suc i) b (x ∷ p) (y ∷ q) h k =
    and_both (r x y) (each r p (set q i b)) (and_first (r x y) (each r p q) h) (each_right r i b p q (and_second (r x y) (each r p q) h) k)

all-set : (t : ℤ → Bool) (i : ℕ) (a : ℤ) (p : List ℤ) → list_all t p ≡ true → t a ≡ true → list_all t (set p i a) ≡ true
all-set t i a [] h k = h
all-set t zero a (x ∷ p) h k = and_both (t a) (list_all t p) k (and_second (t x) (list_all t p) h)
all-set t (suc i) a (x ∷ p) h k = and_both (t x) (list_all t (set p i a)) (and_first (t x) (list_all t p) h) (all-set t i a p (and_second (t x) (list_all t p) h) k)

at_coord : (t : ℤ → Bool) (i : ℕ) (p : List ℤ) → i < length p → list_all t p ≡ true → t (get_or p i (pos 0)) ≡ true
at_coord t i [] l h = absurd (omega arith)
at_coord t zero (x ∷ p) l h = and_first (t x) (list_all t p) h
at_coord t (suc i) (x ∷ p) l h = at_coord t i p (omega arith) (and_second (t x) (list_all t p) h)

-- a box stays one where an end is moved inward, and room is left
pub box_of : (n : ℕ) (lo hi : List ℤ) → is_point n lo ≡ true → is_point n hi ≡ true → each int_lt lo hi ≡ true → is_box n lo hi ≡ true
box_of n lo hi l h r = and_both (is_point n lo && is_point n hi) (each int_lt lo hi) (and_both (is_point n lo) (is_point n hi) l h) r

pub moved_high : (n i : ℕ) (x : ℤ) (lo hi : List ℤ) → i < n → is_box n lo hi ≡ true → get_or lo i (pos 0) <ℤ x → x ≤ℤ get_or hi i (pos 0) → is_box n lo (set hi i x) ≡ true
moved_high n i x lo hi l b room least =
    let h : IsBox n lo hi = box_from n lo hi (sym b) in
    let (e, p) = point_parts n lo h.low in
    let (f, q) = point_parts n hi h.high in
    let (u, v) = point_is n (get_or lo i (pos 0)) (at_coord (is_point_coord n) i lo (omega arith) p) in
    let (s, t) = point_is n (get_or hi i (pos 0)) (at_coord (is_point_coord n) i hi (omega arith) q) in
    box_of n lo (set hi i x) h.low
    (point_from n (set hi i x) (length-set hi i x ∙ f) (all-set (is_point_coord n) i x hi q (point_yes n x (omega (arith, int_facts)) (omega (arith, int_facts)))))
    (each_right int_lt i x lo hi h.room (lt_yes (get_or lo i (pos 0)) x room))

pub moved_low : (n i : ℕ) (x : ℤ) (lo hi : List ℤ) → i < n → is_box n lo hi ≡ true → get_or lo i (pos 0) ≤ℤ x → x <ℤ get_or hi i (pos 0) → is_box n (set lo i x) hi ≡ true
moved_low n i x lo hi l b most room =
    let h : IsBox n lo hi = box_from n lo hi (sym b) in
    let (e, p) = point_parts n lo h.low in
    let (f, q) = point_parts n hi h.high in
    let (u, v) = point_is n (get_or lo i (pos 0)) (at_coord (is_point_coord n) i lo (omega arith) p) in
    let (s, t) = point_is n (get_or hi i (pos 0)) (at_coord (is_point_coord n) i hi (omega arith) q) in
    box_of n (set lo i x) hi
    (point_from n (set lo i x) (length-set lo i x ∙ e) (all-set (is_point_coord n) i x lo p (point_yes n x (omega (arith, int_facts)) (omega (arith, int_facts)))))
    h.high
    (each_left int_lt i x lo hi h.room (lt_yes x (get_or hi i (pos 0)) room))

-- without room on an axis there is no cell
no_room : (n i : ℕ) (lo hi : List ℤ) → i < length lo → get_or hi i (pos 0) ≤ℤ get_or lo i (pos 0) → box_cells n lo hi ≡ []
unfolding ascending has
no_room n i lo hi l none =
    let b : IsCellSet n (box_cells n lo hi) = cell_set-box n lo hi in
    same_sets (box_cells n lo hi) [] b.ascends refl
    (λ c. has-box_cells n lo hi c ∙ ap (λ t. is_cell n c && t) (refuted (each int_le lo c && each int_lt c hi) (λ h. clash c h)) ∙ and-false (is_cell n c))
  where
    clash : (c : List ℤ) → (each int_le lo c && each int_lt c hi) ≡ true → ⊥
    clash c h =
        let p : each int_le lo c ≡ true = and_first (each int_le lo c) (each int_lt c hi) h in
        let m : length lo ≡ length c = each_length int_le lo c p in
        let u : get_or lo i (pos 0) ≤ℤ get_or c i (pos 0) = le_is (get_or lo i (pos 0)) (get_or c i (pos 0)) (each_here int_le i lo c l p) in
        let v : get_or c i (pos 0) <ℤ get_or hi i (pos 0) =
        lt_is (get_or c i (pos 0)) (get_or hi i (pos 0)) (each_here int_lt i c hi (omega arith) (and_second (each int_le lo c) (each int_lt c hi) h)) in
        omega (arith, int_facts)

-- ---- one row

-- the ends of a row, and where they are on an axis
pub record Fits (n i : ℕ) (row : BoxRow) : Type 0 where
  pub within : i < row.dim
  pub low : i < length (ends_of row).lo
  pub high : i < length (ends_of row).hi
  pub low_is : get_or (ends_of row).lo i (pos 0) ≡ get_or row.lo i (pos 0)
  pub high_is : get_or (ends_of row).hi i (pos 0) ≡ get_or row.hi i (pos 0)

pub fits : (n i : ℕ) (row : BoxRow) → i < n → IsBoxRow n row → Fits n i row
fits n i row l b =
    let (e, f) = box_lengths n (ends_of row).lo (ends_of row).hi b.box in
    let d : row.dim ≡ n = b.dim in
    let w : i < row.dim = omega arith in
    record {
      within = w;
      low = omega arith;
      high = omega arith;
      low_is = get_or-take row.dim row.lo i (pos 0) w;
      high_is = get_or-take row.dim row.hi i (pos 0) w;
    }

-- a row that has the cells of another on a side is what is kept of it
one_kept : (n : ℕ) (t : List ℤ → Bool) (row part : BoxRow) → IsBoxRow n part
    → box_cells n (ends_of part).lo (ends_of part).hi ≡ filter t (box_cells n (ends_of row).lo (ends_of row).hi) → IsKept n t (row ∷ []) (part ∷ [])
one_kept n t row part b e = record {
  boxes = All-cons (IsBoxRow n) part [] b (All-nil (IsBoxRow n));
  union = one_box n (ends_of part) ∙ e ∙ ap (filter t) (sym (one_box n (ends_of row)));
}

none_kept : (n : ℕ) (t : List ℤ → Bool) (row : BoxRow) → [] ≡ filter t (box_cells n (ends_of row).lo (ends_of row).hi) → IsKept n t (row ∷ []) []
none_kept n t row e = record { boxes = All-nil (IsBoxRow n); union = no_boxes n ∙ e ∙ ap (filter t) (sym (one_box n (ends_of row))) }

pub below_kept : (n i : ℕ) (at end : ℤ) (row part : BoxRow) → i < n → IsBoxRow n row → end ≡ int_min (get_or row.hi i (pos 0)) at → get_or row.lo i (pos 0) <ℤ end
    → part.dim ≡ row.dim → part.lo ≡ row.lo → part.hi ≡ set row.hi i end → IsKept n (is_under i at) (row ∷ []) (part ∷ [])
below_kept n i at end row part l b e room d lo hi =
    let f : Fits n i row = fits n i row l b in
    let lows = (ends_of row).lo in
    let highs = (ends_of row).hi in
    let end_is : end ≡ int_min (get_or highs i (pos 0)) at = e ∙ ap (λ x. int_min x at) (sym f.high_is) in
    let low : (ends_of part).lo ≡ lows = ap₂ (λ (m : ℕ) (xs : List ℤ). take m xs) d lo in
    let high : (ends_of part).hi ≡ set highs i end = ap₂ (λ (m : ℕ) (xs : List ℤ). take m xs) d hi ∙ take-set-lt row.dim row.hi i end f.within in
    let under : end ≤ℤ get_or highs i (pos 0) = subst (λ x. x ≤ℤ get_or highs i (pos 0)) (sym end_is) (min_under (get_or highs i (pos 0)) at) in
    let room_here : get_or lows i (pos 0) <ℤ end = subst (λ x. x <ℤ end) (sym f.low_is) room in
    one_kept n (is_under i at) row part
    (record { dim = d ∙ b.dim; box = ap₂ (is_box n) low high ∙ moved_high n i end lows highs l b.box room_here under })
    (ap₂ (box_cells n) low (high ∙ ap (set highs i) end_is) ∙ box_under n i at lows highs f.high)

pub none_below : (n i : ℕ) (at end : ℤ) (row : BoxRow) → i < n → IsBoxRow n row → end ≡ int_min (get_or row.hi i (pos 0)) at → end ≤ℤ get_or row.lo i (pos 0)
    → IsKept n (is_under i at) (row ∷ []) []
none_below n i at end row l b e none =
    let f : Fits n i row = fits n i row l b in
    let lows = (ends_of row).lo in
    let highs = (ends_of row).hi in
    let end_is : end ≡ int_min (get_or highs i (pos 0)) at = e ∙ ap (λ x. int_min x at) (sym f.high_is) in
    let here : get_or (set highs i end) i (pos 0) ≡ end = get_or-set_same highs i end (pos 0) f.high in
    let over : get_or (set highs i end) i (pos 0) ≤ℤ get_or lows i (pos 0) = subst (λ x. x ≤ℤ get_or lows i (pos 0)) (sym here) (subst (λ x. end ≤ℤ x) (sym f.low_is) none) in
    none_kept n (is_under i at) row
    (sym (no_room n i lows (set highs i end) f.low over) ∙ ap (λ x. box_cells n lows (set highs i x)) end_is ∙ box_under n i at lows highs f.high)

pub above_kept : (n i : ℕ) (at start : ℤ) (row part : BoxRow) → i < n → IsBoxRow n row → start ≡ int_max (get_or row.lo i (pos 0)) at → start <ℤ get_or row.hi i (pos 0)
    → part.dim ≡ row.dim → part.lo ≡ set row.lo i start → part.hi ≡ row.hi → IsKept n (is_over i at) (row ∷ []) (part ∷ [])
above_kept n i at start row part l b e room d lo hi =
    let f : Fits n i row = fits n i row l b in
    let lows = (ends_of row).lo in
    let highs = (ends_of row).hi in
    let start_is : start ≡ int_max (get_or lows i (pos 0)) at = e ∙ ap (λ x. int_max x at) (sym f.low_is) in
    let low : (ends_of part).lo ≡ set lows i start = ap₂ (λ (m : ℕ) (xs : List ℤ). take m xs) d lo ∙ take-set-lt row.dim row.lo i start f.within in
    let high : (ends_of part).hi ≡ highs = ap₂ (λ (m : ℕ) (xs : List ℤ). take m xs) d hi in
    let over : get_or lows i (pos 0) ≤ℤ start = subst (λ x. get_or lows i (pos 0) ≤ℤ x) (sym start_is) (max_over (get_or lows i (pos 0)) at) in
    let room_here : start <ℤ get_or highs i (pos 0) = subst (λ x. start <ℤ x) (sym f.high_is) room in
    one_kept n (is_over i at) row part
    (record { dim = d ∙ b.dim; box = ap₂ (is_box n) low high ∙ moved_low n i start lows highs l b.box over room_here })
    (ap₂ (box_cells n) (low ∙ ap (set lows i) start_is) high ∙ box_over n i at lows highs f.low)

pub none_above : (n i : ℕ) (at start : ℤ) (row : BoxRow) → i < n → IsBoxRow n row → start ≡ int_max (get_or row.lo i (pos 0)) at → get_or row.hi i (pos 0) ≤ℤ start
    → IsKept n (is_over i at) (row ∷ []) []
none_above n i at start row l b e none =
    let f : Fits n i row = fits n i row l b in
    let lows = (ends_of row).lo in
    let highs = (ends_of row).hi in
    let start_is : start ≡ int_max (get_or lows i (pos 0)) at = e ∙ ap (λ x. int_max x at) (sym f.low_is) in
    let here : get_or (set lows i start) i (pos 0) ≡ start = get_or-set_same lows i start (pos 0) f.low in
    let over : get_or highs i (pos 0) ≤ℤ get_or (set lows i start) i (pos 0) = subst (λ x. get_or highs i (pos 0) ≤ℤ x) (sym here) (subst (λ x. x ≤ℤ start) (sym f.high_is) none) in
    let low : i < length (set lows i start) = let s = length-set lows i start in let w = f.low in omega arith in
    none_kept n (is_over i at) row
    (sym (no_room n i (set lows i start) highs low over) ∙ ap (λ x. box_cells n (set lows i x) highs) start_is ∙ box_over n i at lows highs f.low)

-- ---- many rows

filter-or : (n : ℕ) (t : List ℤ → Bool) (A B : List (List ℤ)) → IsCellSet n A → IsCellSet n B → or_cells n (filter t A) (filter t B) ≡ filter t (or_cells n A B)
filter-or n t A B a b =
    let fa : IsCellSet n (filter t A) = cell_set-part n t A a in
    let fb : IsCellSet n (filter t B) = cell_set-part n t B b in
    let u : IsCellSet n (or_cells n A B) = (cell_sets n A B).0 in
    let v : IsCellSet n (or_cells n (filter t A) (filter t B)) = (cell_sets n (filter t A) (filter t B)).0 in
    let w : IsCellSet n (filter t (or_cells n A B)) = cell_set-part n t (or_cells n A B) u in
    same_sets (or_cells n (filter t A) (filter t B)) (filter t (or_cells n A B)) v.ascends w.ascends
    (λ c. (by_cells n (filter t A) (filter t B) c fa fb).0
    ∙ ap₂ (λ x y. x || y) (has-filter t A c) (has-filter t B c)
    ∙ both (has A c) (has B c) (t c)
    ∙ sym (has-filter t (or_cells n A B) c ∙ ap (λ x. x && t c) (by_cells n A B c a b).0))
  where
    both : (x y k : Bool) → ((x && k) || (y && k)) ≡ ((x || y) && k)
    both true true true = refl
    both true false true = refl
    both true true false = refl
    both true false false = refl
    both false y k = refl

union-append : (n : ℕ) (front back : List BoxRow) → or_cells n (union_of n (map ends_of front)) (union_of n (map ends_of back)) ≡ union_of n (map ends_of (front ++ back))
union-append n front back = two_unions n (map ends_of front) (map ends_of back) ∙ ap (union_of n) (sym (map-append ends_of front back))

pub kept_start : (n : ℕ) (t : List ℤ → Bool) (kept : List BoxRow) → kept ≡ [] → IsKept n t [] kept
kept_start n t kept e = subst (IsKept n t []) (sym e) (record { boxes = All-nil (IsBoxRow n); union = no_boxes n ∙ sym (ap (filter t) (no_boxes n)) })

pub kept_more : (n : ℕ) (t : List ℤ → Bool) (rows kept part new : List BoxRow) (i : ℕ) (d : BoxRow) → i < length rows → new ≡ kept ++ part
    → IsKept n t (take i rows) kept → IsKept n t (get_or rows i d ∷ []) part → IsKept n t (take (i + 1) rows) new
kept_more n t rows kept part new i d l e old more =
    let front = union_of n (map ends_of (take i rows)) in
    let row = union_of n (map ends_of (get_or rows i d ∷ [])) in
    let union : union_of n (map ends_of (kept ++ part)) ≡ filter t (union_of n (map ends_of (take (i + 1) rows))) =
    sym (union-append n kept part)
    ∙ ap₂ (or_cells n) old.union more.union
    ∙ filter-or n t front row (cell_set-union n (map ends_of (take i rows))) (cell_set-union n (map ends_of (get_or rows i d ∷ [])))
    ∙ ap (filter t) (union-append n (take i rows) (get_or rows i d ∷ []) ∙ ap (λ (xs : List BoxRow). union_of n (map ends_of xs)) (sym (take_more rows i d l))) in
    subst (IsKept n t (take (i + 1) rows)) (sym e) (record { boxes = All-append (IsBoxRow n) kept part old.boxes more.boxes; union = union })

pub kept_all : (n : ℕ) (t : List ℤ → Bool) (rows kept : List BoxRow) (i : ℕ) → length rows ≤ i → IsKept n t (take i rows) kept → IsKept n t rows kept
kept_all n t rows kept i l k = subst (λ xs. IsKept n t xs kept) (take_all i rows l) k

-- the exclusive or of the unions on the two sides of any plane is the union
pub sides_of : (n i : ℕ) (at : ℤ) (rows low high : List BoxRow) → length low < length rows → length high < length rows
    → IsKept n (is_under i at) rows low → IsKept n (is_over i at) rows high → AreSides n rows low high
sides_of n i at rows low high fl fh l h = record {
  low_boxes = l.boxes;
  high_boxes = h.boxes;
  fewer_low = fl;
  fewer_high = fh;
  union = ap₂ (xor_cells n) l.union h.union ∙ two_sides n i at (union_of n (map ends_of rows)) (cell_set-union n (map ends_of rows));
}

-- the vertices of the exclusive or of two solids, which are the unions of the two sides
pub sides_joined : (n : ℕ) (low high both : Vertices) (rows under over : List BoxRow) → low.dim ≡ n → AreSides n rows under over
    → low.rows ≡ evm n (union_of n (map ends_of under)) → high.rows ≡ evm n (union_of n (map ends_of over))
    → both.rows ≡ xor_rows low.dim low.rows high.rows → both.rows ≡ evm n (union_of n (map ends_of rows))
unfolding xor_rows combined_rows xor_cells
sides_joined n low high both rows under over d s l h e =
    e
    ∙ ap (λ (m : ℕ). evm m (xor_cells m (cells m low.rows) (cells m high.rows))) d
    ∙ ap₂ (λ (A B : List (List ℤ)). evm n (xor_cells n A B))
    (ap (cells n) l ∙ cells-evm n (union_of n (map ends_of under)) (cell_set-union n (map ends_of under)))
    (ap (cells n) h ∙ cells-evm n (union_of n (map ends_of over)) (cell_set-union n (map ends_of over)))
    ∙ ap (evm n) s.union
