-- The boxes of the partition have room, are within the limits, and their union is the cell set.
use Rattle.std.proofs.Common.{◌≡◌, ℕ, zero, suc, ◌+◌, ◌≤◌, Bool, true, false, ◌&&◌, ◌||◌, List, [], ◌∷◌, map, count_by, ℤ, pos, ◌+ℤ◌, ◌-ℤ◌, int_le, int_lt, refl, sym, ap, ◌∙◌, arith, All}
use Rattle.std.specs.List.{list_all, list_any}
use Rattle.std.proofs.lemmas.Int.{ints as int_facts}
use Rattle.std.proofs.lemmas.Bool.{false≢true}
use Rattle.std.proofs.lemmas.List.{length-map}
use Rattle.std.proofs.lemmas.List.Elements.{All-nil, All-cons, All-append, All-map, All-weaker, All-head, All-tail}
use Rattle.evm_cells.specs.Places.{has, each}
use Rattle.evm_cells.specs.Limits.{is_cell, is_point, is_cell_coord, is_point_coord, IsCellSet}
use Rattle.evm_cells.specs.Boxes.{IsBox, box_cells}
use Rattle.evm_cells.specs.Sections.{slice, cuts}
use Rattle.evm_cells.specs.Unions.{Ends, union_of, or_all}
use Rattle.evm_cells.proofs.Xor.{and_both, and_first, and_second}
use Rattle.evm_cells.proofs.Lists.{any-map}
use Rattle.evm_cells.proofs.Coords.{le_yes, lt_yes, lt_is, cell-next}
use Rattle.evm_cells.proofs.Universe.{absorb, cell_parts, cell_is_point, point_from, member_passes, same_sets}
use Rattle.evm_cells.proofs.Slices.{cell_set-slice}
use Rattle.evm_cells.proofs.Unions.{cell_set-or_all, has-or_all}
use Rattle.evm_partition.specs.Partition.{raised, boxes_from, boxes_over, partition}
use Rattle.evm_partition.specs.Laws.{BoxesHaveRoom, UnionOfPartition}
use Rattle.evm_partition.proofs.Steps.{Steps, AllSteps, steps}
use Rattle.evm_partition.proofs.Once.{inside, bit, count-cons, once_inside, cells_stand_once}

-- ---- room

abbrev Roomy : Ends → Type 0
Roomy b = each int_lt b.lo b.hi ≡ true

module _ (F : ℤ → List (List ℤ)) (at : ℤ → List Ends) (below : (j : ℤ) → All Roomy (at j)) where
  roomy_from : (low : ℤ) (hs : List ℤ) → Steps F low hs → All Roomy (boxes_from at low hs)
  unfolding boxes_from each
  roomy_from low [] w = All-nil Roomy
  roomy_from low (high ∷ hs) w =
      All-append Roomy (map (raised low high) (at low)) (boxes_from at high hs)
      (All-map Roomy (raised low high) (at low)
      (All-weaker Roomy (λ b. Roomy (raised low high b)) (λ b h. and_both (int_lt low high) (each int_lt b.lo b.hi) (lt_yes low high w.0) h) (at low) (below low)))
      (roomy_from high hs w.3)

  roomy_over : (hs : List ℤ) → AllSteps F hs → All Roomy (boxes_over at hs)
  unfolding boxes_over
  roomy_over [] w = All-nil Roomy
  roomy_over (low ∷ hs) w = roomy_from low hs w.2

roomy : (n : ℕ) (S : List (List ℤ)) → IsCellSet n S → All Roomy (partition n S)
unfolding partition each
roomy zero S s = All-map Roomy (λ c. record { lo = []; hi = [] }) S (λ k d l. refl)
roomy (suc n) S s = roomy_over (λ k. slice n 0 k S) (λ low. partition n (slice n 0 low S)) (λ j. roomy n (slice n 0 j S) (cell_set-slice n 0 j S)) (cuts n 0 S) (steps n S s)

-- ---- limits

-- the last place of a box
last : List ℤ → List ℤ
last hi = map (λ x. x -ℤ pos 1) hi

le_itself : (lo : List ℤ) → each int_le lo lo ≡ true
unfolding each
le_itself [] = refl
le_itself (x ∷ lo) = and_both (int_le x x) (each int_le lo lo) (le_yes x x (omega (arith, int_facts))) (le_itself lo)

low_last : (lo hi : List ℤ) → each int_lt lo hi ≡ true → each int_le lo (last hi) ≡ true
unfolding each last
low_last [] [] e = refl
low_last [] (y ∷ hi) e = absurd (false≢true e)
low_last (x ∷ lo) [] e = absurd (false≢true e)
low_last (x ∷ lo) (y ∷ hi) e =
    let l = lt_is x y (and_first (int_lt x y) (each int_lt lo hi) e) in
    and_both (int_le x (y -ℤ pos 1)) (each int_le lo (last hi)) (le_yes x (y -ℤ pos 1) (omega (arith, int_facts))) (low_last lo hi (and_second (int_lt x y) (each int_lt lo hi) e))

last_below : (hi : List ℤ) → each int_lt (last hi) hi ≡ true
unfolding each last
last_below [] = refl
last_below (y ∷ hi) = and_both (int_lt (y -ℤ pos 1) y) (each int_lt (last hi) hi) (lt_yes (y -ℤ pos 1) y (omega (arith, int_facts))) (last_below hi)

all_next : (n : ℕ) (hi : List ℤ) → list_all (is_cell_coord n) (last hi) ≡ true → list_all (is_point_coord n) hi ≡ true
unfolding last
all_next n [] e = refl
all_next n (y ∷ hi) e =
    let a = cell-next n (y -ℤ pos 1) (and_first (is_cell_coord n (y -ℤ pos 1)) (list_all (is_cell_coord n) (last hi)) e) in
    let q : (y -ℤ pos 1) +ℤ pos 1 ≡ y = omega (arith, int_facts) in
    and_both (is_point_coord n y) (list_all (is_point_coord n) hi) (ap (is_point_coord n) (sym q) ∙ a) (all_next n hi (and_second (is_cell_coord n (y -ℤ pos 1)) (list_all (is_cell_coord n) (last hi)) e))

last_point : (n : ℕ) (hi : List ℤ) → is_cell n (last hi) ≡ true → is_point n hi ≡ true
unfolding last
last_point n hi e =
    let (l, a) = cell_parts n (last hi) e in
    point_from n hi (sym (length-map hi (λ x. x -ℤ pos 1)) ∙ l) (all_next n hi a)

by_bit : (v : Bool) → 1 ≤ bit v → v ≡ true
by_bit true l = refl
by_bit false l = absurd (omega arith)

module _ (n : ℕ) (S : List (List ℤ)) (s : IsCellSet n S) where
  member : (b : Ends) (bs : List Ends) → ((c : List ℤ) → count_by (inside c) (b ∷ bs) ≤ bit (has S c)) → (c : List ℤ) → inside c b ≡ true → is_cell n c ≡ true
  member b bs f c e =
      let u = f c in
      let v = count-cons (inside c) b bs in
      let w : bit (inside c b) ≡ 1 = ap bit e in
      member_passes (is_cell n) S c s.cells (by_bit (has S c) (omega (arith, u, v, w)))

  later : (b : Ends) (bs : List Ends) → ((c : List ℤ) → count_by (inside c) (b ∷ bs) ≤ bit (has S c)) → (c : List ℤ) → count_by (inside c) bs ≤ bit (has S c)
  later b bs f c = let u = f c in let v = count-cons (inside c) b bs in omega (arith, u, v)

  boxes_are : (bs : List Ends) → ((c : List ℤ) → count_by (inside c) bs ≤ bit (has S c)) → All Roomy bs → All (λ b. IsBox n b.lo b.hi) bs
  boxes_are [] f r = All-nil (λ b. IsBox n b.lo b.hi)
  boxes_are (b ∷ bs) f r =
      let e : each int_lt b.lo b.hi ≡ true = All-head Roomy b bs r in
      let low = member b bs f b.lo (and_both (each int_le b.lo b.lo) (each int_lt b.lo b.hi) (le_itself b.lo) e) in
      let high = member b bs f (last b.hi) (and_both (each int_le b.lo (last b.hi)) (each int_lt (last b.hi) b.hi) (low_last b.lo b.hi e) (last_below b.hi)) in
      let box : IsBox n b.lo b.hi = record { low = cell_is_point n b.lo low; high = last_point n b.hi high; room = e } in
      All-cons (λ b. IsBox n b.lo b.hi) b bs box (boxes_are bs (later b bs f) (All-tail Roomy b bs r))

pub boxes_have_room : BoxesHaveRoom
boxes_have_room n S s = boxes_are n S s (partition n S) (λ c. let e = once_inside n S c s in omega (arith, e)) (roomy n S s)

-- ---- the union

positive : (v : Bool) (m : ℕ) → (v ≡ true → 1 ≤ m) → (w : Bool) → (w || v) ≡ true → 1 ≤ bit w + m
positive v m f true e = omega arith
positive v m f false e = let u = f e in omega (arith, u)

some : (f : Ends → Bool) (bs : List Ends) → list_any f bs ≡ true → 1 ≤ count_by f bs
some f [] e = absurd (false≢true e)
some f (b ∷ bs) e =
    let u = count-cons f b bs in
    let v = positive (list_any f bs) (count_by f bs) (some f bs) (f b) e in
    omega (arith, u, v)

negative : (v : Bool) (m : ℕ) → (v ≡ false → m ≡ 0) → (w : Bool) → (w || v) ≡ false → bit w + m ≡ 0
negative v m f true e = absurd (false≢true (sym e))
negative v m f false e = let u = f e in omega (arith, u)

none : (f : Ends → Bool) (bs : List Ends) → list_any f bs ≡ false → count_by f bs ≡ 0
none f [] e = refl
none f (b ∷ bs) e = count-cons f b bs ∙ negative (list_any f bs) (count_by f bs) (none f bs) (f b) e

any-count : (f : Ends → Bool) (bs : List Ends) (v : Bool) → count_by f bs ≡ bit v → list_any f bs ≡ v
any-count f bs v e = at (list_any f bs) v refl e
  where
    at : (t v : Bool) → list_any f bs ≡ t → count_by f bs ≡ bit v → t ≡ v
    at true true q r = refl
    at true false q r = let u = some f bs q in absurd (omega (arith, u, r))
    at false true q r = let u = none f bs q in absurd (omega (arith, u, r))
    at false false q r = refl

pub union_of_partition : UnionOfPartition
unfolding union_of
union_of_partition n S s =
    let bs : List Ends = partition n S in
    let u : IsCellSet n (or_all n (map (λ b. box_cells n b.lo b.hi) bs)) = cell_set-or_all n (map (λ b. box_cells n b.lo b.hi) bs) in
    same_sets (or_all n (map (λ b. box_cells n b.lo b.hi) bs)) S u.ascends s.ascends
    (λ c. has-or_all n (map (λ b. box_cells n b.lo b.hi) bs) c
    ∙ ap (λ t. is_cell n c && t) (any-map (λ A. has A c) (λ b. box_cells n b.lo b.hi) bs ∙ any-count (λ b. has (box_cells n b.lo b.hi) c) bs (has S c) (cells_stand_once n S c s))
    ∙ absorb (is_cell n c) (has S c) (member_passes (is_cell n) S c s.cells))
