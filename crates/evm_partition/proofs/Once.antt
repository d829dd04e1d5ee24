-- Each cell stands in exactly one box of the partition.
use Rattle.std.proofs.Common.{◌≡◌, ℕ, zero, suc, ◌+◌, Bool, true, false, cond, ◌&&◌, List, [], ◌∷◌, ◌++◌, map, count_by, length, ℤ, int_le, int_lt, refl, sym, ap, ap₂, ◌∙◌, subst, arith, zero-add, ⊎_elim}
use Rattle.std.specs.Prelude.{if◌then◌else◌}
use Rattle.std.proofs.lemmas.Bool.{false≢true, cases_Bool}
use Rattle.std.specs.List.{list_all}
use Rattle.std.proofs.lemmas.Int.{ints as int_facts, by_lt_z}
use Rattle.std.proofs.lemmas.List.Sums.{sum_by-cons, sum_by-append}
use Rattle.evm_cells.specs.Places.{has, same, each, before, ascending, with_at}
use Rattle.evm_cells.specs.Limits.{is_cell, IsCellSet}
use Rattle.evm_cells.specs.Boxes.{box_cells}
use Rattle.evm_cells.specs.Sections.{slice, cuts}
use Rattle.evm_cells.specs.Unions.{Ends}
use Rattle.evm_cells.proofs.Xor.{and_swap, and_first, and_second}
use Rattle.evm_cells.proofs.Order.{refuted}
use Rattle.evm_cells.proofs.Coords.{le_yes, le_no, lt_yes, lt_no}
use Rattle.evm_cells.proofs.Universe.{cell_parts, member_passes}
use Rattle.evm_cells.proofs.Corners.{has-box_cells}
use Rattle.evm_cells.proofs.Slices.{has-slice_of, cell_set-slice}
use Rattle.evm_partition.specs.Partition.{raised, boxes_from, boxes_over, partition}
use Rattle.evm_partition.specs.Laws.{CellsStandOnce}
use Rattle.evm_partition.proofs.Steps.{Steps, AllSteps, steps}

-- the place c is in the box
abbrev pub inside : List ℤ → Ends → Bool
inside c b = each int_le b.lo c && each int_lt c b.hi

-- 1 where it holds, else 0
abbrev pub bit : Bool → ℕ
bit b = if b then 1 else 0

pub count-cons : {X : Type 0} (p : X → Bool) (x : X) (xs : List X) → count_by p (x ∷ xs) ≡ bit (p x) + count_by p xs
count-cons p x xs = sum_by-cons (λ y. cond (p y) 1 0) x xs

count-append : {X : Type 0} (p : X → Bool) (xs ys : List X) → count_by p (xs ++ ys) ≡ count_by p xs + count_by p ys
count-append p xs ys = sum_by-append (λ y. cond (p y) 1 0) xs ys

inside-raised : (k low high : ℤ) (c : List ℤ) (b : Ends) → inside (k ∷ c) (raised low high b) ≡ ((int_le low k && int_lt k high) && inside c b)
unfolding each
inside-raised k low high c b = and_swap (int_le low k) (each int_le b.lo c) (int_lt k high) (each int_lt c b.hi)

-- the number, or 0
only_if : Bool → ℕ → ℕ
only_if true n = n
only_if false n = 0

only_step : (t v : Bool) (n : ℕ) → bit (t && v) + only_if t n ≡ only_if t (bit v + n)
unfolding only_if
only_step true v n = refl
only_step false v n = omega arith

only_none : (t : Bool) → 0 ≡ only_if t 0
unfolding only_if
only_none true = refl
only_none false = refl

count-raised : (k low high : ℤ) (c : List ℤ) (bs : List Ends) → count_by (inside (k ∷ c)) (map (raised low high) bs) ≡ only_if (int_le low k && int_lt k high) (count_by (inside c) bs)
count-raised k low high c [] = only_none (int_le low k && int_lt k high)
count-raised k low high c (b ∷ bs) =
    let t : Bool = int_le low k && int_lt k high in
    count-cons (inside (k ∷ c)) (raised low high b) (map (raised low high) bs)
    ∙ ap₂ (λ x n. bit x + n) (inside-raised k low high c b) (count-raised k low high c bs)
    ∙ only_step t (inside c b) (count_by (inside c) bs)
    ∙ ap (only_if t) (sym (count-cons (inside c) b bs))

module _ (F : ℤ → List (List ℤ)) (at : ℤ → List Ends) (c : List ℤ) (each_once : (j : ℤ) → count_by (inside c) (at j) ≡ bit (has (F j) c)) where
  nothing : (S : List (List ℤ)) → S ≡ [] → bit (has S c) ≡ 0
  unfolding has
  nothing S e = ap (λ T. bit (has T c)) e

  once_from : (k low : ℤ) (hs : List ℤ) → Steps F low hs → count_by (inside (k ∷ c)) (boxes_from at low hs) ≡ only_if (int_le low k) (bit (has (F k) c))
  unfolding boxes_from only_if
  once_from k low [] s = by_lt_z k low
      (λ l. rw (le_no low k l) refl)
      (λ l. rw (le_yes low k l) (sym (nothing (F k) (s k l))))
  once_from k low (high ∷ hs) s =
      let lt = s.0 in
      count-append (inside (k ∷ c)) (map (raised low high) (at low)) (boxes_from at high hs)
      ∙ ap₂ (λ x y. x + y) (count-raised k low high c (at low)) (once_from k high hs s.3)
      ∙ by_lt_z k low
      (λ l. rw (le_no low k l, le_no high k (omega (arith, int_facts))) (omega arith))
      (λ l. by_lt_z k high
      (λ m. rw (le_yes low k l, lt_yes k high m, le_no high k m) (let e = each_once low in let f = ap (λ T. bit (has T c)) (s.1 k l m) in omega (arith, e, f)))
      (λ m. rw (le_yes low k l, lt_no k high m, le_yes high k m) (omega arith)))

  once_over : (k : ℤ) (hs : List ℤ) → AllSteps F hs → count_by (inside (k ∷ c)) (boxes_over at hs) ≡ bit (has (F k) c)
  unfolding boxes_over only_if
  once_over k [] s = sym (nothing (F k) (s k))
  once_over k (low ∷ hs) s = once_from k low hs s.2 ∙ by_lt_z k low
      (λ l. rw (le_no low k l) (sym (nothing (F k) (s.0 k l))))
      (λ l. rw (le_yes low k l) refl)

-- no box of one dimension more has the place without numbers
none_from : (at : ℤ → List Ends) (low : ℤ) (hs : List ℤ) → count_by (inside []) (boxes_from at low hs) ≡ 0
unfolding boxes_from each
none_from at low [] = refl
none_from at low (high ∷ hs) = count-append (inside []) (map (raised low high) (at low)) (boxes_from at high hs) ∙ ap₂ (λ x y. x + y) (none (at low)) (none_from at high hs)
  where
    none : (bs : List Ends) → count_by (inside []) (map (raised low high) bs) ≡ 0
    none [] = refl
    none (b ∷ bs) = count-cons (inside []) (raised low high b) (map (raised low high) bs) ∙ zero-add _ ∙ none bs

none_over : (at : ℤ → List Ends) (hs : List ℤ) → count_by (inside []) (boxes_over at hs) ≡ 0
unfolding boxes_over
none_over at [] = refl
none_over at (low ∷ hs) = none_from at low hs

-- a place of another length is no cell
pub no_cell : (n : ℕ) (S : List (List ℤ)) (c : List ℤ) → IsCellSet n S → (length c ≡ n → ⊥) → has S c ≡ false
no_cell n S c s f = refuted (has S c) (λ m. let (e, a) = cell_parts n c (member_passes (is_cell n) S c s.cells m) in f e)

-- ---- dimension 0

no_numbers : (c : List ℤ) → length c ≡ 0 → c ≡ []
no_numbers [] e = refl
no_numbers (k ∷ c) e = absurd (omega arith)

-- a cell set of dimension 0 is empty, or has the one place
pub by_zero : (P : List (List ℤ) → Type 0) → P [] → P ([] ∷ []) → (S : List (List ℤ)) → IsCellSet 0 S → P S
unfolding ascending before
by_zero P none one [] s = none
by_zero P none one (c ∷ []) s =
    let (e, a) = cell_parts 0 c (and_first (is_cell 0 c) true s.cells) in
    subst (λ z. P (z ∷ [])) (sym (no_numbers c e)) one
by_zero P none one (c ∷ d ∷ S) s =
    let (e, a) = cell_parts 0 c (and_first (is_cell 0 c) (list_all (is_cell 0) (d ∷ S)) s.cells) in
    let (f, b) = cell_parts 0 d (and_first (is_cell 0 d) (list_all (is_cell 0) S) (and_second (is_cell 0 c) (list_all (is_cell 0) (d ∷ S)) s.cells)) in
    let h : before c d ≡ true = and_first (before c d) (list_all (before c) S) (and_first (list_all (before c) (d ∷ S)) (ascending (d ∷ S)) s.ascends) in
    absurd (false≢true (sym (ap₂ before (no_numbers c e) (no_numbers d f)) ∙ h))

abbrev point : List ℤ → Ends
point c = record { lo = []; hi = [] }

one_place : (S : List (List ℤ)) → IsCellSet 0 S → count_by (inside []) (map point S) ≡ bit (has S [])
unfolding has same each
one_place S s = by_zero (λ T. count_by (inside []) (map point T) ≡ bit (has T [])) refl refl S s

no_place : (k : ℤ) (c : List ℤ) (S : List (List ℤ)) → count_by (inside (k ∷ c)) (map point S) ≡ 0
unfolding each
no_place k c [] = refl
no_place k c (d ∷ S) = count-cons (inside (k ∷ c)) (point d) (map point S) ∙ zero-add _ ∙ no_place k c S

-- the boxes that have a place
pub once_inside : (n : ℕ) (S : List (List ℤ)) (c : List ℤ) → IsCellSet n S → count_by (inside c) (partition n S) ≡ bit (has S c)
unfolding partition with_at
once_inside zero S [] s = one_place S s
once_inside zero S (k ∷ c) s = no_place k c S ∙ sym (ap bit (no_cell 0 S (k ∷ c) s (λ e. omega arith)))
once_inside (suc n) S [] s = none_over (λ low. partition n (slice n 0 low S)) (cuts n 0 S) ∙ sym (ap bit (no_cell (suc n) S [] s (λ e. omega arith)))
once_inside (suc n) S (k ∷ c) s =
    once_over (λ k. slice n 0 k S) (λ low. partition n (slice n 0 low S)) c (λ j. once_inside n (slice n 0 j S) c (cell_set-slice n 0 j S)) k (cuts n 0 S) (steps n S s)
    ∙ ap bit (put k)
  where
    put : (k : ℤ) → has (slice n 0 k S) c ≡ has S (k ∷ c)
    put k = has-slice_of n 0 k S c s

-- each cell stands in one box
in_box : (n : ℕ) (S : List (List ℤ)) (c : List ℤ) (bs : List Ends) → count_by (λ b. has (box_cells n b.lo b.hi) c) bs ≡ count_by (λ b. is_cell n c && inside c b) bs
in_box n S c bs = ap (λ f. count_by f bs) (λ i b. has-box_cells n b.lo b.hi c i)

none_in : (bs : List Ends) → count_by (λ b. false) bs ≡ 0
none_in [] = refl
none_in (b ∷ bs) = count-cons (λ b. false) b bs ∙ zero-add _ ∙ none_in bs

pub cells_stand_once : CellsStandOnce
cells_stand_once n S c s = in_box n S c (partition n S) ∙ ⊎_elim
    (λ (t : is_cell n c ≡ true). rw t (once_inside n S c s))
    (λ (t : is_cell n c ≡ false). rw t (none_in (partition n S) ∙ sym (ap bit (refuted (has S c) (λ m. false≢true (sym t ∙ member_passes (is_cell n) S c s.cells m))))))
    (cases_Bool (is_cell n c))
