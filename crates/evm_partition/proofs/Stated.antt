-- The list is the stated partition, and there is one.
use Rattle.std.proofs.Common.{◌≡◌, ◌≢◌, ℕ, zero, suc, Bool, true, false, ◌&&◌, ◌||◌, List, [], ◌∷◌, ◌++◌, map, ℤ, pos, ◌-ℤ◌, ◌≤ℤ◌, ◌<ℤ◌, int_le, int_eq, refl, sym, ap, ap₂, ◌∙◌, subst, arith, All}
use Rattle.std.specs.List.{list_all, Contains}
use Rattle.std.proofs.lemmas.Int.{ints as int_facts, by_lt_z}
use Rattle.std.proofs.lemmas.Bool.{false≢true}
use Rattle.std.proofs.lemmas.List.{map-append, get_or-map, length-map}
use Rattle.std.proofs.lemmas.List.Elements.{All-nil, All-cons, All-append, All-map, All-weaker, Contains-append_left, Contains-append_right}
use Rattle.evm_cells.specs.Places.{has, same, each, before, with_at}
use Rattle.evm_cells.specs.Limits.{IsCellSet}
use Rattle.evm_cells.specs.Sections.{slice, cuts}
use Rattle.evm_cells.specs.Unions.{Ends}
use Rattle.evm_cells.proofs.Xor.{and_both}
use Rattle.evm_cells.proofs.Order.{rising}
use Rattle.evm_cells.proofs.Lists.{all-append, all_weaker, rising-append}
use Rattle.evm_cells.proofs.Places.{ascending-rising}
use Rattle.evm_cells.proofs.Coords.{le_yes, le_is, lt_yes, lt_no, eq_yes}
use Rattle.evm_cells.proofs.Slices.{has-slice_of, cell_set-slice}
use Rattle.evm_partition.specs.Partition.{IsRun, IsBoxAt, IsBoxOfSome, raised, boxes_from, boxes_over, partition}
use Rattle.evm_partition.specs.Laws.{ListIsPartition}
use Rattle.evm_partition.proofs.Steps.{Steps, AllSteps, steps}
use Rattle.evm_partition.proofs.Once.{no_cell, by_zero}

-- ---- the boxes over the cuts

-- the run of each height between neighbouring cuts
run_of : (n : ℕ) (S : List (List ℤ)) (low high k : ℤ) → slice n 0 (low -ℤ pos 1) S ≢ slice n 0 low S → low <ℤ high
    → ((j : ℤ) → low ≤ℤ j → j <ℤ high → slice n 0 j S ≡ slice n 0 low S) → slice n 0 (high -ℤ pos 1) S ≢ slice n 0 high S
    → low ≤ℤ k → k <ℤ high → IsRun n S k low high
run_of n S low high k b lt same e l m = record {
  from = l;
  to = m;
  alike = λ j u v. same j u v ∙ sym (same k l m);
  begins = λ q. b (q ∙ same k l m);
  ends = λ q. e (same (high -ℤ pos 1) (omega (arith, int_facts)) (omega (arith, int_facts)) ∙ sym (same k l m) ∙ sym q);
}

put : (n : ℕ) (k : ℤ) (c : List ℤ) (S : List (List ℤ)) → IsCellSet (suc n) S → has (slice n 0 k S) c ≡ has S (k ∷ c)
unfolding with_at
put n k c S s = has-slice_of n 0 k S c s

no_member : (S : List (List ℤ)) (c : List ℤ) → S ≡ [] → has S c ≡ true → ⊥
unfolding has
no_member S c e m = false≢true (sym (ap (λ T. has T c) e) ∙ m)

contains_map : (low high : ℤ) (bs : List Ends) (b : Ends) → Contains bs b → Contains (map (raised low high) bs) (raised low high b)
contains_map low high bs b h =
    let long = length-map bs (raised low high) in
    let lt = h.1 in
    (h.0, omega (arith, long, lt), get_or-map (raised low high) bs h.0 b (raised low high b) h.1 ∙ ap (raised low high) h.2)

module _ (n : ℕ) (S : List (List ℤ)) (s : IsCellSet (suc n) S) (at : ℤ → List Ends) where
  of_from : ((j : ℤ) → All (IsBoxOfSome n (slice n 0 j S)) (at j)) → (low : ℤ) (hs : List ℤ) → slice n 0 (low -ℤ pos 1) S ≢ slice n 0 low S
      → Steps (λ k. slice n 0 k S) low hs → All (IsBoxOfSome (suc n) S) (boxes_from at low hs)
  unfolding boxes_from
  of_from below low [] b w = All-nil (IsBoxOfSome (suc n) S)
  of_from below low (high ∷ hs) b w =
      let r : IsRun n S low low high = run_of n S low high low b w.0 w.1 w.2 (omega (arith, int_facts)) w.0 in
      All-append (IsBoxOfSome (suc n) S) (map (raised low high) (at low)) (boxes_from at high hs)
      (All-map (IsBoxOfSome (suc n) S) (raised low high) (at low)
      (All-weaker (IsBoxOfSome n (slice n 0 low S)) (λ t. IsBoxOfSome (suc n) S (raised low high t))
      (λ t h. (low ∷ h.0, sym (put n low h.0 S s) ∙ h.1, (r, h.2))) (at low) (below low)))
      (of_from below high hs w.2 w.3)

  of_over : ((j : ℤ) → All (IsBoxOfSome n (slice n 0 j S)) (at j)) → (hs : List ℤ) → AllSteps (λ k. slice n 0 k S) hs → All (IsBoxOfSome (suc n) S) (boxes_over at hs)
  unfolding boxes_over
  of_over below [] w = All-nil (IsBoxOfSome (suc n) S)
  of_over below (low ∷ hs) w = of_from below low hs w.1 w.2

  -- the box of a cell is there
  all_from : ((j : ℤ) (c : List ℤ) → has (slice n 0 j S) c ≡ true → (b : Ends) × Contains (at j) b × IsBoxAt n (slice n 0 j S) c b.lo b.hi)
      → (low k : ℤ) (c : List ℤ) (hs : List ℤ) → slice n 0 (low -ℤ pos 1) S ≢ slice n 0 low S → Steps (λ k. slice n 0 k S) low hs → low ≤ℤ k → has (slice n 0 k S) c ≡ true
      → (b : Ends) × Contains (boxes_from at low hs) b × IsBoxAt (suc n) S (k ∷ c) b.lo b.hi
  unfolding boxes_from
  all_from below low k c [] b w l m = absurd (no_member (slice n 0 k S) c (w k l) m)
  all_from below low k c (high ∷ hs) b w l m = by_lt_z k high
      (λ u.
      let q : slice n 0 k S ≡ slice n 0 low S = w.1 k l u in
      let h = below low c (ap (λ T. has T c) (sym q) ∙ m) in
      let P : List (List ℤ) → Type 0 = λ T. IsBoxAt n T c h.0.lo h.0.hi in (
        raised low high h.0,
        Contains-append_left (map (raised low high) (at low)) (boxes_from at high hs) (raised low high h.0) (contains_map low high (at low) h.0 h.1),
        (run_of n S low high k b w.0 w.1 w.2 l u, subst P (sym q) h.2),
      ))
      (λ u.
      let h = all_from below high k c hs w.2 w.3 u m in
      (h.0, Contains-append_right (map (raised low high) (at low)) (boxes_from at high hs) h.0 h.1, h.2))

  all_over : ((j : ℤ) (c : List ℤ) → has (slice n 0 j S) c ≡ true → (b : Ends) × Contains (at j) b × IsBoxAt n (slice n 0 j S) c b.lo b.hi)
      → (k : ℤ) (c : List ℤ) (hs : List ℤ) → AllSteps (λ k. slice n 0 k S) hs → has (slice n 0 k S) c ≡ true
      → (b : Ends) × Contains (boxes_over at hs) b × IsBoxAt (suc n) S (k ∷ c) b.lo b.hi
  unfolding boxes_over
  all_over below k c [] w m = absurd (no_member (slice n 0 k S) c (w k) m)
  all_over below k c (low ∷ hs) w m = by_lt_z k low
      (λ u. absurd (no_member (slice n 0 k S) c (w.0 k u) m))
      (λ u. all_from below low k c hs w.1 w.2 u m)

-- ---- their order

lows : List Ends → List (List ℤ)
lows bs = map (λ b. b.lo) bs

-- the first coordinate is there, and not below h
starts : ℤ → List ℤ → Bool
starts h [] = false
starts h (x ∷ xs) = int_le h x

before_starts : (l h : ℤ) (x y : List ℤ) → l <ℤ h → starts h y ≡ true → before (l ∷ x) y ≡ true
unfolding starts before
before_starts l h x [] m e = absurd (false≢true e)
before_starts l h x (k ∷ y) m e = let u = le_is h k e in ap (λ t. t || (int_eq l k && before x y)) (lt_yes l k (omega (arith, int_facts)))

before-same : (l : ℤ) (x y : List ℤ) → before (l ∷ x) (l ∷ y) ≡ before x y
unfolding before
before-same l x y = ap₂ (λ u v. u || (v && before x y)) (lt_no l l (omega (arith, int_facts))) (eq_yes l l refl)

all_before-raised : (low high : ℤ) (x : List ℤ) (bs : List Ends) → list_all (before (low ∷ x)) (lows (map (raised low high) bs)) ≡ list_all (before x) (lows bs)
unfolding lows
all_before-raised low high x [] = refl
all_before-raised low high x (b ∷ bs) = ap₂ (λ u v. u && v) (before-same low x b.lo) (all_before-raised low high x bs)

rising-raised : (low high : ℤ) (bs : List Ends) → rising before (lows (map (raised low high) bs)) ≡ rising before (lows bs)
unfolding lows rising
rising-raised low high [] = refl
rising-raised low high (b ∷ bs) = ap₂ (λ u v. u && v) (all_before-raised low high b.lo bs) (rising-raised low high bs)

starts-raised : (low high : ℤ) (bs : List Ends) → list_all (starts low) (lows (map (raised low high) bs)) ≡ true
unfolding lows starts
starts-raised low high [] = refl
starts-raised low high (b ∷ bs) = and_both (int_le low low) (list_all (starts low) (lows (map (raised low high) bs))) (le_yes low low (omega (arith, int_facts))) (starts-raised low high bs)

starts_lower : (l h : ℤ) (x : List ℤ) → l ≤ℤ h → starts h x ≡ true → starts l x ≡ true
unfolding starts
starts_lower l h [] m e = e
starts_lower l h (k ∷ x) m e = let u = le_is h k e in le_yes l k (omega (arith, int_facts))

all_apart : (low high : ℤ) (bs : List Ends) (ys : List (List ℤ)) → low <ℤ high → list_all (starts high) ys ≡ true → list_all (λ x. list_all (before x) ys) (lows (map (raised low high) bs)) ≡ true
unfolding lows
all_apart low high [] ys l e = refl
all_apart low high (b ∷ bs) ys l e =
    and_both (list_all (before (low ∷ b.lo)) ys) (list_all (λ x. list_all (before x) ys) (lows (map (raised low high) bs)))
    (all_weaker (starts high) (before (low ∷ b.lo)) (λ y f. before_starts low high b.lo y l f) ys e)
    (all_apart low high bs ys l e)

module _ (F : ℤ → List (List ℤ)) (at : ℤ → List Ends) where
  lows-cut : (low high : ℤ) (hs : List ℤ) → lows (boxes_from at low (high ∷ hs)) ≡ lows (map (raised low high) (at low)) ++ lows (boxes_from at high hs)
  unfolding lows boxes_from
  lows-cut low high hs = map-append (λ (b : Ends). b.lo) (map (raised low high) (at low)) (boxes_from at high hs)

  starts_from : (low : ℤ) (hs : List ℤ) → Steps F low hs → list_all (starts low) (lows (boxes_from at low hs)) ≡ true
  unfolding lows boxes_from
  starts_from low [] w = refl
  starts_from low (high ∷ hs) w =
      let lt = w.0 in
      ap (list_all (starts low)) (lows-cut low high hs)
      ∙ all-append (starts low) (lows (map (raised low high) (at low))) (lows (boxes_from at high hs))
      ∙ and_both (list_all (starts low) (lows (map (raised low high) (at low)))) (list_all (starts low) (lows (boxes_from at high hs))) (starts-raised low high (at low))
      (all_weaker (starts high) (starts low) (λ x e. starts_lower low high x (omega (arith, int_facts)) e) (lows (boxes_from at high hs)) (starts_from high hs w.3))

  rise_from : ((j : ℤ) → rising before (lows (at j)) ≡ true) → (low : ℤ) (hs : List ℤ) → Steps F low hs → rising before (lows (boxes_from at low hs)) ≡ true
  unfolding lows boxes_from rising
  rise_from below low [] w = refl
  rise_from below low (high ∷ hs) w =
      ap (rising before) (lows-cut low high hs)
      ∙ rising-append before (lows (map (raised low high) (at low))) (lows (boxes_from at high hs))
      (rising-raised low high (at low) ∙ below low) (rise_from below high hs w.3)
      (all_apart low high (at low) (lows (boxes_from at high hs)) w.0 (starts_from high hs w.3))

  rise_over : ((j : ℤ) → rising before (lows (at j)) ≡ true) → (hs : List ℤ) → AllSteps F hs → rising before (lows (boxes_over at hs)) ≡ true
  unfolding lows boxes_over rising
  rise_over below [] w = refl
  rise_over below (low ∷ hs) w = rise_from below low hs w.2

-- ---- the whole

lows_rise : (n : ℕ) (S : List (List ℤ)) → IsCellSet n S → rising before (lows (partition n S)) ≡ true
unfolding partition lows rising
lows_rise zero S s = by_zero (λ T. rising before (lows (partition 0 T)) ≡ true) refl refl S s
lows_rise (suc n) S s =
    rise_over (λ k. slice n 0 k S) (λ low. partition n (slice n 0 low S)) (λ j. lows_rise n (slice n 0 j S) (cell_set-slice n 0 j S)) (cuts n 0 S) (steps n S s)

all_of_cells : (n : ℕ) (S : List (List ℤ)) → IsCellSet n S → All (IsBoxOfSome n S) (partition n S)
unfolding partition has same each
all_of_cells zero S s = by_zero (λ T. All (IsBoxOfSome 0 T) (partition 0 T)) (All-nil (IsBoxOfSome 0 [])) (All-cons (IsBoxOfSome 0 ([] ∷ [])) (record { lo = []; hi = [] }) [] ([], refl, tt) (All-nil (IsBoxOfSome 0 ([] ∷ [])))) S s
all_of_cells (suc n) S s = of_over n S s (λ low. partition n (slice n 0 low S)) (λ j. all_of_cells n (slice n 0 j S) (cell_set-slice n 0 j S)) (cuts n 0 S) (steps n S s)

each_has_box : (n : ℕ) (S : List (List ℤ)) (c : List ℤ) → IsCellSet n S → has S c ≡ true → (b : Ends) × Contains (partition n S) b × IsBoxAt n S c b.lo b.hi
unfolding partition has
each_has_box zero S [] s m = by_zero (λ T. has T [] ≡ true → (b : Ends) × Contains (partition 0 T) b × IsBoxAt 0 T [] b.lo b.hi)
    (λ e. absurd (false≢true e)) (λ e. (record { lo = []; hi = [] }, (0, omega arith, refl), tt)) S s m
each_has_box zero S (k ∷ c) s m = absurd (false≢true (sym (no_cell 0 S (k ∷ c) s (λ e. omega arith)) ∙ m))
each_has_box (suc n) S [] s m = absurd (false≢true (sym (no_cell (suc n) S [] s (λ e. omega arith)) ∙ m))
each_has_box (suc n) S (k ∷ c) s m =
    all_over n S s (λ low. partition n (slice n 0 low S)) (λ j d h. each_has_box n (slice n 0 j S) d (cell_set-slice n 0 j S) h) k c (cuts n 0 S) (steps n S s) (put n k c S s ∙ m)

pub list_is_partition : ListIsPartition
unfolding lows
list_is_partition n S s = record {
  ascends = ascending-rising (lows (partition n S)) ∙ lows_rise n S s;
  of_cells = all_of_cells n S s;
  all_cells = λ c m. each_has_box n S c s m;
}
