-- The boxes of the stated partition stand in nested slabs.
use Rattle.std.proofs.Common.{◌≡◌, ℕ, zero, suc, ◌<◌, inl, inr, List, [], ◌∷◌, ◌++◌, map, length, ℤ, ◌≤ℤ◌, refl, sym, subst, arith, All}
use Rattle.std.proofs.lemmas.Int.{ints as int_facts}
use Rattle.std.proofs.lemmas.List.Elements.{All-nil, All-append, All-map, All-weaker, All-head, All-tail}
use Rattle.evm_cells.specs.Limits.{IsCellSet}
use Rattle.evm_cells.specs.Sections.{slice, cuts}
use Rattle.evm_cells.specs.Unions.{Ends}
use Rattle.evm_cells.proofs.Slices.{cell_set-slice}
use Rattle.evm_cells.proofs.Universe.{cell_set-cells}
use Rattle.evm_rows.specs.Rows.{Vertices, cells_of}
use Rattle.evm_partition.specs.BoxLists.{BoxList, partition_of}
use Rattle.evm_partition.specs.Partition.{raised, boxes_from, boxes_over, partition}
use Rattle.evm_partition.proofs.Once.{by_zero}
use Rattle.evm_partition.proofs.Steps.{Steps, AllSteps, steps}
use Rattle.evm_partition.proofs.Within.{boxes_have_room}
use Rattle.evm_parts.specs.Labels.{no_box, box_at}
use Rattle.evm_parts.specs.Links.{Precedes, AreNested}

-- the one box precedes the other
abbrev IsBefore : Ends → Ends → Type 0
IsBefore b c = Precedes b.lo b.hi c.lo c.hi

-- each box precedes those after it
abbrev InOrder : List Ends → Type 0
InOrder [] = Unit {0}
InOrder (b ∷ bs) = All (IsBefore b) bs × InOrder bs

-- the box has a first axis, and begins there at h or above
abbrev StartsFrom : ℤ → List ℤ → List ℤ → Type 0
StartsFrom h (x ∷ lo) (y ∷ hi) = h ≤ℤ x
StartsFrom h _ _ = ⊥

abbrev Starts : ℤ → Ends → Type 0
Starts h b = StartsFrom h b.lo b.hi

starts_lower : (l h : ℤ) (lo hi : List ℤ) → l ≤ℤ h → StartsFrom h lo hi → StartsFrom l lo hi
starts_lower l h (x ∷ lo) (y ∷ hi) m s = omega (arith, int_facts)
starts_lower l h (x ∷ lo) [] m s = absurd s
starts_lower l h [] hi m s = absurd s

apart : (low high : ℤ) (b : Ends) (lo hi : List ℤ) → StartsFrom high lo hi → Precedes (low ∷ b.lo) (high ∷ b.hi) lo hi
apart low high b (x ∷ lo) (y ∷ hi) s = inl s
apart low high b (x ∷ lo) [] s = absurd s
apart low high b [] hi s = absurd s

in_order-append : (xs ys : List Ends) → InOrder xs → InOrder ys → All (λ x. All (IsBefore x) ys) xs → InOrder (xs ++ ys)
in_order-append [] ys p q r = q
in_order-append (x ∷ xs) ys p q r =
    let Each : Ends → Type 0 = λ z. All (IsBefore z) ys in
    (All-append (IsBefore x) xs ys p.0 (All-head Each x xs r), in_order-append xs ys p.1 q (All-tail Each x xs r))

in_order-raised : (low high : ℤ) (bs : List Ends) → InOrder bs → InOrder (map (raised low high) bs)
in_order-raised low high [] p = tt
in_order-raised low high (b ∷ bs) p = (
  All-map (IsBefore (raised low high b)) (raised low high) bs (All-weaker (IsBefore b) (λ c. IsBefore (raised low high b) (raised low high c)) (λ c h. inr (refl, refl, h)) bs p.0),
  in_order-raised low high bs p.1,
)

module _ (F : ℤ → List (List ℤ)) (at : ℤ → List Ends) where
  starts_from : (low : ℤ) (hs : List ℤ) → Steps F low hs → All (Starts low) (boxes_from at low hs)
  unfolding boxes_from
  starts_from low [] w = All-nil (Starts low)
  starts_from low (high ∷ hs) w =
      let lt = w.0 in
      All-append (Starts low) (map (raised low high) (at low)) (boxes_from at high hs)
      (All-map (Starts low) (raised low high) (at low) (λ k d l. omega (arith, int_facts)))
      (All-weaker (Starts high) (Starts low) (λ b s. starts_lower low high b.lo b.hi (omega (arith, int_facts)) s) (boxes_from at high hs) (starts_from high hs w.3))

  order_from : ((j : ℤ) → InOrder (at j)) → (low : ℤ) (hs : List ℤ) → Steps F low hs → InOrder (boxes_from at low hs)
  unfolding boxes_from
  order_from below low [] w = tt
  order_from below low (high ∷ hs) w =
      let later : List Ends = boxes_from at high hs in
      in_order-append (map (raised low high) (at low)) later (in_order-raised low high (at low) (below low)) (order_from below high hs w.3)
      (All-map (λ x. All (IsBefore x) later) (raised low high) (at low)
      (λ k d l. All-weaker (Starts high) (IsBefore (raised low high _)) (λ c s. apart low high _ c.lo c.hi s) later (starts_from high hs w.3)))

  order_over : ((j : ℤ) → InOrder (at j)) → (hs : List ℤ) → AllSteps F hs → InOrder (boxes_over at hs)
  unfolding boxes_over
  order_over below [] w = tt
  order_over below (low ∷ hs) w = order_from below low hs w.2

in_order : (n : ℕ) (S : List (List ℤ)) → IsCellSet n S → InOrder (partition n S)
unfolding partition
in_order zero S s = by_zero (λ T. InOrder (partition 0 T)) tt (All-nil (IsBefore no_box), tt) S s
in_order (suc n) S s = order_over (λ k. slice n 0 k S) (λ low. partition n (slice n 0 low S)) (λ j. in_order n (slice n 0 j S) (cell_set-slice n 0 j S)) (cuts n 0 S) (steps n S s)

by_places : (bs : List Ends) (i j : ℕ) → InOrder bs → i < j → j < length bs → IsBefore (box_at bs i) (box_at bs j)
by_places [] i j p l m = absurd (omega arith)
by_places (b ∷ bs) i zero p l m = absurd (omega arith)
by_places (b ∷ bs) zero (suc j) p l m = p.0 j no_box (omega arith)
by_places (b ∷ bs) (suc i) (suc j) p l m = by_places bs i j p.1 (omega arith) (omega arith)

pub nested_partition : (n : ℕ) (S : List (List ℤ)) → IsCellSet n S → AreNested n (partition n S)
nested_partition n S s = record { room = boxes_have_room n S s; ascends = λ i j l m. by_places (partition n S) i j (in_order n S s) l m }

-- those that a list of boxes has, as they are split
pub nested_boxes : (b : BoxList) (v : Vertices) → b.dim ≡ v.dim → b.boxes ≡ partition_of v → AreNested b.dim b.boxes
nested_boxes b v e f =
    subst (λ n. AreNested n b.boxes) (sym e)
    (subst (AreNested v.dim) (sym f) (nested_partition v.dim (cells_of v) (cell_set-cells v.dim v.rows)))
