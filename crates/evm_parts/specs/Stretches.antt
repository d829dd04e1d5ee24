-- Stretches of a list of boxes that stands in nested slabs, and the links that a sweep over them finds. Axes are counted from 0.
use Rattle.std.specs.Prelude.{◌≡◌, ℕ, ◌+◌, ◌<◌, ◌≤◌, Bool, true, ℤ, pos, ◌≤ℤ◌, ◌<ℤ◌, List, ◌++◌, length, drop, slice_index_or, All}
use Rattle.std.specs.List.{Contains}
use Rattle.evm_cells.specs.Unions.{Ends}
use Rattle.evm_parts.specs.Neighbours.{overlapping, touching}
use Rattle.evm_parts.specs.Labels.{box_at}
use Rattle.evm_parts.specs.Links.{Precedes}
use Rattle.evm_parts.specs.declared.neighbours.Link.{Link}
use Rattle.evm_parts.specs.declared.neighbours.Stretch.{Stretch}

-- where the box i begins and ends on the axis k
abbrev pub low_at : List Ends → ℕ → ℕ → ℤ
low_at boxes i k = slice_index_or (box_at boxes i).lo k (pos 0)

abbrev pub high_at : List Ends → ℕ → ℕ → ℤ
high_at boxes i k = slice_index_or (box_at boxes i).hi k (pos 0)

-- ---- the axes from k on

-- what is left of a box
abbrev pub back_of : ℕ → Ends → Ends
back_of k b = record { lo = drop k b.lo; hi = drop k b.hi }

-- the boxes i and j overlap there
unfoldable pub overlap_from : List Ends → ℕ → ℕ → ℕ → Bool
overlap_from boxes k i j =
    let b : Ends = back_of k (box_at boxes i) in
    let c : Ends = back_of k (box_at boxes j) in
    overlapping b.lo b.hi c.lo c.hi

-- they meet on one of these axes, and overlap on the others
unfoldable pub touch_from : List Ends → ℕ → ℕ → ℕ → Bool
touch_from boxes k i j =
    let b : Ends = back_of k (box_at boxes i) in
    let c : Ends = back_of k (box_at boxes j) in
    touching b.lo b.hi c.lo c.hi

-- the box i precedes the box j there
unfoldable pub PrecedesFrom : List Ends → ℕ → ℕ → ℕ → Type 0
PrecedesFrom boxes k i j =
    let b : Ends = back_of k (box_at boxes i) in
    let c : Ends = back_of k (box_at boxes j) in
    Precedes b.lo b.hi c.lo c.hi

-- ---- stretches

-- the box i is one of the stretch
pub record IsIn (s : Stretch) (i : ℕ) : Type 0 where
  pub from : s.start ≤ i
  pub to : i < s.end

-- a stretch of the list, each box of which precedes those after it on the axes from k on
pub record IsNestedFrom (boxes : List Ends) (k : ℕ) (s : Stretch) : Type 0 where
  pub ordered : s.start ≤ s.end
  pub within : s.end ≤ length boxes
  pub ascends : (i j : ℕ) → s.start ≤ i → i < j → j < s.end → PrecedesFrom boxes k i j

-- the first box of the stretch that ends above the bound on the axis k, or the end of the stretch
pub record IsFirstAbove (boxes : List Ends) (k : ℕ) (s : Stretch) (bound : ℤ) (at : ℕ) : Type 0 where
  pub from : s.start ≤ at
  pub to : at ≤ s.end
  pub below : (i : ℕ) → s.start ≤ i → i < at → high_at boxes i k ≤ℤ bound
  pub above : (i : ℕ) → at ≤ i → i < s.end → bound <ℤ high_at boxes i k

-- the boxes of the stretch with the span of its first on the axis k
pub record IsFirstSlab (boxes : List Ends) (k : ℕ) (s slab : Stretch) : Type 0 where
  pub start : slab.start ≡ s.start
  pub some : slab.start < slab.end
  pub to : slab.end ≤ s.end
  pub low : (i : ℕ) → IsIn slab i → low_at boxes i k ≡ low_at boxes slab.start k
  pub high : (i : ℕ) → IsIn slab i → high_at boxes i k ≡ high_at boxes slab.start k
  pub later : (i : ℕ) → slab.end ≤ i → i < s.end → high_at boxes slab.start k ≤ℤ low_at boxes i k
  pub nested : IsNestedFrom boxes (k + 1) slab

-- ---- the links that are found

-- a link from a box of the one stretch to a box of the other, which overlap on the axes from k on
pub record IsOverlap (boxes : List Ends) (k : ℕ) (one other : Stretch) (link : Link) : Type 0 where
  pub first : IsIn one link.first
  pub second : IsIn other link.second
  pub near : overlap_from boxes k link.first link.second ≡ true

-- a link between two boxes of the stretch, which touch on the axes from k on
pub record IsTouch (boxes : List Ends) (k : ℕ) (s : Stretch) (link : Link) : Type 0 where
  pub first : IsIn s link.first
  pub second : IsIn s link.second
  pub ordered : link.first < link.second
  pub near : touch_from boxes k link.first link.second ≡ true

-- a link from a box of the slab to a later box of the stretch, which touch on the axes from k on
pub record IsMeeting (boxes : List Ends) (k : ℕ) (s slab : Stretch) (link : Link) : Type 0 where
  pub first : IsIn slab link.first
  pub second : slab.end ≤ link.second
  pub to : link.second < s.end
  pub near : touch_from boxes k link.first link.second ≡ true

-- links were appended, and these are the links with the property
pub record AreAppended (P : Link → Type 0) (old new : List Link) : Type 0 where
  pub added : List Link
  pub is : new ≡ old ++ added
  pub sound : All P added
  pub complete : (l : Link) → P l → Contains added l
