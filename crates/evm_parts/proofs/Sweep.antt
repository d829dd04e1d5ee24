-- What a sweep over nested slabs of boxes rests on.
use Rattle.std.proofs.Common.{◌≡◌, ℕ, zero, suc, ◌+◌, ◌<◌, ◌≤◌, true, false, ◌&&◌, ◌||◌, ◌⊎◌, List, [], ◌∷◌, length, drop, get_or, ℤ, pos, ◌≤ℤ◌, ◌<ℤ◌, int_lt, refl, sym, ap, arith, ⊎_elim}
use Rattle.std.proofs.lemmas.Int.{ints as int_facts}
use Rattle.std.proofs.lemmas.Bool.{cases_lt}
use Rattle.std.proofs.lemmas.List.{drop_more, drop_all}
use Rattle.evm_cells.specs.Places.{each}
use Rattle.evm_cells.specs.Unions.{Ends}
use Rattle.evm_cells.proofs.Xor.{and_first, and_second}
use Rattle.evm_cells.proofs.Coords.{lt_is}
use Rattle.evm_cells.proofs.Universe.{point_parts}
use Rattle.evm_parts.specs.Neighbours.{overlap, meet, overlapping, touching}
use Rattle.evm_parts.specs.Labels.{no_box, box_at}
use Rattle.evm_parts.specs.Links.{AreNested}
use Rattle.evm_parts.specs.Stretches.{low_at, high_at, overlap_from, touch_from, PrecedesFrom, IsNestedFrom, IsFirstAbove, IsFirstSlab}
use Rattle.evm_parts.specs.declared.neighbours.Stretch.{Stretch}

-- ---- one axis of four lists

room_there : (lo hi : List ℤ) (k : ℕ) → k < length lo → each int_lt lo hi ≡ true → get_or lo k (pos 0) <ℤ get_or hi k (pos 0)
unfolding each
room_there [] hi k l e = absurd (omega arith)
room_there (a ∷ lo) [] k l e = cc
room_there (a ∷ lo) (b ∷ hi) zero l e = lt_is a b (and_first (int_lt a b) (each int_lt lo hi) e)
room_there (a ∷ lo) (b ∷ hi) (suc k) l e = room_there lo hi k (omega arith) (and_second (int_lt a b) (each int_lt lo hi) e)

module _ (n : ℕ) (boxes : List Ends) (w : AreNested n boxes) where
  lo_long : (i : ℕ) → i < length boxes → length (box_at boxes i).lo ≡ n
  lo_long i l = (point_parts n (box_at boxes i).lo (w.room i no_box l).low).0

  hi_long : (i : ℕ) → i < length boxes → length (box_at boxes i).hi ≡ n
  hi_long i l = (point_parts n (box_at boxes i).hi (w.room i no_box l).high).0

  lo_more : (i k : ℕ) → i < length boxes → k < n → drop k (box_at boxes i).lo ≡ low_at boxes i k ∷ drop (k + 1) (box_at boxes i).lo
  lo_more i k l m = let e = lo_long i l in drop_more (box_at boxes i).lo k (pos 0) (omega (arith, e))

  hi_more : (i k : ℕ) → i < length boxes → k < n → drop k (box_at boxes i).hi ≡ high_at boxes i k ∷ drop (k + 1) (box_at boxes i).hi
  hi_more i k l m = let e = hi_long i l in drop_more (box_at boxes i).hi k (pos 0) (omega (arith, e))

  -- a box has room on each axis
  pub room_at : (i k : ℕ) → i < length boxes → k < n → low_at boxes i k <ℤ high_at boxes i k
  room_at i k l m = let e = lo_long i l in room_there (box_at boxes i).lo (box_at boxes i).hi k (omega (arith, e)) (w.room i no_box l).room

  -- ---- one axis more

  pub overlap_more : (i j k : ℕ) → i < length boxes → j < length boxes → k < n
      → overlap_from boxes k i j ≡ (overlap (low_at boxes i k) (high_at boxes i k) (low_at boxes j k) (high_at boxes j k) && overlap_from boxes (k + 1) i j)
  unfolding overlap_from overlapping
  overlap_more i j k l m q = rw (lo_more i k l q, hi_more i k l q, lo_more j k m q, hi_more j k m q) refl

  pub touch_more : (i j k : ℕ) → i < length boxes → j < length boxes → k < n
      → touch_from boxes k i j ≡ ((meet (low_at boxes i k) (high_at boxes i k) (low_at boxes j k) (high_at boxes j k) && overlap_from boxes (k + 1) i j)
      || (overlap (low_at boxes i k) (high_at boxes i k) (low_at boxes j k) (high_at boxes j k) && touch_from boxes (k + 1) i j))
  unfolding touch_from overlap_from touching
  touch_more i j k l m q = rw (lo_more i k l q, hi_more i k l q, lo_more j k m q, hi_more j k m q) refl

  pub precedes_more : (i j k : ℕ) → i < length boxes → j < length boxes → k < n → PrecedesFrom boxes k i j
      → (high_at boxes i k ≤ℤ low_at boxes j k) ⊎ ((low_at boxes i k ≡ low_at boxes j k) × (high_at boxes i k ≡ high_at boxes j k) × PrecedesFrom boxes (k + 1) i j)
  unfolding PrecedesFrom
  precedes_more i j k l m q p = rw (lo_more i k l q, hi_more i k l q, lo_more j k m q, hi_more j k m q) at p

  -- ---- no axis more

  pub overlap_all : (i j : ℕ) → i < length boxes → j < length boxes → overlap_from boxes n i j ≡ true
  unfolding overlap_from overlapping
  overlap_all i j l m =
      let a = lo_long i l in
      let b = hi_long i l in
      let c = lo_long j m in
      let d = hi_long j m in
      rw (drop_all n (box_at boxes i).lo (omega (arith, a)), drop_all n (box_at boxes i).hi (omega (arith, b)), drop_all n (box_at boxes j).lo (omega (arith, c)), drop_all n (box_at boxes j).hi (omega (arith, d))) refl

  pub touch_none : (i j : ℕ) → i < length boxes → touch_from boxes n i j ≡ false
  unfolding touch_from touching
  touch_none i j l =
      let a = lo_long i l in
      rw (drop_all n (box_at boxes i).lo (omega (arith, a))) refl

  pub precedes_none : (i j : ℕ) → i < length boxes → PrecedesFrom boxes n i j → ⊥
  unfolding PrecedesFrom
  precedes_none i j l p =
      let a = lo_long i l in
      rw (drop_all n (box_at boxes i).lo (omega (arith, a))) at p

  -- ---- stretches

  -- the boxes of a stretch begin and end ever higher on its axis
  begins_below : (k : ℕ) (s : Stretch) (i j : ℕ) → k < n → IsNestedFrom boxes k s → s.start ≤ i → i < j → j < s.end
      → (low_at boxes i k ≤ℤ low_at boxes j k) × (high_at boxes i k ≤ℤ high_at boxes j k)
  begins_below k s i j q v l m r =
      let long = v.within in
      let a = room_at i k (omega arith) q in
      let b = room_at j k (omega arith) q in
      ⊎_elim
      (λ (h : high_at boxes i k ≤ℤ low_at boxes j k). (omega (arith, int_facts), omega (arith, int_facts)))
      (λ (h : (low_at boxes i k ≡ low_at boxes j k) × (high_at boxes i k ≡ high_at boxes j k) × PrecedesFrom boxes (k + 1) i j).
      (omega (arith, int_facts), omega (arith, int_facts)))
      (precedes_more i j k (omega arith) (omega arith) q (v.ascends i j l m r))

  pub rise : (k : ℕ) (s : Stretch) (i j : ℕ) → k < n → IsNestedFrom boxes k s → s.start ≤ i → i ≤ j → j < s.end
      → (low_at boxes i k ≤ℤ low_at boxes j k) × (high_at boxes i k ≤ℤ high_at boxes j k)
  rise k s i j q v l m r = ⊎_elim
      (λ (h : i < j). begins_below k s i j q v l h r)
      (λ (h : j ≤ i).
      let e : i ≡ j = omega arith in
      let a = ap (λ t. low_at boxes t k) e in
      let b = ap (λ t. high_at boxes t k) e in
      (omega (arith, int_facts, a), omega (arith, int_facts, b)))
      (cases_lt i j)

  pub part : (k : ℕ) (s t : Stretch) → s.start ≤ t.start → t.start ≤ t.end → t.end ≤ s.end → IsNestedFrom boxes k s → IsNestedFrom boxes k t
  part k s t l m r v = record {
    ordered = m;
    within = omega (arith, v.within);
    ascends = λ i j a b c. v.ascends i j (omega arith) b (omega arith);
  }

  -- the boxes up to the first that ends above the first box are its slab
  module _ (k : ℕ) (s : Stretch) (q : k < n) (v : IsNestedFrom boxes k s) (some : s.start < s.end) where
    same_span : (i : ℕ) → s.start ≤ i → i < s.end → high_at boxes i k ≤ℤ high_at boxes s.start k
        → (low_at boxes i k ≡ low_at boxes s.start k) × (high_at boxes i k ≡ high_at boxes s.start k)
    same_span i l m h = ⊎_elim
        (λ (r : s.start < i).
        let long = v.within in
        let b = room_at i k (omega arith) q in
        ⊎_elim
        (λ (t : high_at boxes s.start k ≤ℤ low_at boxes i k). absurd (omega (arith, int_facts)))
        (λ (t : (low_at boxes s.start k ≡ low_at boxes i k) × (high_at boxes s.start k ≡ high_at boxes i k) × PrecedesFrom boxes (k + 1) s.start i). (sym t.0, sym t.1))
        (precedes_more s.start i k (omega arith) (omega arith) q (v.ascends s.start i (omega arith) r m)))
        (λ (r : i ≤ s.start).
        let e : i ≡ s.start = omega arith in
        (ap (λ t. low_at boxes t k) e, ap (λ t. high_at boxes t k) e))
        (cases_lt s.start i)

    pub slab_made : (at : ℕ) → IsFirstAbove boxes k s (high_at boxes s.start k) at → IsFirstSlab boxes k s (record { start = s.start; end = at })
    slab_made at f =
        let from = f.from in
        let to = f.to in
        let long = v.within in
        let span : (i : ℕ) → s.start ≤ i → i < at → (low_at boxes i k ≡ low_at boxes s.start k) × (high_at boxes i k ≡ high_at boxes s.start k) =
        λ i l m. same_span i l (omega arith) (f.below i l m) in
        let more : s.start < at = ⊎_elim (λ (h : s.start < at). h)
        (λ (h : at ≤ s.start). let z = f.above s.start h some in absurd (omega (arith, int_facts)))
        (cases_lt s.start at) in
        record {
          start = refl;
          some = more;
          to = to;
          low = λ i h. (span i h.from h.to).0;
          high = λ i h. (span i h.from h.to).1;
          later = λ i l m.
              let z = f.above i l m in
              ⊎_elim
              (λ (t : high_at boxes s.start k ≤ℤ low_at boxes i k). t)
              (λ (t : (low_at boxes s.start k ≡ low_at boxes i k) × (high_at boxes s.start k ≡ high_at boxes i k) × PrecedesFrom boxes (k + 1) s.start i).
              absurd (omega (arith, int_facts)))
              (precedes_more s.start i k (omega arith) (omega arith) q (v.ascends s.start i (omega arith) (omega arith) m));
          nested = record {
            ordered = omega arith;
            within = omega arith;
            ascends = λ i j l m r.
                let a = span i l (omega arith) in
                let b = span j (omega arith) r in
                let c = room_at j k (omega arith) q in
                ⊎_elim
                (λ (t : high_at boxes i k ≤ℤ low_at boxes j k). absurd (omega (arith, int_facts)))
                (λ (t : (low_at boxes i k ≡ low_at boxes j k) × (high_at boxes i k ≡ high_at boxes j k) × PrecedesFrom boxes (k + 1) i j). t.2)
                (precedes_more i j k (omega arith) (omega arith) q (v.ascends i j l m (omega arith)));
          };
        }
