-- What the walks over the slabs of stretches have found.
use Rattle.std.proofs.Common.{◌≡◌, ℕ, ◌+◌, ◌<◌, ◌≤◌, Bool, true, false, ◌&&◌, ◌||◌, ◌⊎◌, inl, inr, List, [], ◌∷◌, ◌++◌, length, ◌≤ℤ◌, ◌<ℤ◌, int_lt, refl, sym, ap, ◌∙◌, subst, arith, ⊎_elim, All}
use Rattle.std.specs.Ordering.{int_eq}
use Rattle.std.specs.List.{Contains}
use Rattle.std.proofs.lemmas.Bool.{cases_lt, false≢true}
use Rattle.std.proofs.lemmas.List.Elements.{All-weaker}
use Rattle.std.proofs.lemmas.Int.{ints as int_facts}
use Rattle.evm_cells.specs.Unions.{Ends}
use Rattle.evm_cells.proofs.Xor.{and_first, and_second, and_both}
use Rattle.evm_cells.proofs.Coords.{lt_is, lt_yes, lt_no, eq_is, eq_yes, eq_no}
use Rattle.evm_parts.specs.Links.{AreNested, IsLink, AreLinks}
use Rattle.evm_parts.specs.Stretches.{low_at, high_at, overlap_from, touch_from, PrecedesFrom, IsIn, IsNestedFrom, IsFirstAbove, IsFirstSlab, IsOverlap, IsTouch, IsMeeting, AreAppended}
use Rattle.evm_parts.specs.declared.neighbours.Link.{Link}
use Rattle.evm_parts.specs.declared.neighbours.Stretch.{Stretch}
use Rattle.evm_parts.proofs.Sweep.{room_at, overlap_more, touch_more, overlap_all, touch_none, precedes_none, rise}
use Rattle.evm_parts.proofs.Appended.{none_appended, one_appended, appended_as, appended_both}

-- of the links between two stretches, those from a box before p, or to a box before q
pub record IsPassed (boxes : List Ends) (k : ℕ) (one other : Stretch) (p q : ℕ) (link : Link) : Type 0 where
  pub found : IsOverlap boxes k one other link
  pub passed : (link.first < p) ⊎ (link.second < q)

-- of the links within a stretch, those from a box before p
pub record IsPassedFrom (boxes : List Ends) (k : ℕ) (s : Stretch) (p : ℕ) (link : Link) : Type 0 where
  pub found : IsTouch boxes k s link
  pub passed : link.first < p

-- what is left of a stretch
pub record IsTail (s t : Stretch) : Type 0 where
  pub from : s.start ≤ t.start
  pub ordered : t.start ≤ t.end
  pub to : t.end ≡ s.end

-- of the two ways to touch on an axis, only the one that is possible is left
only_meeting : (x o u r : Bool) → (((x || false) && o) || ((u && false) && r)) ≡ (x && o)
only_meeting true true u r = refl
only_meeting true false true r = refl
only_meeting true false false r = refl
only_meeting false o true r = refl
only_meeting false o false r = refl

meeting_left : (x y u v o r : Bool) → y ≡ false → v ≡ false → (((x || y) && o) || ((u && v) && r)) ≡ (x && o)
meeting_left x y u v o r e f = rw (e, f) (only_meeting x o u r)

module _ (n : ℕ) (boxes : List Ends) (w : AreNested n boxes) where
  overlap_parts : (i j k : ℕ) → i < length boxes → j < length boxes → k < n → overlap_from boxes k i j ≡ true
      → (low_at boxes i k <ℤ high_at boxes j k) × (low_at boxes j k <ℤ high_at boxes i k) × (overlap_from boxes (k + 1) i j ≡ true)
  overlap_parts i j k l m q e =
      let a : Bool = int_lt (low_at boxes i k) (high_at boxes j k) in
      let b : Bool = int_lt (low_at boxes j k) (high_at boxes i k) in
      let rest : Bool = overlap_from boxes (k + 1) i j in
      let f : ((a && b) && rest) ≡ true = sym (overlap_more n boxes w i j k l m q) ∙ e in
      let g = and_first (a && b) rest f in
      (lt_is (low_at boxes i k) (high_at boxes j k) (and_first a b g), lt_is (low_at boxes j k) (high_at boxes i k) (and_second a b g), and_second (a && b) rest f)

  overlap_made : (i j k : ℕ) → i < length boxes → j < length boxes → k < n → low_at boxes i k <ℤ high_at boxes j k → low_at boxes j k <ℤ high_at boxes i k
      → overlap_from boxes (k + 1) i j ≡ true → overlap_from boxes k i j ≡ true
  overlap_made i j k l m q x y e =
      let a : Bool = int_lt (low_at boxes i k) (high_at boxes j k) in
      let b : Bool = int_lt (low_at boxes j k) (high_at boxes i k) in
      overlap_more n boxes w i j k l m q
      ∙ and_both (a && b) (overlap_from boxes (k + 1) i j) (and_both a b (lt_yes (low_at boxes i k) (high_at boxes j k) x) (lt_yes (low_at boxes j k) (high_at boxes i k) y)) e

  -- ---- the slabs of two stretches

  module _ (k : ℕ) (q : k < n) (one other : Stretch) (v : IsNestedFrom boxes k one) (u : IsNestedFrom boxes k other) where
    pub none_passed : (xs : List Link) → AreAppended (IsPassed boxes k one other one.start other.start) xs xs
    none_passed xs = none_appended (IsPassed boxes k one other one.start other.start) xs (λ l h. ⊎_elim
        (λ (t : l.first < one.start). let f = h.found.first.from in absurd (omega arith))
        (λ (t : l.second < other.start). let f = h.found.second.from in absurd (omega arith))
        h.passed)

    pub all_passed : (p r : ℕ) (xs ys : List Link) → (one.end ≤ p) ⊎ (other.end ≤ r) → AreAppended (IsPassed boxes k one other p r) xs ys → AreAppended (IsOverlap boxes k one other) xs ys
    all_passed p r xs ys done = appended_as (IsPassed boxes k one other p r) (IsOverlap boxes k one other) xs ys (λ l h. h.found)
        (λ l h. record {
          found = h;
          passed = ⊎_elim
              (λ (t : one.end ≤ p). let f = h.first.to in inl (omega arith))
              (λ (t : other.end ≤ r). let f = h.second.to in inr (omega arith))
              done;
        })

    module _ (left right : Stretch) (a : IsTail one left) (b : IsTail other right) (some : left.start < left.end) (more : right.start < right.end) where
      -- the boxes of a link that was not passed yet
      spans : (l : Link) → IsOverlap boxes k one other l
          → (low_at boxes l.first k <ℤ high_at boxes l.second k) × (low_at boxes l.second k <ℤ high_at boxes l.first k) × (overlap_from boxes (k + 1) l.first l.second ≡ true)
      spans l h =
          let c = v.within in
          let d = u.within in
          let e = h.first.to in
          let f = h.second.to in
          overlap_parts l.first l.second k (omega arith) (omega arith) q h.near

      first_later : (l : Link) → IsOverlap boxes k one other l → left.start ≤ l.first → low_at boxes left.start k ≤ℤ low_at boxes l.first k
      first_later l h m = (rise n boxes w k one left.start l.first q v a.from m h.first.to).0

      second_later : (l : Link) → IsOverlap boxes k one other l → right.start ≤ l.second → low_at boxes right.start k ≤ℤ low_at boxes l.second k
      second_later l h m = (rise n boxes w k other right.start l.second q u b.from m h.second.to).0

      -- the boxes of the one stretch that end before the next of the other
      pub skip_left : (at : ℕ) (xs ys : List Link) → IsFirstAbove boxes k left (low_at boxes right.start k) at
          → AreAppended (IsPassed boxes k one other left.start right.start) xs ys → AreAppended (IsPassed boxes k one other at right.start) xs ys
      skip_left at xs ys f = appended_as (IsPassed boxes k one other left.start right.start) (IsPassed boxes k one other at right.start) xs ys
          (λ l h. record {
            found = h.found;
            passed = ⊎_elim (λ (t : l.first < left.start). let g = f.from in inl (omega arith)) (λ (t : l.second < right.start). inr t) h.passed;
          })
          (λ l h. record {
            found = h.found;
            passed = ⊎_elim
                (λ (t : l.first < at). ⊎_elim (λ (c : l.first < left.start). inl c)
                (λ (c : left.start ≤ l.first). ⊎_elim (λ (d : l.second < right.start). inr d)
                (λ (d : right.start ≤ l.second).
                let x = (spans l h.found).1 in
                let y = second_later l h.found d in
                let z = f.below l.first c t in
                absurd (omega (arith, int_facts)))
                (cases_lt l.second right.start))
                (cases_lt l.first left.start))
                (λ (t : l.second < right.start). inr t)
                h.passed;
          })

      pub skip_right : (at : ℕ) (xs ys : List Link) → IsFirstAbove boxes k right (low_at boxes left.start k) at
          → AreAppended (IsPassed boxes k one other left.start right.start) xs ys → AreAppended (IsPassed boxes k one other left.start at) xs ys
      skip_right at xs ys f = appended_as (IsPassed boxes k one other left.start right.start) (IsPassed boxes k one other left.start at) xs ys
          (λ l h. record {
            found = h.found;
            passed = ⊎_elim (λ (t : l.first < left.start). inl t) (λ (t : l.second < right.start). let g = f.from in inr (omega arith)) h.passed;
          })
          (λ l h. record {
            found = h.found;
            passed = ⊎_elim (λ (t : l.first < left.start). inl t)
                (λ (t : l.second < at). ⊎_elim (λ (c : l.first < left.start). inl c)
                (λ (c : left.start ≤ l.first). ⊎_elim (λ (d : l.second < right.start). inr d)
                (λ (d : right.start ≤ l.second).
                let x = (spans l h.found).0 in
                let y = first_later l h.found c in
                let z = f.below l.second d t in
                absurd (omega (arith, int_facts)))
                (cases_lt l.second right.start))
                (cases_lt l.first left.start))
                h.passed;
          })

      -- two slabs that overlap, and then the one that ends first is passed
      module _ (slab facing : Stretch) (s : IsFirstSlab boxes k left slab) (t : IsFirstSlab boxes k right facing)
          (x : low_at boxes left.start k <ℤ high_at boxes right.start k) (y : low_at boxes right.start k <ℤ high_at boxes left.start k) where
        near_span : (i : ℕ) → IsIn slab i → (low_at boxes i k ≡ low_at boxes left.start k) × (high_at boxes i k ≡ high_at boxes left.start k)
        near_span i h = (s.low i h ∙ ap (λ m. low_at boxes m k) s.start, s.high i h ∙ ap (λ m. high_at boxes m k) s.start)

        far_span : (i : ℕ) → IsIn facing i → (low_at boxes i k ≡ low_at boxes right.start k) × (high_at boxes i k ≡ high_at boxes right.start k)
        far_span i h = (t.low i h ∙ ap (λ m. low_at boxes m k) t.start, t.high i h ∙ ap (λ m. high_at boxes m k) t.start)

        between : (l : Link) → IsOverlap boxes (k + 1) slab facing l → IsOverlap boxes k one other l
        between l h =
            let c = v.within in
            let d = u.within in
            let e = h.first.to in
            let f = h.second.to in
            let g = h.first.from in
            let i = h.second.from in
            let (m, o) = near_span l.first h.first in
            let (r, z) = far_span l.second h.second in
            record {
              first = record { from = omega (arith, s.start, a.from); to = omega (arith, s.to, a.to) };
              second = record { from = omega (arith, t.start, b.from); to = omega (arith, t.to, b.to) };
              near = overlap_made l.first l.second k (omega (arith, s.to, a.to)) (omega (arith, t.to, b.to)) q (omega (arith, int_facts)) (omega (arith, int_facts)) h.near;
            }

        pub pass_left : (xs ys zs : List Link) → high_at boxes left.start k ≤ℤ high_at boxes right.start k → AreAppended (IsPassed boxes k one other left.start right.start) xs ys
            → AreAppended (IsOverlap boxes (k + 1) slab facing) ys zs → AreAppended (IsPassed boxes k one other slab.end right.start) xs zs
        pass_left xs ys zs under = appended_both (IsPassed boxes k one other left.start right.start) (IsOverlap boxes (k + 1) slab facing) (IsPassed boxes k one other slab.end right.start) xs ys zs
            (λ l h. record {
              found = h.found;
              passed = ⊎_elim (λ (c : l.first < left.start). inl (omega (arith, s.start, s.some))) (λ (c : l.second < right.start). inr c) h.passed;
            })
            (λ l h. record { found = between l h; passed = inl h.first.to })
            (λ l h. ⊎_elim
            (λ (c : l.first < left.start). inl (record { found = h.found; passed = inl c }))
            (λ (c : left.start ≤ l.first). ⊎_elim
            (λ (d : l.second < right.start). inl (record { found = h.found; passed = inr d }))
            (λ (d : right.start ≤ l.second).
            let here : l.first < slab.end = ⊎_elim (λ (e : l.first < slab.end). e) (λ (e : l.second < right.start). absurd (omega arith)) h.passed in
            let first : IsIn slab l.first = record { from = omega (arith, s.start); to = here } in
            let z = spans l h.found in
            ⊎_elim
            (λ (e : l.second < facing.end). inr (record { first = first; second = record { from = omega (arith, t.start); to = e }; near = z.2 }))
            (λ (e : facing.end ≤ l.second).
            let m = t.later l.second e (let f = h.found.second.to in omega (arith, b.to)) in
            let o = ap (λ i. high_at boxes i k) t.start in
            let r = (near_span l.first first).1 in
            absurd (omega (arith, int_facts)))
            (cases_lt l.second facing.end))
            (cases_lt l.second right.start))
            (cases_lt l.first left.start))

        pub pass_right : (xs ys zs : List Link) → high_at boxes right.start k ≤ℤ high_at boxes left.start k → AreAppended (IsPassed boxes k one other left.start right.start) xs ys
            → AreAppended (IsOverlap boxes (k + 1) slab facing) ys zs → AreAppended (IsPassed boxes k one other left.start facing.end) xs zs
        pass_right xs ys zs under = appended_both (IsPassed boxes k one other left.start right.start) (IsOverlap boxes (k + 1) slab facing) (IsPassed boxes k one other left.start facing.end) xs ys zs
            (λ l h. record {
              found = h.found;
              passed = ⊎_elim (λ (c : l.first < left.start). inl c) (λ (c : l.second < right.start). inr (omega (arith, t.start, t.some))) h.passed;
            })
            (λ l h. record { found = between l h; passed = inr h.second.to })
            (λ l h. ⊎_elim
            (λ (c : l.first < left.start). inl (record { found = h.found; passed = inl c }))
            (λ (c : left.start ≤ l.first). ⊎_elim
            (λ (d : l.second < right.start). inl (record { found = h.found; passed = inr d }))
            (λ (d : right.start ≤ l.second).
            let here : l.second < facing.end = ⊎_elim (λ (e : l.first < left.start). absurd (omega arith)) (λ (e : l.second < facing.end). e) h.passed in
            let second : IsIn facing l.second = record { from = omega (arith, t.start); to = here } in
            let z = spans l h.found in
            ⊎_elim
            (λ (e : l.first < slab.end). inr (record { first = record { from = omega (arith, s.start); to = e }; second = second; near = z.2 }))
            (λ (e : slab.end ≤ l.first).
            let m = s.later l.first e (let f = h.found.first.to in omega (arith, a.to)) in
            let o = ap (λ i. high_at boxes i k) s.start in
            let r = (far_span l.second second).1 in
            absurd (omega (arith, int_facts)))
            (cases_lt l.first slab.end))
            (cases_lt l.second right.start))
            (cases_lt l.first left.start))

  -- past the last axis each stretch has one box
  pub one_box : (one other : Stretch) (xs : List Link) → IsNestedFrom boxes n one → IsNestedFrom boxes n other → one.start < one.end → other.start < other.end
      → AreAppended (IsOverlap boxes n one other) xs (xs ++ record { first = one.start; second = other.start } ∷ [])
  one_box one other xs v u some more =
      let c = v.within in
      let d = u.within in
      one_appended (IsOverlap boxes n one other) xs (record { first = one.start; second = other.start })
      (record {
        first = record { from = omega arith; to = some };
        second = record { from = omega arith; to = more };
        near = overlap_all n boxes w one.start other.start (omega arith) (omega arith);
      })
      (λ l h.
      let e = the_first one v some l.first h.first in
      let f = the_first other u more l.second h.second in
      λ i. record { first = e i; second = f i })
    where
      the_first : (s : Stretch) → IsNestedFrom boxes n s → s.start < s.end → (i : ℕ) → IsIn s i → i ≡ s.start
      the_first s v some i h =
          let from = h.from in
          let to = h.to in
          let long = v.within in
          ⊎_elim (λ (l : s.start < i). absurd (precedes_none n boxes w s.start i (omega arith) (v.ascends s.start i (omega arith) l to))) (λ (l : i ≤ s.start). omega arith) (cases_lt s.start i)

  -- ---- the slabs of one stretch

  -- two boxes of a slab touch as they do on the later axes
  touch_same : (i j k : ℕ) → i < length boxes → j < length boxes → k < n → low_at boxes i k ≡ low_at boxes j k → high_at boxes i k ≡ high_at boxes j k
      → touch_from boxes k i j ≡ touch_from boxes (k + 1) i j
  touch_same i j k l m q e f =
      let a = low_at boxes i k in
      let b = high_at boxes i k in
      let c = low_at boxes j k in
      let d = high_at boxes j k in
      let x = room_at n boxes w i k l q in
      let y = room_at n boxes w j k m q in
      touch_more n boxes w i j k l m q
      ∙ rw (
        eq_no b c (λ z. absurd (omega (arith, int_facts, z))),
        eq_no d a (λ z. absurd (omega (arith, int_facts, z))),
        lt_yes a d (omega (arith, int_facts)),
        lt_yes c b (omega (arith, int_facts)),
      ) refl

  -- a box and one past its end touch where they meet, and overlap on the later axes
  touch_apart : (i j k : ℕ) → i < length boxes → j < length boxes → k < n → high_at boxes i k ≤ℤ low_at boxes j k
      → touch_from boxes k i j ≡ (int_eq (high_at boxes i k) (low_at boxes j k) && overlap_from boxes (k + 1) i j)
  touch_apart i j k l m q h =
      let a = low_at boxes i k in
      let b = high_at boxes i k in
      let c = low_at boxes j k in
      let d = high_at boxes j k in
      let x = room_at n boxes w i k l q in
      let y = room_at n boxes w j k m q in
      touch_more n boxes w i j k l m q
      ∙ meeting_left (int_eq b c) (int_eq d a) (int_lt a d) (int_lt c b) (overlap_from boxes (k + 1) i j) (touch_from boxes (k + 1) i j)
      (eq_no d a (λ z. absurd (omega (arith, int_facts, z)))) (lt_no c b h)

  module _ (k : ℕ) (q : k < n) (s : Stretch) (v : IsNestedFrom boxes k s) where
    pub none_passed_from : (xs : List Link) → AreAppended (IsPassedFrom boxes k s s.start) xs xs
    none_passed_from xs = none_appended (IsPassedFrom boxes k s s.start) xs (λ l h. let e = h.passed in let f = h.found.first.from in absurd (omega arith))

    pub all_passed_from : (p : ℕ) (xs ys : List Link) → s.end ≤ p → AreAppended (IsPassedFrom boxes k s p) xs ys → AreAppended (IsTouch boxes k s) xs ys
    all_passed_from p xs ys done = appended_as (IsPassedFrom boxes k s p) (IsTouch boxes k s) xs ys (λ l h. h.found)
        (λ l h. record { found = h; passed = let f = h.first.to in omega arith })

    -- the slab after those that were passed: its links within, and then those to later boxes
    pub pass_slab : (left slab : Stretch) (xs ys zs us : List Link) → IsTail s left → IsFirstSlab boxes k left slab → AreAppended (IsPassedFrom boxes k s left.start) xs ys
        → AreAppended (IsTouch boxes (k + 1) slab) ys zs → AreAppended (IsMeeting boxes k left slab) zs us → AreAppended (IsPassedFrom boxes k s slab.end) xs us
    pass_slab left slab xs ys zs us a f before within after =
        let long = v.within in
        let start = f.start in
        let some = f.some in
        let end = f.to in
        let from = a.from in
        let to = a.to in
        let Within : Link → Type 0 = λ l. IsPassedFrom boxes k s left.start l ⊎ IsTouch boxes (k + 1) slab l in
        let same : (l : Link) → IsIn slab l.first → IsIn slab l.second → touch_from boxes k l.first l.second ≡ touch_from boxes (k + 1) l.first l.second =
        λ l g h.
        let x = g.to in
        let y = h.to in
        touch_same l.first l.second k (omega arith) (omega arith) q (f.low l.first g ∙ sym (f.low l.second h)) (f.high l.first g ∙ sym (f.high l.second h)) in
        appended_both Within (IsMeeting boxes k left slab) (IsPassedFrom boxes k s slab.end) xs zs us
        (λ l h. ⊎_elim
        (λ (t : IsPassedFrom boxes k s left.start l). record { found = t.found; passed = let x = t.passed in omega arith })
        (λ (t : IsTouch boxes (k + 1) slab l). record {
          found = record {
            first = record { from = let x = t.first.from in omega arith; to = let x = t.first.to in omega arith };
            second = record { from = let x = t.second.from in omega arith; to = let x = t.second.to in omega arith };
            ordered = t.ordered;
            near = same l t.first t.second ∙ t.near;
          };
          passed = t.first.to;
        })
        h)
        (λ l h.
        let x = h.first.from in
        let y = h.first.to in
        let z = h.second in
        let t = h.to in
        record {
          found = record {
            first = record { from = omega arith; to = omega arith };
            second = record { from = omega arith; to = omega arith };
            ordered = omega arith;
            near = h.near;
          };
          passed = y;
        })
        (λ l h.
        let x = h.passed in
        let o = h.found.ordered in
        let y = h.found.second.to in
        ⊎_elim
        (λ (t : l.first < left.start). inl (inl (record { found = h.found; passed = t })))
        (λ (t : left.start ≤ l.first).
        let first : IsIn slab l.first = record { from = omega arith; to = x } in
        ⊎_elim
        (λ (r : l.second < slab.end).
        let second : IsIn slab l.second = record { from = omega arith; to = r } in
        inl (inr (record { first = first; second = second; ordered = o; near = sym (same l first second) ∙ h.found.near })))
        (λ (r : slab.end ≤ l.second). inr (record { first = first; second = r; to = omega arith; near = h.found.near }))
        (cases_lt l.second slab.end))
        (cases_lt l.first left.start))
        (appended_both (IsPassedFrom boxes k s left.start) (IsTouch boxes (k + 1) slab) Within xs ys zs (λ l h. inl h) (λ l h. inr h) (λ l h. h) before within)
        after

    -- the links of a slab to later boxes
    module _ (slab : Stretch) (f : IsFirstSlab boxes k s slab) where
      pub none_later : (xs : List Link) → slab.end ≡ s.end → AreAppended (IsMeeting boxes k s slab) xs xs
      none_later xs e = none_appended (IsMeeting boxes k s slab) xs (λ l h. let x = h.second in let y = h.to in absurd (omega arith))

      -- where such a link meets, and what it does on the later axes
      meets : (l : Link) → IsMeeting boxes k s slab l → (high_at boxes slab.start k ≡ low_at boxes l.second k) × (overlap_from boxes (k + 1) l.first l.second ≡ true)
      meets l h =
          let long = v.within in
          let x = h.first.to in
          let y = h.to in
          let end = f.to in
          let a : high_at boxes l.first k ≡ high_at boxes slab.start k = f.high l.first h.first in
          let b = f.later l.second h.second h.to in
          let c : Bool = int_eq (high_at boxes l.first k) (low_at boxes l.second k) in
          let rest : Bool = overlap_from boxes (k + 1) l.first l.second in
          let e : (c && rest) ≡ true = sym (touch_apart l.first l.second k (omega arith) (omega arith) q (omega (arith, int_facts, a, b))) ∙ h.near in
          (sym a ∙ eq_is (high_at boxes l.first k) (low_at boxes l.second k) (and_first c rest e), and_second c rest e)

      module _ (after next : Stretch) (u : IsFirstSlab boxes k after next) (from : after.start ≡ slab.end) (to : after.end ≡ s.end) where
        next_later : high_at boxes slab.start k ≤ℤ low_at boxes next.start k
        next_later =
            let x = u.start in
            let y = u.some in
            let z = u.to in
            f.later next.start (omega arith) (omega arith)

        pub none_met : (xs : List Link) → (high_at boxes slab.start k ≡ low_at boxes next.start k → ⊥) → IsNestedFrom boxes k after → AreAppended (IsMeeting boxes k s slab) xs xs
        none_met xs apart t = none_appended (IsMeeting boxes k s slab) xs (λ l h.
            let x = u.start in
            let y = u.some in
            let m = (meets l h).0 in
            let g = h.second in
            let r = (rise n boxes w k after next.start l.second q t (omega arith) (omega arith) (let z = h.to in omega arith)).0 in
            let o = next_later in
            apart (omega (arith, int_facts)))

        pub next_met : (xs ys : List Link) → high_at boxes slab.start k ≡ low_at boxes next.start k → AreAppended (IsOverlap boxes (k + 1) slab next) xs ys → AreAppended (IsMeeting boxes k s slab) xs ys
        next_met xs ys e = appended_as (IsOverlap boxes (k + 1) slab next) (IsMeeting boxes k s slab) xs ys
            (λ l h.
            let long = v.within in
            let x = h.first.to in
            let y = h.second.from in
            let z = h.second.to in
            let start = u.start in
            let end = u.to in
            let last = f.to in
            let a = f.high l.first h.first ∙ e ∙ sym (u.low l.second h.second) in
            record {
              first = h.first;
              second = omega arith;
              to = omega arith;
              near = touch_apart l.first l.second k (omega arith) (omega arith) q (omega (arith, int_facts, a))
                  ∙ and_both (int_eq (high_at boxes l.first k) (low_at boxes l.second k)) (overlap_from boxes (k + 1) l.first l.second) (eq_yes (high_at boxes l.first k) (low_at boxes l.second k) a) h.near;
            })
            (λ l h.
            let start = u.start in
            let some = u.some in
            let x = h.second in
            let y = h.to in
            let m = meets l h in
            record {
              first = h.first;
              second = record {
                from = omega arith;
                to = ⊎_elim (λ (t : l.second < next.end). t)
                    (λ (t : next.end ≤ l.second).
                    let z = u.later l.second t (omega arith) in
                    let long = v.within in
                    let end = u.to in
                    let r = room_at n boxes w next.start k (omega arith) q in
                    let o = m.0 in
                    absurd (omega (arith, int_facts, e)))
                    (cases_lt l.second next.end);
              };
              near = m.1;
            })

  -- past the last axis no boxes touch
  pub none_touch : (s : Stretch) (xs : List Link) → IsNestedFrom boxes n s → AreAppended (IsTouch boxes n s) xs xs
  none_touch s xs v = none_appended (IsTouch boxes n s) xs (λ l h.
      let long = v.within in
      let x = h.first.to in
      false≢true (sym (touch_none n boxes w l.first l.second (omega arith)) ∙ h.near))

  -- ---- the whole list

  pub whole : (m : ℕ) → m ≡ length boxes → IsNestedFrom boxes 0 (record { start = 0; end = m })
  unfolding PrecedesFrom
  whole m e = record {
    ordered = omega arith;
    within = omega (arith, e);
    ascends = λ i j l r t. w.ascends i j r (omega (arith, e, t));
  }

  pub all_links : (m : ℕ) (xs : List Link) → m ≡ length boxes → AreAppended (IsTouch boxes 0 (record { start = 0; end = m })) [] xs → AreLinks boxes xs
  unfolding touch_from
  all_links m xs e a =
      let P : Link → Type 0 = IsTouch boxes 0 (record { start = 0; end = m }) in
      record {
        sound = subst (All (IsLink boxes)) (sym a.is) (All-weaker P (IsLink boxes)
            (λ l h.
            let x = h.first.to in
            let y = h.second.to in
            record { ordered = h.ordered; linked = record { first = omega (arith, e); second = omega (arith, e); near = h.near } }) a.added a.sound);
        complete = λ i j r h.
            let x = h.first in
            let y = h.second in
            let l : Link = record { first = i; second = j } in
            subst (λ t. Contains t l) (sym a.is) (a.complete l (record {
              first = record { from = omega arith; to = omega (arith, e) };
              second = record { from = omega arith; to = omega (arith, e) };
              ordered = r;
              near = h.near;
            }));
      }
