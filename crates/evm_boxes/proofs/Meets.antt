-- What two boxes share, and the bases of boxes.
use Rattle.std.proofs.Common.{◌≡◌, ℕ, zero, suc, ◌+◌, ◌-◌, ◌<◌, ◌≤◌, ◌≤ℤ◌, ◌<ℤ◌, Bool, true, false, ◌&&◌, ◌||◌, List, [], ◌∷◌, length, take, drop, get_or, set, ℤ, pos, int_le, int_lt, refl, sym, ap, ap₂, ◌∙◌, subst, arith, ◌≢◌, below_more}
use Rattle.std.specs.Int.{int_min, int_max}
use Rattle.std.specs.List.{list_all}
use Rattle.std.proofs.lemmas.Bool.{false≢true}
use Rattle.std.proofs.lemmas.Int.{ints as int_facts}
use Rattle.std.proofs.lemmas.List.{get_or-set_same, get_or-set_other, length-set}
use Rattle.std.proofs.lemmas.List.Elements.{All-cons, All-nil}
use Rattle.std.proofs.Math.Seq.{take-set-lt}
use Rattle.evm_cells.specs.Places.{each}
use Rattle.evm_cells.specs.Limits.{is_point, is_point_coord}
use Rattle.evm_cells.specs.Boxes.{is_box, IsBox}
use Rattle.evm_cells.proofs.Xor.{and_first, and_second, and_both}
use Rattle.evm_cells.proofs.Order.{refuted}
use Rattle.evm_cells.proofs.Lists.{all_weaker}
use Rattle.evm_cells.proofs.Coords.{le_is, lt_is, le_yes, lt_yes, point_coord-falls}
use Rattle.evm_cells.proofs.Universe.{point_parts, point_from}
use Rattle.evm_cells.proofs.Insides.{box_lengths}
use Rattle.evm_rows.proofs.BoxTests.{box_from}
use Rattle.evm_boxes.specs.BoxRows.{ends_of, IsBoxRow}
use Rattle.evm_boxes.specs.Fills.{holds, low_of, high_of, base_ends, IsBase, IsMeet, IsInside}
use Rattle.evm_boxes.specs.declared.BoxRow.{BoxRow}
use Rattle.evm_boxes.proofs.Cuts.{Fits, fits, each_under, each_over, each_here, each_length, moved_high, moved_low, box_of, max_over, max_right, max_at, min_under, min_right, min_at}
use Rattle.evm_boxes.proofs.Fills.{parts_of}

or_none : (b : Bool) → (b || false) ≡ b
or_none true = refl
or_none false = refl

-- ---- a part that shrinks axis by axis

-- the part, on the first i axes inside the right box, shares with it what the left box does
pub record Meeting (n i : ℕ) (left right part : BoxRow) : Type 0 where
  pub box : IsBoxRow n part
  pub lows : length part.lo ≡ 6
  pub highs : length part.hi ≡ 6
  pub same : (c : List ℤ) → (holds c (ends_of left) && holds c (ends_of right)) ≡ (holds c (ends_of part) && holds c (ends_of right))
  pub inside : (c : List ℤ) → holds c (ends_of part) ≡ true → holds c (ends_of left) ≡ true
  pub low : (j : ℕ) → j < i → low_of j right ≤ℤ low_of j part
  pub high : (j : ℕ) → j < i → high_of j part ≤ℤ high_of j right

pub meeting_start : (n : ℕ) (left right : BoxRow) → IsBoxRow n left → length left.lo ≡ 6 → length left.hi ≡ 6 → Meeting n 0 left right left
meeting_start n left right b l h = record {
  box = b;
  lows = l;
  highs = h;
  same = λ c. refl;
  inside = λ c m. m;
  low = λ j m. absurd (omega arith);
  high = λ j m. absurd (omega arith);
}

-- where a box holds a cell, on one axis
here : (n i : ℕ) (row : BoxRow) (c : List ℤ) → i < n → IsBoxRow n row → holds c (ends_of row) ≡ true → (low_of i row ≤ℤ get_or c i (pos 0)) × (get_or c i (pos 0) <ℤ high_of i row)
here n i row c l b h =
    let f : Fits n i row = fits n i row l b in
    let lo = (ends_of row).lo in
    let hi = (ends_of row).hi in
    let p : each int_le lo c ≡ true = and_first (each int_le lo c) (each int_lt c hi) h in
    let q : each int_lt c hi ≡ true = and_second (each int_le lo c) (each int_lt c hi) h in
    let e : length lo ≡ length c = each_length int_le lo c p in
    let m : i < length lo = f.low in
    let u : get_or lo i (pos 0) ≤ℤ get_or c i (pos 0) = le_is (get_or lo i (pos 0)) (get_or c i (pos 0)) (each_here int_le i lo c m p) in
    let v : get_or c i (pos 0) <ℤ get_or hi i (pos 0) = lt_is (get_or c i (pos 0)) (get_or hi i (pos 0)) (each_here int_lt i c hi (omega arith) q) in
    (subst (λ x. x ≤ℤ get_or c i (pos 0)) f.low_is u, subst (λ x. get_or c i (pos 0) <ℤ x) f.high_is v)

-- no room on an axis
pub meeting_none : (n i : ℕ) (left right part : BoxRow) (x y : ℤ) → i < n → IsBoxRow n right → Meeting n i left right part
    → x ≡ int_max (low_of i part) (low_of i right) → y ≡ int_min (high_of i part) (high_of i right) → y ≤ℤ x → IsMeet n left right []
meeting_none n i left right part x y l b m e f none = record {
  boxes = All-nil (IsBoxRow n);
  filled = λ c. sym (m.same c ∙ refuted (holds c (ends_of part) && holds c (ends_of right)) (λ h.
      let (u, v) = here n i part c l m.box (and_first (holds c (ends_of part)) (holds c (ends_of right)) h) in
      let (s, t) = here n i right c l b (and_second (holds c (ends_of part)) (holds c (ends_of right)) h) in
      let under : x ≤ℤ get_or c i (pos 0) = subst (λ z. z ≤ℤ get_or c i (pos 0)) (sym e) (max_at (λ z. z ≤ℤ get_or c i (pos 0)) (low_of i part) (low_of i right) u s) in
      let over : get_or c i (pos 0) <ℤ y = subst (λ z. get_or c i (pos 0) <ℤ z) (sym f) (min_at (λ z. get_or c i (pos 0) <ℤ z) (high_of i part) (high_of i right) v t) in
      absurd (omega (arith, int_facts))));
}

regroup : (a b s t r : Bool) → (r ≡ true → s ≡ true) → (r ≡ true → t ≡ true) → ((a && b) && r) ≡ (((a && s) && (b && t)) && r)
regroup true true true true true f g = refl
regroup true true true true false f g = refl
regroup true true true false false f g = refl
regroup true true false t false f g = refl
regroup true true true false true f g = absurd (false≢true (g refl))
regroup true true false t true f g = absurd (false≢true (f refl))
regroup true false true t r f g = refl
regroup true false false t false f g = refl
regroup true false false t true f g = absurd (false≢true (f refl))
regroup false b s t r f g = refl

smaller : (a b s t : Bool) → ((a && s) && (b && t)) ≡ true → (a && b) ≡ true
smaller true true s t h = refl
smaller true false true t h = h
smaller true false false t h = h
smaller false b s t h = h

-- the part after an axis more
pub meeting_more : (n i : ℕ) (left right part new : BoxRow) (x y : ℤ) → i < n → n ≤ 6 → IsBoxRow n right → Meeting n i left right part
    → x ≡ int_max (low_of i part) (low_of i right) → y ≡ int_min (high_of i part) (high_of i right) → x <ℤ y
    → new.dim ≡ part.dim → new.lo ≡ set part.lo i x → new.hi ≡ set part.hi i y → Meeting n (i + 1) left right new
meeting_more n i left right part new x y l six b m e f room d lo hi =
    let g : Fits n i part = fits n i part l m.box in
    let lows = (ends_of part).lo in
    let highs = (ends_of part).hi in
    let x_is : x ≡ int_max (get_or lows i (pos 0)) (low_of i right) = e ∙ ap (λ z. int_max z (low_of i right)) (sym g.low_is) in
    let y_is : y ≡ int_min (get_or highs i (pos 0)) (high_of i right) = f ∙ ap (λ z. int_min z (high_of i right)) (sym g.high_is) in
    let new_lo : (ends_of new).lo ≡ set lows i x = ap₂ (λ (k : ℕ) (u : List ℤ). take k u) d lo ∙ take-set-lt part.dim part.lo i x g.within in
    let new_hi : (ends_of new).hi ≡ set highs i y = ap₂ (λ (k : ℕ) (u : List ℤ). take k u) d hi ∙ take-set-lt part.dim part.hi i y g.within in
    let over : get_or lows i (pos 0) ≤ℤ x = subst (λ z. get_or lows i (pos 0) ≤ℤ z) (sym x_is) (max_over (get_or lows i (pos 0)) (low_of i right)) in
    let under : y ≤ℤ get_or highs i (pos 0) = subst (λ z. z ≤ℤ get_or highs i (pos 0)) (sym y_is) (min_under (get_or highs i (pos 0)) (high_of i right)) in
    let first : is_box n (set lows i x) highs ≡ true = moved_low n i x lows highs l m.box.box over (omega (arith, int_facts)) in
    let same_x : get_or (set lows i x) i (pos 0) ≡ x = get_or-set_same lows i x (pos 0) g.low in
    let second : is_box n (set lows i x) (set highs i y) ≡ true =
    moved_high n i y (set lows i x) highs l first (subst (λ z. z <ℤ y) (sym same_x) room) under in
    let cells : (c : List ℤ) → holds c (ends_of new)
    ≡ ((each int_le lows c && int_le (low_of i right) (get_or c i (pos 0))) && (each int_lt c highs && int_lt (get_or c i (pos 0)) (high_of i right))) =
    λ c. ap₂ (λ (u v : List ℤ). each int_le u c && each int_lt c v) (new_lo ∙ ap (set lows i) x_is) (new_hi ∙ ap (set highs i) y_is)
    ∙ ap₂ (λ s t. s && t) (each_over i (low_of i right) lows c g.low) (each_under i (high_of i right) c highs g.high) in
    record {
      box = record { dim = d ∙ m.box.dim; box = ap₂ (is_box n) new_lo new_hi ∙ second };
      lows = ap length lo ∙ length-set part.lo i x ∙ m.lows;
      highs = ap length hi ∙ length-set part.hi i y ∙ m.highs;
      same = λ c. m.same c
          ∙ regroup (each int_le lows c) (each int_lt c highs) (int_le (low_of i right) (get_or c i (pos 0))) (int_lt (get_or c i (pos 0)) (high_of i right)) (holds c (ends_of right))
          (λ h. le_yes (low_of i right) (get_or c i (pos 0)) (here n i right c l b h).0) (λ h. lt_yes (get_or c i (pos 0)) (high_of i right) (here n i right c l b h).1)
          ∙ ap (λ t. t && holds c (ends_of right)) (sym (cells c));
      inside = λ c h. m.inside c (smaller (each int_le lows c) (each int_lt c highs) (int_le (low_of i right) (get_or c i (pos 0))) (int_lt (get_or c i (pos 0)) (high_of i right)) (sym (cells c) ∙ h));
      low = below_more (λ j. low_of j right ≤ℤ low_of j new) i
          (λ j k. let ne : j ≢ i = omega arith in subst (λ z. low_of j right ≤ℤ z) (sym (ap (λ (u : List ℤ). get_or u j (pos 0)) lo ∙ get_or-set_other part.lo i j x (pos 0) ne)) (m.low j k))
          (let w : i < length part.lo = omega (arith, m.lows) in
          subst (λ z. low_of i right ≤ℤ z) (sym (ap (λ (u : List ℤ). get_or u i (pos 0)) lo ∙ get_or-set_same part.lo i x (pos 0) w ∙ e)) (max_right (low_of i part) (low_of i right)));
      high = below_more (λ j. high_of j new ≤ℤ high_of j right) i
          (λ j k. let ne : j ≢ i = omega arith in subst (λ z. z ≤ℤ high_of j right) (sym (ap (λ (u : List ℤ). get_or u j (pos 0)) hi ∙ get_or-set_other part.hi i j y (pos 0) ne)) (m.high j k))
          (let w : i < length part.hi = omega (arith, m.highs) in
          subst (λ z. z ≤ℤ high_of i right) (sym (ap (λ (u : List ℤ). get_or u i (pos 0)) hi ∙ get_or-set_same part.hi i y (pos 0) w ∙ f)) (min_right (high_of i part) (high_of i right)));
    }

-- ---- all axes

each_wider : (r : ℤ → ℤ → Bool) (p q c : List ℤ) → length p ≡ length q → ((i : ℕ) → i < length p → r (get_or p i (pos 0)) (get_or c i (pos 0)) ≡ true → r (get_or q i (pos 0)) (get_or c i (pos 0)) ≡ true)
    → each r p c ≡ true → each r q c ≡ true
unfolding each
each_wider r [] [] c e w h = h
each_wider r [] (y ∷ q) c e w h = absurd (omega arith)
each_wider r (x ∷ p) [] c e w h = absurd (omega arith)
each_wider r (x ∷ p) (y ∷ q) [] e w h = absurd (false≢true h)
each_wider r (x ∷ p) (y ∷ q) (z ∷ c) e w h =
    and_both (r y z) (each r q c) (w 0 (omega arith) (and_first (r x z) (each r p c) h))
    (each_wider r p q c (omega arith) (λ i l. w (suc i) (omega arith)) (and_second (r x z) (each r p c) h))

each_narrower : (r : ℤ → ℤ → Bool) (p q c : List ℤ) → length p ≡ length q → ((i : ℕ) → i < length p → r (get_or c i (pos 0)) (get_or p i (pos 0)) ≡ true → r (get_or c i (pos 0)) (get_or q i (pos 0)) ≡ true)
    → each r c p ≡ true → each r c q ≡ true
unfolding each
each_narrower r [] [] c e w h = h
each_narrower r [] (y ∷ q) c e w h = absurd (omega arith)
each_narrower r (x ∷ p) [] c e w h = absurd (omega arith)
each_narrower r (x ∷ p) (y ∷ q) [] e w h = absurd (false≢true h)
each_narrower r (x ∷ p) (y ∷ q) (z ∷ c) e w h =
    and_both (r z y) (each r c q) (w 0 (omega arith) (and_first (r z x) (each r c p) h))
    (each_narrower r p q c (omega arith) (λ i l. w (suc i) (omega arith)) (and_second (r z x) (each r c p) h))

-- a box between the two ends of another on each axis lies in it
pub inside_of : (n : ℕ) (row other : BoxRow) → IsBoxRow n row → IsBoxRow n other
    → ((j : ℕ) → j < n → low_of j other ≤ℤ low_of j row) → ((j : ℕ) → j < n → high_of j row ≤ℤ high_of j other) → IsInside row other
inside_of n row other a b low high c h =
    let lo = (ends_of row).lo in
    let hi = (ends_of row).hi in
    let los = (ends_of other).lo in
    let his = (ends_of other).hi in
    let (e, f) = box_lengths n lo hi a.box in
    let (u, v) = box_lengths n los his b.box in
    and_both (each int_le los c) (each int_lt c his)
    (each_wider int_le lo los c (omega arith) (λ j k q.
    let s : Fits n j row = fits n j row (omega arith) a in
    let t : Fits n j other = fits n j other (omega arith) b in
    let up : low_of j other ≤ℤ low_of j row = low j (omega arith) in
    let p : get_or lo j (pos 0) ≤ℤ get_or c j (pos 0) = le_is (get_or lo j (pos 0)) (get_or c j (pos 0)) q in
    let z : get_or los j (pos 0) ≤ℤ get_or lo j (pos 0) = subst (λ w. w ≤ℤ get_or lo j (pos 0)) (sym t.low_is) (subst (λ w. low_of j other ≤ℤ w) (sym s.low_is) up) in
    le_yes (get_or los j (pos 0)) (get_or c j (pos 0)) (omega (arith, int_facts)))
    (and_first (each int_le lo c) (each int_lt c hi) h))
    (each_narrower int_lt hi his c (omega arith) (λ j k q.
    let s : Fits n j row = fits n j row (omega arith) a in
    let t : Fits n j other = fits n j other (omega arith) b in
    let up : high_of j row ≤ℤ high_of j other = high j (omega arith) in
    let p : get_or c j (pos 0) <ℤ get_or hi j (pos 0) = lt_is (get_or c j (pos 0)) (get_or hi j (pos 0)) q in
    let z : get_or hi j (pos 0) ≤ℤ get_or his j (pos 0) = subst (λ w. get_or hi j (pos 0) ≤ℤ w) (sym t.high_is) (subst (λ w. w ≤ℤ high_of j other) (sym s.high_is) up) in
    lt_yes (get_or c j (pos 0)) (get_or his j (pos 0)) (omega (arith, int_facts)))
    (and_second (each int_le lo c) (each int_lt c hi) h))

pub meeting_all : (n i : ℕ) (left right part : BoxRow) → n ≤ i → IsBoxRow n right → Meeting n i left right part → IsMeet n left right (part ∷ [])
meeting_all n i left right part l b m = record {
  boxes = All-cons (IsBoxRow n) part [] m.box (All-nil (IsBoxRow n));
  filled = λ c. or_none (holds c (ends_of part)) ∙ both (holds c (ends_of part)) (holds c (ends_of right)) (inside_of n part right m.box b (λ j k. m.low j (omega arith)) (λ j k. m.high j (omega arith)) c) ∙ sym (m.same c);
}
  where
    both : (a r : Bool) → (a ≡ true → r ≡ true) → a ≡ (a && r)
    both true r f = sym (f refl)
    both false r f = refl

-- ---- a box without its first axis

six : (xs : List ℤ) (n : ℕ) → length xs ≡ 6 → n ≤ 5
    → take n (get_or xs 1 (pos 0) ∷ get_or xs 2 (pos 0) ∷ get_or xs 3 (pos 0) ∷ get_or xs 4 (pos 0) ∷ get_or xs 5 (pos 0) ∷ pos 0 ∷ []) ≡ drop 1 (take (suc n) xs)
six [] n e l = absurd (omega arith)
six (a ∷ []) n e l = absurd (omega arith)
six (a ∷ b ∷ []) n e l = absurd (omega arith)
six (a ∷ b ∷ d ∷ []) n e l = absurd (omega arith)
six (a ∷ b ∷ d ∷ f ∷ []) n e l = absurd (omega arith)
six (a ∷ b ∷ d ∷ f ∷ g ∷ []) n e l = absurd (omega arith)
six (a ∷ b ∷ d ∷ f ∷ g ∷ h ∷ k ∷ xs) n e l = absurd (omega arith)
six (a ∷ b ∷ d ∷ f ∷ g ∷ h ∷ []) zero e l = refl
six (a ∷ b ∷ d ∷ f ∷ g ∷ h ∷ []) (suc zero) e l = refl
six (a ∷ b ∷ d ∷ f ∷ g ∷ h ∷ []) (suc (suc zero)) e l = refl
six (a ∷ b ∷ d ∷ f ∷ g ∷ h ∷ []) (suc (suc (suc zero))) e l = refl
six (a ∷ b ∷ d ∷ f ∷ g ∷ h ∷ []) (suc (suc (suc (suc zero)))) e l = refl
six (a ∷ b ∷ d ∷ f ∷ g ∷ h ∷ []) (suc (suc (suc (suc (suc zero))))) e l = refl
six (a ∷ b ∷ d ∷ f ∷ g ∷ h ∷ []) (suc (suc (suc (suc (suc (suc n)))))) e l = absurd (omega arith)

points_fall : (n : ℕ) (x : ℤ) (p : List ℤ) → is_point (suc n) (x ∷ p) ≡ true → is_point n p ≡ true
points_fall n x p h =
    let (e, a) = point_parts (suc n) (x ∷ p) h in
    point_from n p (omega arith) (all_weaker (is_point_coord (suc n)) (is_point_coord n) (point_coord-falls n) p (and_second (is_point_coord (suc n) x) (list_all (is_point_coord (suc n)) p) a))

pub base_box : (n : ℕ) (row : BoxRow) → IsBoxRow (suc n) row → is_box n (base_ends row).lo (base_ends row).hi ≡ true
unfolding each
base_box n row b =
    let p = parts_of n row b in
    let x : IsBox (suc n) (ends_of row).lo (ends_of row).hi = box_from (suc n) (ends_of row).lo (ends_of row).hi (sym b.box) in
    let lo : (base_ends row).lo ≡ p.los = ap (drop 1) p.lo_is in
    let hi : (base_ends row).hi ≡ p.his = ap (drop 1) p.hi_is in
    let room : each int_lt (low_of 0 row ∷ p.los) (high_of 0 row ∷ p.his) ≡ true = sym (ap₂ (each int_lt) p.lo_is p.hi_is) ∙ x.room in
    ap₂ (is_box n) lo hi
    ∙ box_of n p.los p.his (points_fall n (low_of 0 row) p.los (sym (ap (is_point (suc n)) p.lo_is) ∙ x.low)) (points_fall n (high_of 0 row) p.his (sym (ap (is_point (suc n)) p.hi_is) ∙ x.high))
    (and_second (int_lt (low_of 0 row) (high_of 0 row)) (each int_lt p.los p.his) room)

pub base_is : (n m : ℕ) (row base : BoxRow) → n ≡ suc m → m ≤ 5 → IsBoxRow n row → length row.lo ≡ 6 → length row.hi ≡ 6 → base.dim ≡ m
    → base.lo ≡ get_or row.lo 1 (pos 0) ∷ get_or row.lo 2 (pos 0) ∷ get_or row.lo 3 (pos 0) ∷ get_or row.lo 4 (pos 0) ∷ get_or row.lo 5 (pos 0) ∷ pos 0 ∷ []
    → base.hi ≡ get_or row.hi 1 (pos 0) ∷ get_or row.hi 2 (pos 0) ∷ get_or row.hi 3 (pos 0) ∷ get_or row.hi 4 (pos 0) ∷ get_or row.hi 5 (pos 0) ∷ pos 0 ∷ []
    → IsBase n row base
base_is n m row base q few b l h d lo hi =
    let one : n - 1 ≡ m = omega arith in
    let row_dim : row.dim ≡ suc m = b.dim ∙ q in
    let los : (ends_of base).lo ≡ (base_ends row).lo = ap₂ (λ (k : ℕ) (u : List ℤ). take k u) d lo ∙ six row.lo m l few ∙ ap (λ (k : ℕ). drop 1 (take k row.lo)) (sym row_dim) in
    let his : (ends_of base).hi ≡ (base_ends row).hi = ap₂ (λ (k : ℕ) (u : List ℤ). take k u) d hi ∙ six row.hi m h few ∙ ap (λ (k : ℕ). drop 1 (take k row.hi)) (sym row_dim) in
    record {
      box = record { dim = d ∙ sym one; box = ap (λ (k : ℕ). is_box k (ends_of base).lo (ends_of base).hi) one ∙ ap₂ (is_box m) los his ∙ base_box m row (subst (λ k. IsBoxRow k row) q b) };
      ends = λ i. record { lo = los i; hi = his i };
    }
