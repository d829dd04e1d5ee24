-- Boxes of a list by their places in it: those of the stated partition of a cell set, those with one label, and the roots.
use Rattle.std.proofs.Common.{◌≡◌, ℕ, zero, suc, ◌+◌, ◌<◌, ◌≤◌, ⊎_elim, Bool, true, false, ◌==◌, List, [], ◌∷◌, map, filter, length, get_or, count_by, ℤ, refl, sym, ap, ap₂, ◌∙◌, arith, eqb-true, eq-eqb}
use Rattle.std.specs.List.{list_any, list_all, range_with_len}
use Rattle.std.proofs.lemmas.Bool.{false≢true, or_left, or_right, or_cases, cases_Bool, cases_order}
use Rattle.evm_cells.specs.Places.{has, same, before, ascending}
use Rattle.evm_cells.specs.Limits.{IsCellSet}
use Rattle.evm_cells.specs.Unions.{Ends}
use Rattle.evm_cells.proofs.Xor.{and_first, and_second, and_both}
use Rattle.evm_cells.proofs.Places.{strict_places}
use Rattle.evm_partition.specs.Partition.{partition}
use Rattle.evm_partition.proofs.Once.{inside, bit, count-cons, once_inside}
use Rattle.evm_partition.proofs.Stated.{list_is_partition}
use Rattle.evm_partition.proofs.Within.{boxes_have_room}
use Rattle.evm_parts.specs.Labels.{box_at, no_box, label_at, labelled}
use Rattle.evm_parts.proofs.Meeting.{IsInside, HasRoom, inside_is, inside_yes, room_is}

-- ---- elements that a test counts

module _ {X : Type 0} (f : X → Bool) (x : X) where
  count_one : (xs : List X) (i : ℕ) → i < length xs → f (get_or xs i x) ≡ true → 1 ≤ count_by f xs
  count_one [] i l h = absurd (omega arith)
  count_one (y ∷ xs) zero l h = let u = count-cons f y xs in let v = ap bit h in omega (arith, u, v)
  count_one (y ∷ xs) (suc i) l h = let u = count-cons f y xs in let v = count_one xs i (omega arith) h in omega (arith, u, v)

  pub count_two : (xs : List X) (i j : ℕ) → i < j → j < length xs → f (get_or xs i x) ≡ true → f (get_or xs j x) ≡ true → 2 ≤ count_by f xs
  count_two [] i j k l h g = absurd (omega arith)
  count_two (y ∷ xs) i zero k l h g = absurd (omega arith)
  count_two (y ∷ xs) zero (suc j) k l h g = let u = count-cons f y xs in let v = ap bit h in let w = count_one xs j (omega arith) g in omega (arith, u, v, w)
  count_two (y ∷ xs) (suc i) (suc j) k l h g = let u = count-cons f y xs in let v = count_two xs i j (omega arith) (omega arith) h g in omega (arith, u, v)

  count_some : (xs : List X) → 1 ≤ count_by f xs → (i : ℕ) × (i < length xs) × (f (get_or xs i x) ≡ true)
  count_some [] h = absurd (omega arith)
  count_some (y ∷ xs) h = ⊎_elim
      (λ (e : f y ≡ true). (0, omega arith, e))
      (λ (e : f y ≡ false).
      let u = count-cons f y xs in
      let v = ap bit e in
      let (i, l, k) = count_some xs (omega (arith, u, v)) in
      (suc i, omega arith, k))
      (cases_Bool (f y))

-- ---- places of boxes

all_at : (p : List ℤ → Bool) (bs : List Ends) (i : ℕ) → list_all p (map (λ b. b.lo) bs) ≡ true → i < length bs → p (box_at bs i).lo ≡ true
all_at p [] i h l = absurd (omega arith)
all_at p (b ∷ bs) zero h l = and_first (p b.lo) (list_all p (map (λ a. a.lo) bs)) h
all_at p (b ∷ bs) (suc i) h l = all_at p bs i (and_second (p b.lo) (list_all p (map (λ a. a.lo) bs)) h) (omega arith)

lows_rise : (bs : List Ends) → ascending (map (λ b. b.lo) bs) ≡ true → (i j : ℕ) → i < j → j < length bs → before (box_at bs i).lo (box_at bs j).lo ≡ true
unfolding ascending
lows_rise [] a i j k l = absurd (omega arith)
lows_rise (b ∷ bs) a i zero k l = absurd (omega arith)
lows_rise (b ∷ bs) a zero (suc j) k l = all_at (before b.lo) bs j (and_first (list_all (before b.lo) (map (λ x. x.lo) bs)) (ascending (map (λ x. x.lo) bs)) a) (omega arith)
lows_rise (b ∷ bs) a (suc i) (suc j) k l = lows_rise bs (and_second (list_all (before b.lo) (map (λ x. x.lo) bs)) (ascending (map (λ x. x.lo) bs)) a) i j (omega arith) (omega arith)

by_bit : (v : Bool) → 1 ≤ bit v → v ≡ true
by_bit true l = refl
by_bit false l = absurd (omega arith)

-- ---- the boxes of the stated partition

-- the place is in the box i
pub record IsIn (boxes : List Ends) (i : ℕ) (c : List ℤ) : Type 0 where
  pub there : i < length boxes
  pub inside : IsInside (box_at boxes i).lo (box_at boxes i).hi c

module _ (n : ℕ) (S : List (List ℤ)) (s : IsCellSet n S) where
  pub box_of_cell : (c : List ℤ) → has S c ≡ true → (i : ℕ) × IsIn (partition n S) i c
  box_of_cell c m =
      let u = once_inside n S c s in
      let v = ap bit m in
      let (i, l, h) = count_some (inside c) no_box (partition n S) (omega (arith, u, v)) in
      let b = box_at (partition n S) i in
      (i, record { there = l; inside = inside_is b.lo b.hi c h })

  pub cell_of_box : (i : ℕ) (c : List ℤ) → IsIn (partition n S) i c → has S c ≡ true
  cell_of_box i c h =
      let b = box_at (partition n S) i in
      let u = once_inside n S c s in
      let v = count_one (inside c) no_box (partition n S) i h.there (inside_yes b.lo b.hi c h.inside) in
      by_bit (has S c) (omega (arith, u, v))

  never_two : (i j : ℕ) (c : List ℤ) → i < j → IsIn (partition n S) i c → IsIn (partition n S) j c → ⊥
  never_two i j c l h g =
      let b = box_at (partition n S) i in
      let d = box_at (partition n S) j in
      let u = once_inside n S c s in
      let v = count_two (inside c) no_box (partition n S) i j l g.there (inside_yes b.lo b.hi c h.inside) (inside_yes d.lo d.hi c g.inside) in
      let w = ap bit (cell_of_box i c h) in
      omega (arith, u, v, w)

  pub one_box_of : (i j : ℕ) (c : List ℤ) → IsIn (partition n S) i c → IsIn (partition n S) j c → i ≡ j
  one_box_of i j c h g = ⊎_elim (λ e. e) (λ k. ⊎_elim (λ l. absurd (never_two i j c l h g)) (λ l. absurd (never_two j i c l g h)) k) (cases_order i j)

  pub room_at : (i : ℕ) → i < length (partition n S) → HasRoom (box_at (partition n S) i).lo (box_at (partition n S) i).hi
  room_at i l = let b = box_at (partition n S) i in room_is b.lo b.hi (boxes_have_room n S s i no_box l).room

  pub rise_at : (i j : ℕ) → i < j → j < length (partition n S) → before (box_at (partition n S) i).lo (box_at (partition n S) j).lo ≡ true
  rise_at = lows_rise (partition n S) (list_is_partition n S s).ascends

-- ---- the boxes with one label

pub any_labelled : (f : Ends → Bool) (root : ℕ) (labels : List ℕ) (boxes : List Ends) → list_any f (labelled root labels boxes) ≡ true
    → (i : ℕ) × (i < length boxes) × (label_at labels i ≡ root) × (f (box_at boxes i) ≡ true)
unfolding labelled
any_labelled f root [] boxes h = absurd (false≢true h)
any_labelled f root (label ∷ labels) [] h = absurd (false≢true h)
any_labelled f root (label ∷ labels) (b ∷ boxes) h = ⊎_elim
    (λ (e : (label == root) ≡ true).
    ⊎_elim
    (λ u. (0, omega arith, eqb-true label root e, u))
    (λ u. let (i, l, k, v) = any_labelled f root labels boxes u in (suc i, omega arith, k, v))
    (or_cases (f b) (list_any f (labelled root labels boxes)) (rw e at h)))
    (λ (e : (label == root) ≡ false). let (i, l, k, v) = any_labelled f root labels boxes (rw e at h) in (suc i, omega arith, k, v))
    (cases_Bool (label == root))

pub labelled_any : (f : Ends → Bool) (root : ℕ) (labels : List ℕ) (boxes : List Ends) (i : ℕ) → i < length labels → i < length boxes
    → label_at labels i ≡ root → f (box_at boxes i) ≡ true → list_any f (labelled root labels boxes) ≡ true
unfolding labelled
labelled_any f root [] boxes i k l e h = absurd (omega arith)
labelled_any f root (label ∷ labels) [] i k l e h = absurd (omega arith)
labelled_any f root (label ∷ labels) (b ∷ boxes) zero k l e h = rw (eq-eqb label root e) (or_left (f b) (list_any f (labelled root labels boxes)) h)
labelled_any f root (label ∷ labels) (b ∷ boxes) (suc i) k l e h =
    let u = labelled_any f root labels boxes i (omega arith) (omega arith) e h in
    ⊎_elim
    (λ (g : (label == root) ≡ true). rw g (or_right (f b) (list_any f (labelled root labels boxes)) u))
    (λ (g : (label == root) ≡ false). rw g u)
    (cases_Bool (label == root))

-- ---- numbers in a row, cut by a test, and what is made of them

module _ {X : Type 0} (test : ℕ → Bool) where
  pub map_picked : (f g : ℕ → X) (a m : ℕ) → ((i : ℕ) → i < a + m → test i ≡ true → f i ≡ g i)
      → map f (filter test (range_with_len a m)) ≡ map g (filter test (range_with_len a m))
  map_picked f g a zero h = refl
  map_picked f g a (suc m) h =
      let u = map_picked f g (a + 1) m (λ i l t. h i (omega arith) t) in
      ⊎_elim
      (λ (e : test a ≡ true). rw e (ap₂ (λ x xs. x ∷ xs) (h a (omega arith) e) u))
      (λ (e : test a ≡ false). rw e u)
      (cases_Bool (test a))

module _ (f : ℕ → List ℤ) (test : ℕ → Bool) where
  all_picked : (p : List ℤ → Bool) (a m : ℕ) → ((i : ℕ) → a ≤ i → i < a + m → p (f i) ≡ true) → list_all p (map f (filter test (range_with_len a m))) ≡ true
  all_picked p a zero h = refl
  all_picked p a (suc m) h =
      let u = all_picked p (a + 1) m (λ i k l. h i (omega arith) (omega arith)) in
      ⊎_elim
      (λ (e : test a ≡ true). rw e (and_both (p (f a)) (list_all p (map f (filter test (range_with_len (a + 1) m)))) (h a (omega arith) (omega arith)) u))
      (λ (e : test a ≡ false). rw e u)
      (cases_Bool (test a))

  pub picked_ascend : (a m : ℕ) → ((i j : ℕ) → i < j → j < a + m → before (f i) (f j) ≡ true) → ascending (map f (filter test (range_with_len a m))) ≡ true
  unfolding ascending
  picked_ascend a zero h = refl
  picked_ascend a (suc m) h =
      let T = map f (filter test (range_with_len (a + 1) m)) in
      let u = picked_ascend (a + 1) m (λ i j k l. h i j k (omega arith)) in
      ⊎_elim
      (λ (e : test a ≡ true). rw e (and_both (list_all (before (f a)) T) (ascending T) (all_picked (before (f a)) (a + 1) m (λ i k l. h a i (omega arith) (omega arith))) u))
      (λ (e : test a ≡ false). rw e u)
      (cases_Bool (test a))

  pub picked_is : (a m : ℕ) (c : List ℤ) → has (map f (filter test (range_with_len a m))) c ≡ true → (i : ℕ) × (i < a + m) × (test i ≡ true) × (c ≡ f i)
  unfolding has
  picked_is a zero c h = absurd (false≢true h)
  picked_is a (suc m) c h = ⊎_elim
      (λ (e : test a ≡ true). ⊎_elim
      (λ u. (a, omega arith, e, strict_places.equal c (f a) u))
      (λ u. let (i, l, t, v) = picked_is (a + 1) m c u in (i, omega arith, t, v))
      (or_cases (same c (f a)) (list_any (same c) (map f (filter test (range_with_len (a + 1) m)))) (rw e at h)))
      (λ (e : test a ≡ false). let (i, l, t, v) = picked_is (a + 1) m c (rw e at h) in (i, omega arith, t, v))
      (cases_Bool (test a))

  pub picked_has : (a m i : ℕ) → a ≤ i → i < a + m → test i ≡ true → has (map f (filter test (range_with_len a m))) (f i) ≡ true
  unfolding has
  picked_has a zero i k l t = absurd (omega arith)
  picked_has a (suc m) i k l t = ⊎_elim
      (λ (q : i ≡ a). rw (ap test (sym q) ∙ t) (or_left (same (f i) (f a)) (list_any (same (f i)) (map f (filter test (range_with_len (a + 1) m)))) (ap (λ z. same (f i) (f z)) (sym q) ∙ strict_places.itself (f i))))
      (λ q.
      let u = picked_has (a + 1) m i (⊎_elim (λ v. absurd (omega arith)) (λ v. omega arith) q) (omega arith) t in
      ⊎_elim
      (λ (e : test a ≡ true). rw e (or_right (same (f i) (f a)) (list_any (same (f i)) (map f (filter test (range_with_len (a + 1) m)))) u))
      (λ (e : test a ≡ false). rw e u)
      (cases_Bool (test a)))
      (cases_order i a)
