-- Boxes of which cells share a face, and the walk from cell to cell in a box.
use Rattle.std.proofs.Common.{◌≡◌, ℕ, zero, suc, ◌⊎◌, inl, inr, ⊎_elim, true, false, ◌&&◌, List, [], ◌∷◌, ℤ, pos, negsuc, ◌+ℤ◌, ◌-ℤ◌, ◌≤ℤ◌, ◌<ℤ◌, int_le, int_lt, int_eq, refl, sym, ap₂, subst, arith}
use Rattle.std.proofs.lemmas.Int.{ints as int_facts, by_lt_z}
use Rattle.std.proofs.lemmas.Bool.{false≢true, or_cases, or_left, or_right}
use Rattle.evm_cells.specs.Places.{same, each, before}
use Rattle.evm_cells.specs.Parts.{share_face, are_next}
use Rattle.evm_cells.proofs.Xor.{and_first, and_second, and_both}
use Rattle.evm_cells.proofs.Coords.{le_yes, le_is, lt_yes, lt_is, eq_yes, eq_is, by_order}
use Rattle.evm_cells.proofs.Places.{strict_places}
use Rattle.evm_parts.specs.Neighbours.{overlap, meet, overlapping, touching}

-- the place is in the box from lo to hi
abbrev pub IsInside : List ℤ → List ℤ → List ℤ → Type 0
IsInside [] [] [] = Unit {0}
IsInside (a ∷ lo) (b ∷ hi) (x ∷ c) = (a ≤ℤ x) × (x <ℤ b) × IsInside lo hi c
IsInside lo hi c = ⊥

-- the box has room on each axis
abbrev pub HasRoom : List ℤ → List ℤ → Type 0
HasRoom [] [] = Unit {0}
HasRoom (a ∷ lo) (b ∷ hi) = (a <ℤ b) × HasRoom lo hi
HasRoom lo hi = ⊥

pub inside_is : (lo hi c : List ℤ) → (each int_le lo c && each int_lt c hi) ≡ true → IsInside lo hi c
unfolding each
inside_is [] [] [] h = tt
inside_is [] (b ∷ hi) [] h = absurd (false≢true h)
inside_is [] hi (x ∷ c) h = absurd (false≢true h)
inside_is (a ∷ lo) hi [] h = absurd (false≢true h)
inside_is (a ∷ lo) [] (x ∷ c) h = absurd (false≢true (and_second (int_le a x && each int_le lo c) false h))
inside_is (a ∷ lo) (b ∷ hi) (x ∷ c) h =
    let u = and_first (int_le a x && each int_le lo c) (int_lt x b && each int_lt c hi) h in
    let v = and_second (int_le a x && each int_le lo c) (int_lt x b && each int_lt c hi) h in (
      le_is a x (and_first (int_le a x) (each int_le lo c) u),
      lt_is x b (and_first (int_lt x b) (each int_lt c hi) v),
      inside_is lo hi c (and_both (each int_le lo c) (each int_lt c hi) (and_second (int_le a x) (each int_le lo c) u) (and_second (int_lt x b) (each int_lt c hi) v)),
    )

pub inside_yes : (lo hi c : List ℤ) → IsInside lo hi c → (each int_le lo c && each int_lt c hi) ≡ true
unfolding each
inside_yes [] [] [] h = refl
inside_yes (a ∷ lo) (b ∷ hi) (x ∷ c) h =
    let u = inside_yes lo hi c h.2 in
    and_both (int_le a x && each int_le lo c) (int_lt x b && each int_lt c hi)
    (and_both (int_le a x) (each int_le lo c) (le_yes a x h.0) (and_first (each int_le lo c) (each int_lt c hi) u))
    (and_both (int_lt x b) (each int_lt c hi) (lt_yes x b h.1) (and_second (each int_le lo c) (each int_lt c hi) u))
inside_yes lo hi c h = absurd h

pub room_is : (lo hi : List ℤ) → each int_lt lo hi ≡ true → HasRoom lo hi
unfolding each
room_is [] [] h = tt
room_is [] (b ∷ hi) h = absurd (false≢true h)
room_is (a ∷ lo) [] h = absurd (false≢true h)
room_is (a ∷ lo) (b ∷ hi) h = (lt_is a b (and_first (int_lt a b) (each int_lt lo hi) h), room_is lo hi (and_second (int_lt a b) (each int_lt lo hi) h))

-- a box with room has its lower corner
pub low_inside : (lo hi : List ℤ) → HasRoom lo hi → IsInside lo hi lo
low_inside [] [] r = tt
low_inside (a ∷ lo) (b ∷ hi) r = let l = r.0 in (omega (arith, int_facts), l, low_inside lo hi r.1)
low_inside lo hi r = absurd r

-- and no cell before it
pub low_first : (lo hi c : List ℤ) → IsInside lo hi c → (lo ≡ c) ⊎ (before lo c ≡ true)
unfolding before
low_first [] [] [] h = inl refl
low_first (a ∷ lo) (b ∷ hi) (x ∷ c) h = by_order a x
    (λ l. inr (or_left (int_lt a x) (int_eq a x && before lo c) (lt_yes a x l)))
    (λ e. ⊎_elim
    (λ f. inl (ap₂ (λ y t. y ∷ t) e f))
    (λ l. inr (or_right (int_lt a x) (int_eq a x && before lo c) (and_both (int_eq a x) (before lo c) (eq_yes a x e) l)))
    (low_first lo hi c h.2))
    (λ l. let u = h.0 in absurd (omega (arith, int_facts)))
low_first lo hi c h = absurd h

-- ---- the walk

-- a number that a whole number does not pass
above : (x : ℤ) → (m : ℕ) × (x ≤ℤ pos m)
above (pos a) = (a, omega (arith, int_facts))
above (negsuc a) = (0, omega (arith, int_facts))

-- from number to number between two ends
module _ (a b : ℤ) (Q : ℤ → Type 0) (up : (z : ℤ) → a ≤ℤ z → (z +ℤ pos 1) <ℤ b → Q z → Q (z +ℤ pos 1)) (down : (z : ℤ) → a ≤ℤ z → (z +ℤ pos 1) <ℤ b → Q (z +ℤ pos 1) → Q z) where
  climb : (m : ℕ) (x y : ℤ) → a ≤ℤ x → x ≤ℤ y → y <ℤ b → y ≤ℤ (x +ℤ pos m) → Q x → Q y
  climb zero x y l k r e q = let s : x ≡ y = omega (arith, int_facts) in subst Q s q
  climb (suc m) x y l k r e q = by_order x y
      (λ u. climb m (x +ℤ pos 1) y (omega (arith, int_facts)) (omega (arith, int_facts)) r (omega (arith, int_facts)) (up x l (omega (arith, int_facts)) q))
      (λ s. subst Q s q)
      (λ u. absurd (omega (arith, int_facts)))

  fall : (m : ℕ) (x y : ℤ) → a ≤ℤ y → y ≤ℤ x → x <ℤ b → x ≤ℤ (y +ℤ pos m) → Q x → Q y
  fall zero x y l k r e q = let s : x ≡ y = omega (arith, int_facts) in subst Q s q
  fall (suc m) x y l k r e q = by_order x y
      (λ u. absurd (omega (arith, int_facts)))
      (λ s. subst Q s q)
      (λ u.
      let s : x ≡ (x -ℤ pos 1) +ℤ pos 1 = omega (arith, int_facts) in
      fall m (x -ℤ pos 1) y l (omega (arith, int_facts)) (omega (arith, int_facts)) (omega (arith, int_facts))
      (down (x -ℤ pos 1) (omega (arith, int_facts)) (omega (arith, int_facts)) (subst Q s q)))

  along : (x y : ℤ) → a ≤ℤ x → x <ℤ b → a ≤ℤ y → y <ℤ b → Q x → Q y
  along x y l r k s q = by_lt_z x y
      (λ u. let (m, e) = above (y -ℤ x) in climb m x y l (omega (arith, int_facts)) s (omega (arith, int_facts)) q)
      (λ u. let (m, e) = above (x -ℤ y) in fall m x y k u r (omega (arith, int_facts)) q)

next_shares : (x y : ℤ) (c : List ℤ) → x +ℤ pos 1 ≡ y → share_face (x ∷ c) (y ∷ c) ≡ true
unfolding share_face
next_shares x y c e = or_left (are_next x y && same c c) (int_eq x y && share_face c c) (and_both (are_next x y) (same c c) (or_left (int_eq (x +ℤ pos 1) y) (int_eq (y +ℤ pos 1) x) (eq_yes (x +ℤ pos 1) y e)) (strict_places.itself c))

last_shares : (x y : ℤ) (c : List ℤ) → y +ℤ pos 1 ≡ x → share_face (x ∷ c) (y ∷ c) ≡ true
unfolding share_face
last_shares x y c e = or_left (are_next x y && same c c) (int_eq x y && share_face c c) (and_both (are_next x y) (same c c) (or_right (int_eq (x +ℤ pos 1) y) (int_eq (y +ℤ pos 1) x) (eq_yes (y +ℤ pos 1) x e)) (strict_places.itself c))

also_shares : (x : ℤ) (c d : List ℤ) → share_face c d ≡ true → share_face (x ∷ c) (x ∷ d) ≡ true
unfolding share_face
also_shares x c d h = or_right (are_next x x && same c d) (int_eq x x && share_face c d) (and_both (int_eq x x) (share_face c d) (eq_yes x x refl) h)

-- what passes from cell to cell of a box by shared faces passes to all of them
pub walk : (lo hi c d : List ℤ) (P : List ℤ → Type 0) → ((e f : List ℤ) → IsInside lo hi e → IsInside lo hi f → share_face f e ≡ true → P e → P f)
    → IsInside lo hi c → IsInside lo hi d → P c → P d
walk [] [] [] [] P step u v h = h
walk [] [] [] (y ∷ d) P step u v h = absurd v
walk (a ∷ lo) (b ∷ hi) (x ∷ c) [] P step u v h = absurd v
walk (a ∷ lo) (b ∷ hi) (x ∷ c) (y ∷ d) P step u v h =
    walk lo hi c d (λ t. P (y ∷ t))
    (λ e f i j s. step (y ∷ e) (y ∷ f) (v.0, v.1, i) (v.0, v.1, j) (also_shares y f e s))
    u.2 v.2
    (along a b (λ z. P (z ∷ c))
    (λ z l r. step (z ∷ c) ((z +ℤ pos 1) ∷ c) (l, omega (arith, int_facts), u.2) (omega (arith, int_facts), r, u.2) (last_shares (z +ℤ pos 1) z c refl))
    (λ z l r. step ((z +ℤ pos 1) ∷ c) (z ∷ c) (omega (arith, int_facts), r, u.2) (l, omega (arith, int_facts), u.2) (next_shares z (z +ℤ pos 1) c refl))
    x y u.0 u.1 v.0 v.1 h)
walk lo hi c d P step u v h = absurd u

-- ---- two boxes

-- boxes that overlap on each axis have a cell in common
pub cell_in_both : (lo hi low high : List ℤ) → HasRoom lo hi → HasRoom low high → overlapping lo hi low high ≡ true → (c : List ℤ) × IsInside lo hi c × IsInside low high c
unfolding overlapping
cell_in_both [] [] [] [] r s h = ([], tt, tt)
cell_in_both (a ∷ lo) (b ∷ hi) (c ∷ low) (d ∷ high) r s h =
    let (e, u, v) = cell_in_both lo hi low high r.1 s.1 (and_second (overlap a b c d) (overlapping lo hi low high) h) in
    let o = and_first (overlap a b c d) (overlapping lo hi low high) h in
    let p = lt_is a d (and_first (int_lt a d) (int_lt c b) o) in
    let q = lt_is c b (and_second (int_lt a d) (int_lt c b) o) in
    let f = r.0 in
    let g = s.0 in
    by_lt_z a c
    (λ l. (c ∷ e, (omega (arith, int_facts), q, u), (omega (arith, int_facts), g, v)))
    (λ l. (a ∷ e, (omega (arith, int_facts), f, u), (l, p, v)))
cell_in_both [] [] (c ∷ low) (d ∷ high) r s h = absurd (false≢true h)
cell_in_both (a ∷ lo) (b ∷ hi) [] [] r s h = absurd (false≢true h)
cell_in_both [] [] low high r s h = absurd s
cell_in_both (a ∷ lo) (b ∷ hi) low high r s h = absurd s
cell_in_both lo hi low high r s h = absurd r

-- boxes with a cell in common overlap
pub both_overlap : (lo hi low high c : List ℤ) → IsInside lo hi c → IsInside low high c → overlapping lo hi low high ≡ true
unfolding overlapping
both_overlap [] [] [] [] [] u v = refl
both_overlap (a ∷ lo) (b ∷ hi) (c ∷ low) (d ∷ high) (x ∷ e) u v =
    let p = u.0 in
    let q = u.1 in
    let r = v.0 in
    let s = v.1 in
    and_both (overlap a b c d) (overlapping lo hi low high)
    (and_both (int_lt a d) (int_lt c b) (lt_yes a d (omega (arith, int_facts))) (lt_yes c b (omega (arith, int_facts))))
    (both_overlap lo hi low high e u.2 v.2)
both_overlap [] [] (c ∷ low) [] [] u v = absurd v
both_overlap [] [] low high [] u v = absurd v
both_overlap (a ∷ lo) (b ∷ hi) [] [] (x ∷ e) u v = absurd v
both_overlap (a ∷ lo) (b ∷ hi) low high (x ∷ e) u v = absurd v
both_overlap lo hi low high c u v = absurd u

-- neighbours have cells that share a face
pub cells_at_face : (lo hi low high : List ℤ) → HasRoom lo hi → HasRoom low high → touching lo hi low high ≡ true
    → (c d : List ℤ) × IsInside lo hi c × IsInside low high d × (share_face c d ≡ true)
unfolding touching
cells_at_face (a ∷ lo) (b ∷ hi) (c ∷ low) (d ∷ high) r s h =
    let f = r.0 in
    let g = s.0 in
    ⊎_elim
    (λ t.
    let (e, u, v) = cell_in_both lo hi low high r.1 s.1 (and_second (meet a b c d) (overlapping lo hi low high) t) in
    ⊎_elim
    (λ m.
    let k : b ≡ c = eq_is b c m in
    ((b -ℤ pos 1) ∷ e, c ∷ e, (omega (arith, int_facts), omega (arith, int_facts), u), (omega (arith, int_facts), g, v), next_shares (b -ℤ pos 1) c e (omega (arith, int_facts))))
    (λ m.
    let k : d ≡ a = eq_is d a m in
    (a ∷ e, (d -ℤ pos 1) ∷ e, (omega (arith, int_facts), f, u), (omega (arith, int_facts), omega (arith, int_facts), v), last_shares a (d -ℤ pos 1) e (omega (arith, int_facts))))
    (or_cases (int_eq b c) (int_eq d a) (and_first (meet a b c d) (overlapping lo hi low high) t)))
    (λ t.
    let (x, y, u, v, w) = cells_at_face lo hi low high r.1 s.1 (and_second (overlap a b c d) (touching lo hi low high) t) in
    let o = and_first (overlap a b c d) (touching lo hi low high) t in
    let p = lt_is a d (and_first (int_lt a d) (int_lt c b) o) in
    let q = lt_is c b (and_second (int_lt a d) (int_lt c b) o) in
    by_lt_z a c
    (λ l. (c ∷ x, c ∷ y, (omega (arith, int_facts), q, u), (omega (arith, int_facts), g, v), also_shares c x y w))
    (λ l. (a ∷ x, a ∷ y, (omega (arith, int_facts), f, u), (l, p, v), also_shares a x y w)))
    (or_cases (meet a b c d && overlapping lo hi low high) (overlap a b c d && touching lo hi low high) h)
cells_at_face lo hi low high r s h = absurd (false≢true h)

-- boxes of which cells share a face overlap, or are neighbours
pub overlap_or_touch : (lo hi low high c d : List ℤ) → IsInside lo hi c → IsInside low high d → share_face c d ≡ true
    → (overlapping lo hi low high ≡ true) ⊎ (touching lo hi low high ≡ true)
unfolding overlapping touching share_face
overlap_or_touch [] [] low high [] d u v h = absurd (false≢true h)
overlap_or_touch (a ∷ lo) (b ∷ hi) low high (x ∷ e) [] u v h = absurd (false≢true h)
overlap_or_touch (a ∷ lo) (b ∷ hi) (c ∷ low) (d ∷ high) (x ∷ e) (y ∷ f) u v h =
    let p = u.0 in
    let q = u.1 in
    let r = v.0 in
    let s = v.1 in
    ⊎_elim
    (λ t.
    let k : e ≡ f = strict_places.equal e f (and_second (are_next x y) (same e f) t) in
    let o = both_overlap lo hi low high e u.2 (subst (IsInside low high) (sym k) v.2) in
    ⊎_elim
    (λ m.
    let n : x +ℤ pos 1 ≡ y = eq_is (x +ℤ pos 1) y m in
    by_lt_z c b
    (λ l. inl (and_both (overlap a b c d) (overlapping lo hi low high) (and_both (int_lt a d) (int_lt c b) (lt_yes a d (omega (arith, int_facts))) (lt_yes c b l)) o))
    (λ l. inr (or_left (meet a b c d && overlapping lo hi low high) (overlap a b c d && touching lo hi low high) (and_both (meet a b c d) (overlapping lo hi low high)
    (or_left (int_eq b c) (int_eq d a) (eq_yes b c (omega (arith, int_facts)))) o))))
    (λ m.
    let n : y +ℤ pos 1 ≡ x = eq_is (y +ℤ pos 1) x m in
    by_lt_z a d
    (λ l. inl (and_both (overlap a b c d) (overlapping lo hi low high) (and_both (int_lt a d) (int_lt c b) (lt_yes a d l) (lt_yes c b (omega (arith, int_facts)))) o))
    (λ l. inr (or_left (meet a b c d && overlapping lo hi low high) (overlap a b c d && touching lo hi low high) (and_both (meet a b c d) (overlapping lo hi low high)
    (or_right (int_eq b c) (int_eq d a) (eq_yes d a (omega (arith, int_facts)))) o))))
    (or_cases (int_eq (x +ℤ pos 1) y) (int_eq (y +ℤ pos 1) x) (and_first (are_next x y) (same e f) t)))
    (λ t.
    let k : x ≡ y = eq_is x y (and_first (int_eq x y) (share_face e f) t) in
    let o : overlap a b c d ≡ true = and_both (int_lt a d) (int_lt c b) (lt_yes a d (omega (arith, int_facts))) (lt_yes c b (omega (arith, int_facts))) in
    ⊎_elim
    (λ g. inl (and_both (overlap a b c d) (overlapping lo hi low high) o g))
    (λ g. inr (or_right (meet a b c d && overlapping lo hi low high) (overlap a b c d && touching lo hi low high) (and_both (overlap a b c d) (touching lo hi low high) o g)))
    (overlap_or_touch lo hi low high e f u.2 v.2 (and_second (int_eq x y) (share_face e f) t)))
    (or_cases (are_next x y && same e f) (int_eq x y && share_face e f) h)
overlap_or_touch (a ∷ lo) (b ∷ hi) [] [] (x ∷ e) (y ∷ f) u v h = absurd v
overlap_or_touch (a ∷ lo) (b ∷ hi) low high (x ∷ e) d u v h = absurd v
overlap_or_touch lo hi low high c d u v h = absurd u
