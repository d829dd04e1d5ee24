-- What has all its coordinates in a window: its vertices, Booleans, boxes and cuts are found by looking at the window alone.
use Rattle.std.proofs.Common.{◌≡◌, ℕ, suc, ◌<◌, Bool, true, false, not, cond, ◌&&◌, ◌==◌, List, [], ◌∷◌, length, map, filter, ℤ, pos, ◌+ℤ◌, ◌-ℤ◌, ◌≤ℤ◌, ◌<ℤ◌, refl, sym, ap, ◌∙◌, arith, int_le, int_lt, int_eq, eqb-true, eq-eqb, ⊎_elim}
use Rattle.std.specs.List.{list_any, list_all}
use Rattle.std.proofs.lemmas.Bool.{false≢true, or_cases}
use Rattle.std.proofs.lemmas.Int.{ints as int_facts}
use Rattle.evm_cells.specs.Places.{ascending, has, each, is_empty, without}
use Rattle.evm_cells.specs.Limits.{ints, tuples, every_cell, every_point, point_coords, is_cell, is_point, is_cell_coord, is_point_coord, IsCellSet}
use Rattle.evm_cells.specs.Booleans.{combine}
use Rattle.evm_cells.specs.Vertices.{evm, around, touch, odd}
use Rattle.evm_cells.specs.Boxes.{box_cells}
use Rattle.evm_cells.specs.Sections.{rows_at, cuts}
use Rattle.evm_cells.proofs.Xor.{xsum-same_on, and_first, and_second, and_both}
use Rattle.evm_cells.proofs.Sum.{xsum-none}
use Rattle.evm_cells.proofs.Order.{rising, refuted, same_lists, rising-filter, any-filter}
use Rattle.evm_cells.proofs.Coords.{strict_ints, any-ints, rising-ints, any-point_coords, rising-point_coords, le_is, lt_is, le_yes, lt_yes, eq_is, cell_is, cell_yes, point_is}
use Rattle.evm_cells.proofs.Places.{has-any, any-tuples, rising-tuples, ascending-rising}
use Rattle.evm_cells.proofs.Universe.{same_sets, has-filter, ascending-filter, ascending-every_cell, ascending-every_point, has-every_cell, has-every_point, member_passes, cell_parts, cell_from, point_from, odd-around}
use Rattle.evm_cells.proofs.Core.{each_touched}
use Rattle.evm_cells.proofs.Slices.{coord}
use Rattle.evm_cells.proofs.Layers.{cuts_are}

-- m numbers from a on, and the places of n such numbers
abbrev pub in_window : ℤ → ℕ → ℤ → Bool
in_window a m x = int_le a x && int_lt x (a +ℤ pos m)

abbrev pub within : ℤ → ℕ → ℕ → List ℤ → Bool
within a m n c = length c == n && list_all (in_window a m) c

has-window : (a : ℤ) (m n : ℕ) (c : List ℤ) → has (tuples (ints a m) n) c ≡ within a m n c
has-window a m n c =
    has-any (tuples (ints a m) n) c ∙ any-tuples (ints a m) n c ∙ ap (λ f. length c == n && list_all f c) (λ i x. any-ints x a m i)

ascending-window : (a : ℤ) (m n : ℕ) → ascending (tuples (ints a m) n) ≡ true
ascending-window a m n = ascending-rising (tuples (ints a m) n) ∙ rising-tuples (ints a m) n (rising-ints a m)

-- a test that passes only where two lists agree takes the same from both
look : (t : List ℤ → Bool) (U T : List (List ℤ)) → ascending U ≡ true → ascending T ≡ true → ((c : List ℤ) → t c ≡ true → has U c ≡ has T c) → filter t U ≡ filter t T
look t U T a b e = same_sets (filter t U) (filter t T) (ascending-filter t U a) (ascending-filter t T b)
    (λ c. has-filter t U c ∙ at (t c) (has U c) (has T c) (e c) ∙ sym (has-filter t T c))
  where
    at : (b u v : Bool) → (b ≡ true → u ≡ v) → (u && b) ≡ (v && b)
    at true u v f = ap (λ x. x && true) (f refl)
    at false true true f = refl
    at false true false f = refl
    at false false true f = refl
    at false false false f = refl

-- ---- vertices

next_in_window : (a : ℤ) (m : ℕ) (x y : ℤ) → in_window a m x ≡ true → touch x y ≡ true → in_window a (suc m) y ≡ true
unfolding touch
next_in_window a m x y h t =
    let l : a ≤ℤ x = le_is a x (and_first (int_le a x) (int_lt x (a +ℤ pos m)) h) in
    let r : x <ℤ (a +ℤ pos m) = lt_is x (a +ℤ pos m) (and_second (int_le a x) (int_lt x (a +ℤ pos m)) h) in
    ⊎_elim
    (λ u. let e : x ≡ y -ℤ pos 1 = eq_is x (y -ℤ pos 1) u in at (omega (arith, int_facts)) (omega (arith, int_facts)))
    (λ u. let e : x ≡ y = eq_is x y u in at (omega (arith, int_facts)) (omega (arith, int_facts)))
    (or_cases (int_eq x (y -ℤ pos 1)) (int_eq x y) t)
  where
    at : a ≤ℤ y → y <ℤ (a +ℤ pos (suc m)) → in_window a (suc m) y ≡ true
    at p q = and_both (int_le a y) (int_lt y (a +ℤ pos (suc m))) (le_yes a y p) (lt_yes y (a +ℤ pos (suc m)) q)

each_window : (a : ℤ) (m : ℕ) (s p : List ℤ) → list_all (in_window a m) s ≡ true → each touch s p ≡ true → list_all (in_window a (suc m)) p ≡ true
unfolding each
each_window a m [] [] h t = refl
each_window a m [] (y ∷ p) h t = absurd (false≢true t)
each_window a m (x ∷ s) [] h t = refl
each_window a m (x ∷ s) (y ∷ p) h t =
    and_both (in_window a (suc m) y) (list_all (in_window a (suc m)) p)
    (next_in_window a m x y (and_first (in_window a m x) (list_all (in_window a m) s) h) (and_first (touch x y) (each touch s p) t))
    (each_window a m s p (and_second (in_window a m x) (list_all (in_window a m) s) h) (and_second (touch x y) (each touch s p) t))

each_length : (r : ℤ → ℤ → Bool) (s p : List ℤ) → each r s p ≡ true → length s ≡ length p
unfolding each
each_length r [] [] t = refl
each_length r [] (y ∷ p) t = absurd (false≢true t)
each_length r (x ∷ s) [] t = absurd (false≢true t)
each_length r (x ∷ s) (y ∷ p) t = ap suc (each_length r s p (and_second (r x y) (each r s p) t))

-- what all points touched by cells of S pass, its vertices pass
reach : (P q : List ℤ → Bool) (S : List (List ℤ)) (p : List ℤ) → list_all q S ≡ true → ((s : List ℤ) → q s ≡ true → each touch s p ≡ true → P p ≡ true) → odd (around S p) ≡ true → P p ≡ true
reach P q S p h f o = at (P p) refl
  where
    at : (b : Bool) → P p ≡ b → P p ≡ true
    at true e = e
    at false e =
        absurd (false≢true (sym (odd-around S p
        ∙ xsum-same_on q (λ s. each touch s p) (λ s. false) (λ s k. refuted (each touch s p) (λ t. false≢true (sym e ∙ f s k t))) S h
        ∙ xsum-none S) ∙ o))

pub evm_in : (n : ℕ) (a : ℤ) (m : ℕ) (S : List (List ℤ)) → IsCellSet n S → list_all (within a m n) S ≡ true → evm n S ≡ filter (λ p. odd (around S p)) (tuples (ints a (suc m)) n)
unfolding evm
evm_in n a m S s w =
    look (λ p. odd (around S p)) (every_point n) (tuples (ints a (suc m)) n) (ascending-every_point n) (ascending-window a (suc m) n)
    (λ p o. has-any (every_point n) p ∙ has-every_point n p ∙ reach (is_point n) (is_cell n) S p s.cells (as_point p) o
    ∙ sym (has-window a (suc m) n p ∙ reach (within a (suc m) n) (within a m n) S p w (in_it p) o))
  where
    as_point : (p s : List ℤ) → is_cell n s ≡ true → each touch s p ≡ true → is_point n p ≡ true
    as_point p s k t = let (e, u) = cell_parts n s k in let f = each_length touch s p t in point_from n p (omega arith) (each_touched n s p u t)

    in_it : (p s : List ℤ) → within a m n s ≡ true → each touch s p ≡ true → within a (suc m) n p ≡ true
    in_it p s k t =
        let e = eqb-true (length s) n (and_first (length s == n) (list_all (in_window a m) s) k) in
        let f = each_length touch s p t in
        and_both (length p == n) (list_all (in_window a (suc m)) p) (eq-eqb (length p) n (omega arith))
        (each_window a m s p (and_second (length s == n) (list_all (in_window a m) s) k) t)

-- ---- Booleans and boxes

pub combine_in : (op : Bool → Bool → Bool) (n : ℕ) (a : ℤ) (m : ℕ) (A B : List (List ℤ)) → op false false ≡ false → IsCellSet n A → IsCellSet n B → list_all (within a m n) A ≡ true → list_all (within a m n) B ≡ true
    → combine op n A B ≡ filter (λ c. op (has A c) (has B c)) (tuples (ints a m) n)
unfolding combine
combine_in op n a m A B z s t v w =
    look (λ c. op (has A c) (has B c)) (every_cell n) (tuples (ints a m) n) (ascending-every_cell n) (ascending-window a m n)
    (λ c o. has-any (every_cell n) c ∙ has-every_cell n c
    ∙ at (is_cell n) c (has A c) (has B c) (member_passes (is_cell n) A c s.cells) (member_passes (is_cell n) B c t.cells) o
    ∙ sym (has-window a m n c ∙ at (within a m n) c (has A c) (has B c) (member_passes (within a m n) A c v) (member_passes (within a m n) B c w) o))
  where
    at : (P : List ℤ → Bool) (c : List ℤ) (x y : Bool) → (x ≡ true → P c ≡ true) → (y ≡ true → P c ≡ true) → op x y ≡ true → P c ≡ true
    at P c true y f g o = f refl
    at P c false true f g o = g refl
    at P c false false f g o = absurd (false≢true (sym z ∙ o))

between : (a b : ℤ) (lo hi c : List ℤ) → list_all (int_le a) lo ≡ true → list_all (λ y. int_le y b) hi ≡ true → each int_le lo c ≡ true → each int_lt c hi ≡ true → list_all (λ x. int_le a x && int_lt x b) c ≡ true
unfolding each
between a b lo hi [] l h p q = refl
between a b [] hi (x ∷ c) l h p q = absurd (false≢true p)
between a b (u ∷ lo) [] (x ∷ c) l h p q = absurd (false≢true q)
between a b (u ∷ lo) (v ∷ hi) (x ∷ c) l h p q =
    let l0 = le_is a u (and_first (int_le a u) (list_all (int_le a) lo) l) in
    let h0 = le_is v b (and_first (int_le v b) (list_all (λ y. int_le y b) hi) h) in
    let p0 = le_is u x (and_first (int_le u x) (each int_le lo c) p) in
    let q0 = lt_is x v (and_first (int_lt x v) (each int_lt c hi) q) in
    and_both (int_le a x && int_lt x b) (list_all (λ y. int_le a y && int_lt y b) c)
    (and_both (int_le a x) (int_lt x b) (le_yes a x (omega (arith, int_facts))) (lt_yes x b (omega (arith, int_facts))))
    (between a b lo hi c (and_second (int_le a u) (list_all (int_le a) lo) l) (and_second (int_le v b) (list_all (λ y. int_le y b) hi) h)
    (and_second (int_le u x) (each int_le lo c) p) (and_second (int_lt x v) (each int_lt c hi) q))

window_cells : (n : ℕ) (a b : ℤ) (c : List ℤ) → is_cell_coord n a ≡ true → is_point_coord n b ≡ true → list_all (λ x. int_le a x && int_lt x b) c ≡ true → list_all (is_cell_coord n) c ≡ true
window_cells n a b [] i j h = refl
window_cells n a b (x ∷ c) i j h =
    let k : (int_le a x && int_lt x b) ≡ true = and_first (int_le a x && int_lt x b) (list_all (λ y. int_le a y && int_lt y b) c) h in
    let l = le_is a x (and_first (int_le a x) (int_lt x b) k) in
    let m = lt_is x b (and_second (int_le a x) (int_lt x b) k) in
    let (p, q) = cell_is n a i in
    let (u, v) = point_is n b j in
    and_both (is_cell_coord n x) (list_all (is_cell_coord n) c) (cell_yes n x (omega (arith, int_facts)) (omega (arith, int_facts)))
    (window_cells n a b c i j (and_second (int_le a x && int_lt x b) (list_all (λ y. int_le a y && int_lt y b) c) h))

pub box_in : (n : ℕ) (a : ℤ) (m : ℕ) (lo hi : List ℤ) → length lo ≡ n → list_all (int_le a) lo ≡ true → list_all (λ y. int_le y (a +ℤ pos m)) hi ≡ true → is_cell_coord n a ≡ true → is_point_coord n (a +ℤ pos m) ≡ true
    → box_cells n lo hi ≡ filter (λ c. each int_le lo c && each int_lt c hi) (tuples (ints a m) n)
unfolding box_cells
box_in n a m lo hi e l h i j =
    look (λ c. each int_le lo c && each int_lt c hi) (every_cell n) (tuples (ints a m) n) (ascending-every_cell n) (ascending-window a m n)
    (λ c o. let p = and_first (each int_le lo c) (each int_lt c hi) o in
    let w = between a (a +ℤ pos m) lo hi c l h p (and_second (each int_le lo c) (each int_lt c hi) o) in
    let f = each_length int_le lo c p in
    let z : length c ≡ n = omega arith in
    has-any (every_cell n) c ∙ has-every_cell n c ∙ cell_from n c z (window_cells n a (a +ℤ pos m) c i j w)
    ∙ sym (has-window a m n c ∙ and_both (length c == n) (list_all (in_window a m) c) (eq-eqb (length c) n z) w))

-- ---- cuts

rows_pass : (P : ℤ → Bool) (i : ℕ) (h : ℤ) (W : List (List ℤ)) → list_all (λ q. P (coord i q)) W ≡ true → not (is_empty (rows_at i h W)) ≡ true → P h ≡ true
unfolding rows_at is_empty
rows_pass P i h [] a o = absurd (false≢true o)
rows_pass P i h (q ∷ W) a o = at (int_eq (coord i q) h) refl (rows_pass P i h W (and_second (P (coord i q)) (list_all (λ r. P (coord i r)) W) a))
  where
    at : (b : Bool) → int_eq (coord i q) h ≡ b → (not (is_empty (map (without i) (filter (λ r. int_eq (coord i r) h) W))) ≡ true → P h ≡ true) → P h ≡ true
    at true e f = ap P (sym (eq_is (coord i q) h e)) ∙ and_first (P (coord i q)) (list_all (λ r. P (coord i r)) W) a
    at false e f = f (ap (λ t. not (is_empty (map (without i) (cond t (q ∷ filter (λ r. int_eq (coord i r) h) W) (filter (λ r. int_eq (coord i r) h) W))))) (sym e) ∙ o)

look_ints : (t : ℤ → Bool) (U T : List ℤ) → rising int_lt U ≡ true → rising int_lt T ≡ true → ((h : ℤ) → t h ≡ true → list_any (int_eq h) U ≡ list_any (int_eq h) T) → filter t U ≡ filter t T
look_ints t U T a b e =
    same_lists int_eq int_lt strict_ints (filter t U) (filter t T)
    (rising-filter int_eq int_lt strict_ints t U a) (rising-filter int_eq int_lt strict_ints t T b)
    (λ h. any-filter int_eq int_lt strict_ints t h U ∙ at (t h) (list_any (int_eq h) U) (list_any (int_eq h) T) (e h) ∙ sym (any-filter int_eq int_lt strict_ints t h T))
  where
    at : (b u v : Bool) → (b ≡ true → u ≡ v) → (u && b) ≡ (v && b)
    at true u v f = ap (λ x. x && true) (f refl)
    at false true true f = refl
    at false true false f = refl
    at false false true f = refl
    at false false false f = refl

-- the cuts of S by its vertices W, of which axis i has coordinates in the window
pub cuts_in : (n i : ℕ) (a : ℤ) (m : ℕ) (S W : List (List ℤ)) → IsCellSet (suc n) S → i < suc n → evm (suc n) S ≡ W → list_all (λ q. is_point_coord (suc n) (coord i q)) W ≡ true → list_all (λ q. in_window a m (coord i q)) W ≡ true
    → cuts n i S ≡ filter (λ h. not (is_empty (rows_at i h W))) (ints a m)
cuts_in n i a m S W s l e p w =
    cuts_are n i S s l
    ∙ ap (λ V. filter (λ h. not (is_empty (rows_at i h V))) (point_coords (suc n))) e
    ∙ look_ints (λ h. not (is_empty (rows_at i h W))) (point_coords (suc n)) (ints a m) (rising-point_coords (suc n)) (rising-ints a m)
    (λ h o. any-point_coords (suc n) h ∙ rows_pass (is_point_coord (suc n)) i h W p o
    ∙ sym (any-ints h a m ∙ rows_pass (in_window a m) i h W w o))
