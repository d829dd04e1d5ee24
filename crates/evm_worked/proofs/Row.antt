-- Rows of boxes: their cells, their cuts, and the work of a toggle between the first two boxes.
use Rattle.std.proofs.Common.{◌≡◌, ℕ, zero, suc, ◌<◌, ◌≤◌, ◌*◌, Bool, true, false, ◌&&◌, ◌||◌, List, [], ◌∷◌, length, map, flat_map, ℤ, pos, ◌+ℤ◌, ◌-ℤ◌, ◌*ℤ◌, ◌<ℤ◌, refl, sym, ap, ap₂, ◌∙◌, ⊎_elim, arith, int_le, int_lt, int_eq}
use Rattle.std.specs.List.{list_any, list_all}
use Rattle.std.proofs.lemmas.Bool.{or_cases, false≢true}
use Rattle.std.proofs.lemmas.Int.{ints as int_facts}
use Rattle.evm_cells.specs.Places.{before, each, same, has}
use Rattle.evm_cells.specs.Limits.{limit, ints, is_cell, is_cell_coord, is_point, is_point_coord, IsCellSet}
use Rattle.evm_cells.specs.Booleans.{xor}
use Rattle.evm_cells.specs.Heights.{is_cut, is_cut_of}
use Rattle.evm_cells.proofs.Xor.{and_first, and_second, and_both, and-true}
use Rattle.evm_cells.proofs.Order.{rising, same_tests}
use Rattle.evm_cells.proofs.Coords.{strict_ints, le_is, lt_is, lt_yes, eq_is, eq_yes, by_order, cell_yes, cell-point, cell-next, any-ints, rising-ints}
use Rattle.evm_cells.proofs.Lists.{all-map, all-flat_map, all_always, all_weaker, all_members, any-map, any-and_right}
use Rattle.evm_cells.proofs.Places.{ascending-rising, before_first, has-any}
use Rattle.evm_cells.proofs.Universe.{cell_from}
use Rattle.evm_worked.specs.Beside.{row, is_apart, CutsOfRow, WorkInRow}
use Rattle.evm_worked.proofs.Heights.{just_heights}
use Rattle.evm_worked.proofs.Sections.{no_cut, cut_here}
use Rattle.evm_worked.proofs.Beside.{or-false, work_beside}

-- a map that keeps an order keeps a list rising
rising-map : {X Y : Type 0} (lt : X → X → Bool) (less : Y → Y → Bool) (f : X → Y) → ((a b : X) → lt a b ≡ true → less (f a) (f b) ≡ true)
    → (xs : List X) → rising lt xs ≡ true → rising less (map f xs) ≡ true
unfolding rising
rising-map lt less f e [] r = refl
rising-map lt less f e (x ∷ xs) r =
    and_both (list_all (less (f x)) (map f xs)) (rising less (map f xs))
    (all-map (less (f x)) f xs ∙ all_weaker (lt x) (λ y. less (f x) (f y)) (e x) xs (and_first (list_all (lt x) xs) (rising lt xs) r))
    (rising-map lt less f e xs (and_second (list_all (lt x) xs) (rising lt xs) r))

-- the cell of box k
abbrev box_cell : ℤ → List ℤ
box_cell k = (pos 10 *ℤ k) ∷ pos 0 ∷ []

-- the last cell of a hundred million boxes is within the limits
limit_beyond : 1000000000 < limit 2
unfolding limit
limit_beyond = omega arith

in_limits : (n : ℕ) → n ≤ 100000000 → (k : ℤ) → list_any (int_eq k) (ints (pos 0) n) ≡ true → is_cell_coord 2 (pos 10 *ℤ k) ≡ true
in_limits n m k h =
    let r : (int_le (pos 0) k && int_lt k (pos 0 +ℤ pos n)) ≡ true = sym (any-ints k (pos 0) n) ∙ h in
    let p = le_is (pos 0) k (and_first (int_le (pos 0) k) (int_lt k (pos 0 +ℤ pos n)) r) in
    let q = lt_is k (pos 0 +ℤ pos n) (and_second (int_le (pos 0) k) (int_lt k (pos 0 +ℤ pos n)) r) in
    let e = limit_beyond in
    cell_yes 2 (pos 10 *ℤ k) (omega (arith, int_facts)) (omega (arith, int_facts))

zero_in_limits : is_cell_coord 2 (pos 0) ≡ true
unfolding is_cell_coord limit
zero_in_limits = refl

pub set_row : (n : ℕ) → n ≤ 100000000 → IsCellSet 2 (row n)
set_row n m = record {
  ascends = ascending-rising (row n)
      ∙ rising-map int_lt before box_cell
      (λ a b h. let l = lt_is a b h in before_first (pos 10 *ℤ a) (pos 10 *ℤ b) (pos 0 ∷ []) (pos 0 ∷ []) (lt_yes (pos 10 *ℤ a) (pos 10 *ℤ b) (omega (arith, int_facts))))
      (ints (pos 0) n) (rising-ints (pos 0) n);
  cells = all-map (is_cell 2) box_cell (ints (pos 0) n)
      ∙ all_members int_eq int_lt strict_ints (λ k. is_cell 2 (box_cell k)) (ints (pos 0) n)
      (λ k h. cell_from 2 (box_cell k) refl
      (and_both (is_cell_coord 2 (pos 10 *ℤ k)) (is_cell_coord 2 (pos 0) && true) (in_limits n m k h) (and_both (is_cell_coord 2 (pos 0)) true zero_in_limits refl)));
}

-- no box of a row reaches the heights 5 and 6
row_is_apart : (n : ℕ) → list_all (is_apart (pos 5) (pos 6)) (row n) ≡ true
row_is_apart n = all-map (is_apart (pos 5) (pos 6)) box_cell (ints (pos 0) n) ∙ all_always (λ k. is_apart (pos 5) (pos 6) (box_cell k)) at (ints (pos 0) n)
  where
    or_second : (a b : Bool) → b ≡ true → (a || b) ≡ true
    or_second true b e = refl
    or_second false b e = e

    after_six : (k : ℤ) → pos 6 <ℤ (pos 10 *ℤ k) → is_apart (pos 5) (pos 6) (box_cell k) ≡ true
    after_six k l = or_second (int_lt ((pos 10 *ℤ k) +ℤ pos 1) (pos 5)) (int_lt (pos 6) (pos 10 *ℤ k)) (lt_yes (pos 6) (pos 10 *ℤ k) l)

    before_five : (k : ℤ) → ((pos 10 *ℤ k) +ℤ pos 1) <ℤ pos 5 → is_apart (pos 5) (pos 6) (box_cell k) ≡ true
    before_five k l = ap (λ b. b || int_lt (pos 6) (pos 10 *ℤ k)) (lt_yes ((pos 10 *ℤ k) +ℤ pos 1) (pos 5) l)

    at : (k : ℤ) → is_apart (pos 5) (pos 6) (box_cell k) ≡ true
    at k = by_order (pos 0) k (λ l. after_six k (omega (arith, int_facts))) (λ e. before_five k (omega (arith, int_facts))) (λ l. before_five k (omega (arith, int_facts)))

pub work_in_row : WorkInRow
unfolding is_point is_point_coord limit each
work_in_row n m = work_beside (row n) (pos 5) (pos 0) (pos 6) (pos 1) (set_row n m) refl (row_is_apart n)

-- ---- the cuts of a row

-- whether a height is that of a box among some
abbrev is_of_box : List ℤ → ℤ → Bool
is_of_box xs h = list_any (λ k. int_eq h (pos 10 *ℤ k)) xs

any_found : (p : ℤ → Bool) (xs : List ℤ) → list_any p xs ≡ true → (k : ℤ) × (p k ≡ true)
any_found p [] e = absurd (false≢true e)
any_found p (x ∷ xs) e = ⊎_elim (λ q. (x, q)) (any_found p xs) (or_cases (p x) (list_any p xs) e)

-- no two heights of boxes are next to one another
one_of_both : (xs : List ℤ) (h : ℤ) → is_of_box xs (h -ℤ pos 1) ≡ true → is_of_box xs h ≡ true → ⊥
one_of_both xs h p q =
    let (j, e) = any_found (λ k. int_eq (h -ℤ pos 1) (pos 10 *ℤ k)) xs p in
    let (k, f) = any_found (λ k. int_eq h (pos 10 *ℤ k)) xs q in
    let e' = eq_is (h -ℤ pos 1) (pos 10 *ℤ j) e in
    let f' = eq_is h (pos 10 *ℤ k) f in
    omega (arith, int_facts)

row_at : (n : ℕ) (h : ℤ) (c : List ℤ) → has (row n) (h ∷ c) ≡ (is_of_box (ints (pos 0) n) h && same c (pos 0 ∷ []))
unfolding same each
row_at n h c =
    has-any (row n) (h ∷ c)
    ∙ any-map (same (h ∷ c)) box_cell (ints (pos 0) n)
    ∙ any-and_right (λ k. int_eq h (pos 10 *ℤ k)) (same c (pos 0 ∷ [])) (ints (pos 0) n)

cut_of_row : (n : ℕ) → n ≤ 100000000 → (h : ℤ) → is_cut 2 (row n) h ≡ (is_of_box (ints (pos 0) n) h || is_of_box (ints (pos 0) n) (h -ℤ pos 1))
unfolding xor same each
cut_of_row n m h = by_both (is_of_box (ints (pos 0) n) (h -ℤ pos 1)) (is_of_box (ints (pos 0) n) h) refl refl
  where
    differ : (a b : Bool) → is_of_box (ints (pos 0) n) (h -ℤ pos 1) ≡ a → is_of_box (ints (pos 0) n) h ≡ b → xor a b ≡ true → is_cut 2 (row n) h ≡ true
    differ a b p q e =
        cut_here h (row n) (pos 0 ∷ []) (set_row n m)
        (ap₂ xor (row_at n (h -ℤ pos 1) (pos 0 ∷ []) ∙ ap (λ t. t && true) p ∙ and-true a) (row_at n h (pos 0 ∷ []) ∙ ap (λ t. t && true) q ∙ and-true b) ∙ e)

    by_both : (a b : Bool) → is_of_box (ints (pos 0) n) (h -ℤ pos 1) ≡ a → is_of_box (ints (pos 0) n) h ≡ b
        → is_cut 2 (row n) h ≡ (is_of_box (ints (pos 0) n) h || is_of_box (ints (pos 0) n) (h -ℤ pos 1))
    by_both true true p q = absurd (one_of_both (ints (pos 0) n) h p q)
    by_both true false p q = differ true false p q refl ∙ sym (ap₂ (λ a b. a || b) q p)
    by_both false true p q = differ false true p q refl ∙ sym (ap₂ (λ a b. a || b) q p)
    by_both false false p q =
        no_cut h (row n) (λ c. row_at n (h -ℤ pos 1) c ∙ ap (λ t. t && same c (pos 0 ∷ [])) (p ∙ sym q) ∙ sym (row_at n h c))
        ∙ sym (ap₂ (λ a b. a || b) q p)

-- the two ends of each of some boxes
abbrev box_ends : ℤ → List ℤ
box_ends k = (pos 10 *ℤ k) ∷ ((pos 10 *ℤ k) +ℤ pos 1) ∷ []

abbrev ends_of_row : List ℤ → List ℤ
ends_of_row xs = flat_map box_ends xs

next_is : (h a : ℤ) → int_eq h (a +ℤ pos 1) ≡ int_eq (h -ℤ pos 1) a
next_is h a = same_tests (int_eq h (a +ℤ pos 1)) (int_eq (h -ℤ pos 1) a)
    (λ e. let e' = eq_is h (a +ℤ pos 1) e in eq_yes (h -ℤ pos 1) a (omega (arith, int_facts)))
    (λ e. let e' = eq_is (h -ℤ pos 1) a e in eq_yes h (a +ℤ pos 1) (omega (arith, int_facts)))

ends_listed : (xs : List ℤ) (h : ℤ) → list_any (int_eq h) (ends_of_row xs) ≡ (is_of_box xs h || is_of_box xs (h -ℤ pos 1))
ends_listed [] h = refl
ends_listed (k ∷ xs) h =
    ap₂ (λ a b. int_eq h (pos 10 *ℤ k) || (a || b)) (next_is h (pos 10 *ℤ k)) (ends_listed xs h)
    ∙ swap (int_eq h (pos 10 *ℤ k)) (int_eq (h -ℤ pos 1) (pos 10 *ℤ k)) (is_of_box xs h) (is_of_box xs (h -ℤ pos 1))
  where
    swap : (a b c d : Bool) → (a || (b || (c || d))) ≡ ((a || c) || (b || d))
    swap true b c d = refl
    swap false true true d = refl
    swap false true false d = refl
    swap false false c d = refl

-- they rise
ends_above : (b a : ℤ) (n : ℕ) → b <ℤ (pos 10 *ℤ a) → list_all (int_lt b) (ends_of_row (ints a n)) ≡ true
unfolding ints
ends_above b a zero l = refl
ends_above b a (suc n) l =
    and_both (int_lt b (pos 10 *ℤ a)) (int_lt b ((pos 10 *ℤ a) +ℤ pos 1) && list_all (int_lt b) (ends_of_row (ints (a +ℤ pos 1) n))) (lt_yes b (pos 10 *ℤ a) l)
    (and_both (int_lt b ((pos 10 *ℤ a) +ℤ pos 1)) (list_all (int_lt b) (ends_of_row (ints (a +ℤ pos 1) n)))
    (lt_yes b ((pos 10 *ℤ a) +ℤ pos 1) (omega (arith, int_facts))) (ends_above b (a +ℤ pos 1) n (omega (arith, int_facts))))

ends_rising : (a : ℤ) (n : ℕ) → rising int_lt (ends_of_row (ints a n)) ≡ true
unfolding ints rising
ends_rising a zero = refl
ends_rising a (suc n) =
    let x : ℤ = pos 10 *ℤ a in
    let rest : List ℤ = ends_of_row (ints (a +ℤ pos 1) n) in
    and_both (int_lt x (x +ℤ pos 1) && list_all (int_lt x) rest) (list_all (int_lt (x +ℤ pos 1)) rest && rising int_lt rest)
    (and_both (int_lt x (x +ℤ pos 1)) (list_all (int_lt x) rest) (lt_yes x (x +ℤ pos 1) (omega (arith, int_facts))) (ends_above x (a +ℤ pos 1) n (omega (arith, int_facts))))
    (and_both (list_all (int_lt (x +ℤ pos 1)) rest) (rising int_lt rest) (ends_above (x +ℤ pos 1) (a +ℤ pos 1) n (omega (arith, int_facts))) (ends_rising (a +ℤ pos 1) n))

ends_in_limits : (n : ℕ) → n ≤ 100000000 → list_all (is_point_coord 2) (ends_of_row (ints (pos 0) n)) ≡ true
ends_in_limits n m =
    all-flat_map (is_point_coord 2) box_ends (ints (pos 0) n)
    ∙ all_members int_eq int_lt strict_ints (λ k. list_all (is_point_coord 2) (box_ends k)) (ints (pos 0) n)
    (λ k h. let p = in_limits n m k h in
    and_both (is_point_coord 2 (pos 10 *ℤ k)) (is_point_coord 2 ((pos 10 *ℤ k) +ℤ pos 1) && true) (cell-point 2 (pos 10 *ℤ k) p)
    (and_both (is_point_coord 2 ((pos 10 *ℤ k) +ℤ pos 1)) true (cell-next 2 (pos 10 *ℤ k) p) refl))

count_of_ends : (a : ℤ) (n : ℕ) → length (ends_of_row (ints a n)) ≡ 2 * n
unfolding ints
count_of_ends a zero = refl
count_of_ends a (suc n) = let e = count_of_ends (a +ℤ pos 1) n in omega (arith, e)

pub cuts_of_row : CutsOfRow
cuts_of_row n m =
    ap length (just_heights (is_cut_of 2 (row n ∷ [])) (ends_of_row (ints (pos 0) n)) (ends_rising (pos 0) n) (ends_in_limits n m)
    (λ h p. or-false (is_cut 2 (row n) h) ∙ cut_of_row n m h ∙ sym (ends_listed (ints (pos 0) n) h)))
    ∙ count_of_ends (pos 0) n
