-- Whole numbers in a row, and the sums over them that the two ways between cells and vertices come to, on one axis.
use Rattle.std.proofs.Common.{◌≡◌, ℕ, zero, suc, ◌+◌, ◌*◌, ◌^◌, ◌≤◌, ◌<◌, if◌then◌else◌, Bool, true, false, ◌&&◌, ◌||◌, ℤ, pos, neg_ℤ, ◌+ℤ◌, ◌-ℤ◌, ◌≤ℤ◌, ◌<ℤ◌, int_le, int_lt, refl, sym, ap, ap₂, ◌∙◌, arith, int_eq, nat_le, nat_eq}
use Rattle.std.specs.List.{list_any, list_all}
use Rattle.std.proofs.lemmas.Int.{ints as int_facts, by_lt_z}
use Rattle.std.proofs.lemmas.Bool.{false≢true}
use Rattle.std.proofs.lemmas.Bool.Decides.{Decides-int_eq, nat_tests}
use Rattle.evm_cells.specs.Limits.{limit, ints, cell_coords, point_coords, is_cell_coord, is_point_coord}
use Rattle.evm_cells.specs.Booleans.{xor}
use Rattle.evm_cells.specs.Vertices.{touch}
use Rattle.evm_cells.proofs.Xor.{false-xor, xsum, and_first, and_second, and_both, and-false, xor-and, or-xor, xsum-same, xor_self, and_comm}
use Rattle.evm_cells.proofs.Sum.{xsum-xor}
use Rattle.evm_cells.proofs.Order.{IsStrict, rising, refuted, sift, same_tests}

pub le_yes : (a b : ℤ) → a ≤ℤ b → int_le a b ≡ true
le_yes a b h = grind (arith, int_facts)

pub le_no : (a b : ℤ) → b <ℤ a → int_le a b ≡ false
le_no a b h = grind (arith, int_facts)

pub lt_yes : (a b : ℤ) → a <ℤ b → int_lt a b ≡ true
lt_yes a b h = grind (arith, int_facts)

pub lt_no : (a b : ℤ) → b ≤ℤ a → int_lt a b ≡ false
lt_no a b h = grind (arith, int_facts)

pub le_is : (a b : ℤ) → int_le a b ≡ true → a ≤ℤ b
le_is a b h = omega (arith, int_facts)

pub lt_is : (a b : ℤ) → int_lt a b ≡ true → a <ℤ b
lt_is a b h = omega (arith, int_facts)

pub eq_is : (a b : ℤ) → int_eq a b ≡ true → a ≡ b
eq_is a b h = (Decides-int_eq a b).0 h

pub eq_yes : (a b : ℤ) → a ≡ b → int_eq a b ≡ true
eq_yes a b h = (Decides-int_eq a b).1 h

pub eq_no : (a b : ℤ) → (a ≡ b → ⊥) → int_eq a b ≡ false
eq_no a b h = refuted (int_eq a b) (λ e. h (eq_is a b e))

pub eq_sym : (a b : ℤ) → int_eq a b ≡ int_eq b a
eq_sym a b = same_tests (int_eq a b) (int_eq b a) (λ e. eq_yes b a (sym (eq_is a b e))) (λ e. eq_yes a b (sym (eq_is b a e)))

-- an order on whole numbers that is strict
pub strict_ints : IsStrict int_eq int_lt
strict_ints = record {
  equal = eq_is;
  itself = λ x. eq_yes x x refl;
  one_way = λ x y h k. let p : x <ℤ y = lt_is x y h in let q : y <ℤ x = lt_is y x k in omega (arith, int_facts);
}

-- cases by how two numbers stand
pub by_order : {P : Type 0} (a b : ℤ) → (a <ℤ b → P) → (a ≡ b → P) → (b <ℤ a → P) → P
by_order a b f g h =
    by_lt_z a b f (λ l. by_lt_z b a h (λ m. g (let l' : b ≤ℤ a = l in let m' : a ≤ℤ b = m in omega (arith, int_facts))))

range_step : (x a : ℤ) (n : ℕ) → (int_eq x a || (int_le (a +ℤ pos 1) x && int_lt x (a +ℤ pos 1 +ℤ pos n))) ≡ (int_le a x && int_lt x (a +ℤ pos (suc n)))
range_step x a n = by_order x a
    (λ l. rw (eq_no x a (λ e. omega (arith, int_facts)), le_no (a +ℤ pos 1) x (omega (arith, int_facts)), le_no a x l))
    (λ e. rw (eq_yes x a e, le_yes a x (omega (arith, int_facts)), lt_yes x (a +ℤ pos (suc n)) (omega (arith, int_facts))))
    (λ l. rw (eq_no x a (λ e. omega (arith, int_facts)), le_yes (a +ℤ pos 1) x (omega (arith, int_facts)), le_yes a x (omega (arith, int_facts)))
    (ap (int_lt x) (let e : a +ℤ pos 1 +ℤ pos n ≡ a +ℤ pos (suc n) = omega (arith, int_facts) in e)))

range_none : (x a : ℤ) → false ≡ (int_le a x && int_lt x (a +ℤ pos 0))
range_none x a = by_lt_z x a
    (λ l. rw (le_no a x l))
    (λ l. rw (lt_no x (a +ℤ pos 0) (omega (arith, int_facts)), and-false))

pub any-ints : (x a : ℤ) (n : ℕ) → list_any (int_eq x) (ints a n) ≡ (int_le a x && int_lt x (a +ℤ pos n))
unfolding ints
any-ints x a zero = range_none x a
any-ints x a (suc n) = ap (λ t. int_eq x a || t) (any-ints x (a +ℤ pos 1) n) ∙ range_step x a n

all_above : (b a : ℤ) (n : ℕ) → b <ℤ a → list_all (int_lt b) (ints a n) ≡ true
unfolding ints
all_above b a zero l = refl
all_above b a (suc n) l = and_both (int_lt b a) (list_all (int_lt b) (ints (a +ℤ pos 1) n)) (lt_yes b a l) (all_above b (a +ℤ pos 1) n (omega (arith, int_facts)))

pub rising-ints : (a : ℤ) (n : ℕ) → rising int_lt (ints a n) ≡ true
unfolding ints rising
rising-ints a zero = refl
rising-ints a (suc n) = and_both (list_all (int_lt a) (ints (a +ℤ pos 1) n)) (rising int_lt (ints (a +ℤ pos 1) n)) (all_above a (a +ℤ pos 1) n (omega (arith, int_facts))) (rising-ints (a +ℤ pos 1) n)

pub rising-cell_coords : (n : ℕ) → rising int_lt (cell_coords n) ≡ true
unfolding cell_coords
rising-cell_coords n = rising-ints (neg_ℤ (pos (limit n))) (2 * (limit n))

pub rising-point_coords : (n : ℕ) → rising int_lt (point_coords n) ≡ true
unfolding point_coords
rising-point_coords n = rising-ints (neg_ℤ (pos (limit n))) (2 * (limit n) + 1)

pub any-cell_coords : (n : ℕ) (x : ℤ) → list_any (int_eq x) (cell_coords n) ≡ is_cell_coord n x
unfolding cell_coords is_cell_coord
any-cell_coords n x =
    any-ints x (neg_ℤ (pos (limit n))) (2 * (limit n))
    ∙ ap (λ b. int_le (neg_ℤ (pos (limit n))) x && int_lt x b) (let e : neg_ℤ (pos (limit n)) +ℤ pos (2 * (limit n)) ≡ pos (limit n) = omega (arith, int_facts) in e)

top : (x : ℤ) (m : ℕ) → int_lt x (neg_ℤ (pos m) +ℤ pos (2 * m + 1)) ≡ int_le x (pos m)
top x m = by_lt_z (pos m) x
    (λ l. rw (lt_no x (neg_ℤ (pos m) +ℤ pos (2 * m + 1)) (omega (arith, int_facts)), le_no x (pos m) l))
    (λ l. rw (lt_yes x (neg_ℤ (pos m) +ℤ pos (2 * m + 1)) (omega (arith, int_facts)), le_yes x (pos m) l))

pub any-point_coords : (n : ℕ) (x : ℤ) → list_any (int_eq x) (point_coords n) ≡ is_point_coord n x
unfolding point_coords is_point_coord
any-point_coords n x =
    any-ints x (neg_ℤ (pos (limit n))) (2 * (limit n) + 1) ∙ ap (λ b. int_le (neg_ℤ (pos (limit n))) x && b) (top x (limit n))

-- ---- the sums on one axis

pub split_touch : (c p : ℤ) → touch c p ≡ xor (int_eq (p -ℤ pos 1) c) (int_eq p c)
unfolding touch
split_touch c p =
    or-xor (int_eq c (p -ℤ pos 1)) (int_eq c p) (refuted (int_eq c (p -ℤ pos 1) && int_eq c p) (λ h.
    let e : c ≡ p -ℤ pos 1 = eq_is c (p -ℤ pos 1) (and_first (int_eq c (p -ℤ pos 1)) (int_eq c p) h) in
    let f : c ≡ p = eq_is c p (and_second (int_eq c (p -ℤ pos 1)) (int_eq c p) h) in
    omega (arith, int_facts)))
    ∙ ap₂ xor (eq_sym c (p -ℤ pos 1)) (eq_sym c p)

pred_is : (c p : ℤ) → int_eq (p -ℤ pos 1) c ≡ int_eq (c +ℤ pos 1) p
pred_is c p = same_tests (int_eq (p -ℤ pos 1) c) (int_eq (c +ℤ pos 1) p)
    (λ h. eq_yes (c +ℤ pos 1) p (let e : p -ℤ pos 1 ≡ c = eq_is (p -ℤ pos 1) c h in omega (arith, int_facts)))
    (λ h. eq_yes (p -ℤ pos 1) c (let e : c +ℤ pos 1 ≡ p = eq_is (c +ℤ pos 1) p h in omega (arith, int_facts)))

-- over the cells that touch p
pub sum_cells : (n : ℕ) (p : ℤ) (g : ℤ → Bool) → xsum (λ x. touch x p && g x) (point_coords n) ≡ xor (is_point_coord n (p -ℤ pos 1) && g (p -ℤ pos 1)) (is_point_coord n p && g p)
sum_cells n p g =
    xsum-same (λ x. touch x p && g x) (λ x. xor (int_eq (p -ℤ pos 1) x && g x) (int_eq p x && g x))
    (λ x. ap (λ b. b && g x) (split_touch x p) ∙ xor-and (int_eq (p -ℤ pos 1) x) (int_eq p x) (g x)) (point_coords n)
    ∙ xsum-xor (λ x. int_eq (p -ℤ pos 1) x && g x) (λ x. int_eq p x && g x) (point_coords n)
    ∙ ap₂ xor
    (sift int_eq int_lt strict_ints (p -ℤ pos 1) g (point_coords n) (rising-point_coords n) ∙ ap (λ b. b && g (p -ℤ pos 1)) (any-point_coords n (p -ℤ pos 1)))
    (sift int_eq int_lt strict_ints p g (point_coords n) (rising-point_coords n) ∙ ap (λ b. b && g p) (any-point_coords n p))

-- over the points that touch the cell s
pub sum_points : (n : ℕ) (s : ℤ) (g : ℤ → Bool) → xsum (λ p. touch s p && g p) (point_coords n) ≡ xor (is_point_coord n (s +ℤ pos 1) && g (s +ℤ pos 1)) (is_point_coord n s && g s)
sum_points n s g =
    xsum-same (λ p. touch s p && g p) (λ p. xor (int_eq (s +ℤ pos 1) p && g p) (int_eq s p && g p))
    (λ p. ap (λ b. b && g p) (split_touch s p ∙ ap₂ xor (pred_is s p) (eq_sym p s)) ∙ xor-and (int_eq (s +ℤ pos 1) p) (int_eq s p) (g p)) (point_coords n)
    ∙ xsum-xor (λ p. int_eq (s +ℤ pos 1) p && g p) (λ p. int_eq s p && g p) (point_coords n)
    ∙ ap₂ xor
    (sift int_eq int_lt strict_ints (s +ℤ pos 1) g (point_coords n) (rising-point_coords n) ∙ ap (λ b. b && g (s +ℤ pos 1)) (any-point_coords n (s +ℤ pos 1)))
    (sift int_eq int_lt strict_ints s g (point_coords n) (rising-point_coords n) ∙ ap (λ b. b && g s) (any-point_coords n s))

pub point_is : (n : ℕ) (x : ℤ) → is_point_coord n x ≡ true → (neg_ℤ (pos (limit n)) ≤ℤ x) × (x ≤ℤ pos (limit n))
unfolding is_point_coord
point_is n x h = (le_is (neg_ℤ (pos (limit n))) x (and_first (int_le (neg_ℤ (pos (limit n))) x) (int_le x (pos (limit n))) h), le_is x (pos (limit n)) (and_second (int_le (neg_ℤ (pos (limit n))) x) (int_le x (pos (limit n))) h))

pub point_yes : (n : ℕ) (x : ℤ) → neg_ℤ (pos (limit n)) ≤ℤ x → x ≤ℤ pos (limit n) → is_point_coord n x ≡ true
unfolding is_point_coord
point_yes n x a b = and_both (int_le (neg_ℤ (pos (limit n))) x) (int_le x (pos (limit n))) (le_yes (neg_ℤ (pos (limit n))) x a) (le_yes x (pos (limit n)) b)

pub cell_is : (n : ℕ) (x : ℤ) → is_cell_coord n x ≡ true → (neg_ℤ (pos (limit n)) ≤ℤ x) × (x <ℤ pos (limit n))
unfolding is_cell_coord
cell_is n x h = (le_is (neg_ℤ (pos (limit n))) x (and_first (int_le (neg_ℤ (pos (limit n))) x) (int_lt x (pos (limit n))) h), lt_is x (pos (limit n)) (and_second (int_le (neg_ℤ (pos (limit n))) x) (int_lt x (pos (limit n))) h))

pub cell_yes : (n : ℕ) (x : ℤ) → neg_ℤ (pos (limit n)) ≤ℤ x → x <ℤ pos (limit n) → is_cell_coord n x ≡ true
unfolding is_cell_coord
cell_yes n x a b = and_both (int_le (neg_ℤ (pos (limit n))) x) (int_lt x (pos (limit n))) (le_yes (neg_ℤ (pos (limit n))) x a) (lt_yes x (pos (limit n)) b)

pub cell-point : (n : ℕ) (x : ℤ) → is_cell_coord n x ≡ true → is_point_coord n x ≡ true
cell-point n x h = let (a, b) = cell_is n x h in point_yes n x a (omega (arith, int_facts))

pub cell-next : (n : ℕ) (x : ℤ) → is_cell_coord n x ≡ true → is_point_coord n (x +ℤ pos 1) ≡ true
cell-next n x h = let (a, b) = cell_is n x h in point_yes n (x +ℤ pos 1) (omega (arith, int_facts)) (omega (arith, int_facts))

-- between neighbouring places only the step at q is seen
steps : (q p : ℤ) → xor (int_le q (p -ℤ pos 1)) (int_le q p) ≡ int_eq q p
unfolding xor
steps q p = by_order q p
    (λ l. rw (le_yes q (p -ℤ pos 1) (omega (arith, int_facts)), le_yes q p (omega (arith, int_facts)), eq_no q p (λ e. omega (arith, int_facts))))
    (λ e. rw (le_no q (p -ℤ pos 1) (omega (arith, int_facts)), le_yes q p (omega (arith, int_facts)), eq_yes q p e))
    (λ l. rw (le_no q (p -ℤ pos 1) (omega (arith, int_facts)), le_no q p l, eq_no q p (λ e. omega (arith, int_facts))))

steps_up : (s c : ℤ) → xor (int_le (s +ℤ pos 1) c) (int_le s c) ≡ int_eq s c
unfolding xor
steps_up s c = by_order s c
    (λ l. rw (le_yes (s +ℤ pos 1) c (omega (arith, int_facts)), le_yes s c (omega (arith, int_facts)), eq_no s c (λ e. omega (arith, int_facts))))
    (λ e. rw (le_no (s +ℤ pos 1) c (omega (arith, int_facts)), le_yes s c (omega (arith, int_facts)), eq_yes s c e))
    (λ l. rw (le_no (s +ℤ pos 1) c (omega (arith, int_facts)), le_no s c l, eq_no s c (λ e. omega (arith, int_facts))))

-- before the first point coordinate no point's coordinate stands
low_end : (n : ℕ) (q p : ℤ) → is_point_coord n q ≡ true → is_point_coord n p ≡ true → (is_point_coord n (p -ℤ pos 1) && int_le q (p -ℤ pos 1)) ≡ int_le q (p -ℤ pos 1)
low_end n q p hq hp =
    let (a, b) = point_is n q hq in
    let (c, d) = point_is n p hp in
    by_lt_z (p -ℤ pos 1) (neg_ℤ (pos (limit n)))
    (λ l. rw (le_no q (p -ℤ pos 1) (omega (arith, int_facts)), and-false))
    (λ l. rw (point_yes n (p -ℤ pos 1) l (omega (arith, int_facts))))

-- the two ways undo one another on one axis
pub up_and_touch : (n : ℕ) (q p : ℤ) → is_point_coord n q ≡ true → is_point_coord n p ≡ true → xsum (λ x. int_le q x && touch x p) (point_coords n) ≡ int_eq q p
up_and_touch n q p hq hp =
    xsum-same (λ x. int_le q x && touch x p) (λ x. touch x p && int_le q x) (λ x. and_comm (int_le q x) (touch x p)) (point_coords n)
    ∙ sum_cells n p (int_le q)
    ∙ ap₂ xor (low_end n q p hq hp) (ap (λ b. b && int_le q p) hp)
    ∙ steps q p

pub touch_and_up : (n : ℕ) (s c : ℤ) → is_cell_coord n s ≡ true → xsum (λ p. touch s p && int_le p c) (point_coords n) ≡ int_eq s c
touch_and_up n s c h =
    sum_points n s (λ p. int_le p c)
    ∙ ap₂ xor (ap (λ b. b && int_le (s +ℤ pos 1) c) (cell-next n s h)) (ap (λ b. b && int_le s c) (cell-point n s h))
    ∙ steps_up s c

-- a cell touches two points of an axis
pub touch_twice : (n : ℕ) (s : ℤ) → is_cell_coord n s ≡ true → xsum (λ p. touch s p && true) (point_coords n) ≡ false
touch_twice n s h =
    sum_points n s (λ p. true) ∙ ap₂ xor (ap (λ b. b && true) (cell-next n s h)) (ap (λ b. b && true) (cell-point n s h)) ∙ xor_self true

-- from dimension 6 on the limit is one
limit-deep : (n : ℕ) → 6 ≤ n → limit n ≡ limit 6
unfolding limit
limit-deep n l =
    let a : nat_le n 3 ≡ false = grind (arith, nat_tests) in
    let b : nat_eq n 4 ≡ false = grind (arith, nat_tests) in
    let c : nat_eq n 5 ≡ false = grind (arith, nat_tests) in
    rw (a, b, c) refl

-- the limits never grow with the dimension
pub limit-falls : (n : ℕ) → limit (suc n) ≤ limit n
unfolding limit
limit-falls zero = omega arith
limit-falls (suc zero) = omega arith
limit-falls (suc (suc zero)) = omega arith
limit-falls (suc (suc (suc zero))) = omega arith
limit-falls (suc (suc (suc (suc zero)))) = omega arith
limit-falls (suc (suc (suc (suc (suc zero))))) = omega arith
limit-falls (suc (suc (suc (suc (suc (suc n)))))) = let a = limit-deep (suc (suc (suc (suc (suc (suc n)))))) (omega arith) in let b = limit-deep (suc (suc (suc (suc (suc (suc (suc n))))))) (omega arith) in omega (arith, a, b)

limit-first : limit 0 ≤ 2 ^ 30
unfolding limit
limit-first = omega arith

-- every coordinate, and its negative, fits 32 bits
pub limit-small : (n : ℕ) → limit n ≤ 2 ^ 30
limit-small zero = limit-first
limit-small (suc n) = let a = limit-small n in let b = limit-falls n in omega arith

-- there is a coordinate on either side
pub limit-some : (n : ℕ) → 0 < limit n
unfolding limit
limit-some n = at (nat_le n 3) (nat_eq n 4) (nat_eq n 5)
  where
    at : (a b c : Bool) → 0 < (if a then limit 0 else if b then limit 4 else if c then limit 5 else limit 6)
    at true b c = omega arith
    at false true c = omega arith
    at false false true = omega arith
    at false false false = omega arith

pub cell_coord-falls : (n : ℕ) (x : ℤ) → is_cell_coord (suc n) x ≡ true → is_cell_coord n x ≡ true
cell_coord-falls n x h = let (a, b) = cell_is (suc n) x h in let l = limit-falls n in cell_yes n x (omega (arith, int_facts)) (omega (arith, int_facts))

pub point_coord-falls : (n : ℕ) (x : ℤ) → is_point_coord (suc n) x ≡ true → is_point_coord n x ≡ true
point_coord-falls n x h = let (a, b) = point_is (suc n) x h in let l = limit-falls n in point_yes n x (omega (arith, int_facts)) (omega (arith, int_facts))

-- a touched coordinate is a point's
pub touched : (n : ℕ) (c p : ℤ) → is_cell_coord n c ≡ true → touch c p ≡ true → is_point_coord n p ≡ true
touched n c p h t =
    let (a, b) = cell_is n c h in
    by_lt_z p (neg_ℤ (pos (limit n)))
    (λ l. absurd (false≢true (sym (untouched (λ e. omega (arith, int_facts)) (λ e. omega (arith, int_facts))) ∙ t)))
    (λ l. by_lt_z (pos (limit n)) p
    (λ m. absurd (false≢true (sym (untouched (λ e. omega (arith, int_facts)) (λ e. omega (arith, int_facts))) ∙ t)))
    (λ m. point_yes n p l m))
  where
    untouched : (p -ℤ pos 1 ≡ c → ⊥) → (p ≡ c → ⊥) → touch c p ≡ false
    untouched f g = split_touch c p ∙ ap₂ xor (eq_no (p -ℤ pos 1) c f) (eq_no p c g) ∙ false-xor false
