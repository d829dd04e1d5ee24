-- The two sides of a plane, as what is inside a box.
use Rattle.evm_shapes.proofs.Shifted.{coord_32}
use Rattle.evm_cells.proofs.Insides.{cell_set-clip, has-clip_of}
use Rattle.evm_cells.specs.Windows.{is_under, is_over}
use Rattle.std.proofs.Common.{◌≡◌, ℕ, zero, suc, ◌<◌, ◌≤◌, ◌<ℤ◌, Bool, true, false, ◌&&◌, List, [], ◌∷◌, length, take, slice_set, filter, ℤ, pos, neg_ℤ, int_le, int_lt, int_eq, refl, sym, ap, ap₂, ◌∙◌, arith, ◌-ℤ◌, w32, to_z, of_z, SFits}
use Rattle.std.specs.List.{list_all}
use Rattle.std.proofs.lemmas.Int.{ints as int_facts}
use Rattle.evm_cells.specs.Places.{each, has}
use Rattle.evm_cells.specs.Limits.{limit, is_point, is_point_coord, is_cell, is_cell_coord, IsCellSet}
use Rattle.evm_cells.specs.Boxes.{is_box}
use Rattle.evm_cells.specs.Shapes.{clip}
use Rattle.evm_cells.proofs.Xor.{and_first, and_second, and_both, and-true}
use Rattle.evm_cells.proofs.Lists.{all_weaker}
use Rattle.evm_cells.proofs.Coords.{eq_is, eq_yes, le_yes, lt_yes, cell_is, point_yes}
use Rattle.evm_cells.proofs.Universe.{point_from, cell_parts, same_sets, ascending-filter, has-filter, member_passes}
use Rattle.evm_cells.proofs.Slices.{coord}
use Rattle.evm_rows.proofs.BoxTests.{same32}
use Rattle.evm_cutting.specs.Cuts.{IsBetween}

-- ---- lists of one number

pub each_flip : (r : ℤ → ℤ → Bool) (p q : List ℤ) → each r p q ≡ each (λ a b. r b a) q p
unfolding each
each_flip r [] [] = refl
each_flip r [] (y ∷ q) = refl
each_flip r (x ∷ p) [] = refl
each_flip r (x ∷ p) (y ∷ q) = ap (λ t. r x y && t) (each_flip r p q)

pub each_left : (r : ℤ → ℤ → Bool) (x : ℤ) (xs c : List ℤ) (n : ℕ) → list_all (int_eq x) xs ≡ true → n ≤ length xs → length c ≡ n → list_all (r x) c ≡ true → each r (take n xs) c ≡ true
unfolding each
each_left r x xs [] zero a l e h = refl
each_left r x xs (z ∷ c) zero a l e h = absurd (omega arith)
each_left r x [] c (suc n) a l e h = absurd (omega arith)
each_left r x (y ∷ xs) [] (suc n) a l e h = absurd (omega arith)
each_left r x (y ∷ xs) (z ∷ c) (suc n) a l e h =
    and_both (r y z) (each r (take n xs) c)
    (ap (λ u. r u z) (sym (eq_is x y (and_first (int_eq x y) (list_all (int_eq x) xs) a))) ∙ and_first (r x z) (list_all (r x) c) h)
    (each_left r x xs c n (and_second (int_eq x y) (list_all (int_eq x) xs) a) (omega arith) (omega arith) (and_second (r x z) (list_all (r x) c) h))

each_left_set : (r : ℤ → ℤ → Bool) (x at : ℤ) (xs c : List ℤ) (i n : ℕ) → list_all (int_eq x) xs ≡ true → i < n → n ≤ length xs → length c ≡ n → list_all (r x) c ≡ true → each r (take n (slice_set xs i at)) c ≡ r at (coord i c)
unfolding each
each_left_set r x at xs c i zero a k l e h = absurd (omega arith)
each_left_set r x at [] c i (suc n) a k l e h = absurd (omega arith)
each_left_set r x at (y ∷ xs) [] i (suc n) a k l e h = absurd (omega arith)
each_left_set r x at (y ∷ xs) (z ∷ c) zero (suc n) a k l e h =
    ap (λ t. r at z && t) (each_left r x xs c n (and_second (int_eq x y) (list_all (int_eq x) xs) a) (omega arith) (omega arith) (and_second (r x z) (list_all (r x) c) h)) ∙ and-true (r at z)
each_left_set r x at (y ∷ xs) (z ∷ c) (suc i) (suc n) a k l e h =
    ap₂ (λ s t. s && t)
    (ap (λ u. r u z) (sym (eq_is x y (and_first (int_eq x y) (list_all (int_eq x) xs) a))) ∙ and_first (r x z) (list_all (r x) c) h)
    (each_left_set r x at xs c i n (and_second (int_eq x y) (list_all (int_eq x) xs) a) (omega arith) (omega arith) (omega arith) (and_second (r x z) (list_all (r x) c) h))

pub all_take : (p : ℤ → Bool) (n : ℕ) (xs : List ℤ) → list_all p xs ≡ true → list_all p (take n xs) ≡ true
all_take p zero xs h = refl
all_take p (suc n) [] h = refl
all_take p (suc n) (x ∷ xs) h = and_both (p x) (list_all p (take n xs)) (and_first (p x) (list_all p xs) h) (all_take p n xs (and_second (p x) (list_all p xs) h))

all_set : (p : ℤ → Bool) (i : ℕ) (at : ℤ) (xs : List ℤ) → list_all p xs ≡ true → p at ≡ true → list_all p (slice_set xs i at) ≡ true
all_set p i at [] h e = refl
all_set p zero at (x ∷ xs) h e = and_both (p at) (list_all p xs) e (and_second (p x) (list_all p xs) h)
all_set p (suc i) at (x ∷ xs) h e = and_both (p x) (list_all p (slice_set xs i at)) (and_first (p x) (list_all p xs) h) (all_set p i at xs (and_second (p x) (list_all p xs) h) e)

pub all_equal : (p : ℤ → Bool) (x : ℤ) (xs : List ℤ) → list_all (int_eq x) xs ≡ true → p x ≡ true → list_all p xs ≡ true
all_equal p x [] h e = refl
all_equal p x (y ∷ xs) h e = and_both (p y) (list_all p xs) (ap p (sym (eq_is x y (and_first (int_eq x y) (list_all (int_eq x) xs) h))) ∙ e) (all_equal p x xs (and_second (int_eq x y) (list_all (int_eq x) xs) h) e)

pub long : (n : ℕ) (xs : List ℤ) → n ≤ length xs → length (take n xs) ≡ n
long zero xs l = refl
long (suc n) [] l = absurd (omega arith)
long (suc n) (x ∷ xs) l = ap suc (long n xs (omega arith))

long_set : (i : ℕ) (at : ℤ) (xs : List ℤ) → length (slice_set xs i at) ≡ length xs
long_set i at [] = refl
long_set zero at (x ∷ xs) = refl
long_set (suc i) at (x ∷ xs) = ap suc (long_set i at xs)

-- ---- the boxes below and above a plane

-- lists of the least and of the largest coordinate, and a height between
pub record Frame (n i : ℕ) (x y at : ℤ) (xs ys : List ℤ) : Type 0 where
  pub axis : i < n
  pub long_low : n ≤ length xs
  pub long_high : n ≤ length ys
  pub low : list_all (int_eq x) xs ≡ true
  pub high : list_all (int_eq y) ys ≡ true
  pub least : x ≡ neg_ℤ (pos (limit n))
  pub most : y ≡ pos (limit n)
  pub above : x <ℤ at
  pub below : at <ℤ y

is_low : (n i : ℕ) (x y at : ℤ) (xs ys : List ℤ) → Frame n i x y at xs ys → is_point_coord n x ≡ true
is_low n i x y at xs ys f = let a = f.least in let b = f.above in let c = f.below in let d = f.most in point_yes n x (omega (arith, int_facts)) (omega (arith, int_facts))

is_high : (n i : ℕ) (x y at : ℤ) (xs ys : List ℤ) → Frame n i x y at xs ys → is_point_coord n y ≡ true
is_high n i x y at xs ys f = let a = f.least in let b = f.above in let c = f.below in let d = f.most in point_yes n y (omega (arith, int_facts)) (omega (arith, int_facts))

is_between : (n i : ℕ) (x y at : ℤ) (xs ys : List ℤ) → Frame n i x y at xs ys → is_point_coord n at ≡ true
is_between n i x y at xs ys f = let a = f.least in let b = f.above in let c = f.below in let d = f.most in point_yes n at (omega (arith, int_facts)) (omega (arith, int_facts))

pub under_box : (n i : ℕ) (x y at : ℤ) (xs ys : List ℤ) → Frame n i x y at xs ys → is_box n (take n xs) (take n (slice_set ys i at)) ≡ true
under_box n i x y at xs ys f =
    let p = is_point_coord n in
    let lo = take n xs in
    let hi = take n (slice_set ys i at) in
    let hl : length hi ≡ n = long n (slice_set ys i at) (let e = long_set i at ys in let l = f.long_high in omega arith) in
    and_both (is_point n lo && is_point n hi) (each int_lt lo hi)
    (and_both (is_point n lo) (is_point n hi)
    (point_from n lo (long n xs f.long_low) (all_take p n xs (all_equal p x xs f.low (is_low n i x y at xs ys f))))
    (point_from n hi hl (all_take p n (slice_set ys i at) (all_set p i at ys (all_equal p y ys f.high (is_high n i x y at xs ys f)) (is_between n i x y at xs ys f)))))
    (each_left int_lt x xs hi n f.low f.long_low hl
    (all_take (int_lt x) n (slice_set ys i at) (all_set (int_lt x) i at ys (all_equal (int_lt x) y ys f.high (let b = f.above in let c = f.below in lt_yes x y (omega (arith, int_facts)))) (lt_yes x at f.above))))

pub over_box : (n i : ℕ) (x y at : ℤ) (xs ys : List ℤ) → Frame n i x y at xs ys → is_box n (take n (slice_set xs i at)) (take n ys) ≡ true
over_box n i x y at xs ys f =
    let p = is_point_coord n in
    let lo = take n (slice_set xs i at) in
    let hi = take n ys in
    let ll : length lo ≡ n = long n (slice_set xs i at) (let e = long_set i at xs in let l = f.long_low in omega arith) in
    and_both (is_point n lo && is_point n hi) (each int_lt lo hi)
    (and_both (is_point n lo) (is_point n hi)
    (point_from n lo ll (all_take p n (slice_set xs i at) (all_set p i at xs (all_equal p x xs f.low (is_low n i x y at xs ys f)) (is_between n i x y at xs ys f))))
    (point_from n hi (long n ys f.long_high) (all_take p n ys (all_equal p y ys f.high (is_high n i x y at xs ys f)))))
    (each_flip int_lt lo hi
    ∙ each_left (λ a b. int_lt b a) y ys lo n f.high f.long_high ll
    (all_take (λ b. int_lt b y) n (slice_set xs i at) (all_set (λ b. int_lt b y) i at xs (all_equal (λ b. int_lt b y) x xs f.low (let b = f.above in let c = f.below in lt_yes x y (omega (arith, int_facts)))) (lt_yes at y f.below))))

by_member : (b x y : Bool) → (b ≡ true → x ≡ y) → (b && x) ≡ (b && y)
by_member true x y h = h refl
by_member false x y h = refl

pub cell_low : (n : ℕ) (x : ℤ) (c : List ℤ) → x ≡ neg_ℤ (pos (limit n)) → list_all (is_cell_coord n) c ≡ true → list_all (int_le x) c ≡ true
cell_low n x c e h = all_weaker (is_cell_coord n) (int_le x) (λ z m. let (a, b) = cell_is n z m in le_yes x z (omega (arith, int_facts))) c h

pub cell_high : (n : ℕ) (y : ℤ) (c : List ℤ) → y ≡ pos (limit n) → list_all (is_cell_coord n) c ≡ true → list_all (λ z. int_lt z y) c ≡ true
cell_high n y c e h = all_weaker (is_cell_coord n) (λ z. int_lt z y) (λ z m. let (a, b) = cell_is n z m in lt_yes z y (omega (arith, int_facts))) c h

pub under_clip : (n i : ℕ) (x y at : ℤ) (xs ys : List ℤ) (S : List (List ℤ)) → Frame n i x y at xs ys → IsCellSet n S → clip n (take n xs) (take n (slice_set ys i at)) S ≡ filter (is_under i at) S
under_clip n i x y at xs ys S f s =
    let lo = take n xs in
    let hi = take n (slice_set ys i at) in
    let k : IsCellSet n (clip n lo hi S) = cell_set-clip n lo hi S in
    same_sets (clip n lo hi S) (filter (is_under i at) S) k.ascends (ascending-filter (is_under i at) S s.ascends)
    (λ c. has-clip_of n lo hi S c s
    ∙ by_member (has S c) (is_cell n c && (each int_le lo c && each int_lt c hi)) (is_under i at c)
    (λ m. let w : is_cell n c ≡ true = member_passes (is_cell n) S c s.cells m in
    let (e, a) = cell_parts n c w in
    ap₂ (λ t u. t && u) w
    (ap₂ (λ t u. t && u)
    (each_left int_le x xs c n f.low f.long_low e (cell_low n x c f.least a))
    (each_flip int_lt c hi ∙ each_left_set (λ a b. int_lt b a) y at ys c i n f.high f.axis f.long_high e (cell_high n y c f.most a))))
    ∙ sym (has-filter (is_under i at) S c))

pub over_clip : (n i : ℕ) (x y at : ℤ) (xs ys : List ℤ) (S : List (List ℤ)) → Frame n i x y at xs ys → IsCellSet n S → clip n (take n (slice_set xs i at)) (take n ys) S ≡ filter (is_over i at) S
over_clip n i x y at xs ys S f s =
    let lo = take n (slice_set xs i at) in
    let hi = take n ys in
    let k : IsCellSet n (clip n lo hi S) = cell_set-clip n lo hi S in
    same_sets (clip n lo hi S) (filter (is_over i at) S) k.ascends (ascending-filter (is_over i at) S s.ascends)
    (λ c. has-clip_of n lo hi S c s
    ∙ by_member (has S c) (is_cell n c && (each int_le lo c && each int_lt c hi)) (is_over i at c)
    (λ m. let w : is_cell n c ≡ true = member_passes (is_cell n) S c s.cells m in
    let (e, a) = cell_parts n c w in
    ap₂ (λ t u. t && u) w
    (ap₂ (λ t u. t && u)
    (each_left_set int_le x at xs c i n f.low f.axis f.long_low e (cell_low n x c f.least a))
    (each_flip int_lt c hi ∙ each_left (λ a b. int_lt b a) y ys c n f.high f.long_high e (cell_high n y c f.most a))
    ∙ and-true (is_over i at c)))
    ∙ sym (has-filter (is_over i at) S c))

-- ---- the frame that the code makes

abbrev pub six : ℤ → List ℤ
six x = x ∷ x ∷ x ∷ x ∷ x ∷ x ∷ []

pub six_equal : (x : ℤ) → list_all (int_eq x) (six x) ≡ true
six_equal x =
    let e : int_eq x x ≡ true = eq_yes x x refl in
    and_both (int_eq x x) (list_all (int_eq x) (x ∷ x ∷ x ∷ x ∷ x ∷ [])) e
    (and_both (int_eq x x) (list_all (int_eq x) (x ∷ x ∷ x ∷ x ∷ [])) e
    (and_both (int_eq x x) (list_all (int_eq x) (x ∷ x ∷ x ∷ [])) e
    (and_both (int_eq x x) (list_all (int_eq x) (x ∷ x ∷ [])) e
    (and_both (int_eq x x) (list_all (int_eq x) (x ∷ [])) e
    (and_both (int_eq x x) true e refl)))))

-- the limits, as the code has them
pub ends_of : (n : ℕ) (l : ℤ) → l ≡ pos (limit n) → (to_z w32 (of_z w32 l) ≡ pos (limit n)) × (to_z w32 (of_z w32 (pos 0 -ℤ to_z w32 (of_z w32 l))) ≡ neg_ℤ (pos (limit n)))
ends_of n l e =
    let high : to_z w32 (of_z w32 l) ≡ l = same32 l (coord_32 n l (point_yes n l (omega (arith, int_facts)) (omega (arith, int_facts)))) in
    let y : to_z w32 (of_z w32 l) ≡ pos (limit n) = high ∙ e in
    let x : pos 0 -ℤ to_z w32 (of_z w32 l) ≡ neg_ℤ (pos (limit n)) = omega (arith, int_facts, y) in
    let low : to_z w32 (of_z w32 (pos 0 -ℤ to_z w32 (of_z w32 l))) ≡ pos 0 -ℤ to_z w32 (of_z w32 l) =
    same32 (pos 0 -ℤ to_z w32 (of_z w32 l)) (coord_32 n (pos 0 -ℤ to_z w32 (of_z w32 l)) (point_yes n (pos 0 -ℤ to_z w32 (of_z w32 l)) (omega (arith, int_facts, x)) (omega (arith, int_facts, x)))) in
    (y, low ∙ x)

pub frame_of : (n i : ℕ) (at l : ℤ) → i < n → n ≤ 6 → neg_ℤ (pos (limit n)) <ℤ at → at <ℤ pos (limit n) → l ≡ pos (limit n) → SFits w32 at
    → Frame n i (to_z w32 (of_z w32 (pos 0 -ℤ to_z w32 (of_z w32 l)))) (to_z w32 (of_z w32 l)) (to_z w32 (of_z w32 at)) (six (to_z w32 (of_z w32 (pos 0 -ℤ to_z w32 (of_z w32 l))))) (six (to_z w32 (of_z w32 l)))
frame_of n i at l within few low high e fits =
    let y : ℤ = to_z w32 (of_z w32 l) in
    let x : ℤ = to_z w32 (of_z w32 (pos 0 -ℤ y)) in
    let (b, a) = ends_of n l e in
    let h : to_z w32 (of_z w32 at) ≡ at = same32 at fits in
    record {
      axis = within;
      long_low = few;
      long_high = few;
      low = six_equal x;
      high = six_equal y;
      least = a;
      most = b;
      above = omega (arith, int_facts, a, h, low);
      below = omega (arith, int_facts, b, h, high);
    }

-- the least and the largest coordinate, as the code has them
abbrev pub largest : ℤ → ℤ
largest l = to_z w32 (of_z w32 l)

abbrev pub least : ℤ → ℤ
least l = to_z w32 (of_z w32 (pos 0 -ℤ largest l))

-- the boxes of the two sides, as the code makes them
pub under_box_at : (n m i : ℕ) (at l : ℤ) → m ≡ n → n ≤ 6 → IsBetween n i at → l ≡ pos (limit m) → SFits w32 at
    → is_box n (take m (six (least l))) (take m (slice_set (six (largest l)) i (to_z w32 (of_z w32 at)))) ≡ true
under_box_at n m i at l e few b k fits =
    let y : ℤ = largest l in
    let x : ℤ = least l in
    let h : ℤ = to_z w32 (of_z w32 at) in
    ap (λ (j : ℕ). is_box n (take j (six x)) (take j (slice_set (six y) i h))) e
    ∙ under_box n i x y h (six x) (six y) (frame_of n i at l b.axis few b.low b.high (k ∙ ap (λ (j : ℕ). pos (limit j)) e) fits)

pub over_box_at : (n m i : ℕ) (at l : ℤ) → m ≡ n → n ≤ 6 → IsBetween n i at → l ≡ pos (limit m) → SFits w32 at
    → is_box n (take m (slice_set (six (least l)) i (to_z w32 (of_z w32 at)))) (take m (six (largest l))) ≡ true
over_box_at n m i at l e few b k fits =
    let y : ℤ = largest l in
    let x : ℤ = least l in
    let h : ℤ = to_z w32 (of_z w32 at) in
    ap (λ (j : ℕ). is_box n (take j (slice_set (six x) i h)) (take j (six y))) e
    ∙ over_box n i x y h (six x) (six y) (frame_of n i at l b.axis few b.low b.high (k ∙ ap (λ (j : ℕ). pos (limit j)) e) fits)

-- and what is inside them
pub under_part : (n m i : ℕ) (at l : ℤ) (S : List (List ℤ)) → m ≡ n → n ≤ 6 → IsBetween n i at → l ≡ pos (limit m) → SFits w32 at → IsCellSet n S
    → clip n (take m (six (least l))) (take m (slice_set (six (largest l)) i (to_z w32 (of_z w32 at)))) S ≡ filter (is_under i at) S
under_part n m i at l S e few b k fits s =
    let y : ℤ = largest l in
    let x : ℤ = least l in
    let h : ℤ = to_z w32 (of_z w32 at) in
    ap (λ (j : ℕ). clip n (take j (six x)) (take j (slice_set (six y) i h)) S) e
    ∙ under_clip n i x y h (six x) (six y) S (frame_of n i at l b.axis few b.low b.high (k ∙ ap (λ (j : ℕ). pos (limit j)) e) fits) s
    ∙ ap (λ (z : ℤ). filter (is_under i z) S) (same32 at fits)

pub over_part : (n m i : ℕ) (at l : ℤ) (S : List (List ℤ)) → m ≡ n → n ≤ 6 → IsBetween n i at → l ≡ pos (limit m) → SFits w32 at → IsCellSet n S
    → clip n (take m (slice_set (six (least l)) i (to_z w32 (of_z w32 at)))) (take m (six (largest l))) S ≡ filter (is_over i at) S
over_part n m i at l S e few b k fits s =
    let y : ℤ = largest l in
    let x : ℤ = least l in
    let h : ℤ = to_z w32 (of_z w32 at) in
    ap (λ (j : ℕ). clip n (take j (slice_set (six x) i h)) (take j (six y)) S) e
    ∙ over_clip n i x y h (six x) (six y) S (frame_of n i at l b.axis few b.low b.high (k ∙ ap (λ (j : ℕ). pos (limit j)) e) fits) s
    ∙ ap (λ (z : ℤ). filter (is_over i z) S) (same32 at fits)
