-- Rows whose number on an axis is moved down to a height, as rows that are moved into the box below it.
use Rattle.std.proofs.Common.{◌≡◌, ℕ, zero, suc, ◌<◌, ◌≤◌, ◌≤ℤ◌, Bool, true, false, cond, List, [], ◌∷◌, length, take, drop, slice_set, map, filter, ℤ, pos, neg_ℤ, int_lt, int_eq, refl, sym, ap, ap₂, ◌∙◌, subst, arith}
use Rattle.std.specs.List.{list_all}
use Rattle.std.proofs.lemmas.Int.{ints as int_facts}
use Rattle.evm_cells.specs.Limits.{limit, is_point, is_point_coord}
use Rattle.evm_cells.specs.Vertices.{evm, cells, IsVertexList}
use Rattle.evm_cells.specs.Windows.{between, clamped, is_under, is_over, IsReduced}
use Rattle.evm_cells.proofs.Clamping.{clip_by_rows, not_less}
use Rattle.evm_cells.proofs.Coords.{eq_is, lt_no, lt_is, le_is, point_is}
use Rattle.evm_cells.proofs.Universe.{point_parts, cell_set-cells}
use Rattle.evm_cells.proofs.Xor.{and_first, and_second}
use Rattle.evm_cutting.specs.Cuts.{IsBetween}
use Rattle.evm_cutting.specs.Levels.{lowered, put}
use Rattle.evm_cutting.proofs.Planes.{Frame, under_box, under_clip, six, six_equal}

-- ---- one row

-- a row below the height stays
pub lowered_low : (i : ℕ) (at : ℤ) (p : List ℤ) → is_under i at p ≡ true → lowered i at p ≡ p
unfolding lowered
lowered_low i at [] h = refl
lowered_low zero at (x ∷ p) h = let l = lt_is x at h in ap (λ b. cond b at x ∷ p) (lt_no at x (omega (arith, int_facts)))
lowered_low (suc i) at (x ∷ p) h = ap (λ q. x ∷ q) (lowered_low i at p h)

to_height : (at x : ℤ) → at ≤ℤ x → cond (int_lt at x) at x ≡ at
to_height at x l = by (int_lt at x) refl
  where
    by : (b : Bool) → int_lt at x ≡ b → cond b at x ≡ at
    by true e = refl
    by false e = let k = not_less at x e in omega (arith, int_facts)

-- another is put at it
pub lowered_over : (i : ℕ) (at : ℤ) (p : List ℤ) → i < length p → is_over i at p ≡ true → lowered i at p ≡ put (take i p) at (drop (suc i) p)
unfolding lowered
lowered_over i at [] l h = absurd (omega arith)
lowered_over zero at (x ∷ p) l h = ap (λ z. z ∷ p) (to_height at x (le_is at x h))
lowered_over (suc i) at (x ∷ p) l h = ap (λ q. x ∷ q) (lowered_over i at p (omega arith) h)

-- ---- boxes

inside_free : (n : ℕ) (x y z : ℤ) → x ≡ neg_ℤ (pos (limit n)) → y ≡ pos (limit n) → is_point_coord n z ≡ true → between x y z ≡ z
unfolding between
inside_free n x y z e f h =
    let (a, b) = point_is n z h in
    ap₂ (λ s t. cond s x (cond t y z)) (lt_no z x (omega (arith, int_facts))) (lt_no y z (omega (arith, int_facts)))

inside_low : (n : ℕ) (x at z : ℤ) → x ≡ neg_ℤ (pos (limit n)) → is_point_coord n z ≡ true → between x at z ≡ cond (int_lt at z) at z
unfolding between
inside_low n x at z e h =
    let (a, b) = point_is n z h in
    ap (λ s. cond s x (cond (int_lt at z) at z)) (lt_no z x (omega (arith, int_facts)))

free_row : (n m : ℕ) (x y : ℤ) (xs ys p : List ℤ) → x ≡ neg_ℤ (pos (limit n)) → y ≡ pos (limit n) → list_all (int_eq x) xs ≡ true → list_all (int_eq y) ys ≡ true
    → m ≤ length xs → m ≤ length ys → length p ≡ m → list_all (is_point_coord n) p ≡ true → clamped (take m xs) (take m ys) p ≡ p
unfolding clamped
free_row n zero x y xs ys [] e f a b k l d h = refl
free_row n zero x y xs ys (z ∷ p) e f a b k l d h = absurd (omega arith)
free_row n (suc m) x y [] ys p e f a b k l d h = absurd (omega arith)
free_row n (suc m) x y (u ∷ xs) [] p e f a b k l d h = absurd (omega arith)
free_row n (suc m) x y (u ∷ xs) (v ∷ ys) [] e f a b k l d h = absurd (omega arith)
free_row n (suc m) x y (u ∷ xs) (v ∷ ys) (z ∷ p) e f a b k l d h =
    ap₂ (λ s t. s ∷ t)
    (ap₂ (λ s t. between s t z) (sym (eq_is x u (and_first (int_eq x u) (list_all (int_eq x) xs) a))) (sym (eq_is y v (and_first (int_eq y v) (list_all (int_eq y) ys) b)))
    ∙ inside_free n x y z e f (and_first (is_point_coord n z) (list_all (is_point_coord n) p) h))
    (free_row n m x y xs ys p e f (and_second (int_eq x u) (list_all (int_eq x) xs) a) (and_second (int_eq y v) (list_all (int_eq y) ys) b) (omega arith) (omega arith) (omega arith) (and_second (is_point_coord n z) (list_all (is_point_coord n) p) h))

lowered_row : (n m i : ℕ) (x y at : ℤ) (xs ys p : List ℤ) → x ≡ neg_ℤ (pos (limit n)) → y ≡ pos (limit n) → list_all (int_eq x) xs ≡ true → list_all (int_eq y) ys ≡ true
    → i < m → m ≤ length xs → m ≤ length ys → length p ≡ m → list_all (is_point_coord n) p ≡ true → lowered i at p ≡ clamped (take m xs) (take m (slice_set ys i at)) p
unfolding clamped lowered
lowered_row n zero i x y at xs ys p e f a b j k l d h = absurd (omega arith)
lowered_row n (suc m) i x y at [] ys p e f a b j k l d h = absurd (omega arith)
lowered_row n (suc m) i x y at (u ∷ xs) [] p e f a b j k l d h = absurd (omega arith)
lowered_row n (suc m) i x y at (u ∷ xs) (v ∷ ys) [] e f a b j k l d h = absurd (omega arith)
lowered_row n (suc m) zero x y at (u ∷ xs) (v ∷ ys) (z ∷ p) e f a b j k l d h =
    sym (ap₂ (λ s t. s ∷ t)
    (ap (λ s. between s at z) (sym (eq_is x u (and_first (int_eq x u) (list_all (int_eq x) xs) a))) ∙ inside_low n x at z e (and_first (is_point_coord n z) (list_all (is_point_coord n) p) h))
    (free_row n m x y xs ys p e f (and_second (int_eq x u) (list_all (int_eq x) xs) a) (and_second (int_eq y v) (list_all (int_eq y) ys) b) (omega arith) (omega arith) (omega arith) (and_second (is_point_coord n z) (list_all (is_point_coord n) p) h)))
lowered_row n (suc m) (suc i) x y at (u ∷ xs) (v ∷ ys) (z ∷ p) e f a b j k l d h =
    ap₂ (λ s t. s ∷ t)
    (sym (ap₂ (λ s t. between s t z) (sym (eq_is x u (and_first (int_eq x u) (list_all (int_eq x) xs) a))) (sym (eq_is y v (and_first (int_eq y v) (list_all (int_eq y) ys) b)))
    ∙ inside_free n x y z e f (and_first (is_point_coord n z) (list_all (is_point_coord n) p) h)))
    (lowered_row n m i x y at xs ys p e f (and_second (int_eq x u) (list_all (int_eq x) xs) a) (and_second (int_eq y v) (list_all (int_eq y) ys) b) (omega arith) (omega arith) (omega arith) (omega arith) (and_second (is_point_coord n z) (list_all (is_point_coord n) p) h))

same_rows : (t : List ℤ → Bool) (f g : List ℤ → List ℤ) → ((p : List ℤ) → t p ≡ true → f p ≡ g p) → (V : List (List ℤ)) → list_all t V ≡ true → map f V ≡ map g V
same_rows t f g e [] h = refl
same_rows t f g e (p ∷ V) h = ap₂ (λ q W. q ∷ W) (e p (and_first (t p) (list_all t V) h)) (same_rows t f g e V (and_second (t p) (list_all t V) h))

-- the lowered rows, where pairs of them cancel, are the vertices of what is below
pub below_rows : (n i : ℕ) (at : ℤ) (V W : List (List ℤ)) → n ≤ 6 → IsBetween n i at → IsVertexList n V → IsReduced n (map (lowered i at) V) W → W ≡ evm n (filter (is_under i at) (cells n V))
below_rows n i at V W few b v r =
    let x : ℤ = neg_ℤ (pos (limit n)) in
    let y : ℤ = pos (limit n) in
    let xs : List ℤ = six x in
    let ys : List ℤ = six y in
    let lo : List ℤ = take n xs in
    let hi : List ℤ = take n (slice_set ys i at) in
    let f : Frame n i x y at xs ys = record { axis = b.axis; long_low = few; long_high = few; low = six_equal x; high = six_equal y; least = refl; most = refl; above = b.low; below = b.high } in
    let e : map (lowered i at) V ≡ map (clamped lo hi) V =
    same_rows (is_point n) (lowered i at) (clamped lo hi)
    (λ p m. let (d, a) = point_parts n p m in lowered_row n n i x y at xs ys p refl refl (six_equal x) (six_equal y) b.axis few few d a) V v.points in
    clip_by_rows n lo hi V W (under_box n i x y at xs ys f) v (subst (λ (L : List (List ℤ)). IsReduced n L W) e r) ∙ ap (evm n) (under_clip n i x y at xs ys (cells n V) f (cell_set-cells n V))
