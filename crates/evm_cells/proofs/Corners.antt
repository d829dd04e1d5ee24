-- The corners of a box are its extreme vertices.
use Rattle.std.proofs.Common.{◌≡◌, ℕ, zero, suc, ◌<◌, Bool, true, false, ◌&&◌, ◌==◌, List, [], ◌∷◌, length, map, ℤ, ◌<ℤ◌, refl, sym, ap, ap₂, ◌∙◌, arith, int_le, int_lt, int_eq}
use Rattle.std.specs.List.{list_all}
use Rattle.std.proofs.lemmas.Int.{ints as int_facts, by_lt_z}
use Rattle.evm_cells.specs.Places.{same, before, has, each, without}
use Rattle.evm_cells.specs.Limits.{is_cell, is_point, is_point_coord, IsCellSet}
use Rattle.evm_cells.specs.Booleans.{xor}
use Rattle.evm_cells.specs.Vertices.{evm, IsEven, IsVertexList}
use Rattle.evm_cells.specs.Boxes.{box_cells, IsBox}
use lib.Dec.{eqb-suc-suc}
use Rattle.evm_cells.specs.Boxes.{corners}
use Rattle.evm_cells.proofs.Xor.{xsum, xor-and, odd-count, and_first, and_second, and_both, and-false, xor_self, and_swap}
use Rattle.evm_cells.proofs.Sum.{xsum-append, xsum-map, xsum-and_left}
use Rattle.evm_cells.proofs.Order.{rising}
use Rattle.evm_cells.proofs.Lists.{all-append, all-map, all_always, all_weaker, rising-append}
use Rattle.evm_cells.proofs.Coords.{le_yes, le_no, lt_yes, lt_no, lt_is}
use Rattle.evm_cells.proofs.Places.{rising_prefixed, before_first, ascending-rising}
use Rattle.evm_cells.proofs.Universe.{point_parts, cell_parts, has-cells, odd-below}
use Rattle.evm_cells.proofs.Combine.{cell_set-filter}
use Rattle.evm_cells.proofs.Core.{vertices_are}

xsum-corners : (f : List ℤ → Bool) (a b : ℤ) (lo hi : List ℤ) → xsum f (corners (a ∷ lo) (b ∷ hi)) ≡ xor (xsum (λ t. f (a ∷ t)) (corners lo hi)) (xsum (λ t. f (b ∷ t)) (corners lo hi))
unfolding corners
xsum-corners f a b lo hi =
    xsum-append f (map (λ t. a ∷ t) (corners lo hi)) (map (λ t. b ∷ t) (corners lo hi))
    ∙ ap₂ xor (xsum-map f (λ t. a ∷ t) (corners lo hi)) (xsum-map f (λ t. b ∷ t) (corners lo hi))

between : (a b x : ℤ) → int_lt a b ≡ true → xor (int_le a x) (int_le b x) ≡ (int_le a x && int_lt x b)
unfolding xor
between a b x h =
    let l : a <ℤ b = lt_is a b h in
    by_lt_z x b
    (λ m. rw (le_no b x m, lt_yes x b m) (by_lt_z x a (λ k. rw (le_no a x k)) (λ k. rw (le_yes a x k))))
    (λ m. rw (le_yes b x m, lt_no x b m, le_yes a x (omega (arith, int_facts))))

below_corners : (lo hi c : List ℤ) → length c ≡ length lo → length hi ≡ length lo → each int_lt lo hi ≡ true → xsum (λ q. each int_le q c) (corners lo hi) ≡ (each int_le lo c && each int_lt c hi)
unfolding corners each xsum xor
below_corners [] [] [] e h r = refl
below_corners [] [] (x ∷ c) e h r = absurd (omega arith)
below_corners [] (b ∷ hi) c e h r = absurd (omega arith)
below_corners (a ∷ lo) [] c e h r = absurd (omega arith)
below_corners (a ∷ lo) (b ∷ hi) [] e h r = absurd (omega arith)
below_corners (a ∷ lo) (b ∷ hi) (x ∷ c) e h r =
    step a b x lo hi c (and_first (int_lt a b) (each int_lt lo hi) r)
    (below_corners lo hi c (omega arith) (omega arith) (and_second (int_lt a b) (each int_lt lo hi) r))
  where
    step : (a b x : ℤ) (lo hi c : List ℤ) → int_lt a b ≡ true → xsum (λ q. each int_le q c) (corners lo hi) ≡ (each int_le lo c && each int_lt c hi)
        → xsum (λ q. each int_le q (x ∷ c)) (corners (a ∷ lo) (b ∷ hi)) ≡ ((int_le a x && each int_le lo c) && (int_lt x b && each int_lt c hi))
    step a b x lo hi c l ih =
        xsum-corners (λ q. each int_le q (x ∷ c)) a b lo hi
        ∙ ap₂ xor (xsum-and_left (int_le a x) (λ t. each int_le t c) (corners lo hi)) (xsum-and_left (int_le b x) (λ t. each int_le t c) (corners lo hi))
        ∙ sym (xor-and (int_le a x) (int_le b x) (xsum (λ t. each int_le t c) (corners lo hi)))
        ∙ ap₂ (λ u v. u && v) (between a b x l) ih
        ∙ and_swap (int_le a x) (int_lt x b) (each int_le lo c) (each int_lt c hi)

corner_lines : (i : ℕ) (lo hi line : List ℤ) → i < length lo → xsum (λ p. same (without i p) line) (corners lo hi) ≡ false
unfolding same each without xsum xor corners
corner_lines i [] hi line l = absurd (omega arith)
corner_lines i (a ∷ lo) [] line l = refl
corner_lines zero (a ∷ lo) (b ∷ hi) line l =
    xsum-corners (λ p. each int_eq (without 0 p) line) a b lo hi ∙ xor_self (xsum (λ t. each int_eq t line) (corners lo hi))
corner_lines (suc i) (a ∷ lo) (b ∷ hi) [] l =
    xsum-corners (λ p. each int_eq (without (suc i) p) []) a b lo hi ∙ xor_self (xsum (λ t. false) (corners lo hi))
corner_lines (suc i) (a ∷ lo) (b ∷ hi) (y ∷ line) l = step i a b y lo hi line (corner_lines i lo hi line (omega arith))
  where
    step : (i : ℕ) (a b y : ℤ) (lo hi line : List ℤ) → xsum (λ p. each int_eq (without i p) line) (corners lo hi) ≡ false
        → xsum (λ p. each int_eq (without (suc i) p) (y ∷ line)) (corners (a ∷ lo) (b ∷ hi)) ≡ false
    step i a b y lo hi line ih =
        xsum-corners (λ p. each int_eq (without (suc i) p) (y ∷ line)) a b lo hi
        ∙ ap₂ xor
        (xsum-and_left (int_eq a y) (λ t. each int_eq (without i t) line) (corners lo hi) ∙ ap (λ u. int_eq a y && u) ih ∙ and-false (int_eq a y))
        (xsum-and_left (int_eq b y) (λ t. each int_eq (without i t) line) (corners lo hi) ∙ ap (λ u. int_eq b y && u) ih ∙ and-false (int_eq b y))

even-corners : (n : ℕ) (lo hi : List ℤ) → length lo ≡ n → IsEven n (corners lo hi)
even-corners n lo hi e = λ i line l. odd-count (λ p. same (without i p) line) (corners lo hi) ∙ corner_lines i lo hi line (omega arith)

pub rising-corners : (lo hi : List ℤ) → each int_lt lo hi ≡ true → rising before (corners lo hi) ≡ true
unfolding corners each rising
rising-corners [] hi r = refl
rising-corners (a ∷ lo) [] r = refl
rising-corners (a ∷ lo) (b ∷ hi) r =
    let T : List (List ℤ) = corners lo hi in
    let l : int_lt a b ≡ true = and_first (int_lt a b) (each int_lt lo hi) r in
    let ih = rising-corners lo hi (and_second (int_lt a b) (each int_lt lo hi) r) in
    rising-append before (map (λ t. a ∷ t) T) (map (λ t. b ∷ t) T) (rising_prefixed a T ih) (rising_prefixed b T ih)
    (all-map (λ p. list_all (before p) (map (λ t. b ∷ t) T)) (λ t. a ∷ t) T
    ∙ all_always (λ t. list_all (before (a ∷ t)) (map (λ u. b ∷ u) T)) (λ t. all-map (before (a ∷ t)) (λ u. b ∷ u) T ∙ all_always (λ u. before (a ∷ t) (b ∷ u)) (λ u. before_first a b t u l) T) T)

coords-cons : (n m : ℕ) (a : ℤ) (t : List ℤ) → is_point_coord n a ≡ true → (length t == m && list_all (is_point_coord n) t) ≡ true → (suc (length t) == suc m && (is_point_coord n a && list_all (is_point_coord n) t)) ≡ true
coords-cons n m a t h k =
    and_both (suc (length t) == suc m) (is_point_coord n a && list_all (is_point_coord n) t)
    (eqb-suc-suc (length t) m ∙ and_first (length t == m) (list_all (is_point_coord n) t) k)
    (and_both (is_point_coord n a) (list_all (is_point_coord n) t) h (and_second (length t == m) (list_all (is_point_coord n) t) k))

coords-corners : (n : ℕ) (lo hi : List ℤ) → list_all (is_point_coord n) lo ≡ true → list_all (is_point_coord n) hi ≡ true → list_all (λ t. length t == length lo && list_all (is_point_coord n) t) (corners lo hi) ≡ true
unfolding corners
coords-corners n [] hi h k = refl
coords-corners n (a ∷ lo) [] h k = refl
coords-corners n (a ∷ lo) (b ∷ hi) h k = step a b lo hi
    (and_first (is_point_coord n a) (list_all (is_point_coord n) lo) h) (and_first (is_point_coord n b) (list_all (is_point_coord n) hi) k)
    (coords-corners n lo hi (and_second (is_point_coord n a) (list_all (is_point_coord n) lo) h) (and_second (is_point_coord n b) (list_all (is_point_coord n) hi) k))
  where
    test : ℕ → List ℤ → Bool
    test m t = length t == m && list_all (is_point_coord n) t

    step : (a b : ℤ) (lo hi : List ℤ) → is_point_coord n a ≡ true → is_point_coord n b ≡ true → list_all (test (length lo)) (corners lo hi) ≡ true → list_all (test (suc (length lo))) (corners (a ∷ lo) (b ∷ hi)) ≡ true
    step a b lo hi h k ih =
        all-append (test (suc (length lo))) (map (λ t. a ∷ t) (corners lo hi)) (map (λ t. b ∷ t) (corners lo hi))
        ∙ and_both (list_all (test (suc (length lo))) (map (λ t. a ∷ t) (corners lo hi))) (list_all (test (suc (length lo))) (map (λ t. b ∷ t) (corners lo hi)))
        (all-map (test (suc (length lo))) (λ t. a ∷ t) (corners lo hi) ∙ all_weaker (test (length lo)) (λ t. test (suc (length lo)) (a ∷ t)) (λ t m. coords-cons n (length lo) a t h m) (corners lo hi) ih)
        (all-map (test (suc (length lo))) (λ t. b ∷ t) (corners lo hi) ∙ all_weaker (test (length lo)) (λ t. test (suc (length lo)) (b ∷ t)) (λ t m. coords-cons n (length lo) b t k m) (corners lo hi) ih)

points-corners : (n : ℕ) (lo hi : List ℤ) → length lo ≡ n → list_all (is_point_coord n) lo ≡ true → list_all (is_point_coord n) hi ≡ true → list_all (is_point n) (corners lo hi) ≡ true
unfolding is_point
points-corners n lo hi e h k =
    ap (λ m. list_all (λ t. length t == m && list_all (is_point_coord n) t) (corners lo hi)) (sym e) ∙ coords-corners n lo hi h k

pub vertices-corners : (n : ℕ) (lo hi : List ℤ) → IsBox n lo hi → IsVertexList n (corners lo hi)
vertices-corners n lo hi h =
    let (e, a) = point_parts n lo h.low in
    let (f, b) = point_parts n hi h.high in
    record {
      ascends = ascending-rising (corners lo hi) ∙ rising-corners lo hi h.room;
      points = points-corners n lo hi e a b;
      even = even-corners n lo hi e;
    }

pub cell_set-box : (n : ℕ) (lo hi : List ℤ) → IsCellSet n (box_cells n lo hi)
unfolding box_cells
cell_set-box n lo hi = cell_set-filter n (λ c. each int_le lo c && each int_lt c hi)

pub has-box_cells : (n : ℕ) (lo hi c : List ℤ) → has (box_cells n lo hi) c ≡ (is_cell n c && (each int_le lo c && each int_lt c hi))
unfolding box_cells
has-box_cells n lo hi c = has-cells n (λ d. each int_le lo d && each int_lt d hi) c

pub corners_are : (n : ℕ) (lo hi : List ℤ) → IsBox n lo hi → corners lo hi ≡ evm n (box_cells n lo hi)
corners_are n lo hi h =
    vertices_are n (box_cells n lo hi) (corners lo hi) (cell_set-box n lo hi) (vertices-corners n lo hi h)
    (λ c k. let (e, a) = point_parts n lo h.low in let (f, b) = point_parts n hi h.high in let (g, d) = cell_parts n c k in
    odd-below (corners lo hi) c ∙ below_corners lo hi c (g ∙ sym e) (f ∙ sym e) h.room ∙ sym (has-box_cells n lo hi c ∙ ap (λ t. t && (each int_le lo c && each int_lt c hi)) k))
