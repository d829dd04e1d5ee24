-- The test of a box axis by axis, and the corners of a box written axis by axis.
use Rattle.std.proofs.Common.{◌≡◌, ℕ, ◌+◌, ◌<◌, ◌≤◌, Bool, true, false, ◌&&◌, List, [], ◌∷◌, ◌++◌, length, drop, get_or, map, take, ◌-◌, length-append, ℤ, pos, neg_ℤ, int_lt, ◌≤ℤ◌, ◌<ℤ◌, refl, sym, ap, ap₂, ◌∙◌, arith, append_assoc, append-nil, eq-eqb, int_le, w32, to_z, of_z}
use mir.Val.{SFits}
use Rattle.std.proofs.Math.Seq.{take-append_seam}
use Rattle.std.specs.List.{list_all}
use Rattle.std.proofs.lemmas.Int.{ints, to_z-of_z}
use Rattle.std.proofs.lemmas.List.{drop_more, drop_all, map-append, map-id}
use Rattle.evm_cells.specs.Places.{each}
use Rattle.evm_cells.specs.Limits.{limit, is_point, is_point_coord}
use Rattle.evm_cells.specs.Boxes.{IsBox, is_box, box_cells, corners}
use Rattle.evm_cells.specs.Vertices.{evm}
use Rattle.evm_cells.proofs.Corners.{vertices-corners, corners_are}
use Rattle.evm_rows.proofs.RowsOrder.{rows_of-flat_of}
use Rattle.evm_rows.proofs.Bridge.{are_rows-flat, wide-points}
use Rattle.evm_cells.proofs.Xor.{and_swap, and-false, and_both, and_first, and_second}
use Rattle.evm_cells.proofs.Coords.{point_yes, lt_yes, lt_no, le_no}
use Rattle.evm_rows.specs.Rows.{flat_of, rows_of, AreRows}

-- the sides of a box pass, its length apart
abbrev pub sides_pass : ℕ → List ℤ → List ℤ → Bool
sides_pass n lo hi = (list_all (is_point_coord n) lo && list_all (is_point_coord n) hi) && each int_lt lo hi

-- one side passes
abbrev pub side_passes : ℕ → ℤ → ℤ → Bool
side_passes n a b = (is_point_coord n a && is_point_coord n b) && int_lt a b

sides-cons : (n : ℕ) (a b : ℤ) (lo hi : List ℤ) → sides_pass n (a ∷ lo) (b ∷ hi) ≡ (side_passes n a b && sides_pass n lo hi)
unfolding each
sides-cons n a b lo hi =
    ap (λ t. t && (int_lt a b && each int_lt lo hi)) (and_swap (is_point_coord n a) (list_all (is_point_coord n) lo) (is_point_coord n b) (list_all (is_point_coord n) hi))
    ∙ and_swap (is_point_coord n a && is_point_coord n b) (list_all (is_point_coord n) lo && list_all (is_point_coord n) hi) (int_lt a b) (each int_lt lo hi)

-- one side more
pub sides-drop : (n i : ℕ) (lo hi : List ℤ) (d : ℤ) → i < length lo → i < length hi
    → sides_pass n (drop i lo) (drop i hi) ≡ (side_passes n (get_or lo i d) (get_or hi i d) && sides_pass n (drop (i + 1) lo) (drop (i + 1) hi))
sides-drop n i lo hi d l h =
    ap₂ (sides_pass n) (drop_more lo i d l) (drop_more hi i d h) ∙ sides-cons n (get_or lo i d) (get_or hi i d) (drop (i + 1) lo) (drop (i + 1) hi)

abbrev pub no_number : ℤ
no_number = pos 0

pub sides_start : (n : ℕ) (lo hi : List ℤ) → length lo ≡ n → length hi ≡ n → is_box n lo hi ≡ sides_pass n lo hi
unfolding is_point
sides_start n lo hi l h =
    ap₂ (λ s t. (s && list_all (is_point_coord n) lo) && (t && list_all (is_point_coord n) hi) && each int_lt lo hi) (eq-eqb (length lo) n l) (eq-eqb (length hi) n h)

-- a box of which all sides have passed
pub sides_end : (n i : ℕ) (lo hi : List ℤ) → length lo ≤ i → length hi ≤ i → sides_pass n (drop i lo) (drop i hi) ≡ true
unfolding each
sides_end n i lo hi l h = rw (drop_all i lo l, drop_all i hi h)

pub side_good : (n : ℕ) (a b : ℤ) → neg_ℤ (pos (limit n)) ≤ℤ a → a <ℤ b → b ≤ℤ pos (limit n) → side_passes n a b ≡ true
side_good n a b low room high =
    and_both (is_point_coord n a && is_point_coord n b) (int_lt a b)
    (and_both (is_point_coord n a) (is_point_coord n b) (point_yes n a low (omega (arith, ints))) (point_yes n b (omega (arith, ints)) high))
    (lt_yes a b room)

pub side_low : (n : ℕ) (a b : ℤ) → a <ℤ neg_ℤ (pos (limit n)) → side_passes n a b ≡ false
unfolding is_point_coord
side_low n a b h = rw (le_no (neg_ℤ (pos (limit n))) a h) refl

pub side_high : (n : ℕ) (a b : ℤ) → pos (limit n) <ℤ b → side_passes n a b ≡ false
unfolding is_point_coord
side_high n a b h = rw (le_no b (pos (limit n)) h, and-false (int_le (neg_ℤ (pos (limit n))) b), and-false (is_point_coord n a)) refl

pub side_none : (n : ℕ) (a b : ℤ) → b ≤ℤ a → side_passes n a b ≡ false
side_none n a b h = rw (lt_no a b h, and-false (is_point_coord n a && is_point_coord n b)) refl

-- ---- corners

pub flat_of-append : (V W : List (List ℤ)) → flat_of (V ++ W) ≡ flat_of V ++ flat_of W
flat_of-append [] W = refl
flat_of-append (r ∷ V) W = ap (λ zs. r ++ zs) (flat_of-append V W) ∙ sym (append_assoc r (flat_of V) (flat_of W))

-- numbers before a number before each row
front_and : (front : List ℤ) (a : ℤ) (V : List (List ℤ)) → map (λ t. front ++ t) (map (λ t. a ∷ t) V) ≡ map (λ t. (front ++ a ∷ []) ++ t) V
front_and front a [] = refl
front_and front a (r ∷ V) = ap₂ (λ t rs. t ∷ rs) (sym (append_assoc front (a ∷ []) r)) (front_and front a V)

corners-cons : (front : List ℤ) (a b : ℤ) (lo hi : List ℤ)
    → map (λ t. front ++ t) (corners (a ∷ lo) (b ∷ hi)) ≡ map (λ t. (front ++ a ∷ []) ++ t) (corners lo hi) ++ map (λ t. (front ++ b ∷ []) ++ t) (corners lo hi)
unfolding corners
corners-cons front a b lo hi =
    map-append (λ t. front ++ t) (map (λ t. a ∷ t) (corners lo hi)) (map (λ t. b ∷ t) (corners lo hi))
    ∙ ap₂ (λ u v. u ++ v) (front_and front a (corners lo hi)) (front_and front b (corners lo hi))

-- the corners of a box without axes: one, with no numbers
pub corners_none : (out front new lo hi : List ℤ) → length lo ≡ 0 → new ≡ out ++ front → new ≡ out ++ flat_of (map (λ t. front ++ t) (corners lo hi))
unfolding corners
corners_none out front new [] hi e g = g ∙ ap (λ zs. out ++ zs) (sym (append-nil front) ∙ sym (append-nil (front ++ [])))
corners_none out front new (a ∷ lo) hi e g = absurd (omega arith)

-- the corners of a box: those at the low end of the first axis, and those at its high end
pub corners_more : (out one two front low high : List ℤ) (a b : ℤ) (lo hi los his : List ℤ) → lo ≡ a ∷ los → hi ≡ b ∷ his → low ≡ front ++ a ∷ [] → high ≡ front ++ b ∷ []
    → one ≡ out ++ flat_of (map (λ t. low ++ t) (corners los his)) → two ≡ one ++ flat_of (map (λ t. high ++ t) (corners los his))
    → two ≡ out ++ flat_of (map (λ t. front ++ t) (corners lo hi))
corners_more out one two front low high a b lo hi los his l h p q e f =
    let lows = map (λ t. low ++ t) (corners los his) in
    let highs = map (λ t. high ++ t) (corners los his) in
    f ∙ ap (λ zs. zs ++ flat_of highs) e ∙ append_assoc out (flat_of lows) (flat_of highs)
    ∙ ap (λ zs. out ++ zs) (sym (flat_of-append lows highs) ∙ ap₂ (λ (u v : List ℤ). flat_of (map (λ t. u ++ t) (corners los his) ++ map (λ t. v ++ t) (corners los his))) p q
    ∙ ap flat_of (sym (corners-cons front a b los his) ∙ ap₂ (λ u v. map (λ t. front ++ t) (corners u v)) (sym l) (sym h)))

-- a list of m numbers without its last
pub popped : (front old new : List ℤ) (a : ℤ) (m : ℕ) → length old ≡ m → old ≡ front ++ a ∷ [] → new ≡ take (m - 1) old → new ≡ front
popped front old new a m l e f =
    let n : m - 1 ≡ length front = omega (arith, ap length e ∙ length-append front (a ∷ [])) in
    f ∙ ap₂ take n e ∙ take-append_seam front (a ∷ [])

-- a number of 32 bits, cast to its bits and back
pub same32 : (z : ℤ) → SFits w32 z → to_z w32 (of_z w32 z) ≡ z
same32 z fits = to_z-of_z w32 z fits

-- with nothing before them
pub corners_alone : (out front new lo hi : List ℤ) → out ≡ [] → front ≡ [] → new ≡ out ++ flat_of (map (λ t. front ++ t) (corners lo hi)) → new ≡ flat_of (corners lo hi)
corners_alone out front new lo hi o f e = e ∙ ap₂ (λ (u v : List ℤ). u ++ flat_of (map (λ t. v ++ t) (corners lo hi))) o f ∙ ap flat_of (map-id (corners lo hi))

pub box_from : (n : ℕ) (lo hi : List ℤ) → true ≡ is_box n lo hi → IsBox n lo hi
box_from n lo hi e =
    let h : is_box n lo hi ≡ true = sym e in
    let both : (is_point n lo && is_point n hi) ≡ true = and_first (is_point n lo && is_point n hi) (each int_lt lo hi) h in
    record {
      low = and_first (is_point n lo) (is_point n hi) both;
      high = and_second (is_point n lo) (is_point n hi) both;
      room = and_second (is_point n lo && is_point n hi) (each int_lt lo hi) h;
    }

-- the numbers of a box's corners are rows
pub box_rows : (n : ℕ) (flat lo hi : List ℤ) → 0 < n → n ≤ 6 → IsBox n lo hi → flat ≡ flat_of (corners lo hi) → AreRows flat n 0
box_rows n flat lo hi some few h e = rw e (are_rows-flat n (corners lo hi) some few (vertices-corners n lo hi h))

-- and these rows are its vertices
pub box_vertices : (n : ℕ) (flat lo hi : List ℤ) → 0 < n → IsBox n lo hi → flat ≡ flat_of (corners lo hi) → rows_of flat n 0 ≡ evm n (box_cells n lo hi)
box_vertices n flat lo hi some h e =
    rw e (rows_of-flat_of n (corners lo hi) some (wide-points n (corners lo hi) (vertices-corners n lo hi h).points) ∙ corners_are n lo hi h)

-- ---- the limits of coordinates

pub coord_low : (n : ℕ) (x : ℤ) → x <ℤ neg_ℤ (pos (limit n)) → is_point_coord n x ≡ false
unfolding is_point_coord
coord_low n x a = ap (λ t. t && int_le x (pos (limit n))) (le_no (neg_ℤ (pos (limit n))) x a)

pub coord_high : (n : ℕ) (x : ℤ) → pos (limit n) <ℤ x → is_point_coord n x ≡ false
unfolding is_point_coord
coord_high n x a = ap (λ t. int_le (neg_ℤ (pos (limit n))) x && t) (le_no x (pos (limit n)) a) ∙ and-false (int_le (neg_ℤ (pos (limit n))) x)

-- a list is a point of its own dimension if its coordinates are
pub point_coords : (p : List ℤ) → is_point (length p) p ≡ list_all (is_point_coord (length p)) p
unfolding is_point
point_coords p = ap (λ t. t && list_all (is_point_coord (length p)) p) (eq-eqb (length p) (length p) refl)
