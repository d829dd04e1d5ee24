-- The corners of faces in space.
use Rattle.std.proofs.Common.{◌≡◌, ℕ, zero, suc, ◌<◌, Bool, true, false, ◌&&◌, List, [], ◌∷◌, map, length, get_or, ℤ, refl, sym, ap, subst, ◌∙◌, arith}
use Rattle.std.specs.List.{All, list_all, flat_map}
use Rattle.std.proofs.lemmas.Grind.{flat_map-append}
use Rattle.std.proofs.lemmas.List.Elements.{All-head, All-tail, All-get_or}
use Rattle.evm_cells.specs.Places.{with_at}
use Rattle.evm_cells.specs.Limits.{is_point, is_point_coord, limit}
use Rattle.evm_cells.specs.Boxes.{IsBox}
use Rattle.evm_cells.specs.Unions.{Ends}
use Rattle.evm_cells.proofs.Universe.{point_parts, point_from}
use Rattle.evm_cells.proofs.Xor.{and_first, and_second, and_both}
use Rattle.evm_cells.proofs.Lists.{all-append}
use Rattle.evm_formats.specs.ObjText.{face_corners, goes_forward, rectangle}
use Rattle.evm_mesh.specs.declared.sheets.Sheet.{Sheet}
use Rattle.evm_mesh.specs.Sheets.{IsSheet, face_of, faces_of_sheet, faces_in, side_of}

coord_two : (x : ℤ) → is_point_coord 2 x ≡ is_point_coord 3 x
unfolding is_point_coord limit
coord_two x = refl

three : (x y z : ℤ) → is_point_coord 3 x ≡ true → is_point_coord 3 y ≡ true → is_point_coord 3 z ≡ true → is_point 3 (x ∷ y ∷ z ∷ []) ≡ true
three x y z a b c =
    let t = is_point_coord 3 in
    point_from 3 (x ∷ y ∷ z ∷ []) refl (and_both (t x) (t y && (t z && true)) a (and_both (t y) (t z && true) b (and_both (t z) true c refl)))

corner_point : (i : ℕ) (h x y : ℤ) → i < 3 → is_point_coord 3 h ≡ true → is_point_coord 3 x ≡ true → is_point_coord 3 y ≡ true → is_point 3 (with_at i h (x ∷ y ∷ [])) ≡ true
unfolding with_at
corner_point zero h x y l a b c = three h x y a b c
corner_point (suc zero) h x y l a b c = three x h y b a c
corner_point (suc (suc zero)) h x y l a b c = three x y h b c a
corner_point (suc (suc (suc i))) h x y l a b c = absurd (omega arith)

four : {X : Type 0} (t : X → Bool) (p q r s : X) → t p ≡ true → t q ≡ true → t r ≡ true → t s ≡ true → list_all t (p ∷ q ∷ r ∷ s ∷ []) ≡ true
four t p q r s a b c d = and_both (t p) (t q && (t r && (t s && true))) a (and_both (t q) (t r && (t s && true)) b (and_both (t r) (t s && true) c (and_both (t s) true d refl)))

rectangle_points : (way : Bool) (i : ℕ) (h a b c d : ℤ) → i < 3 → is_point_coord 3 h ≡ true → is_point_coord 3 a ≡ true → is_point_coord 3 b ≡ true → is_point_coord 3 c ≡ true → is_point_coord 3 d ≡ true
    → list_all (is_point 3) (map (with_at i h) (rectangle way (a ∷ b ∷ []) (c ∷ d ∷ []))) ≡ true
rectangle_points true i h a b c d l e p q r s =
    four (is_point 3) (with_at i h (a ∷ b ∷ [])) (with_at i h (c ∷ b ∷ [])) (with_at i h (c ∷ d ∷ [])) (with_at i h (a ∷ d ∷ []))
    (corner_point i h a b l e p q) (corner_point i h c b l e r q) (corner_point i h c d l e r s) (corner_point i h a d l e p s)
rectangle_points false i h a b c d l e p q r s =
    four (is_point 3) (with_at i h (a ∷ b ∷ [])) (with_at i h (a ∷ d ∷ [])) (with_at i h (c ∷ d ∷ [])) (with_at i h (c ∷ b ∷ []))
    (corner_point i h a b l e p q) (corner_point i h a d l e p s) (corner_point i h c d l e r s) (corner_point i h c b l e r q)

-- a point of the plane has two numbers
two : (lo hi : List ℤ) (P : List ℤ → List ℤ → Type 0) → is_point 2 lo ≡ true → is_point 2 hi ≡ true
    → ((a b c d : ℤ) → is_point_coord 3 a ≡ true → is_point_coord 3 b ≡ true → is_point_coord 3 c ≡ true → is_point_coord 3 d ≡ true → P (a ∷ b ∷ []) (c ∷ d ∷ [])) → P lo hi
two lo hi P u v f = at lo hi (point_parts 2 lo u).0 (point_parts 2 hi v).0 (point_parts 2 lo u).1 (point_parts 2 hi v).1
  where
    one : (x y : ℤ) → list_all (is_point_coord 2) (x ∷ y ∷ []) ≡ true → (is_point_coord 3 x ≡ true) × (is_point_coord 3 y ≡ true)
    one x y h =
        let t = is_point_coord 2 in
        (sym (coord_two x) ∙ and_first (t x) (t y && true) h, sym (coord_two y) ∙ and_first (t y) true (and_second (t x) (t y && true) h))

    at : (lo hi : List ℤ) → length lo ≡ 2 → length hi ≡ 2 → list_all (is_point_coord 2) lo ≡ true → list_all (is_point_coord 2) hi ≡ true → P lo hi
    at [] hi e g a b = absurd (omega arith)
    at (x ∷ []) hi e g a b = absurd (omega arith)
    at (x ∷ y ∷ z ∷ lo) hi e g a b = absurd (omega arith)
    at (x ∷ y ∷ []) [] e g a b = absurd (omega arith)
    at (x ∷ y ∷ []) (z ∷ []) e g a b = absurd (omega arith)
    at (x ∷ y ∷ []) (z ∷ w ∷ v ∷ hi) e g a b = absurd (omega arith)
    at (x ∷ y ∷ []) (z ∷ w ∷ []) e g a b = let p = one x y a in let q = one z w b in f x y z w p.0 p.1 q.0 q.1

box_points : (s : Sheet) (b : Ends) → IsSheet 3 s → IsBox 2 b.lo b.hi → list_all (is_point 3) (face_corners (face_of s b)) ≡ true
box_points s b is box =
    two b.lo b.hi (λ lo hi. list_all (is_point 3) (map (with_at s.axis s.at) (rectangle (goes_forward s.axis (side_of s.side)) lo hi)) ≡ true) box.low box.high
    (λ p q u v a c d e. rectangle_points (goes_forward s.axis (side_of s.side)) s.axis s.at p q u v is.axis is.height a c d e)

boxes_points : (s : Sheet) (bs : List Ends) → IsSheet 3 s → All (λ b. IsBox 2 b.lo b.hi) bs → list_all (is_point 3) (flat_map face_corners (map (face_of s) bs)) ≡ true
boxes_points s [] is all = refl
boxes_points s (b ∷ bs) is all =
    all-append (is_point 3) (face_corners (face_of s b)) (flat_map face_corners (map (face_of s) bs))
    ∙ and_both (list_all (is_point 3) (face_corners (face_of s b))) (list_all (is_point 3) (flat_map face_corners (map (face_of s) bs)))
    (box_points s b is (All-head (λ b. IsBox 2 b.lo b.hi) b bs all)) (boxes_points s bs is (All-tail (λ b. IsBox 2 b.lo b.hi) b bs all))

-- all corners are points
pub corners_are_points : (xs : List Sheet) → All (IsSheet 3) xs → list_all (is_point 3) (flat_map face_corners (faces_in xs)) ≡ true
corners_are_points [] all = refl
corners_are_points (s ∷ xs) all =
    let is = All-head (IsSheet 3) s xs all in
    ap (list_all (is_point 3)) (flat_map-append face_corners (faces_of_sheet s) (faces_in xs))
    ∙ all-append (is_point 3) (flat_map face_corners (faces_of_sheet s)) (flat_map face_corners (faces_in xs))
    ∙ and_both (list_all (is_point 3) (flat_map face_corners (faces_of_sheet s))) (list_all (is_point 3) (flat_map face_corners (faces_in xs)))
    (boxes_points s s.boxes.boxes is is.boxes) (corners_are_points xs (All-tail (IsSheet 3) s xs all))

-- a box of a sheet in space has two numbers at each corner
pub two_numbers : (s : Sheet) (i : ℕ) (lo hi : List ℤ) → IsSheet 3 s → i < length s.boxes.boxes → ((d : Ends) → get_or s.boxes.boxes i d ≡ record { lo = lo; hi = hi }) → (length lo ≡ 2) × (length hi ≡ 2)
two_numbers s i lo hi is l e =
    let d : Ends = record { lo = lo; hi = hi } in
    let box : IsBox 2 lo hi = subst (λ (b : Ends). IsBox 2 b.lo b.hi) (e d) (All-get_or (λ (b : Ends). IsBox 2 b.lo b.hi) s.boxes.boxes i d l is.boxes) in
    ((point_parts 2 lo box.low).0, (point_parts 2 hi box.high).0)
