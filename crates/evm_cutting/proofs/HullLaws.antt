-- A box round the rows of a change holds its cells.
use Rattle.std.proofs.Common.{◌≡◌, ℕ, zero, suc, ◌<◌, ◌≤◌, ◌<ℤ◌, ◌≤ℤ◌, Bool, true, false, cond, ◌&&◌, List, [], ◌∷◌, length, take, ℤ, int_le, int_lt, refl, sym, ap, ap₂, ◌∙◌, arith}
use Rattle.std.specs.List.{list_all}
use Rattle.std.proofs.lemmas.Bool.{false≢true}
use Rattle.std.proofs.lemmas.Int.{ints as int_facts}
use Rattle.evm_cells.specs.Places.{each, has}
use Rattle.evm_cells.specs.Limits.{is_point, is_point_coord, is_cell, IsCellSet}
use Rattle.evm_cells.specs.Boxes.{is_box}
use Rattle.evm_cells.specs.Shapes.{clip}
use Rattle.evm_cells.specs.Vertices.{evm, cells, IsVertexList}
use Rattle.evm_cells.specs.Windows.{is_under, is_over}
use Rattle.evm_cells.proofs.Xor.{and_first, and_second, and_both, and-true}
use Rattle.evm_cells.proofs.Coords.{le_is, le_yes, lt_is, lt_yes}
use Rattle.evm_cells.proofs.Universe.{point_parts, point_from, cell_parts, member_passes, cell_set-cells}
use Rattle.evm_cells.proofs.Core.{evm-cells}
use Rattle.evm_cells.proofs.Insides.{has-clip_of}
use Rattle.evm_cells.proofs.Layers.{evm-empty, cells-empty}
use Rattle.evm_cells.proofs.Slices.{coord, all-coord}
use Rattle.evm_cells.proofs.Sides.{rows_under, rows_over}
use Rattle.evm_rows.specs.Rows.{Vertices, cells_of}
use Rattle.evm_cutting.proofs.Planes.{long}
use Rattle.evm_cutting.specs.Hulls.{IsAround, AgreesOn}

-- ---- lists, coordinate by coordinate

pub each_at : (r : ℤ → ℤ → Bool) (p c : List ℤ) → length p ≡ length c → ((i : ℕ) → i < length c → r (coord i p) (coord i c) ≡ true) → each r p c ≡ true
unfolding each
each_at r [] [] e h = refl
each_at r [] (z ∷ c) e h = absurd (omega arith)
each_at r (x ∷ p) [] e h = absurd (omega arith)
each_at r (x ∷ p) (z ∷ c) e h = and_both (r x z) (each r p c) (h 0 (omega arith)) (each_at r p c (omega arith) (λ i l. h (suc i) (omega arith)))

pub all_at : (t : ℤ → Bool) (p : List ℤ) → ((i : ℕ) → i < length p → t (coord i p) ≡ true) → list_all t p ≡ true
all_at t [] h = refl
all_at t (x ∷ p) h = and_both (t x) (list_all t p) (h 0 (omega arith)) (all_at t p (λ i l. h (suc i) (omega arith)))

pub coord-take : (n i : ℕ) (xs : List ℤ) → i < n → coord i (take n xs) ≡ coord i xs
coord-take zero i xs l = absurd (omega arith)
coord-take (suc n) i [] l = refl
coord-take (suc n) zero (x ∷ xs) l = refl
coord-take (suc n) (suc i) (x ∷ xs) l = coord-take n i xs (omega arith)

-- ---- the box

-- a cell of the change is in the box
pub is_inside : (n : ℕ) (lo hi : List ℤ) (v : Vertices) (c : List ℤ) → v.dim ≡ n → n ≤ length lo → n ≤ length hi → IsVertexList n v.rows → IsAround n lo hi v → has (cells n v.rows) c ≡ true
    → (is_cell n c && (each int_le (take n lo) c && each int_lt c (take n hi))) ≡ true
is_inside n lo hi v c d ll lh w a m =
    let k : IsCellSet n (cells n v.rows) = cell_set-cells n v.rows in
    let p : is_cell n c ≡ true = member_passes (is_cell n) (cells n v.rows) c k.cells m in
    let (e, q) = cell_parts n c p in
    and_both (is_cell n c) (each int_le (take n lo) c && each int_lt c (take n hi)) p
    (and_both (each int_le (take n lo) c) (each int_lt c (take n hi))
    (each_at int_le (take n lo) c (long n lo ll ∙ sym e)
    (λ i l. let j : i < n = omega arith in
    let b = a.low i j in
    ap (λ x. int_le x (coord i c)) (coord-take n i lo j)
    ∙ member_passes (is_over i (coord i lo)) (cells n v.rows) c (rows_over n i (coord i lo) v.rows j w b.rows) m))
    (each_at int_lt c (take n hi) (e ∙ sym (long n hi lh))
    (λ i l. let j : i < n = omega (arith, long n hi lh) in
    let b = a.high i j in
    ap (int_lt (coord i c)) (coord-take n i hi j)
    ∙ member_passes (is_under i (coord i hi)) (cells n v.rows) c (rows_under n i (coord i hi) v.rows j w b.rows) m)))

-- rows show a cell
some_cell : (n : ℕ) (V : List (List ℤ)) → IsVertexList n V → (V ≡ [] → ⊥) → (c : List ℤ) × ((t : List ℤ → Bool) → list_all t (cells n V) ≡ true → t c ≡ true)
some_cell n V w some = found (cells n V) refl
  where
    found : (S : List (List ℤ)) → cells n V ≡ S → (c : List ℤ) × ((t : List ℤ → Bool) → list_all t (cells n V) ≡ true → t c ≡ true)
    found [] e = absurd (some (sym (evm-cells n V w) ∙ ap (evm n) e ∙ evm-empty n))
    found (c ∷ S) e = (c, λ t h. and_first (t c) (list_all t S) (sym (ap (list_all t) e) ∙ h))

-- so it is a box
pub is_hull : (n : ℕ) (lo hi : List ℤ) (v : Vertices) → v.dim ≡ n → n ≤ length lo → n ≤ length hi → IsVertexList n v.rows → (v.rows ≡ [] → ⊥) → IsAround n lo hi v → is_box n (take n lo) (take n hi) ≡ true
is_hull n lo hi v d ll lh w some a =
    let (c, passes) = some_cell n v.rows w some in
    let l : length (take n lo) ≡ n = long n lo ll in
    let h : length (take n hi) ≡ n = long n hi lh in
    let point : ℤ → Bool = is_point_coord n in
    and_both (is_point n (take n lo) && is_point n (take n hi)) (each int_lt (take n lo) (take n hi))
    (and_both (is_point n (take n lo)) (is_point n (take n hi))
    (point_from n (take n lo) l (all_at point (take n lo)
    (λ i k. let j : i < n = omega arith in
    let b = a.low i j in
    ap point (coord-take n i lo j) ∙ ap (λ m. is_point_coord m (coord i lo)) (sym d) ∙ b.point)))
    (point_from n (take n hi) h (all_at point (take n hi)
    (λ i k. let j : i < n = omega arith in
    let b = a.high i j in
    ap point (coord-take n i hi j) ∙ ap (λ m. is_point_coord m (coord i hi)) (sym d) ∙ b.point))))
    (each_at int_lt (take n lo) (take n hi) (l ∙ sym h)
    (λ i k. let j : i < n = omega arith in
    let b = a.low i j in
    let t = a.high i j in
    let low : coord i lo ≤ℤ coord i c = le_is (coord i lo) (coord i c) (passes (is_over i (coord i lo)) (rows_over n i (coord i lo) v.rows j w b.rows)) in
    let high : coord i c <ℤ coord i hi = lt_is (coord i c) (coord i hi) (passes (is_under i (coord i hi)) (rows_under n i (coord i hi) v.rows j w t.rows)) in
    ap₂ int_lt (coord-take n i lo j) (coord-take n i hi j) ∙ lt_yes (coord i lo) (coord i hi) (omega (arith, int_facts))))

-- ---- what a solid has in the box

pub of_dim : (n : ℕ) (v : Vertices) (c : List ℤ) → v.dim ≡ n → has (cells_of v) c ≡ has (cells n v.rows) c
of_dim n v c e = ap (λ (m : ℕ). has (cells m v.rows) c) e

-- a part of a solid, cut out by a box that holds the cells of d
pub part_agrees : (n : ℕ) (lo hi : List ℤ) (d t s : Vertices) → d.dim ≡ n → t.dim ≡ n → cells_of s ≡ clip n lo hi (cells n t.rows)
    → ((c : List ℤ) → has (cells n d.rows) c ≡ true → (is_cell n c && (each int_le lo c && each int_lt c hi)) ≡ true) → AgreesOn d t s
part_agrees n lo hi d t s ed et e inside c m =
    ap (λ S. has S c) e ∙ has-clip_of n lo hi (cells n t.rows) c (cell_set-cells n t.rows)
    ∙ ap (λ w. has (cells n t.rows) c && w) (inside c (sym (of_dim n d c ed) ∙ m))
    ∙ and-true (has (cells n t.rows) c) ∙ sym (of_dim n t c et)

-- what a solid has in the box agrees with it on the change
pub hull_agrees : (n : ℕ) (lo hi : List ℤ) (d t s : Vertices) → d.dim ≡ n → t.dim ≡ n → n ≤ length lo → n ≤ length hi → IsVertexList n d.rows → IsAround n lo hi d
    → cells_of s ≡ clip n (take n lo) (take n hi) (cells n t.rows) → AgreesOn d t s
hull_agrees n lo hi d t s ed et ll lh w a e =
    part_agrees n (take n lo) (take n hi) d t s ed et e (λ c m. is_inside n lo hi d c ed ll lh w a m)

-- near nothing all agree
pub none_agrees : (d t s : Vertices) → length d.rows ≡ 0 → AgreesOn d t s
unfolding has
none_agrees d t s e c m = absurd (false≢true (sym (ap (λ (S : List (List ℤ)). has S c) (ap (cells d.dim) (none d.rows e) ∙ cells-empty d.dim)) ∙ m))
  where
    none : (xs : List (List ℤ)) → length xs ≡ 0 → xs ≡ []
    none [] e = refl
    none (x ∷ xs) e = absurd (omega (arith, e))

-- ---- steps of the loops

-- where no row of those left is below a coordinate up to x, none of all is
abbrev pub LowOnward : ℕ → ℤ → List (List ℤ) → List (List ℤ) → Type 0
LowOnward i x R A = (z : ℤ) → z ≤ℤ x → list_all (λ q. int_le z (coord i q)) R ≡ true → list_all (λ q. int_le z (coord i q)) A ≡ true

-- the same above
abbrev pub HighOnward : ℕ → ℤ → List (List ℤ) → List (List ℤ) → Type 0
HighOnward i x R A = (z : ℤ) → x ≤ℤ z → list_all (λ q. int_le (coord i q) z) R ≡ true → list_all (λ q. int_le (coord i q) z) A ≡ true

pub low_start : (i : ℕ) (x : ℤ) (R : List (List ℤ)) → LowOnward i x R R
low_start i x R z l h = h

pub high_start : (i : ℕ) (x : ℤ) (R : List (List ℤ)) → HighOnward i x R R
high_start i x R z l h = h

pub low_step : (i : ℕ) (x y : ℤ) (R A T : List (List ℤ)) (q : List ℤ) → R ≡ q ∷ T → y ≤ℤ x → y ≤ℤ coord i q → LowOnward i x R A → LowOnward i y T A
low_step i x y R A T q e a b f z l h =
    f z (omega (arith, int_facts)) (ap (list_all (λ p. int_le z (coord i p))) e ∙ and_both (int_le z (coord i q)) (list_all (λ p. int_le z (coord i p)) T) (le_yes z (coord i q) (omega (arith, int_facts))) h)

pub high_step : (i : ℕ) (x y : ℤ) (R A T : List (List ℤ)) (q : List ℤ) → R ≡ q ∷ T → x ≤ℤ y → coord i q ≤ℤ y → HighOnward i x R A → HighOnward i y T A
high_step i x y R A T q e a b f z l h =
    f z (omega (arith, int_facts)) (ap (list_all (λ p. int_le (coord i p) z)) e ∙ and_both (int_le (coord i q) z) (list_all (λ p. int_le (coord i p) z) T) (le_yes (coord i q) z (omega (arith, int_facts))) h)

pub low_end : (i : ℕ) (x : ℤ) (R A : List (List ℤ)) → R ≡ [] → LowOnward i x R A → list_all (λ q. int_le x (coord i q)) A ≡ true
low_end i x R A e f = f x (omega (arith, int_facts)) (ap (list_all (λ q. int_le x (coord i q))) e)

pub high_end : (i : ℕ) (x : ℤ) (R A : List (List ℤ)) → R ≡ [] → HighOnward i x R A → list_all (λ q. int_le (coord i q) x) A ≡ true
high_end i x R A e f = f x (omega (arith, int_facts)) (ap (list_all (λ q. int_le (coord i q) x)) e)

pub first_point : (n : ℕ) (R T : List (List ℤ)) (q : List ℤ) → R ≡ q ∷ T → list_all (is_point n) R ≡ true → (is_point n q ≡ true) × (list_all (is_point n) T ≡ true)
first_point n R T q e h =
    let g : (is_point n q && list_all (is_point n) T) ≡ true = sym (ap (list_all (is_point n)) e) ∙ h in
    (and_first (is_point n q) (list_all (is_point n) T) g, and_second (is_point n q) (list_all (is_point n) T) g)

-- the least and the largest of two coordinates is one of them
pub either_point : (n : ℕ) (t : Bool) (x y : ℤ) → is_point_coord n x ≡ true → is_point_coord n y ≡ true → is_point_coord n (cond t x y) ≡ true
either_point n true x y a b = a
either_point n false x y a b = b

pub row_point : (n i : ℕ) (q : List ℤ) → i < n → is_point n q ≡ true → is_point_coord n (coord i q) ≡ true
row_point n i q l h = let (e, b) = point_parts n q h in all-coord (is_point_coord n) i q (omega arith) b
