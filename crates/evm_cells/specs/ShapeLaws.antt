-- The laws of shapes.
use Rattle.std.specs.Prelude.{◌≡◌, ℕ, suc, true, ◌&&◌, ◌||◌, ◌==◌, ◌<◌, ℤ, pos, int_le, int_lt, List, length, map, get_or, count_by, swap}
use Rattle.std.specs.List.{list_any, list_all}
use Rattle.std.specs.Ordering.{int_eq}
use Rattle.evm_cells.specs.Places.{ascending, has, same, without, with_at}
use Rattle.evm_cells.specs.Limits.{cells_where, cell_coords, is_point, is_point_coord, IsCellSet}
use Rattle.evm_cells.specs.Vertices.{odd, evm, cells, IsVertexList}
use Rattle.evm_cells.specs.Sections.{slice}
use Rattle.evm_cells.specs.Shapes.{added, shift, shift_fits, mirror, negated, swap_axes, proj, lift, lift_fits, unfronted, front}

-- a list of places that ascends and has the extreme vertices of S is the list of them
abbrev pub VerticesByPlace : Type 0
VerticesByPlace = (n : ℕ) (S W : List (List ℤ)) → IsCellSet n S → ascending W ≡ true → list_all (λ p. length p == n) W ≡ true
    → ((p : List ℤ) → length p ≡ n → has W p ≡ has (evm n S) p) → W ≡ evm n S

-- a shift in range moves the extreme vertices, and is in range exactly where each moved vertex is a point
abbrev pub VerticesOfShift : Type 0
VerticesOfShift = (n : ℕ) (d : List ℤ) (V : List (List ℤ)) → length d ≡ n → IsVertexList n V → shift_fits n d (cells n V) ≡ true
    → map (added d) V ≡ evm n (shift n d (cells n V))

abbrev pub ShiftInRange : Type 0
ShiftInRange = (n : ℕ) (d : List ℤ) (V : List (List ℤ)) → length d ≡ n → IsVertexList n V → shift_fits n d (cells n V) ≡ list_all (is_point n) (map (added d) V)

-- the extreme vertices of the other shapes, place by place
abbrev pub VerticesOfMirror : Type 0
VerticesOfMirror = (n i : ℕ) (S : List (List ℤ)) (p : List ℤ) → IsCellSet n S → length p ≡ n → has (evm n (mirror n i S)) p ≡ has (evm n S) (negated i p)

abbrev pub VerticesOfSwap : Type 0
VerticesOfSwap = (n i j : ℕ) (S : List (List ℤ)) (p : List ℤ) → i < n → j < n → IsCellSet n S → length p ≡ n → has (evm n (swap_axes n i j S)) p ≡ has (evm n S) (swap p i j)

abbrev pub VerticesOfFront : Type 0
VerticesOfFront = (n i : ℕ) (S : List (List ℤ)) (p : List ℤ) → i < suc n → IsCellSet (suc n) S → length p ≡ suc n → has (evm (suc n) (front (suc n) i S)) p ≡ has (evm (suc n) S) (unfronted i p)

abbrev pub VerticesOfSlice : Type 0
VerticesOfSlice = (n i : ℕ) (k : ℤ) (V : List (List ℤ)) (p : List ℤ) → i < suc n → IsVertexList (suc n) V → length p ≡ n
    → has (evm n (slice n i k (cells (suc n) V))) p ≡ odd (count_by (λ q. int_le (get_or q i (pos 0)) k && same (without i q) p) V)

abbrev pub VerticesOfLift : Type 0
VerticesOfLift = (n i : ℕ) (lo hi : ℤ) (S : List (List ℤ)) (p : List ℤ) → i < suc n → IsCellSet n S → length p ≡ suc n → int_lt lo hi ≡ true → lift_fits (suc n) i lo hi S ≡ true
    → has (evm (suc n) (lift (suc n) i lo hi S)) p ≡ ((int_eq lo (get_or p i (pos 0)) || int_eq hi (get_or p i (pos 0))) && has (evm n S) (without i p))

-- a lift is in range exactly where each vertex, with the lower end put in, is a point
abbrev pub LiftInRange : Type 0
LiftInRange = (n i : ℕ) (lo hi : ℤ) (V : List (List ℤ)) → i < suc n → IsVertexList n V → is_point_coord (suc n) lo ≡ true → is_point_coord (suc n) hi ≡ true
    → int_lt lo hi ≡ true → lift_fits (suc n) i lo hi (cells n V) ≡ list_all (is_point (suc n)) (map (with_at i lo) V)

-- the projection is the union of the sections, and the same along an axis that is put first
abbrev pub ProjectionOfSections : Type 0
ProjectionOfSections = (n i : ℕ) (S : List (List ℤ)) → i < suc n → IsCellSet (suc n) S → proj n i S ≡ cells_where n (λ c. list_any (λ k. has (slice n i k S) c) (cell_coords (suc n)))

abbrev pub ProjectionOfFront : Type 0
ProjectionOfFront = (n i : ℕ) (S : List (List ℤ)) → i < suc n → IsCellSet (suc n) S → proj n i S ≡ proj n 0 (front (suc n) i S)
