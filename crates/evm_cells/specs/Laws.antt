-- The laws of cells and extreme vertices.
use Rattle.std.specs.Prelude.{◌≡◌, ◌≢◌, ◌↔◌, ◌&&◌, ◌||◌, ℕ, suc, ◌+◌, ◌*◌, ◌^◌, ◌<◌, ◌≤◌, Bool, true, not, List, [], ◌∷◌, map, filter, flat_map, length, sum_by, get_or, ℤ, pos, ◌-ℤ◌, ◌+ℤ◌, int_le, count_by, false}
use Rattle.std.specs.List.{list_all}
use Rattle.evm_cells.specs.Places.{ascending, has, without, is_empty}
use Rattle.evm_cells.specs.Limits.{limit, cells_where, points_where, IsCellSet, is_cell, is_point, cell_coords, point_coords}
use Rattle.evm_cells.specs.Booleans.{xor, or_cells, and_cells, sub_cells, xor_cells, xor_all, combine}
use Rattle.evm_cells.specs.Vertices.{around, IsVertexList, evm, cells, odd, below}
use Rattle.evm_cells.specs.Boxes.{IsBox, is_box, box_cells, corners}
use Rattle.evm_cells.specs.Sections.{slice, couplet, rows_at, cuts}
use Rattle.evm_cells.specs.Measures.{content, boundary, neighbours, is_inside, is_outside, is_on_boundary}

-- the extreme vertices of a cell set are a vertex list
abbrev pub VerticesAreEven : Type 0
VerticesAreEven = (n : ℕ) (S : List (List ℤ)) → IsCellSet n S → IsVertexList n (evm n S)

-- the cells of the extreme vertices of a cell set are that cell set
abbrev pub CellsOfVertices : Type 0
CellsOfVertices = (n : ℕ) (S : List (List ℤ)) → IsCellSet n S → cells n (evm n S) ≡ S

-- a vertex list is that of the cells that it stands for
abbrev pub VerticesOfCells : Type 0
VerticesOfCells = (n : ℕ) (V : List (List ℤ)) → IsVertexList n V → evm n (cells n V) ≡ V

-- a vertex list that has an odd number of points below the cells of S, and below no others, is that of S
abbrev pub VerticesAreOne : Type 0
VerticesAreOne = (n : ℕ) (S W : List (List ℤ)) → IsCellSet n S → IsVertexList n W
    → ((c : List ℤ) → is_cell n c ≡ true → odd (count_by (below c) W) ≡ has S c) → W ≡ evm n S

-- the corners of a box are the extreme vertices of its cells
abbrev pub VerticesOfBox : Type 0
VerticesOfBox = (n : ℕ) (lo hi : List ℤ) → IsBox n lo hi → corners lo hi ≡ evm n (box_cells n lo hi)

-- the points that one of two vertex lists has are the vertices of the exclusive or of the cells
abbrev pub VerticesOfXor : Type 0
VerticesOfXor = (n : ℕ) (V W X : List (List ℤ)) → IsVertexList n V → IsVertexList n W → ascending X ≡ true
    → ((p : List ℤ) → has X p ≡ xor (has V p) (has W p)) → X ≡ evm n (xor_cells n (cells n V) (cells n W))

-- the section of the cells of V is that of the points up to its height
abbrev pub SectionOfCells : Type 0
SectionOfCells = (n i : ℕ) (k : ℤ) (V : List (List ℤ)) → IsVertexList (suc n) V → i < suc n
    → slice n i k (cells (suc n) V) ≡ cells n (map (without i) (filter (λ q. int_le (get_or q i (pos 0)) k) V))

-- the vertices of a couplet are those of the whole on its height
abbrev pub VerticesOfCouplet : Type 0
VerticesOfCouplet = (n i : ℕ) (h : ℤ) (S : List (List ℤ)) → IsCellSet (suc n) S → i < suc n → rows_at i h (evm (suc n) S) ≡ evm n (couplet n i h S)

-- the next section is the one before, changed by the couplet between
abbrev pub NextSection : Type 0
NextSection = (n i : ℕ) (h : ℤ) (S : List (List ℤ)) → slice n i h S ≡ xor_cells n (slice n i (h -ℤ pos 1) S) (couplet n i h S)

-- the cuts are the heights at which extreme vertices stand
abbrev pub CutsOfVertices : Type 0
CutsOfVertices = (n i : ℕ) (S : List (List ℤ)) → IsCellSet (suc n) S → i < suc n → cuts n i S ≡ filter (λ h. not (is_empty (rows_at i h (evm (suc n) S)))) (point_coords (suc n))

-- from a to a + m the section does not change where no extreme vertex stands at a height above a up to a + m
abbrev pub SectionStays : Type 0
SectionStays = (n i : ℕ) (a : ℤ) (m : ℕ) (S : List (List ℤ)) → IsCellSet (suc n) S → i < suc n
    → ((j : ℕ) → j < m → rows_at i (a +ℤ pos (suc j)) (evm (suc n) S) ≡ []) → slice n i (a +ℤ pos m) S ≡ slice n i a S

-- the sections of a combination are the combinations of the sections
abbrev pub SectionOfCombination : Type 0
SectionOfCombination = (op : Bool → Bool → Bool) (n i : ℕ) (k : ℤ) (A B : List (List ℤ)) → op false false ≡ false → IsCellSet (suc n) A → IsCellSet (suc n) B
    → slice n i k (combine op (suc n) A B) ≡ combine op n (slice n i k A) (slice n i k B)

-- a list whose rows at each height are the vertices of the couplet there is that of S
abbrev pub VerticesByCouplets : Type 0
VerticesByCouplets = (n : ℕ) (S W : List (List ℤ)) → IsCellSet (suc n) S → ascending W ≡ true → list_all (is_point (suc n)) W ≡ true
    → ((h : ℤ) → rows_at 0 h W ≡ evm n (couplet n 0 h S)) → W ≡ evm (suc n) S

-- a cell set is its sections along the first axis, one above the other
abbrev pub CellsBySections : Type 0
CellsBySections = (n : ℕ) (S : List (List ℤ)) → IsCellSet (suc n) S → S ≡ flat_map (λ k. map (λ c. k ∷ c) (slice n 0 k S)) (cell_coords (suc n))

-- the content is the sum of the contents of the sections
abbrev pub ContentBySections : Type 0
ContentBySections = (n : ℕ) (S : List (List ℤ)) → IsCellSet (suc n) S → length S ≡ sum_by (λ k. length (slice n 0 k S)) (cell_coords (suc n))

-- the boundary content: that of the sections, and the contents of the couplets
abbrev pub BoundaryBySections : Type 0
BoundaryBySections = (n : ℕ) (S : List (List ℤ)) → IsCellSet (suc n) S
    → boundary (suc n) S ≡ sum_by (λ k. boundary n (slice n 0 k S)) (cell_coords (suc n)) + sum_by (λ h. length (couplet n 0 h S)) (point_coords (suc n))

-- round a point stand the filled ones of the cells that touch it
abbrev pub AroundPoint : Type 0
AroundPoint = (S : List (List ℤ)) (p : List ℤ) → ascending S ≡ true → around S p ≡ count_by (has S) (neighbours p)

-- the limit never grows with the dimension, so what loses an axis stays within the limits
abbrev pub LimitFalls : Type 0
LimitFalls = (n : ℕ) → limit (suc n) ≤ limit n

-- the list of the cells that pass a test ascends, and has exactly those
abbrev pub CellsThatPass : Type 0
CellsThatPass = (n : ℕ) (test : List ℤ → Bool) → (ascending (cells_where n test) ≡ true) × ((c : List ℤ) → has (cells_where n test) c ≡ (is_cell n c && test c))

-- the list of the points that pass a test ascends, and has exactly those
abbrev pub PointsThatPass : Type 0
PointsThatPass = (n : ℕ) (test : List ℤ → Bool) → (ascending (points_where n test) ≡ true) × ((p : List ℤ) → has (points_where n test) p ≡ (is_point n p && test p))

-- two lists of places that ascend and have the same places are the same
abbrev pub SameSets : Type 0
SameSets = (S T : List (List ℤ)) → ascending S ≡ true → ascending T ≡ true → ((c : List ℤ) → has S c ≡ has T c) → S ≡ T

-- a couplet is empty exactly where the section does not change
abbrev pub EmptyCouplet : Type 0
EmptyCouplet = (n i : ℕ) (h : ℤ) (S : List (List ℤ)) → (couplet n i h S ≡ []) ↔ (slice n i (h -ℤ pos 1) S ≡ slice n i h S)

-- cell sets of one dimension are equal exactly where their extreme vertices are
abbrev pub EqualVertices : Type 0
EqualVertices = (n : ℕ) (S T : List (List ℤ)) → IsCellSet n S → IsCellSet n T → (evm n S ≡ evm n T) ↔ (S ≡ T)

-- two vertex lists that have the same points at each height of one axis are equal
abbrev pub ListByCouplets : Type 0
ListByCouplets = (n i : ℕ) (V W : List (List ℤ)) → IsVertexList (suc n) V → IsVertexList (suc n) W → i < suc n
    → ((h : ℤ) → rows_at i h V ≡ rows_at i h W) → V ≡ W

-- a section is the cells at its height, without that coordinate
abbrev pub SectionOfHeight : Type 0
SectionOfHeight = (n i : ℕ) (k : ℤ) (S : List (List ℤ)) → IsCellSet (suc n) S → i < suc n → slice n i k S ≡ rows_at i k S

-- a section at any height is the exclusive or of the couplets at the cuts up to that height
abbrev pub SectionByCouplets : Type 0
SectionByCouplets = (n i : ℕ) (k : ℤ) (S : List (List ℤ)) → IsCellSet (suc n) S → i < suc n
    → slice n i k S ≡ xor_all n (map (λ h. couplet n i h S) (filter (λ h. int_le h k) (cuts n i S)))

-- the test of a box says what the record says
abbrev pub BoxTest : Type 0
BoxTest = (n : ℕ) (lo hi : List ℤ) → (is_box n lo hi ≡ true) ↔ IsBox n lo hi

-- a box has its low corner as a cell, so it is not empty
abbrev pub BoxIsNotEmpty : Type 0
BoxIsNotEmpty = (n : ℕ) (lo hi : List ℤ) → IsBox n lo hi → (has (box_cells n lo hi) lo ≡ true) × (box_cells n lo hi ≢ [])

-- to toggle a box changes every cell set
abbrev pub ToggleChanges : Type 0
ToggleChanges = (n : ℕ) (lo hi : List ℤ) (S : List (List ℤ)) → IsBox n lo hi → IsCellSet n S → xor_cells n S (box_cells n lo hi) ≢ S

-- the Booleans give cell sets
abbrev pub BooleansAreCellSets : Type 0
BooleansAreCellSets = (n : ℕ) (A B : List (List ℤ))
    → IsCellSet n (or_cells n A B) × IsCellSet n (and_cells n A B) × IsCellSet n (sub_cells n A B) × IsCellSet n (xor_cells n A B)

-- at each place a Boolean of cell sets has what that Boolean of the two memberships is
abbrev pub BooleansByCells : Type 0
BooleansByCells = (n : ℕ) (A B : List (List ℤ)) (c : List ℤ) → IsCellSet n A → IsCellSet n B
    → (has (or_cells n A B) c ≡ (has A c || has B c)) × (has (and_cells n A B) c ≡ (has A c && has B c))
    × (has (sub_cells n A B) c ≡ (has A c && not (has B c))) × (has (xor_cells n A B) c ≡ xor (has A c) (has B c))

-- the exclusive or with the same list undoes itself
abbrev pub XorUndone : Type 0
XorUndone = (n : ℕ) (A B : List (List ℤ)) → IsCellSet n A → xor_cells n (xor_cells n A B) B ≡ A

-- exactly one of inside, outside and on the boundary holds of a point
abbrev pub OnePlace : Type 0
OnePlace = (n : ℕ) (S : List (List ℤ)) (p : List ℤ) → count_by (λ test. test) (is_inside n S p ∷ is_outside S p ∷ is_on_boundary n S p ∷ []) ≡ 1

-- the content is at most that of all cells
abbrev pub ContentBound : Type 0
ContentBound = (n : ℕ) (S : List (List ℤ)) → IsCellSet n S → content S ≤ (2 * limit n) ^ n

-- the boundary content is at most two faces a cell and axis
abbrev pub BoundaryBound : Type 0
BoundaryBound = (n : ℕ) (S : List (List ℤ)) → boundary n S ≤ 2 * n * content S

-- up to dimension 6 the two measures are within 2 ^ 120, and below 2 ^ 124
abbrev pub MeasuresFit : Type 0
MeasuresFit = (n : ℕ) (S : List (List ℤ)) → n ≤ 6 → IsCellSet n S → (content S ≤ 2 ^ 120) × (boundary n S < 2 ^ 124)
