-- The EVM file: what its bytes state (this project's own format). Version 2 is written, and both versions are read.
use Rattle.std.specs.Prelude.{◌≡◌, ◌≢◌, ℕ, ◌<◌, ◌≤◌, ◌^◌, ◌==◌, true, if◌then◌else◌, ◌↔◌, ◌⊎◌, Option, Some, None, List, [], ◌∷◌, ◌++◌, flat_map, length, take, drop, slice_index, ℤ}
use Rattle.std.specs.List.{list_all}
use Rattle.byteorder.specs.Endian.{big_number}
use Rattle.evm_cells.specs.Limits.{is_point, IsCellSet}
use Rattle.evm_cells.specs.Boxes.{box_cells}
use Rattle.evm_cells.specs.Examples.{plane}
use Rattle.evm_rows.specs.Rows.{Vertices, IsSolid, cells_of}
use Rattle.evm_rows.specs.Check.{IsRefusal}
use Rattle.evm_rows.specs.declared.check.RowError.{RowError}
use Rattle.evm_rows.specs.declared.check.RowError.TheVariants as rows
use Rattle.evm_formats.specs.declared.file.FileError.{FileError}
use Rattle.evm_formats.specs.declared.file.FileError.TheVariants.{Head, Length, Range, Order, Odd, Empty, NoMemory}
use Rattle.evm_formats.specs.FirstFile.{first_file_bytes, first_file_of_cells, IsFirst, HasLength, listed_rows, stated_dim, Lists}
use Rattle.evm_formats.specs.Nested.{body, Reading, whole_body}

-- ---- what is written

-- the first eight bytes: the letters NEVM, the version 2, the dimension, and two zeros
abbrev pub head_bytes : ℕ → List ℕ
head_bytes dim = 78 ∷ 69 ∷ 86 ∷ 77 ∷ 2 ∷ dim ∷ 0 ∷ 0 ∷ []

-- the file of a cell set: head and body
unfoldable pub file_of_cells : ℕ → List (List ℤ) → List ℕ
file_of_cells n S = head_bytes n ++ body n S

-- the file of extreme vertices: that of their cells
abbrev pub file_bytes : Vertices → List ℕ
file_bytes v = file_of_cells v.dim (cells_of v)

-- ---- what bytes state

-- the bytes begin with a header of version 2: eight bytes, of dimension 1 to 6
pub record IsSecond (bytes : List ℕ) : Type 0 where
  pub long : 8 ≤ length bytes
  pub magic : take 4 bytes ≡ 78 ∷ 69 ∷ 86 ∷ 77 ∷ []
  pub version : slice_index bytes 4 ≡ 2
  pub some : 1 ≤ slice_index bytes 5
  pub few : slice_index bytes 5 ≤ 6
  pub six : slice_index bytes 6 ≡ 0
  pub seven : slice_index bytes 7 ≡ 0

-- the bytes begin with a header of either version
abbrev pub IsHeaded : List ℕ → Type 0
IsHeaded bytes = IsFirst bytes ⊎ IsSecond bytes

-- what the bytes after a header of version 2 state, or None where they are not exactly one body
abbrev pub reading : List ℕ → Option Reading
reading bytes = whole_body (stated_dim bytes) (drop 8 bytes)

-- the outermost count, which alone may be 0
abbrev pub outer_count : List ℕ → ℕ
outer_count bytes = big_number 4 (drop 8 bytes)

-- no count but the outermost is 0
abbrev pub IsFilled : ℕ → Reading → Type 0
IsFilled outer s = (outer ≡ 0) ⊎ (s.gap ≡ None)

-- e is the first refusal of bytes with a header of version 1, after that header
abbrev pub ListedRefusal : List ℕ → FileError → Type 0
ListedRefusal bytes Length = ¬ HasLength bytes
ListedRefusal bytes (Range k) = HasLength bytes × IsRefusal (stated_dim bytes) (listed_rows bytes) (rows.Range k)
ListedRefusal bytes (Order k) = HasLength bytes × IsRefusal (stated_dim bytes) (listed_rows bytes) (rows.Order k)
ListedRefusal bytes (Odd a) = HasLength bytes × IsRefusal (stated_dim bytes) (listed_rows bytes) (rows.Odd a)
ListedRefusal bytes e = ⊥

-- e is the first refusal of what is read in dimension n; the row of a count of 0 is the number of rows before it, and that of a
-- number that is not greater than the one before it in its body is the first row that it leads to
abbrev pub RefusesReading : ℕ → ℕ → Reading → FileError → Type 0
RefusesReading n outer s (Empty k) = (0 < outer) × (s.gap ≡ Some k)
RefusesReading n outer s (Range k) = IsFilled outer s × IsRefusal n s.rows (rows.Range k)
RefusesReading n outer s (Order k) = IsFilled outer s × (list_all (is_point n) s.rows ≡ true) × (s.fall ≡ Some k)
RefusesReading n outer s (Odd a) = IsFilled outer s × (s.fall ≡ None) × IsRefusal n s.rows (rows.Odd a)
RefusesReading n outer s e = ⊥

-- the same of what may have been read
abbrev pub RefusesBody : ℕ → ℕ → Option Reading → FileError → Type 0
RefusesBody n outer (Some s) e = RefusesReading n outer s e
RefusesBody n outer None Length = Unit {0}
RefusesBody n outer None e = ⊥

-- e is the first refusal of bytes with a header of version 2, after that header
abbrev pub NestedRefusal : List ℕ → FileError → Type 0
NestedRefusal bytes e = RefusesBody (stated_dim bytes) (outer_count bytes) (reading bytes) e

-- e is the first refusal of the bytes (this project's own order of tests)
abbrev pub IsFileRefusal : List ℕ → FileError → Type 0
IsFileRefusal bytes Head = ¬ IsHeaded bytes
IsFileRefusal bytes e = (IsFirst bytes × ListedRefusal bytes e) ⊎ (IsSecond bytes × NestedRefusal bytes e)

-- the refusal of a file for a refusal of its rows
abbrev pub of_row : RowError → FileError
of_row (rows.Range k) = Range k
of_row (rows.Order k) = Order k
of_row (rows.Odd a) = Odd a
of_row rows.NoMemory = NoMemory

-- the bytes have a header of version 2 and one whole body, in which each height and coordinate is greater than the one before it and
-- no count but the outermost is 0, and state these extreme vertices
pub record Nests (bytes : List ℕ) (v : Vertices) : Type 0 where
  pub second : IsSecond bytes
  pub seen : Reading
  pub read : reading bytes ≡ Some seen
  pub filled : IsFilled (outer_count bytes) seen
  pub rises : seen.fall ≡ None
  pub dim : stated_dim bytes ≡ v.dim
  pub rows : seen.rows ≡ v.rows

-- the rows of what was read
abbrev pub rows_in : Option Reading → List (List ℤ)
rows_in None = []
rows_in (Some s) = s.rows

-- the rows that bytes of either version state
abbrev pub stated_rows : List ℕ → List (List ℤ)
stated_rows bytes = if slice_index bytes 4 == 1 then listed_rows bytes else rows_in (reading bytes)

-- n is a dimension of solids, and S is a cell set of it
pub record IsSolidCells (n : ℕ) (S : List (List ℤ)) : Type 0 where
  pub low : 0 < n
  pub high : n ≤ 6
  pub cells : IsCellSet n S

-- the bytes are a file of extreme vertices, of either version
abbrev pub IsFileOf : List ℕ → Vertices → Type 0
IsFileOf bytes v = (bytes ≡ file_bytes v) ⊎ (bytes ≡ first_file_bytes v)

-- the bytes are a file of a cell set, of either version
abbrev pub IsFileOfCells : List ℕ → ℕ → List (List ℤ) → Type 0
IsFileOfCells bytes n S = (bytes ≡ file_of_cells n S) ⊎ (bytes ≡ first_file_of_cells n S)

-- ---- laws

-- two solids have equal files exactly if they have one dimension and the same cells; `file` writes one version
abbrev pub TellsSolids : (Vertices → List ℕ) → Type 0
TellsSolids file = (v w : Vertices) → IsSolid v → IsSolid w
    → (file v ≡ file w) ↔ ((v.dim ≡ w.dim) × (cells_of v ≡ cells_of w))

-- two cell sets have equal files exactly if they are equal and of one dimension
abbrev pub TellsCells : (ℕ → List (List ℤ) → List ℕ) → Type 0
TellsCells file = (n m : ℕ) (S T : List (List ℤ)) → IsSolidCells n S → IsSolidCells m T
    → (file n S ≡ file m T) ↔ ((n ≡ m) × (S ≡ T))

-- no file of one version is one of the other
abbrev pub VersionsDiffer : Type 0
VersionsDiffer = (v w : Vertices) → file_bytes v ≢ first_file_bytes w

-- fewer than 2 ^ 64 numbers below 256
pub record AreBytes (bytes : List ℕ) : Type 0 where
  pub small : (i : ℕ) → slice_index bytes i < 256
  pub few : length bytes < 2 ^ 64

-- bytes are the file of a solid, of version 2 or of version 1, exactly if they state that solid in it
abbrev pub FilesByStatement : Type 0
FilesByStatement = (bytes : List ℕ) (v : Vertices) → AreBytes bytes → IsSolid v
    → ((bytes ≡ file_bytes v) ↔ Nests bytes v) × ((bytes ≡ first_file_bytes v) ↔ Lists bytes v)

-- bytes have at most one first refusal
abbrev pub OneFileRefusal : Type 0
OneFileRefusal = (bytes : List ℕ) (e f : FileError) → IsFileRefusal bytes e → IsFileRefusal bytes f → e ≡ f

-- the files of a solid have none
abbrev pub FilesAreNotRefused : Type 0
FilesAreNotRefused = (bytes : List ℕ) (v : Vertices) (e : FileError) → IsSolid v → IsFileOf bytes v → length bytes < 2 ^ 64
    → ¬ IsFileRefusal bytes e

-- ---- worked files

-- the fields of small numbers that are not negative
abbrev pub small_fields : List ℕ → List ℕ
small_fields = flat_map (λ x. 0 ∷ 0 ∷ 0 ∷ x ∷ [])

-- the box from (0, 0) to (2, 3)
abbrev pub six_cells : List (List ℤ)
six_cells = box_cells 2 (plane 0 0) (plane 2 3)

-- its file: a header of dimension 2, two couplets, and each with its height and its two coordinates
abbrev pub FileOfSix : Type 0
FileOfSix = file_of_cells 2 six_cells
    ≡ 0x4E ∷ 0x45 ∷ 0x56 ∷ 0x4D ∷ 2 ∷ 2 ∷ 0 ∷ 0 ∷ small_fields (2 ∷ 0 ∷ 2 ∷ 0 ∷ 3 ∷ 2 ∷ 2 ∷ 0 ∷ 3 ∷ [])

-- its file of version 1: a header of dimension 2 and four rows, and its corners
abbrev pub FirstFileOfSix : Type 0
FirstFileOfSix = first_file_of_cells 2 six_cells
    ≡ 0x4E ∷ 0x45 ∷ 0x56 ∷ 0x4D ∷ 1 ∷ 2 ∷ 0 ∷ 0 ∷ 0 ∷ 0 ∷ 0 ∷ 0 ∷ 0 ∷ 0 ∷ 0 ∷ 4 ∷ small_fields (0 ∷ 0 ∷ 0 ∷ 3 ∷ 2 ∷ 0 ∷ 2 ∷ 3 ∷ [])
