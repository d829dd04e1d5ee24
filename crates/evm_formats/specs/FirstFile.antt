-- The EVM file, version 1: its rows stand one after another (this project's own format). It is read, and no longer written.
use Rattle.std.specs.Prelude.{◌≡◌, ℕ, ◌+◌, ◌*◌, ◌≤◌, List, [], ◌∷◌, ◌++◌, flat_map, length, take, drop, slice_index, ℤ}
use Rattle.std.specs.Int.{cast_unsigned, cast_signed, w32}
use Rattle.byteorder.specs.Endian.{big_bytes, big_number}
use Rattle.evm_cells.specs.Vertices.{evm}
use Rattle.evm_rows.specs.Rows.{Vertices, flat_of, rows_of}

-- ---- what was written

-- a coordinate's field: its four bytes in two's complement, the most significant first
abbrev pub field : ℤ → List ℕ
field x = big_bytes 4 (cast_unsigned w32 x)

-- the first eight bytes: the letters NEVM, the version 1, the dimension, and two zeros
abbrev pub first_head : ℕ → List ℕ
first_head dim = 78 ∷ 69 ∷ 86 ∷ 77 ∷ 1 ∷ dim ∷ 0 ∷ 0 ∷ []

-- the file of extreme vertices: head, number of rows, and the fields of row after row
unfoldable pub first_file_bytes : Vertices → List ℕ
first_file_bytes v = first_head v.dim ++ big_bytes 8 (length v.rows) ++ flat_map field (flat_of v.rows)

-- the file of a cell set: that of its extreme vertices
abbrev pub first_file_of_cells : ℕ → List (List ℤ) → List ℕ
first_file_of_cells n S = first_file_bytes (record { dim = n; rows = evm n S })

-- ---- what bytes state

-- the coordinates of the fields in bytes, four bytes by four
unfoldable pub numbers : List ℕ → List ℤ
numbers (a ∷ b ∷ c ∷ d ∷ xs) = cast_signed w32 (big_number 4 (a ∷ b ∷ c ∷ d ∷ [])) ∷ numbers xs
numbers _ = []

-- the bytes begin with a header of version 1: 16 bytes, of which the first eight are a head of dimension 1 to 6
pub record IsFirst (bytes : List ℕ) : Type 0 where
  pub long : 16 ≤ length bytes
  pub magic : take 4 bytes ≡ 78 ∷ 69 ∷ 86 ∷ 77 ∷ []
  pub version : slice_index bytes 4 ≡ 1
  pub some : 1 ≤ slice_index bytes 5
  pub few : slice_index bytes 5 ≤ 6
  pub six : slice_index bytes 6 ≡ 0
  pub seven : slice_index bytes 7 ≡ 0

-- the dimension that a header states, in either version
abbrev pub stated_dim : List ℕ → ℕ
stated_dim bytes = slice_index bytes 5

-- the number of rows that a header states
abbrev pub stated_count : List ℕ → ℕ
stated_count bytes = big_number 8 (drop 8 bytes)

-- the length is exactly that which the header states; it is taken of whole numbers, so nothing wraps
abbrev pub HasLength : List ℕ → Type 0
HasLength bytes = length bytes ≡ 16 + 4 * stated_dim bytes * stated_count bytes

-- the bytes have a header, and the length that it states
abbrev pub IsFramed : List ℕ → Type 0
IsFramed bytes = IsFirst bytes × HasLength bytes

-- the rows that the bytes after the header state
abbrev pub listed_rows : List ℕ → List (List ℤ)
listed_rows bytes = rows_of (numbers (drop 16 bytes)) (stated_dim bytes) 0

-- the bytes have a header of version 1 and the length that it states, and state these extreme vertices
pub record Lists (bytes : List ℕ) (v : Vertices) : Type 0 where
  pub framed : IsFramed bytes
  pub dim : stated_dim bytes ≡ v.dim
  pub rows : listed_rows bytes ≡ v.rows
