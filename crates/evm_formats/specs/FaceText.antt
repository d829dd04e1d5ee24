-- The faces file of a solid, version 1: the boxes of its faces, one a line (this project's own format).
use Rattle.std.specs.Prelude.{ℕ, suc, ◌-◌, ℤ, pos, List, [], ◌∷◌, ◌++◌, map, flat_map, codes}
use Rattle.std.specs.List.{range_with_len}
use Rattle.std.specs.Fmt.{signed_decimal}
use Rattle.evm_cells.specs.Sections.{cuts, rising, falling}
use Rattle.evm_cells.specs.Unions.{Ends}
use Rattle.evm_text.specs.Lines.{text_of}
use Rattle.evm_text.specs.Spaced.{spaced}
use Rattle.evm_partition.specs.Partition.{partition}

-- on which side of a face the solid lies: of a falling face on that of smaller coordinates, of a rising one on that of greater
pub data Side : Type 0 where
  Falling : Side
  Rising : Side

-- a box of a face: the axis across it, counted from 0, the height on it, the side, and the ends of the box on the other axes
pub record Face : Type 0 where
  pub axis : ℕ
  pub at : ℤ
  pub side : Side
  pub ends : Ends

-- the cells of the face of S at the height h of axis i; S has dimension n + 1
abbrev pub face_cells : ℕ → ℕ → ℤ → Side → List (List ℤ) → List (List ℤ)
face_cells n i h Falling S = falling n i h S
face_cells n i h Rising S = rising n i h S

-- the boxes of that face: its stated partition
abbrev pub boxes_of_face : ℕ → ℕ → ℤ → Side → List (List ℤ) → List Face
boxes_of_face n i h side S = map (λ b. record { axis = i; at = h; side = side; ends = b }) (partition n (face_cells n i h side S))

-- the boxes at a height: what falls there, and then what rises
abbrev pub faces_at : ℕ → List (List ℤ) → ℕ → ℤ → List Face
faces_at n S i h = boxes_of_face n i h Falling S ++ boxes_of_face n i h Rising S

-- the boxes across an axis, cut by cut
abbrev pub faces_along : ℕ → List (List ℤ) → ℕ → List Face
faces_along n S i = flat_map (faces_at n S i) (cuts n i S)

-- the boxes of all faces of S, of dimension n, axis by axis
abbrev pub faces_of : ℕ → List (List ℤ) → List Face
faces_of n S = flat_map (faces_along (n - 1) S) (range_with_len 0 n)

-- line 1: the two words of the format and the dimension
abbrev pub faces_head : ℕ → List ℕ
faces_head dim = spaced (codes "evm-faces" ∷ codes "1" ∷ signed_decimal (pos dim) ∷ [])

-- the letter of a side
abbrev pub side_word : Side → List ℕ
side_word Falling = codes "f"
side_word Rising = codes "r"

-- the line of a box: the axis, counted from 1, the height, the letter of the side, and the numbers of the lower corner and then of
-- the upper one on the other axes
abbrev pub face_line : Face → List ℕ
face_line f =
    spaced (signed_decimal (pos (suc f.axis)) ∷ signed_decimal f.at ∷ side_word f.side ∷ map signed_decimal (f.ends.lo ++ f.ends.hi))

-- the faces file of a cell set: line 1, and a line for each box of a face, in order; each line is ended by a line feed
unfoldable pub face_file : ℕ → List (List ℤ) → List ℕ
face_file n S = text_of (faces_head n ∷ map face_line (faces_of n S))
