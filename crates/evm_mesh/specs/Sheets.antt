-- Faces, cut by cut.
use Rattle.std.specs.Prelude.{ℕ, suc, ◌-◌, ◌≡◌, ◌<◌, true, ℤ, pos, ◌-ℤ◌, List, ◌∷◌, ◌++◌, map, flat_map, All}
use Rattle.std.specs.Fmt.{signed_decimal}
use Rattle.evm_cells.specs.Limits.{is_point_coord}
use Rattle.evm_cells.specs.Booleans.{sub_cells}
use Rattle.evm_cells.specs.Boxes.{IsBox}
use Rattle.evm_cells.specs.Sections.{cuts, slice}
use Rattle.evm_cells.specs.Unions.{Ends}
use Rattle.evm_partition.specs.Partition.{partition}
use Rattle.evm_formats.specs.FaceText as texts
use Rattle.evm_formats.specs.ObjText.{vertex_number}
use Rattle.evm_mesh.specs.declared.sheets.Side.{Side}
use Rattle.evm_mesh.specs.declared.sheets.Side.TheVariants.{Falling, Rising}
use Rattle.evm_mesh.specs.declared.sheets.Sheet.{Sheet}

-- the side that it stands for
abbrev pub side_of : Side → texts.Side
side_of Falling = texts.Falling
side_of Rising = texts.Rising

-- a box of a sheet, as a face
abbrev pub face_of : Sheet → Ends → texts.Face
face_of s b = record { axis = s.axis; at = s.at; side = side_of s.side; ends = b }

-- the faces of a sheet, box by box
abbrev pub faces_of_sheet : Sheet → List texts.Face
faces_of_sheet s = map (face_of s) s.boxes.boxes

-- the faces of sheets
abbrev pub faces_in : List Sheet → List texts.Face
faces_in sheets = flat_map faces_of_sheet sheets

-- a sheet of a solid of dimension n: its axis is one of n, its height that of points, and its boxes have one dimension less
pub record IsSheet (n : ℕ) (s : Sheet) : Type 0 where
  pub axis : s.axis < n
  pub height : is_point_coord n s.at ≡ true
  pub boxes : All (λ b. IsBox (n - 1) b.lo b.hi) s.boxes.boxes

-- the words of a sheet on the line of a face
abbrev pub place_of : Sheet → List ℕ
place_of s = signed_decimal (pos (suc s.axis)) ++ 32 ∷ signed_decimal s.at ++ 32 ∷ texts.side_word (side_of s.side)

-- the numbers of corners, with a space before each
abbrev pub corner_words : List (List ℤ) → List (List ℤ) → List ℕ
corner_words vertices corners = flat_map (λ p. 32 ∷ signed_decimal (pos (vertex_number vertices p))) corners

-- the boxes of a cell set, as faces at a height of an axis
abbrev pub labelled : ℕ → ℕ → ℤ → texts.Side → List (List ℤ) → List texts.Face
labelled n axis at side T = map (λ b. record { axis = axis; at = at; side = side; ends = b }) (partition n T)

-- the faces between two sections: what falls, and then what rises
abbrev pub faces_between : ℕ → ℕ → ℤ → List (List ℤ) → List (List ℤ) → List texts.Face
faces_between n axis at below above =
    labelled n axis at texts.Falling (sub_cells n below above)
    ++ labelled n axis at texts.Rising (sub_cells n above below)

-- the faces across the first axis, as faces across another; S has dimension n + 1
abbrev pub first_faces : ℕ → List (List ℤ) → ℕ → List texts.Face
first_faces n S axis = flat_map (λ h. faces_between n axis h (slice n 0 (h -ℤ pos 1) S) (slice n 0 h S)) (cuts n 0 S)
