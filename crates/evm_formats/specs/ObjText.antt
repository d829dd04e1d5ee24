-- The mesh of a solid of dimension 3, in two kinds of lines of the Wavefront OBJ format: `v X Y Z`, a vertex, and `f A B C D`, a face
-- by the numbers of its vertices, which begin at 1.
use Rattle.std.specs.Prelude.{ℕ, suc, Bool, true, false, not, ◌==◌, ℤ, pos, List, [], ◌∷◌, ◌++◌, map, flat_map, count_by, codes}
use Rattle.std.specs.Fmt.{signed_decimal}
use Rattle.evm_cells.specs.Places.{has, before, with_at}
use Rattle.evm_cells.specs.Limits.{points_where}
use Rattle.evm_text.specs.Lines.{text_of}
use Rattle.evm_text.specs.Spaced.{spaced}
use Rattle.evm_formats.specs.FaceText.{Side, Falling, Rising, Face, faces_of}

-- the corners of a rectangle, one after another round it: forward from the lower corner along the first axis, else along the second
abbrev pub rectangle : Bool → List ℤ → List ℤ → List (List ℤ)
rectangle true (a ∷ b ∷ []) (c ∷ d ∷ []) = (a ∷ b ∷ []) ∷ (c ∷ b ∷ []) ∷ (c ∷ d ∷ []) ∷ (a ∷ d ∷ []) ∷ []
rectangle false (a ∷ b ∷ []) (c ∷ d ∷ []) = (a ∷ b ∷ []) ∷ (a ∷ d ∷ []) ∷ (c ∷ d ∷ []) ∷ (c ∷ b ∷ []) ∷ []
rectangle way lo hi = []

-- whether the corners of a face go forward. So they run counterclockwise where the face is seen from outside in a right-handed system
abbrev pub goes_forward : ℕ → Side → Bool
goes_forward axis Falling = not (axis == 1)
goes_forward axis Rising = axis == 1

-- the corners of a face, as points of space
abbrev pub face_corners : Face → List (List ℤ)
face_corners f = map (with_at f.axis f.at) (rectangle (goes_forward f.axis f.side) f.ends.lo f.ends.hi)

-- the vertices of a mesh: the corners of all faces, each once, ascending
abbrev pub mesh_vertices : List Face → List (List ℤ)
mesh_vertices faces = points_where 3 (has (flat_map face_corners faces))

-- the number of a vertex, from 1 on
abbrev pub vertex_number : List (List ℤ) → List ℤ → ℕ
vertex_number vertices p = suc (count_by (λ q. before q p) vertices)

-- the line of a vertex
abbrev pub vertex_line : List ℤ → List ℕ
vertex_line p = spaced (codes "v" ∷ map signed_decimal p)

-- the line of a face
abbrev pub polygon_line : List (List ℤ) → Face → List ℕ
polygon_line vertices f = spaced (codes "f" ∷ map (λ p. signed_decimal (pos (vertex_number vertices p))) (face_corners f))

-- the lines of a mesh: its vertices, and then its faces in the order of the faces file
abbrev pub mesh_lines : List Face → List (List ℕ)
mesh_lines faces = map vertex_line (mesh_vertices faces) ++ map (polygon_line (mesh_vertices faces)) faces

-- the mesh of a cell set of dimension 3; each line is ended by a line feed, and of the empty set there are none
unfoldable pub obj_file : List (List ℤ) → List ℕ
obj_file S = text_of (mesh_lines (faces_of 3 S))
