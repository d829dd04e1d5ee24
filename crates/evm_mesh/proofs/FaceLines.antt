-- The lines of faces and of vertices, word by word.
use Rattle.std.proofs.Common.{◌≡◌, ℕ, suc, List, [], ◌∷◌, ◌++◌, map, ℤ, pos, codes, sym, ap, ap₂, ◌∙◌, append_assoc, append-nil}
use Rattle.std.specs.List.{flat_map}
use Rattle.std.specs.Fmt.{signed_decimal}
use Rattle.std.proofs.lemmas.Grind.{flat_map-append}
use Rattle.evm_text.specs.Lines.{text_of}
use Rattle.evm_text.specs.Spaced.{spaced, behind_spaces}
use Rattle.evm_text.proofs.Spaced.{word_and_numbers}
use Rattle.evm_cells.specs.Unions.{Ends}
use Rattle.evm_rows.specs.Rows.{Vertices, cells_of}
use Rattle.evm_formats.specs.FaceText.{Face, face_file, face_line, faces_head, faces_of, side_word}
use Rattle.evm_formats.specs.ObjText.{face_corners, mesh_lines, mesh_vertices, obj_file, polygon_line, vertex_line, vertex_number}
use Rattle.evm_mesh.specs.declared.sheets.Sheet.{Sheet}
use Rattle.evm_mesh.specs.Sheets.{face_of, place_of, side_of, corner_words}

-- a line, part by part
joined : (text a b c d : List ℕ) → ((((text ++ a) ++ b) ++ c) ++ d) ≡ text ++ ((a ++ (b ++ c)) ++ d)
joined text a b c d = simp append_assoc

place_and : (a b c rest : List ℕ) → a ++ 32 ∷ (b ++ 32 ∷ (c ++ rest)) ≡ (a ++ 32 ∷ b ++ 32 ∷ c) ++ rest
place_and a b c rest = simp append_assoc

face_words : (s : Sheet) (b : Ends) → face_line (face_of s b) ≡ place_of s ++ (behind_spaces b.lo ++ behind_spaces b.hi)
face_words s b =
    let side : List ℕ = side_word (side_of s.side) in
    ap (λ t. signed_decimal (pos (suc s.axis)) ++ 32 ∷ (signed_decimal s.at ++ 32 ∷ t)) (word_and_numbers side (b.lo ++ b.hi))
    ∙ place_and (signed_decimal (pos (suc s.axis))) (signed_decimal s.at) side (behind_spaces (b.lo ++ b.hi))
    ∙ ap (λ t. place_of s ++ t) (flat_map-append (λ n. 32 ∷ signed_decimal n) b.lo b.hi)

-- the line of a face
pub face_written : (s : Sheet) (b : Ends) (text one two three all : List ℕ) → one ≡ text ++ place_of s → two ≡ one ++ behind_spaces b.lo → three ≡ two ++ behind_spaces b.hi → all ≡ three ++ 10 ∷ []
    → all ≡ text ++ (face_line (face_of s b) ++ 10 ∷ [])
face_written s b text one two three all e f g h =
    h ∙ ap (λ t. t ++ 10 ∷ []) (g ∙ ap (λ t. t ++ behind_spaces b.hi) (f ∙ ap (λ t. t ++ behind_spaces b.lo) e))
    ∙ joined text (place_of s) (behind_spaces b.lo) (behind_spaces b.hi) (10 ∷ []) ∙ ap (λ t. text ++ (t ++ 10 ∷ [])) (sym (face_words s b))

-- the line of a vertex
pub vertex_written : (p : List ℤ) (text one two all : List ℕ) → one ≡ text ++ 118 ∷ [] → two ≡ one ++ behind_spaces p → all ≡ two ++ 10 ∷ [] → all ≡ text ++ (vertex_line p ++ 10 ∷ [])
vertex_written p text one two all e f g =
    g ∙ ap (λ t. t ++ 10 ∷ []) (f ∙ ap (λ t. t ++ behind_spaces p) e) ∙ parts text (118 ∷ []) (behind_spaces p) (10 ∷ [])
    ∙ ap (λ t. text ++ (t ++ 10 ∷ [])) (sym (word_and_numbers (codes "v") p))
  where
    parts : (text a b c : List ℕ) → (((text ++ a) ++ b) ++ c) ≡ text ++ ((a ++ b) ++ c)
    parts text a b c = simp append_assoc

word_and_each : {A : Type 0} (w : List ℕ) (f : A → List ℕ) (xs : List A) → spaced (w ∷ map f xs) ≡ w ++ flat_map (λ x. 32 ∷ f x) xs
word_and_each w f [] = sym (append-nil w)
word_and_each w f (x ∷ xs) = ap (λ t. w ++ 32 ∷ t) (word_and_each (f x) f xs)

-- the line of a face of a mesh
pub polygon_written : (V : List (List ℤ)) (f : Face) (text one two all : List ℕ) → one ≡ text ++ 102 ∷ [] → two ≡ one ++ corner_words V (face_corners f) → all ≡ two ++ 10 ∷ []
    → all ≡ text ++ (polygon_line V f ++ 10 ∷ [])
polygon_written V f text one two all e g h =
    h ∙ ap (λ t. t ++ 10 ∷ []) (g ∙ ap (λ t. t ++ corner_words V (face_corners f)) e) ∙ parts text (102 ∷ []) (corner_words V (face_corners f)) (10 ∷ [])
    ∙ ap (λ t. text ++ (t ++ 10 ∷ [])) (sym (word_and_each (codes "f") (λ p. signed_decimal (pos (vertex_number V p))) (face_corners f)))
  where
    parts : (text a b c : List ℕ) → (((text ++ a) ++ b) ++ c) ≡ text ++ ((a ++ b) ++ c)
    parts text a b c = simp append_assoc

-- ---- whole texts

pub faces_text : (a v : Vertices) (k : ℕ) (faces : List Face) (start one all : List ℕ) → v ≡ a → k ≡ a.dim → faces ≡ faces_of v.dim (cells_of v) → start ≡ [] → one ≡ start ++ (faces_head k ++ 10 ∷ [])
    → all ≡ one ++ text_of (map face_line faces) → all ≡ face_file a.dim (cells_of a)
unfolding face_file
faces_text a v k faces start one all same d f none e g =
    g ∙ ap₂ (λ t fs. t ++ text_of (map face_line fs)) (e ∙ ap₂ (λ t j. t ++ (faces_head j ++ 10 ∷ [])) none d) (f ∙ ap (λ (w : Vertices). faces_of w.dim (cells_of w)) same)

pub mesh_text : (a v : Vertices) (V : List (List ℤ)) (faces : List Face) (start one all : List ℕ) → v ≡ a → a.dim ≡ 3 → faces ≡ faces_of v.dim (cells_of v) → V ≡ mesh_vertices faces → start ≡ []
    → one ≡ start ++ text_of (map vertex_line V) → all ≡ one ++ text_of (map (polygon_line V) faces) → all ≡ obj_file (cells_of a)
unfolding obj_file
mesh_text a v V faces start one all same d f w none e g =
    let lines : List (List ℤ) → List Face → List ℕ = λ V fs. text_of (map vertex_line V) ++ text_of (map (polygon_line V) fs) in
    g ∙ ap (λ t. t ++ text_of (map (polygon_line V) faces)) (e ∙ ap (λ t. t ++ text_of (map vertex_line V)) none)
    ∙ ap (λ V. lines V faces) w
    ∙ sym (flat_map-append (λ line. line ++ 10 ∷ []) (map vertex_line (mesh_vertices faces)) (map (polygon_line (mesh_vertices faces)) faces))
    ∙ ap (λ fs. text_of (mesh_lines fs)) (f ∙ ap (λ (w : Vertices). faces_of w.dim (cells_of w)) same ∙ ap (λ n. faces_of n (cells_of a)) d)
