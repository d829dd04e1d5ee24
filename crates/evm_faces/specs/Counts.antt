-- How much rises and how much falls at each cut of an axis, counted from 1.
use Rattle.std.specs.Prelude.{ℕ, ℤ, List, [], ◌∷◌, map}
use Rattle.evm_cells.specs.Booleans.{sub_cells}
use Rattle.evm_cells.specs.Measures.{content}
use Rattle.evm_cells.specs.Vertices.{cells}
use Rattle.evm_rows.specs.Rows.{Vertices, xor_rows}
use Rattle.evm_faces.specs.Faces.{rising_cells, falling_cells, cut_heights}
use Rattle.evm_faces.specs.declared.counts.CutFaces.{CutFaces}

-- the faces at a height: how many cells rise there, and how many fall
abbrev pub faces_at : ℕ → Vertices → ℤ → CutFaces
faces_at axis a h = record { at = h; rises = content (rising_cells axis h a); falls = content (falling_cells axis h a) }

-- those at each cut
abbrev pub faces_by_cut : ℕ → Vertices → List CutFaces
faces_by_cut axis a = map (faces_at axis a) (cut_heights axis a)

-- the faces between the sections just below and just above a height
abbrev pub faces_between : ℕ → ℤ → List (List ℤ) → List (List ℤ) → CutFaces
faces_between n h below above = record {
  at = h;
  rises = content (sub_cells n (cells n above) (cells n below));
  falls = content (sub_cells n (cells n below) (cells n above));
}

-- those at the couplets that are left, where `section` is the one below the first of them
abbrev pub faces_left : ℕ → List (List ℤ) → List (ℤ × List (List ℤ)) → List CutFaces
faces_left n section [] = []
faces_left n section ((h, c) ∷ cs) = faces_between n h section (xor_rows n section c) ∷ faces_left n (xor_rows n section c) cs
