-- The faces at the cuts of an axis, by a walk over couplets.
use Rattle.std.proofs.Common.{◌≡◌, ℕ, suc, ◌+◌, ◌-◌, ◌≤◌, true, not, List, [], ◌∷◌, ◌++◌, append_assoc, map, filter, ℤ, pos, ◌-ℤ◌, ◌<ℤ◌, int_lt, refl, sym, ap, ap₂, ◌∙◌, subst, arith}
use Rattle.std.proofs.lemmas.Int.{ints as int_facts}
use Rattle.evm_cells.specs.Places.{is_empty, has, with_at}
use Rattle.evm_cells.specs.Limits.{is_cell, is_cell_coord, point_coords, IsCellSet}
use Rattle.evm_cells.specs.Booleans.{sub_cells, xor_cells}
use Rattle.evm_cells.specs.Measures.{content}
use Rattle.evm_cells.specs.Sections.{slice, couplet, cuts}
use Rattle.evm_cells.specs.Shapes.{front, unfronted}
use Rattle.evm_cells.specs.Vertices.{evm, cells, IsVertexList}
use Rattle.evm_cells.proofs.Xor.{and_first, and_second, and_both}
use Rattle.evm_cells.proofs.Coords.{lt_is, lt_yes}
use Rattle.evm_cells.proofs.Universe.{has-cells, absorb, cell_parts, cell_from, cell_set-cells, member_passes, same_sets}
use Rattle.evm_cells.proofs.Core.{cells-evm}
use Rattle.evm_cells.proofs.Slices.{has-slice_of, cell_set-slice, length-with_at, all-with_at}
use Rattle.evm_cells.proofs.Lifts.{cell_set-front}
use Rattle.evm_rows.specs.Rows.{Vertices, xor_rows}
use Rattle.evm_sections.specs.Couplets.{couplets_of, rise_above}
use Rattle.evm_sections.proofs.Heights.{heights, cuts-heights}
use Rattle.evm_sections.proofs.Sections.{Above, starts, waits, steps, bottom}
use Rattle.evm_faces.specs.Counts.{faces_by_cut, faces_between, faces_left}
use Rattle.evm_faces.specs.declared.counts.CutFaces.{CutFaces}

-- the faces at a height, where these are the sections
abbrev by_sections : ℕ → (ℤ → List (List ℤ)) → ℤ → CutFaces
by_sections n section h = record {
  at = h;
  rises = content (sub_cells n (section h) (section (h -ℤ pos 1)));
  falls = content (sub_cells n (section (h -ℤ pos 1)) (section h));
}

-- those at each cut, where the section is not the one below
abbrev by_cuts : ℕ → (ℤ → List (List ℤ)) → List CutFaces
by_cuts n section =
    map (by_sections n section) (filter (λ h. not (is_empty (xor_cells n (section (h -ℤ pos 1)) (section h)))) (point_coords (suc n)))

-- the sections along an axis are those along the first, where it is put first
slice-front : (n i : ℕ) (k : ℤ) (S : List (List ℤ)) → IsCellSet (suc n) S → slice n i k S ≡ slice n 0 k (front (suc n) i S)
unfolding front unfronted with_at
slice-front n i k S h =
    same_sets (slice n i k S) (slice n 0 k (front (suc n) i S)) (cell_set-slice n i k S).ascends (cell_set-slice n 0 k (front (suc n) i S)).ascends
    (λ c. has-slice_of n i k S c h
    ∙ sym (has-slice_of n 0 k (front (suc n) i S) c (cell_set-front (suc n) i S)
    ∙ has-cells (suc n) (λ d. has S (unfronted i d)) (k ∷ c)
    ∙ absorb (is_cell (suc n) (k ∷ c)) (has S (with_at i k c))
    (λ m. let (e, a) = cell_parts (suc n) (with_at i k c) (member_passes (is_cell (suc n)) S (with_at i k c) h.cells m) in
    cell_from (suc n) (k ∷ c) (sym (length-with_at i k c) ∙ e) (sym (all-with_at (is_cell_coord (suc n)) i k c) ∙ a))))

-- so are the faces
faces-front : (n i : ℕ) (S : List (List ℤ)) → IsCellSet (suc n) S → by_cuts n (λ k. slice n 0 k (front (suc n) i S)) ≡ by_cuts n (λ k. slice n i k S)
faces-front n i S h =
    let same : (λ (k : ℤ). slice n i k S) ≡ (λ (k : ℤ). slice n 0 k (front (suc n) i S)) = λ j k. slice-front n i k S h j in
    ap (by_cuts n) (sym same)

-- the faces at the couplets that are left
faces_are : (n : ℕ) (S : List (List ℤ)) (l : ℤ) (s : List (List ℤ)) (cs : List (ℤ × List (List ℤ))) → Above n S l s cs → faces_left n s cs ≡ map (by_sections n (λ k. slice n 0 k S)) (heights cs)
faces_are n S l s [] a = refl
faces_are n S l s ((h, c) ∷ cs) a =
    let m : l <ℤ h = lt_is l h (and_first (int_lt l h) (rise_above h cs) a.rising) in
    let up : rise_above h cs ≡ true = and_second (int_lt l h) (rise_above h cs) a.rising in
    let under : rise_above (h -ℤ pos 1) ((h, c) ∷ cs) ≡ true = and_both (int_lt (h -ℤ pos 1) h) (rise_above h cs) (lt_yes (h -ℤ pos 1) h (omega (arith, int_facts))) up in
    let b : Above n S (h -ℤ pos 1) s ((h, c) ∷ cs) = waits n S l (h -ℤ pos 1) s ((h, c) ∷ cs) a (omega (arith, int_facts)) under in
    let t : Above n S h (xor_rows n s c) cs = steps n S l h s c cs a in
    let low : cells n s ≡ slice n 0 (h -ℤ pos 1) S = ap (cells n) b.section ∙ cells-evm n (slice n 0 (h -ℤ pos 1) S) (cell_set-slice n 0 (h -ℤ pos 1) S) in
    let high : cells n (xor_rows n s c) ≡ slice n 0 h S = ap (cells n) t.section ∙ cells-evm n (slice n 0 h S) (cell_set-slice n 0 h S) in
    ap₂ (λ (A B : List (List ℤ)). made A B ∷ faces_left n (xor_rows n s c) cs) high low
    ∙ ap (λ (more : List CutFaces). by_sections n (λ k. slice n 0 k S) h ∷ more) (faces_are n S h (xor_rows n s c) cs t)
  where
    made : List (List ℤ) → List (List ℤ) → CutFaces
    made A B = record { at = h; rises = content (sub_cells n A B); falls = content (sub_cells n B A) }

-- those at all couplets of a vertex list
first_faces : (n : ℕ) (V : List (List ℤ)) → IsVertexList (suc n) V → faces_left n [] (couplets_of V) ≡ by_cuts n (λ k. slice n 0 k (cells (suc n) V))
unfolding cuts couplet
first_faces n V v =
    faces_are n (cells (suc n) V) (bottom (suc n)) [] (couplets_of V) (starts n V v)
    ∙ ap (map (by_sections n (λ k. slice n 0 k (cells (suc n) V)))) (sym (cuts-heights n V v))

-- the faces of a solid of dimension m
pub faces_along : (m n : ℕ) (V : List (List ℤ)) → n + 1 ≡ m → IsVertexList m V → faces_left n [] (couplets_of V) ≡ by_cuts n (λ k. slice n 0 k (cells m V))
faces_along m n V one v =
    let q : m ≡ suc n = omega arith in
    first_faces n V (subst (λ j. IsVertexList j V) q v) ∙ ap (λ j. by_cuts n (λ k. slice n 0 k (cells j V))) (sym q)

-- those along an axis are those along the first, where it is put first
pub faces_turned : (m n i : ℕ) (V W : List (List ℤ)) → n + 1 ≡ m → W ≡ evm m (front m i (cells m V)) → by_cuts n (λ k. slice n 0 k (cells m W)) ≡ by_cuts n (λ k. slice n i k (cells m V))
faces_turned m n i V W one e =
    let q : m ≡ suc n = omega arith in
    ap (λ (S : List (List ℤ)). by_cuts n (λ k. slice n 0 k S)) (ap (cells m) e ∙ cells-evm m (front m i (cells m V)) (cell_set-front m i (cells m V)))
    ∙ ap (λ j. by_cuts n (λ k. slice n 0 k (front j i (cells m V)))) q
    ∙ faces-front n i (cells m V) (subst (λ j. IsCellSet j (cells m V)) q (cell_set-cells m V))

-- the faces at each cut, by the sections
by_cut_is : (axis : ℕ) (a : Vertices) → faces_by_cut axis a ≡ by_cuts (a.dim - 1) (λ k. slice (a.dim - 1) (axis - 1) k (cells a.dim a.rows))
unfolding cuts couplet
by_cut_is axis a = refl

-- before the first couplet
pub faces_start : (a : Vertices) (n : ℕ) (s : List (List ℤ)) (left : List (ℤ × List (List ℤ))) → n + 1 ≡ a.dim → IsVertexList a.dim a.rows → s ≡ [] → left ≡ couplets_of a.rows → faces_left n s left ≡ faces_by_cut 1 a
faces_start a n s left one v e f =
    let q : n ≡ a.dim - 1 = omega arith in
    ap₂ (faces_left n) e f
    ∙ faces_along a.dim n a.rows one v
    ∙ ap (λ j. by_cuts j (λ k. slice j 0 k (cells a.dim a.rows))) q
    ∙ sym (by_cut_is 1 a)

-- one couplet further
pub faces_more : (n : ℕ) (h : ℤ) (s c t : List (List ℤ)) (left later : List (ℤ × List (List ℤ))) (f : CutFaces) (out new all : List CutFaces) → left ≡ (h, c) ∷ later → t ≡ xor_rows n s c → f ≡ faces_between n h s t → new ≡ out ++ f ∷ []
    → out ++ faces_left n s left ≡ all → new ++ faces_left n t later ≡ all
faces_more n h s c t left later f out new all e x g o so_far =
    ap (λ (z : List CutFaces). z ++ faces_left n t later) o
    ∙ append_assoc out (f ∷ []) (faces_left n t later)
    ∙ ap (λ (z : CutFaces). out ++ z ∷ faces_left n t later) g
    ∙ ap (λ (z : List (List ℤ)). out ++ faces_between n h s z ∷ faces_left n z later) x
    ∙ ap (λ (z : List (ℤ × List (List ℤ))). out ++ faces_left n s z) (sym e)
    ∙ so_far

-- where an axis is put first
pub faces_by_front : (a b : Vertices) (axis : ℕ) → 2 ≤ a.dim → b.dim ≡ a.dim → b.rows ≡ evm a.dim (front a.dim (axis - 1) (cells a.dim a.rows)) → faces_by_cut 1 b ≡ faces_by_cut axis a
faces_by_front a b axis deep d e =
    by_cut_is 1 b
    ∙ ap (λ j. by_cuts (j - 1) (λ k. slice (j - 1) 0 k (cells j b.rows))) d
    ∙ faces_turned a.dim (a.dim - 1) (axis - 1) a.rows b.rows (omega (arith, deep)) e
    ∙ sym (by_cut_is axis a)
