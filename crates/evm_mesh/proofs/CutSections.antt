-- The sections below and above a cut.
use Rattle.std.proofs.Common.{◌≡◌, ℕ, suc, ◌+◌, true, List, [], ◌∷◌, ◌++◌, flat_map, append-nil, append_assoc, ℤ, pos, ◌-ℤ◌, ◌<ℤ◌, int_lt, sym, ap, ap₂, subst, ◌∙◌, arith}
use Rattle.std.proofs.lemmas.Int.{ints as int_facts}
use Rattle.std.specs.List.{list_all}
use Rattle.evm_cells.specs.Limits.{is_point_coord}
use Rattle.evm_cells.specs.Vertices.{evm, cells, IsVertexList}
use Rattle.evm_cells.specs.Sections.{slice}
use Rattle.evm_cells.proofs.Xor.{and_first, and_second, and_both}
use Rattle.evm_cells.proofs.Coords.{lt_is, lt_yes}
use Rattle.evm_cells.proofs.Core.{cells-evm}
use Rattle.evm_cells.proofs.Slices.{cell_set-slice}
use Rattle.evm_cells.specs.Booleans.{sub_cells}
use Rattle.evm_rows.specs.Rows.{Vertices, cells_of, xor_rows}
use Rattle.evm_sections.specs.Couplets.{couplets_of, rise_above}
use Rattle.evm_sections.proofs.Heights.{heights, cuts-heights, points-heights}
use Rattle.evm_sections.proofs.Sections.{Above, bottom, starts, steps, waits}
use Rattle.evm_formats.specs.FaceText.{Face}
use Rattle.evm_mesh.specs.Sheets.{faces_between, first_faces}

-- the faces at heights
abbrev pub faces_at_cuts : ℕ → ℕ → List (List ℤ) → List ℤ → List Face
faces_at_cuts n axis S hs = flat_map (λ h. faces_between n axis h (slice n 0 (h -ℤ pos 1) S) (slice n 0 h S)) hs

-- what a walk over couplets keeps: s is the section below those that are left, and what was made of the cuts before and what is to be made of the others is all
pub record Walked (n axis : ℕ) (S : List (List ℤ)) (s : List (List ℤ)) (left : List (ℤ × List (List ℤ))) (done all : List Face) : Type 0 where
  pub above : (l : ℤ) × Above n S l s left
  pub in_range : list_all (is_point_coord (suc n)) (heights left) ≡ true
  pub faces : done ++ faces_at_cuts n axis S (heights left) ≡ all

start_on : (n axis : ℕ) (V : List (List ℤ)) (done : List Face) → IsVertexList (suc n) V → Walked n axis (cells (suc n) V) [] (couplets_of V) done (done ++ first_faces n (cells (suc n) V) axis)
start_on n axis V done v = record {
  above = (bottom (suc n), starts n V v);
  in_range = points-heights (suc n) V v.points;
  faces = ap (λ hs. done ++ faces_at_cuts n axis (cells (suc n) V) hs) (sym (cuts-heights n V v));
}

-- at the start
pub walked_start : (m n axis : ℕ) (V s : List (List ℤ)) (left : List (ℤ × List (List ℤ))) (done : List Face) → n + 1 ≡ m → IsVertexList m V → s ≡ [] → left ≡ couplets_of V
    → Walked n axis (cells m V) s left done (done ++ first_faces n (cells m V) axis)
walked_start m n axis V s left done e v f g =
    let q : suc n ≡ m = omega arith in
    let W : ℕ → List (List ℤ) → List (ℤ × List (List ℤ)) → Type 0 = λ j s left. Walked n axis (cells j V) s left done (done ++ first_faces n (cells j V) axis) in
    let on : W m [] (couplets_of V) = subst (λ (j : ℕ). W j [] (couplets_of V)) q (start_on n axis V done (subst (λ (j : ℕ). IsVertexList j V) (sym q) v)) in
    subst (λ (x : List (List ℤ)). W m x left) (sym f) (subst (λ (cs : List (ℤ × List (List ℤ))). W m [] cs) (sym g) on)

-- the section below the next cut
below_cut : (n : ℕ) (S : List (List ℤ)) (l h : ℤ) (s c : List (List ℤ)) (cs : List (ℤ × List (List ℤ))) → Above n S l s ((h, c) ∷ cs) → s ≡ evm n (slice n 0 (h -ℤ pos 1) S)
below_cut n S l h s c cs a =
    let m : l <ℤ h = lt_is l h (and_first (int_lt l h) (rise_above h cs) a.rising) in
    let up : rise_above h cs ≡ true = and_second (int_lt l h) (rise_above h cs) a.rising in
    let under : rise_above (h -ℤ pos 1) ((h, c) ∷ cs) ≡ true = and_both (int_lt (h -ℤ pos 1) h) (rise_above h cs) (lt_yes (h -ℤ pos 1) h (omega (arith, int_facts))) up in
    let b : Above n S (h -ℤ pos 1) s ((h, c) ∷ cs) = waits n S l (h -ℤ pos 1) s ((h, c) ∷ cs) a (omega (arith, int_facts)) under in
    b.section

-- the next cut is the coordinate of points
pub next_height : (n axis : ℕ) (S s : List (List ℤ)) (h : ℤ) (c : List (List ℤ)) (left rest : List (ℤ × List (List ℤ))) (done all : List Face) → Walked n axis S s left done all → left ≡ (h, c) ∷ rest
    → is_point_coord (suc n) h ≡ true
next_height n axis S s h c left rest done all w e =
    and_first (is_point_coord (suc n) h) (list_all (is_point_coord (suc n)) (heights rest)) (sym (ap (λ cs. list_all (is_point_coord (suc n)) (heights cs)) e) ∙ w.in_range)

-- a cut further
pub walked_next : (n axis : ℕ) (S s t : List (List ℤ)) (h : ℤ) (c : List (List ℤ)) (left rest : List (ℤ × List (List ℤ))) (done more all : List Face) → Walked n axis S s left done all → left ≡ (h, c) ∷ rest
    → t ≡ xor_rows n s c → more ≡ done ++ faces_between n axis h (cells n s) (cells n t) → Walked n axis S t rest more all
walked_next n axis S s t h c left rest done more all w e x f =
    let (l, a) = w.above in
    let b : Above n S l s ((h, c) ∷ rest) = subst (λ (cs : List (ℤ × List (List ℤ))). Above n S l s cs) e a in
    let d : Above n S h t rest = subst (λ (u : List (List ℤ)). Above n S h u rest) (sym x) (steps n S l h s c rest b) in
    let under : cells n s ≡ slice n 0 (h -ℤ pos 1) S = ap (cells n) (below_cut n S l h s c rest b) ∙ cells-evm n (slice n 0 (h -ℤ pos 1) S) (cell_set-slice n 0 (h -ℤ pos 1) S) in
    let over : cells n t ≡ slice n 0 h S = ap (cells n) d.section ∙ cells-evm n (slice n 0 h S) (cell_set-slice n 0 h S) in
    let here : List Face = faces_between n axis h (slice n 0 (h -ℤ pos 1) S) (slice n 0 h S) in
    record {
      above = (h, d);
      in_range = and_second (is_point_coord (suc n) h) (list_all (is_point_coord (suc n)) (heights rest)) (sym (ap (λ cs. list_all (is_point_coord (suc n)) (heights cs)) e) ∙ w.in_range);
      faces = ap (λ t. t ++ faces_at_cuts n axis S (heights rest)) (f ∙ ap₂ (λ B A. done ++ faces_between n axis h B A) under over)
          ∙ append_assoc done here (faces_at_cuts n axis S (heights rest))
          ∙ sym (ap (λ cs. done ++ faces_at_cuts n axis S (heights cs)) e) ∙ w.faces;
    }

-- at the end
pub walked_end : (n axis : ℕ) (S s : List (List ℤ)) (left : List (ℤ × List (List ℤ))) (done all : List Face) → Walked n axis S s left done all → left ≡ [] → done ≡ all
walked_end n axis S s left done all w e = sym (append-nil done) ∙ sym (ap (λ cs. done ++ faces_at_cuts n axis S (heights cs)) e) ∙ w.faces

-- ---- differences of sections

pub difference_is : (n : ℕ) (s b a v w : Vertices) → s.dim ≡ n → v ≡ b → w ≡ a → b.dim ≡ n → a.dim ≡ n → cells s.dim s.rows ≡ sub_cells s.dim (cells s.dim v.rows) (cells s.dim w.rows) → cells_of s ≡ sub_cells n (cells_of b) (cells_of a)
difference_is n s b a v w d p q e f g =
    g ∙ ap (λ j. sub_cells j (cells j v.rows) (cells j w.rows)) d ∙ ap₂ (λ (x y : Vertices). sub_cells n (cells n x.rows) (cells n y.rows)) p q
    ∙ ap₂ (λ j k. sub_cells n (cells j b.rows) (cells k a.rows)) (sym e) (sym f)
