-- The content and the boundary content by slabs and couplets, and their bounds by the limits
use Rattle.std.proofs.Common.{◌≡◌, ℕ, suc, ◌+◌, ◌*◌, ◌-◌, ◌^◌, ◌<◌, ◌≤◌, true, cond, not, ◌++◌, List, [], ◌∷◌, length, map, filter, sum_by, ℤ, pos, negsuc, neg_ℤ, ◌-ℤ◌, ◌+ℤ◌, ◌<ℤ◌, ◌≤ℤ◌, refl, sym, ap, ap₂, ◌∙◌, arith, int_lt, add-one, mul-zero, add_comm}
use Rattle.std.specs.Prelude.{unsigned_abs}
use Rattle.std.specs.List.{list_all}
use Rattle.std.proofs.lemmas.Int.{ints as int_facts}
use Rattle.std.proofs.lemmas.List.Sums.{sum_by-cons}
use Rattle.evm_cells.specs.Places.{is_empty}
use Rattle.evm_cells.specs.Measures.{content, boundary}
use Rattle.evm_cells.specs.Limits.{limit, ints, cell_coords, point_coords, is_point_coord, IsCellSet}
use Rattle.evm_cells.specs.Vertices.{evm, cells, IsVertexList}
use Rattle.evm_cells.specs.Sections.{slice, couplet, cuts}
use Rattle.evm_cells.proofs.Xor.{and_first, and_second, and_both}
use Rattle.evm_cells.proofs.Coords.{lt_is, lt_yes, point_is}
use Rattle.evm_cells.proofs.Universe.{cell_set-cells}
use Rattle.evm_cells.proofs.Bounds.{content-fits as cells_fit, boundary-fits as faces_fit, boundary_bound}
use Rattle.evm_cells.proofs.Core.{cells-evm}
use Rattle.evm_cells.proofs.Slices.{cell_set-slice, cell_set-couplet}
use Rattle.evm_cells.proofs.Layers.{cells-empty, content_by_sections, slice_outside}
use Rattle.evm_cells.proofs.Counts.{boundary_by_sections}
use Rattle.evm_rows.specs.Rows.{xor_rows}
use Rattle.evm_rows.proofs.RowsOrder.{Wide}
use Rattle.evm_rows.proofs.Bridge.{ascends_from, wide-points}
use Rattle.evm_sections.specs.Couplets.{couplets_of, couplets_in, rise_above, AreSingle, joined}
use Rattle.evm_sections.proofs.Rising.{joined-couplets_of}
use Rattle.evm_sections.proofs.Single.{couplets_of-single}
use Rattle.evm_sections.proofs.Zero.{cells-mark}
use Rattle.evm_sections.proofs.Lengths.{sum_run}
use Rattle.evm_sections.proofs.Heights.{heights, points-heights, couplets_are}
use Rattle.evm_sections.proofs.Sections.{Above, stays, waits, steps, starts, ends, bottom, bottom_is, low_outside}

-- a measure over the slabs from low on, each section's by the slab's height: `section` is above low, and cs are the couplets above
abbrev pub slab_sum : (List (List ℤ) → ℕ) → ℕ → ℤ → List (List ℤ) → List (ℤ × List (List ℤ)) → ℕ
slab_sum g n low section [] = 0
slab_sum g n low section ((h, c) ∷ cs) = g (cells n section) * unsigned_abs (h -ℤ low) + slab_sum g n h (xor_rows n section c) cs

-- the contents of couplets
abbrev pub face_sum : ℕ → List (ℤ × List (List ℤ)) → ℕ
face_sum n [] = 0
face_sum n ((h, c) ∷ cs) = length (cells n c) + face_sum n cs

-- ---- sums over numbers in a row

-- ---- the bounds

-- in each dimension the content is at most 2 ^ 120
pub content-fits : (n : ℕ) (V : List (List ℤ)) → n ≤ 6 → length (cells n V) ≤ 2 ^ 120
content-fits n V l = cells_fit n (cells n V) l (cell_set-cells n V)

-- and the boundary content is below 2 ^ 124
pub boundary-fits : (n : ℕ) (V : List (List ℤ)) → n ≤ 6 → boundary n (cells n V) < 2 ^ 124
boundary-fits n V l = faces_fit n (cells n V) l (cell_set-cells n V)

boundary-empty : (n : ℕ) → boundary n [] ≡ 0
boundary-empty n = let a : boundary n [] ≤ 2 * n * 0 = boundary_bound n [] in omega (arith, a, mul-zero (2 * n))

-- ---- the slabs

held-section : (g : List (List ℤ) → ℕ) (n : ℕ) (S : List (List ℤ)) (l : ℤ) (s : List (List ℤ)) (cs : List (ℤ × List (List ℤ))) → Above n S l s cs → g (cells n s) ≡ g (slice n 0 l S)
held-section g n S l s cs a = ap (λ X. g (cells n X)) a.section ∙ ap g (cells-evm n (slice n 0 l S) (cell_set-slice n 0 l S))

none_above : (g : List (List ℤ) → ℕ) → g [] ≡ 0 → (n : ℕ) (S : List (List ℤ)) (l k : ℤ) (s : List (List ℤ)) → Above n S l s [] → l ≤ℤ k → g (slice n 0 k S) ≡ 0
none_above g z n S l k s a le =
    let b : Above n S k s [] = waits n S l k s [] a le refl in
    sym (held-section g n S k s [] b) ∙ ap (λ X. g (cells n X)) (ends n S l s a) ∙ ap g (cells-empty n) ∙ z

pub slabs_sum : (g : List (List ℤ) → ℕ) → g [] ≡ 0 → (n : ℕ) (S : List (List ℤ)) (l : ℤ) (s : List (List ℤ)) (cs : List (ℤ × List (List ℤ))) (m : ℕ) → Above n S l s cs → list_all (is_point_coord (suc n)) (heights cs) ≡ true → l +ℤ pos m ≡ pos (limit (suc n))
    → slab_sum g n l s cs ≡ sum_by (λ k. g (slice n 0 k S)) (ints l m)
unfolding ints
slabs_sum g z n S l s [] m a p e =
    sym (ap (λ j. sum_by (λ k. g (slice n 0 k S)) (ints l j)) (let q : m ≡ m + 0 = omega arith in q)
    ∙ sum_run (λ k. g (slice n 0 k S)) l m 0 0 (λ k x y. none_above g z n S l k s a x) ∙ omega arith)
slabs_sum g z n S l s ((h, c) ∷ cs) m a p e = at (h -ℤ l) refl (λ j f. slabs_sum g z n S h (xor_rows n s c) cs j (steps n S l h s c cs a) (and_second (is_point_coord (suc n) h) (list_all (is_point_coord (suc n)) (heights cs)) p) f)
  where
    low : l <ℤ h
    low = lt_is l h (and_first (int_lt l h) (rise_above h cs) a.rising)

    top : h ≤ℤ pos (limit (suc n))
    top = (point_is (suc n) h (and_first (is_point_coord (suc n) h) (list_all (is_point_coord (suc n)) (heights cs)) p)).1

    at : (z : ℤ) → h -ℤ l ≡ z → ((j : ℕ) → h +ℤ pos j ≡ pos (limit (suc n)) → slab_sum g n h (xor_rows n s c) cs ≡ sum_by (λ k. g (slice n 0 k S)) (ints h j))
        → g (cells n s) * unsigned_abs (h -ℤ l) + slab_sum g n h (xor_rows n s c) cs ≡ sum_by (λ k. g (slice n 0 k S)) (ints l m)
    at (pos d) f r =
        let t = top in
        let j : ℕ = m - d in
        let q : m ≡ d + j = omega (arith, int_facts) in
        let reach : l +ℤ pos d ≡ h = omega (arith, int_facts) in
        let w : h +ℤ pos j ≡ pos (limit (suc n)) = omega (arith, int_facts) in
        ap₂ (λ x y. x * unsigned_abs y + slab_sum g n h (xor_rows n s c) cs) (held-section g n S l s ((h, c) ∷ cs) a) f
        ∙ ap (λ y. g (slice n 0 l S) * d + y) (r j w)
        ∙ sym (ap (λ i. sum_by (λ k. g (slice n 0 k S)) (ints l i)) q
        ∙ sum_run (λ k. g (slice n 0 k S)) l d j (g (slice n 0 l S))
        (λ k x y. ap g (stays n S l k s ((h, c) ∷ cs) a x (and_both (int_lt k h) (rise_above h cs) (lt_yes k h (omega (arith, int_facts))) (and_second (int_lt l h) (rise_above h cs) a.rising))))
        ∙ ap (λ z. g (slice n 0 l S) * d + sum_by (λ k. g (slice n 0 k S)) (ints z j)) reach)
    at (negsuc d) f r = let t = low in absurd (omega (arith, int_facts))

-- an empty section counts nothing, wherever it begins
from_any : (g : List (List ℤ) → ℕ) → g [] ≡ 0 → (n : ℕ) (l k : ℤ) (cs : List (ℤ × List (List ℤ))) → slab_sum g n l [] cs ≡ slab_sum g n k [] cs
from_any g z n l k [] = refl
from_any g z n l k ((h, c) ∷ cs) =
    let e : g (cells n []) ≡ 0 = ap g (cells-empty n) ∙ z in
    ap (λ x. x * unsigned_abs (h -ℤ l) + slab_sum g n h (xor_rows n [] c) cs) e
    ∙ (let q : 0 * unsigned_abs (h -ℤ l) + slab_sum g n h (xor_rows n [] c) cs ≡ 0 * unsigned_abs (h -ℤ k) + slab_sum g n h (xor_rows n [] c) cs = omega arith in q)
    ∙ ap (λ x. x * unsigned_abs (h -ℤ k) + slab_sum g n h (xor_rows n [] c) cs) (sym e)

-- a measure over the slabs of a vertex list is that over the sections of its cells
pub sections_sum : (g : List (List ℤ) → ℕ) → g [] ≡ 0 → (n : ℕ) (V : List (List ℤ)) (l : ℤ) → IsVertexList (suc n) V → slab_sum g n l [] (couplets_of V) ≡ sum_by (λ k. g (slice n 0 k (cells (suc n) V))) (cell_coords (suc n))
unfolding ints cell_coords
sections_sum g z n V l v =
    let S : List (List ℤ) = cells (suc n) V in
    let s : IsCellSet (suc n) S = cell_set-cells (suc n) V in
    let m : ℕ = 2 * limit (suc n) in
    let b = bottom_is (suc n) in
    let f : ℤ → ℕ = λ k. g (slice n 0 k S) in
    from_any g z n l (bottom (suc n)) (couplets_of V)
    ∙ slabs_sum g z n S (bottom (suc n)) [] (couplets_of V) (suc m) (starts n V v) (points-heights (suc n) V v.points) (omega (arith, int_facts))
    ∙ sum_by-cons f (bottom (suc n)) (ints (bottom (suc n) +ℤ pos 1) m)
    ∙ ap₂ (λ x y. x + sum_by f (ints y m))
    (ap g (slice_outside n 0 (bottom (suc n)) S s (low_outside (suc n) (bottom (suc n)) (let q : bottom (suc n) ≤ℤ bottom (suc n) = omega (arith, int_facts) in q))) ∙ z)
    (let q : bottom (suc n) +ℤ pos 1 ≡ neg_ℤ (pos (limit (suc n))) = omega (arith, int_facts) in q)
    ∙ (let q : 0 + sum_by f (ints (neg_ℤ (pos (limit (suc n)))) m) ≡ sum_by f (ints (neg_ℤ (pos (limit (suc n)))) m) = omega arith in q)

-- the content of a vertex list's cells is that of its slabs
pub content_is_at : (m n : ℕ) (V : List (List ℤ)) (l : ℤ) (left : List (ℤ × List (List ℤ))) → n + 1 ≡ m → IsVertexList m V → left ≡ couplets_of V → slab_sum content n l [] left ≡ content (cells m V)
content_is_at m n V l left e v a =
    let q : m ≡ suc n = omega arith in
    let w : IsVertexList (suc n) V = rw (← q) v in
    rw a (sections_sum content refl n V l w ∙ sym (content_by_sections n (cells (suc n) V) (cell_set-cells (suc n) V)) ∙ ap (λ k. content (cells k V)) (sym q))

-- ---- the boundary content

-- the contents of the couplets at cuts are those at all heights, since the others are empty
cut_faces : (n : ℕ) (S : List (List ℤ)) (hs : List ℤ)
    → face_sum n (map (λ h. (h, evm n (couplet n 0 h S))) (filter (λ h. not (is_empty (couplet n 0 h S))) hs)) ≡ sum_by (λ h. content (couplet n 0 h S)) hs
unfolding is_empty
cut_faces n S [] = refl
cut_faces n S (h ∷ hs) = at (couplet n 0 h S) refl (cut_faces n S hs) ∙ sym (sum_by-cons (λ k. content (couplet n 0 k S)) h hs)
  where
    rest : List ℤ
    rest = filter (λ k. not (is_empty (couplet n 0 k S))) hs

    at : (C : List (List ℤ)) → couplet n 0 h S ≡ C → face_sum n (map (λ k. (k, evm n (couplet n 0 k S))) rest) ≡ sum_by (λ k. content (couplet n 0 k S)) hs
        → face_sum n (map (λ k. (k, evm n (couplet n 0 k S))) (cond (not (is_empty C)) (h ∷ rest) rest)) ≡ length C + sum_by (λ k. content (couplet n 0 k S)) hs
    at [] e r = r ∙ omega arith
    at (c ∷ C) e r = ap₂ (λ x y. x + y) (ap length (cells-evm n (couplet n 0 h S) (cell_set-couplet n 0 h S) ∙ e)) r

pub faces_sum : (n : ℕ) (V : List (List ℤ)) → IsVertexList (suc n) V → face_sum n (couplets_of V) ≡ sum_by (λ h. content (couplet n 0 h (cells (suc n) V))) (point_coords (suc n))
unfolding couplets_in cuts
faces_sum n V v = ap (face_sum n) (couplets_are n V v) ∙ cut_faces n (cells (suc n) V) (point_coords (suc n))

-- the boundary content of a vertex list's cells: that of its slabs, and the contents of its couplets
pub boundary_is_at : (m n : ℕ) (V : List (List ℤ)) (l : ℤ) (left : List (ℤ × List (List ℤ))) → n + 1 ≡ m → IsVertexList m V → left ≡ couplets_of V
    → slab_sum (boundary n) n l [] left + face_sum n left ≡ boundary m (cells m V)
boundary_is_at m n V l left e v a =
    let q : m ≡ suc n = omega arith in
    let w : IsVertexList (suc n) V = rw (← q) v in
    rw a (ap₂ (λ x y. x + y) (sections_sum (boundary n) (boundary-empty n) n V l w) (faces_sum n V w)
    ∙ sym (boundary_by_sections n (cells (suc n) V) (cell_set-cells (suc n) V)) ∙ ap (λ k. boundary k (cells k V)) (sym q))

-- ---- dimension 1: each row is a face

no_slabs : (l : ℤ) (s : List (List ℤ)) (cs : List (ℤ × List (List ℤ))) → slab_sum (boundary 0) 0 l s cs ≡ 0
no_slabs l s [] = refl
no_slabs l s ((h, c) ∷ cs) =
    let z : boundary 0 (cells 0 s) ≤ 2 * 0 * length (cells 0 s) = boundary_bound 0 (cells 0 s) in
    let y : boundary 0 (cells 0 s) ≡ 0 = omega (arith, z) in
    ap₂ (λ x r. x * unsigned_abs (h -ℤ l) + r) y (no_slabs h (xor_rows 0 s c) cs) ∙ omega arith

single_faces : (cs : List (ℤ × List (List ℤ))) → AreSingle cs → face_sum 0 cs ≡ length (joined cs)
single_faces [] a = refl
single_faces ((h, c) ∷ cs) a =
    ap₂ (λ x r. length (cells 0 x) + r) a.0 (single_faces cs a.1)
    ∙ ap (λ X. length X + length (joined cs)) (cells-mark true)
    ∙ add_comm 1 (length (joined cs)) ∙ add-one (length (joined cs))
    ∙ sym (ap (λ (x : List (List ℤ)). length (map (λ r. h ∷ r) x ++ joined cs)) a.0)

pub boundary-one : (V : List (List ℤ)) → IsVertexList 1 V → length V ≡ boundary 1 (cells 1 V)
boundary-one V v =
    let w : Wide 1 V = wide-points 1 V v.points in
    ap length (sym (joined-couplets_of 1 V (omega arith) w))
    ∙ sym (single_faces (couplets_of V) (couplets_of-single V w (ascends_from V v.ascends)))
    ∙ (let q : face_sum 0 (couplets_of V) ≡ slab_sum (boundary 0) 0 (pos 0) [] (couplets_of V) + face_sum 0 (couplets_of V) = let z = no_slabs (pos 0) [] (couplets_of V) in omega arith in q)
    ∙ boundary_is_at 1 0 V (pos 0) (couplets_of V) refl v refl

pub boundary-one_at : (m : ℕ) (V : List (List ℤ)) → m ≡ 1 → IsVertexList m V → length V ≡ boundary m (cells m V)
boundary-one_at m V e v = let w : IsVertexList 1 V = rw e at v in boundary-one V w ∙ ap (λ k. boundary k (cells k V)) (sym e)
