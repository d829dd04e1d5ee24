-- Cuts and parts as lines of replies.
use Rattle.std.proofs.Common.{◌≡◌, ℕ, ◌+◌, ◌-◌, ◌<◌, List, [], ◌∷◌, ◌++◌, take, get_or, length, map, ℤ, Result, codes, decimal, subst, refl, sym, ap, ◌∙◌}
use Rattle.std.specs.Prelude.{flat_map, All}
use Rattle.std.specs.Fmt.{signed_decimal}
use Rattle.std.proofs.lemmas.List.{append_assoc, take_more, length-map}
use Rattle.std.proofs.lemmas.List.Elements.{All-head, All-tail}
use Rattle.std.proofs.lemmas.Grind.{flat_map-append}
use Rattle.evm_cells.specs.Limits.{IsCellSet}
use Rattle.evm_cells.specs.Measures.{content}
use Rattle.evm_cells.specs.Parts.{parts}
use Rattle.evm_cells.specs.Sections.{cuts}
use Rattle.evm_cells.specs.Vertices.{evm, cells, IsVertexList}
use Rattle.evm_cells.proofs.Core.{cells-evm, evm-cells}
use Rattle.evm_cells.proofs.Universe.{cell_set-cells}
use Rattle.evm_rows.specs.Rows.{Vertices}
use Rattle.evm_rows.specs.declared.solid.NoMemory.{NoMemory}
use Rattle.evm_faces.specs.Counts.{faces_at as counted_at, faces_by_cut}
use Rattle.evm_faces.specs.declared.counts.CutFaces.{CutFaces as Counted}
use Rattle.evm_parts.proofs.FloodChains.{floods_are_parts}
use Rattle.evm_model.specs.Figures.{Figure, faces_at, faces_of, parts_of, vertices_in, content_of}
use Rattle.evm_model.specs.Replies.{Faced, Parted, line_of, rows_text, cut_text, cuts_text, part_text, parts_text, reply_text}
use Rattle.evm_formulas.specs.Stated.{figure_of}
use Rattle.evm_session.specs.Counted.{cut_line, cut_lines, cuts_reply, part_lines, parts_lines, parts_reply}
use Rattle.evm_session.specs.Says.{Extends, Says}
use Rattle.evm_session.proofs.Rows.{append_nil, says_after, header_said, extends_more}

-- ---- texts one after another

-- one text further
pub texts_more : {X : Type 0} (text : X → List ℕ) (xs : List X) (i : ℕ) (d : X) (before mid now : List ℕ) → i < length xs → mid ≡ before ++ flat_map text (take i xs) → now ≡ mid ++ text (get_or xs i d) → now ≡ before ++ flat_map text (take (i + 1) xs)
texts_more text xs i d before mid now l e f =
    f ∙ ap (λ (t : List ℕ). t ++ text (get_or xs i d)) e
    ∙ append_assoc before (flat_map text (take i xs)) (text (get_or xs i d))
    ∙ ap (λ (t : List ℕ). before ++ t) (sym more)
  where
    more : flat_map text (take (i + 1) xs) ≡ flat_map text (take i xs) ++ text (get_or xs i d)
    more =
        ap (flat_map text) (take_more xs i d l)
        ∙ flat_map-append text (take i xs) (get_or xs i d ∷ [])
        ∙ ap (λ (t : List ℕ). flat_map text (take i xs) ++ t) (append_nil (text (get_or xs i d)))

-- what extends a text behind a header extends what was before it
pub extends_headed : (before header text mid now : List ℕ) → mid ≡ (before ++ header) ++ text → Extends mid now → Extends before now
extends_headed before header text mid now e h = extends_more before mid now (header ++ text) (e ∙ append_assoc before header text) h

-- ---- cuts

-- the line of a cut
pub says_cut : (f : Counted) (r : Result (Unit {0}) NoMemory) (before a b c d e now : List ℕ) → a ≡ before ++ signed_decimal f.at → b ≡ a ++ 32 ∷ [] → c ≡ b ++ decimal f.rises → d ≡ c ++ 32 ∷ [] → e ≡ d ++ decimal f.falls
    → Says r e now (10 ∷ []) → Says r before now (cut_line f)
says_cut f r before a b c d e now ea eb ec ed ee h =
    says_after r before e now (signed_decimal f.at ++ 32 ∷ decimal f.rises ++ 32 ∷ decimal f.falls) (10 ∷ [])
    (ee ∙ ap (λ (t : List ℕ). t ++ decimal f.falls) (ed ∙ ap (λ (t : List ℕ). t ++ 32 ∷ []) (ec ∙ ap (λ (t : List ℕ). t ++ decimal f.rises) (eb ∙ ap (λ (t : List ℕ). t ++ 32 ∷ []) ea)))
    ∙ five before (signed_decimal f.at) (decimal f.rises) (decimal f.falls)) h
  where
    five : (before x y z : List ℕ) → ((((before ++ x) ++ 32 ∷ []) ++ y) ++ 32 ∷ []) ++ z ≡ before ++ (x ++ 32 ∷ y ++ 32 ∷ z)
    five before x y z = simp append_assoc

-- the lines of counted cuts are those of the model's
lines_of_cuts : (axis : ℕ) (v : Vertices) (hs : List ℤ) → cut_lines (map (counted_at axis v) hs) ≡ cuts_text (map (faces_at axis (figure_of v)) hs)
lines_of_cuts axis v [] = refl
lines_of_cuts axis v (h ∷ hs) = ap (λ (t : List ℕ). cut_text (faces_at axis (figure_of v) h) ++ t) (lines_of_cuts axis v hs)

pub cuts_said : (axis : ℕ) (v : Vertices) (found : List Counted) → found ≡ faces_by_cut axis v → cuts_reply found ≡ reply_text (Faced (faces_of axis (figure_of v)))
unfolding reply_text faces_of
cuts_said axis v found e =
    let hs : List ℤ = cuts (v.dim - 1) (axis - 1) (cells v.dim v.rows) in
    ap cuts_reply e
    ∙ ap (λ (n : ℕ). line_of (codes "ok " ++ decimal n) ++ cut_lines (map (counted_at axis v) hs)) (length-map hs (counted_at axis v) ∙ sym (length-map hs (faces_at axis (figure_of v))))
    ∙ ap (λ (t : List ℕ). line_of (codes "ok " ++ decimal (length (map (faces_at axis (figure_of v)) hs))) ++ t) (lines_of_cuts axis v hs)

-- ---- parts

-- a part: its line, and then its rows
pub says_part : (v : Vertices) (r : Result (Unit {0}) NoMemory) (count filled : ℕ) (before a b c d header now : List ℕ) → IsVertexList v.dim v.rows → count ≡ length v.rows → filled ≡ content (cells v.dim v.rows)
    → a ≡ before ++ codes "part " → b ≡ a ++ decimal count → c ≡ b ++ 32 ∷ [] → d ≡ c ++ decimal filled → header ≡ d ++ 10 ∷ []
    → Says r header now (rows_text v.rows) → Says r before now (part_lines v)
unfolding vertices_in content_of
says_part v r count filled before a b c d header now list k m ea eb ec ed eh h =
    let numbers : ℕ → ℕ → List ℕ = λ x y. line_of (codes "part " ++ decimal x ++ 32 ∷ decimal y) in
    let first : header ≡ before ++ numbers count filled = header_said (codes "part ") (decimal count) (decimal filled) before a b c d header ea eb ec ed eh in
    let text : numbers count filled ++ rows_text v.rows ≡ part_lines v =
    ap (λ (x : ℕ). numbers x filled ++ rows_text v.rows) k
    ∙ ap (λ (y : ℕ). numbers (length v.rows) y ++ rows_text v.rows) m
    ∙ ap (λ (rows : List (List ℤ)). numbers (length rows) (content (cells v.dim v.rows)) ++ rows_text rows) (sym (evm-cells v.dim v.rows list)) in
    subst (λ (t : List ℕ). Says r before now t) text (says_after r before header now (numbers count filled) (rows_text v.rows) first h)

-- the lines of parts by their rows are those of the model's
lines_of_parts : (n : ℕ) (sets : List (List (List ℤ))) → All (IsCellSet n) sets → parts_lines n (map (evm n) sets) ≡ parts_text (map (λ c. record { dim = n; cells = c }) sets)
lines_of_parts n [] h = refl
lines_of_parts n (c ∷ sets) h =
    let whole : List (List ℤ) → List ℕ = λ S. part_text (record { dim = n; cells = S }) in
    ap (λ (S : List (List ℤ)). whole S ++ parts_lines n (map (evm n) sets)) (cells-evm n c (All-head (IsCellSet n) c sets h))
    ∙ ap (λ (t : List ℕ). whole c ++ t) (lines_of_parts n sets (All-tail (IsCellSet n) c sets h))

pub parts_said : (v : Vertices) (n : ℕ) (found : List (List (List ℤ))) → n ≡ v.dim → found ≡ map (evm v.dim) (parts (cells v.dim v.rows)) → parts_reply n found ≡ reply_text (Parted (parts_of (figure_of v)))
unfolding reply_text parts_of
parts_said v n found d e =
    let S : List (List ℤ) = cells v.dim v.rows in
    let whole : List (List ℤ) → Figure = λ c. record { dim = v.dim; cells = c } in
    ap (λ (m : ℕ). parts_reply m found) d
    ∙ ap (parts_reply v.dim) e
    ∙ ap (λ (m : ℕ). line_of (codes "ok " ++ decimal m) ++ parts_lines v.dim (map (evm v.dim) (parts S))) (length-map (parts S) (evm v.dim) ∙ sym (length-map (parts S) whole))
    ∙ ap (λ (t : List ℕ). line_of (codes "ok " ++ decimal (length (map whole (parts S)))) ++ t) (lines_of_parts v.dim (parts S) (floods_are_parts v.dim S (cell_set-cells v.dim v.rows)).cell_sets)
