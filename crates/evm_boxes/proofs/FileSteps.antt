-- Boxes of lines, of which the first are read, and what a file states.
use Rattle.std.proofs.Common.{◌≡◌, ℕ, ◌+◌, ◌*◌, Bool, true, false, cond, List, [], ◌∷◌, ◌++◌, map, length, take, drop, refl, sym, ap, ap₂, ◌∙◌, subst, arith, append_assoc, append-nil, length-append, ℤ, pos, Option, Some, None, Result, Ok, Err, ◌↔◌}
use Rattle.std.specs.Ordering.{int_eq}
use Rattle.std.specs.Result.{IsErrOf}
use Rattle.evm_cells.specs.Boxes.{is_box}
use Rattle.evm_cells.specs.Unions.{Ends, union_of}
use Rattle.evm_cells.proofs.Coords.{eq_yes}
use Rattle.evm_rows.specs.Rows.{Vertices, cells_of}
use Rattle.evm_text.specs.Lines.{lines, without_cr}
use Rattle.evm_text.specs.Words.{words}
use Rattle.evm_formats.specs.BoxFile.{Boxes, head_dim, is_skipped, just_numbers, box_of, box_of_numbers, joined, boxes_of_line, boxes_of_lines, boxes_of_file, boxes_after, union_or_refusal, file_cells}
use Rattle.evm_formats.specs.declared.boxes.BoxFileError.{BoxFileError}
use Rattle.evm_formats.specs.declared.boxes.BoxFileError.TheVariants.{Head, Dim, Range, NoMemory}
use Rattle.evm_formats.proofs.BoxLines.{boxes_of_lines-append, joined-empty}
use Rattle.evm_boxes.specs.BoxRows.{ends_of}
use Rattle.evm_boxes.specs.Reading.{Reads, Refuses, HasBoxes, Adds}
use Rattle.evm_boxes.specs.declared.BoxRow.{BoxRow}

-- the first lines were read: their boxes, and the number of the last, where line 1 stands before them
pub record HasRead (dim : ℕ) (text rest : List ℕ) (number : ℕ) (boxes : List Ends) : Type 0 where
  pub front : List (List ℕ)
  pub cut : lines text ≡ front ++ lines rest
  pub states : boxes_of_lines dim 2 front ≡ Ok boxes
  pub last : number ≡ 1 + length front

pub nothing_read : (dim : ℕ) (text : List ℕ) → HasRead dim text text 1 []
nothing_read dim text = record { front = []; cut = refl; states = refl; last = refl }

-- one line more, which states boxes
pub line_read : (dim number : ℕ) (text rest line after : List ℕ) (old new : List Ends) → HasRead dim text rest number old → lines rest ≡ line ∷ lines after
    → joined (Ok old) (boxes_of_line dim (number + 1) line) ≡ Ok new → HasRead dim text after (number + 1) new
line_read dim number text rest line after old new h l j = record {
  front = h.front ++ line ∷ [];
  cut = h.cut ∙ ap (λ (ls : List (List ℕ)). h.front ++ ls) l ∙ sym (append_assoc h.front (line ∷ []) (lines after));
  states = boxes_of_lines-append dim 2 h.front (line ∷ []) ∙ ap₂ joined h.states (last_line ∙ ap (λ (n : ℕ). boxes_of_line dim n line) place) ∙ j;
  last = omega (arith, h.last, length-append h.front (line ∷ []));
}
  where
    last_line : boxes_of_lines dim (2 + length h.front) (line ∷ []) ≡ boxes_of_line dim (2 + length h.front) line
    last_line = joined-empty (boxes_of_line dim (2 + length h.front) line)

    place : 2 + length h.front ≡ number + 1
    place = omega (arith, h.last)

-- all lines were read
pub lines_read : (dim number : ℕ) (text rest : List ℕ) (boxes : List Ends) → HasRead dim text rest number boxes → lines rest ≡ [] → boxes_of_lines dim 2 (lines text) ≡ Ok boxes
lines_read dim number text rest boxes h l =
    ap (boxes_of_lines dim 2) (h.cut ∙ ap (λ (ls : List (List ℕ)). h.front ++ ls) l ∙ append-nil h.front) ∙ h.states

-- the next line is wrong
pub line_refused : (dim number : ℕ) (text rest line after : List ℕ) (boxes : List Ends) (e : BoxFileError) → HasRead dim text rest number boxes → lines rest ≡ line ∷ lines after
    → boxes_of_line dim (number + 1) line ≡ Err e → boxes_of_lines dim 2 (lines text) ≡ Err e
line_refused dim number text rest line after boxes e h l r =
    let rest_of : Boxes = boxes_of_lines dim (2 + length h.front + 1) (lines after) in
    let place : 2 + length h.front ≡ number + 1 = omega (arith, h.last) in
    ap (boxes_of_lines dim 2) (h.cut ∙ ap (λ (ls : List (List ℕ)). h.front ++ ls) l)
    ∙ boxes_of_lines-append dim 2 h.front (line ∷ lines after)
    ∙ ap₂ (λ (a b : Boxes). joined a (joined b rest_of)) h.states (ap (λ (n : ℕ). boxes_of_line dim n line) place ∙ r)

-- the next line states a box
pub line_has_box : (dim number : ℕ) (text rest line after : List ℕ) (boxes : List Ends) (box : Ends) → HasRead dim text rest number boxes → lines rest ≡ line ∷ lines after
    → boxes_of_line dim (number + 1) line ≡ Ok (box ∷ []) → HasBoxes (boxes_of_lines dim 2) (lines text)
line_has_box dim number text rest line after boxes box h l b =
    let more = line_read dim number text rest line after boxes (boxes ++ box ∷ []) h l (ap (joined (Ok boxes)) b) in
    some_boxes boxes box more.front (lines after) more.cut more.states
  where
    some_boxes : (boxes : List Ends) (box : Ends) (front back : List (List ℕ)) → lines text ≡ front ++ back → boxes_of_lines dim 2 front ≡ Ok (boxes ++ box ∷ [])
        → HasBoxes (boxes_of_lines dim 2) (lines text)
    some_boxes [] box front back c e = record { front = front; back = back; first = box; more = []; cut = c; boxes = e }
    some_boxes (first ∷ more) box front back c e = record { front = front; back = back; first = first; more = more ++ box ∷ []; cut = c; boxes = e }

-- what the refusal of the next line owes
pub next_refused : (e : BoxFileError) (dim number : ℕ) (text rest line after : List ℕ) (old new : List BoxRow) → HasRead dim text rest number (map ends_of old)
    → lines rest ≡ line ∷ lines after → Adds (Err e) old new (boxes_of_line dim (number + 1) line) → Refuses e (boxes_of_lines dim 2 (lines text))
next_refused NoMemory dim number text rest line after old new h l a = tt
next_refused e dim number text rest line after old new h l a = line_refused dim number text rest line after (map ends_of old) e h l a

pub next_asked : (e : BoxFileError) (dim number : ℕ) (text rest line after : List ℕ) (old new : List BoxRow) → HasRead dim text rest number (map ends_of old)
    → lines rest ≡ line ∷ lines after → Adds (Err e) old new (boxes_of_line dim (number + 1) line) → e ≡ NoMemory → HasBoxes (boxes_of_lines dim 2) (lines text)
next_asked NoMemory dim number text rest line after old new h l a q = line_has_box dim number text rest line after (map ends_of old) a.0 h l a.1
next_asked e dim number text rest line after old new h l a q = absurd (cc q)

-- ---- the file

-- boxes under a line 1 that states the dimension
pub under_head : (dim : ℕ) (stated : ℤ) (bytes first rest : List ℕ) → lines bytes ≡ first ∷ lines rest → head_dim (words (without_cr first)) ≡ Some stated → stated ≡ pos dim
    → HasBoxes (boxes_of_lines dim 2) (lines rest) → HasBoxes (boxes_of_file dim) (lines bytes)
under_head dim stated bytes first rest l d e h = record {
  front = first ∷ h.front;
  back = h.back;
  first = h.first;
  more = h.more;
  cut = l ∙ ap (λ (ls : List (List ℕ)). first ∷ ls) h.cut;
  boxes = ap (λ (o : Option ℤ). boxes_after dim o h.front) d ∙ ap (λ (b : Bool). cond b (boxes_of_lines dim 2 h.front) (Err Dim)) (eq_yes stated (pos dim) e) ∙ h.boxes;
}

-- boxes that were all read
pub rows_asked : (dim : ℕ) (ls : List (List ℕ)) (rows : List BoxRow) → boxes_of_file dim ls ≡ Ok (map ends_of rows) → (length rows ≡ 0 → ⊥) → HasBoxes (boxes_of_file dim) ls
rows_asked dim ls [] e some = absurd (some refl)
rows_asked dim ls (row ∷ rows) e some = record { front = ls; back = []; first = ends_of row; more = map ends_of rows; cut = sym (append-nil ls); boxes = e }

-- the cells of a file whose boxes are known
pub cells_of_file : (dim : ℕ) (bytes : List ℕ) (boxes : List Ends) (solid : Vertices) → boxes_of_file dim (lines bytes) ≡ Ok boxes → cells_of solid ≡ union_of dim boxes
    → file_cells dim bytes ≡ Ok (cells_of solid)
unfolding file_cells
cells_of_file dim bytes boxes solid b u = ap (union_or_refusal dim) b ∙ ap (λ (S : List (List ℤ)). Ok S) (sym u)

-- the refusal of a file whose boxes are refused
pub refused_file : (dim : ℕ) (bytes : List ℕ) (e : BoxFileError) → Refuses e (boxes_of_file dim (lines bytes)) → Refuses e (file_cells dim bytes)
unfolding file_cells
refused_file dim bytes NoMemory h = tt
refused_file dim bytes e h = ap (union_or_refusal dim) h

-- ---- refusals of line 1 come whatever memory there is

-- a refusal of line 1 alone
abbrev OfHead : BoxFileError → Type 0
OfHead Head = Unit {0}
OfHead Dim = Unit {0}
OfHead _ = ⊥

abbrev NotOfHead : Boxes → Type 0
NotOfHead (Ok boxes) = Unit {0}
NotOfHead (Err e) = OfHead e → ⊥

line_not_of_head : (dim k : ℕ) (line : List ℕ) → NotOfHead (boxes_of_line dim k line)
line_not_of_head dim k line =
    let ws = words (without_cr line) in
    let boxed : (ns : List ℤ) → NotOfHead (box_of dim k ns) = λ ns.
    elim (is_box dim (take dim ns) (drop dim ns)) as (λ b. NotOfHead (cond b (Ok (record { lo = take dim ns; hi = drop dim ns } ∷ [])) (Err (Range k)))) [ true ↦ tt | false ↦ λ h. h ] in
    elim (is_skipped ws) as (λ b. NotOfHead (cond b (Ok []) (box_of_numbers dim k (just_numbers (2 * dim) ws))))
    [ true ↦ tt | false ↦ elim (just_numbers (2 * dim) ws) as (λ o. NotOfHead (box_of_numbers dim k o)) [ None ↦ λ h. h | Some ns ↦ boxed ns ] ]

joined_not_of_head : (a b : Boxes) → NotOfHead a → NotOfHead b → NotOfHead (joined a b)
joined_not_of_head (Err e) b h k = h
joined_not_of_head (Ok xs) (Err e) h k = k
joined_not_of_head (Ok xs) (Ok ys) h k = tt

lines_not_of_head : (dim k : ℕ) (ls : List (List ℕ)) → NotOfHead (boxes_of_lines dim k ls)
lines_not_of_head dim k [] = tt
lines_not_of_head dim k (line ∷ ls) = joined_not_of_head (boxes_of_line dim k line) (boxes_of_lines dim (k + 1) ls) (line_not_of_head dim k line) (lines_not_of_head dim (k + 1) ls)

-- where lines after line 1 state boxes, line 1 is right
not_refused : (dim : ℕ) (o : Option ℤ) (front ls : List (List ℕ)) (boxes : List Ends) (e : BoxFileError) → boxes_after dim o front ≡ Ok boxes → OfHead e → boxes_after dim o ls ≡ Err e → ⊥
not_refused dim None front ls boxes e b h r = cc b
not_refused dim (Some d) front ls boxes e b h r = by (int_eq d (pos dim)) b r
  where
    by : (t : Bool) → cond t (boxes_of_lines dim 2 front) (Err Dim) ≡ Ok boxes → cond t (boxes_of_lines dim 2 ls) (Err Dim) ≡ Err e → ⊥
    by true b r = subst NotOfHead r (lines_not_of_head dim 2 ls) h
    by false b r = cc b

no_boxes_asked : (dim : ℕ) (ls : List (List ℕ)) (e : BoxFileError) → HasBoxes (boxes_of_file dim) ls → OfHead e → boxes_of_file dim ls ≡ Err e → ⊥
no_boxes_asked dim ls e h of r = by h.front h.cut h.boxes
  where
    by : (front : List (List ℕ)) → ls ≡ front ++ h.back → boxes_of_file dim front ≡ Ok (h.first ∷ h.more) → ⊥
    by [] c b = cc b
    by (first ∷ front) c b = not_refused dim (head_dim (words (without_cr first))) front (front ++ h.back) (h.first ∷ h.more) e b of (sym (ap (boxes_of_file dim) c) ∙ r)

file_refused : (dim : ℕ) (r : Boxes) (e : BoxFileError) → union_or_refusal dim r ≡ Err e → r ≡ Err e
file_refused dim (Ok boxes) e q = absurd (cc q)
file_refused dim (Err f) e q = cc q

-- a reader's answer where line 1 is refused
refused_exactly : (dim : ℕ) (bytes : List ℕ) (r : Result Vertices BoxFileError) (e : BoxFileError) → Reads r (file_cells dim bytes)
    → (IsErrOf r NoMemory → HasBoxes (boxes_of_file dim) (lines bytes)) → OfHead e → file_cells dim bytes ≡ Err e → IsErrOf r e
unfolding file_cells
refused_exactly dim bytes (Ok solid) e a m of q = absurd (cc (a, q))
refused_exactly dim bytes (Err NoMemory) e a m of q = absurd (no_boxes_asked dim (lines bytes) e (m refl) of (file_refused dim (boxes_of_file dim (lines bytes)) e q))
refused_exactly dim bytes (Err f) e a m of q = cc (a, q)

pub exact_head : (dim : ℕ) (bytes : List ℕ) (r : Result Vertices BoxFileError) → Reads r (file_cells dim bytes) → (IsErrOf r NoMemory → HasBoxes (boxes_of_file dim) (lines bytes))
    → IsErrOf r Head ↔ (file_cells dim bytes ≡ Err Head)
exact_head dim bytes r a m = (λ q. subst (λ (s : Result Vertices BoxFileError). Reads s (file_cells dim bytes)) q a, refused_exactly dim bytes r Head a m tt)

pub exact_dim : (dim : ℕ) (bytes : List ℕ) (r : Result Vertices BoxFileError) → Reads r (file_cells dim bytes) → (IsErrOf r NoMemory → HasBoxes (boxes_of_file dim) (lines bytes))
    → IsErrOf r Dim ↔ (file_cells dim bytes ≡ Err Dim)
exact_dim dim bytes r a m = (λ q. subst (λ (s : Result Vertices BoxFileError). Reads s (file_cells dim bytes)) q a, refused_exactly dim bytes r Dim a m tt)
