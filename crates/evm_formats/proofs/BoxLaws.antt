-- Box files as texts of lines.
use Rattle.std.proofs.Common.{◌≡◌, ℕ, ◌+◌, ◌*◌, ◌<◌, Bool, true, false, cond, List, [], ◌∷◌, ◌++◌, length, map, take, drop, Option, Some, None, Result, Ok, Err, ℤ, pos, codes, refl, sym, ap, ap₂, ◌∙◌, arith, append_assoc, All}
use Rattle.std.specs.Ordering.{int_eq}
use Rattle.std.proofs.lemmas.List.{take_at, drop_at}
use Rattle.std.proofs.lemmas.List.Elements.{All-head, All-tail, All-append, All-cons, All-map, All-weaker}
use Rattle.std.proofs.lemmas.List.Splits.{slice_split_at, length-slice_split}
use Rattle.std.specs.List.{slice_split}
use Rattle.evm_cells.specs.Booleans.{or_cells}
use Rattle.evm_cells.specs.Boxes.{is_box}
use Rattle.evm_cells.specs.Examples.{plane}
use Rattle.evm_cells.specs.Limits.{is_point, is_point_coord, limit}
use Rattle.evm_cells.specs.Places.{each}
use Rattle.evm_cells.specs.Unions.{Ends, union_of}
use Rattle.evm_cells.proofs.Boxes.{box_test}
use Rattle.evm_cells.proofs.Coords.{eq_yes}
use Rattle.evm_cells.proofs.Universe.{point_parts}
use Rattle.evm_cells.proofs.Unions.{two_unions, one_box}
use Rattle.evm_formats.specs.BoxFile.{Boxes, head_dim, just_numbers, box_of_numbers, boxes_of_line, boxes_of_lines, joined, boxes_after, boxes_of_file, union_or_refusal, file_cells}
use Rattle.evm_formats.specs.BoxLaws.{IsLine, IsHead, HasBox, BoxesStateUnion, PiecesStateUnion, BlanksStateNothing, FirstWrongLine, TwoRooms}
use Rattle.evm_text.specs.Lines.{is_lf, lines, lines_of_parts, without_cr, text_of}
use Rattle.evm_text.specs.Words.{words}
use Rattle.evm_text.specs.Numbers.{number}
use Rattle.evm_formats.specs.declared.boxes.BoxFileError.{BoxFileError}
use Rattle.evm_formats.specs.declared.boxes.BoxFileError.TheVariants.{Dim, Range}
use Rattle.evm_formats.proofs.BoxLines.{boxes_of_lines-append, boxes_of_lines-moved, boxes_of_lines-blank}

-- ---- texts of lines

parts_step : (x : List ℕ) (parts : List (List ℕ)) → 0 < length parts → lines_of_parts (x ∷ parts) ≡ x ∷ lines_of_parts parts
parts_step x [] h = absurd (omega arith)
parts_step x (y ∷ more) h = refl

lines-line : (line text : List ℕ) → IsLine line → lines (line ++ 10 ∷ text) ≡ line ∷ lines text
unfolding lines
lines-line line text h =
    ap lines_of_parts (slice_split_at is_lf line 10 text h refl) ∙ parts_step line (slice_split is_lf text) (omega (arith, length-slice_split is_lf text))

lines-text_of : (ls : List (List ℕ)) → All IsLine ls → lines (text_of ls) ≡ ls
unfolding lines
lines-text_of [] h = refl
lines-text_of (line ∷ ls) h =
    ap lines (append_assoc line (10 ∷ []) (text_of ls)) ∙ lines-line line (text_of ls) (All-head IsLine line ls h)
    ∙ ap (λ (ms : List (List ℕ)). line ∷ ms) (lines-text_of ls (All-tail IsLine line ls h))

cells_of_text : (dim : ℕ) (ls : List (List ℕ)) → All IsLine ls → file_cells dim (text_of ls) ≡ union_or_refusal dim (boxes_of_file dim ls)
unfolding file_cells
cells_of_text dim ls h = ap (λ (ms : List (List ℕ)). union_or_refusal dim (boxes_of_file dim ms)) (lines-text_of ls h)

-- ---- files

headed : (dim : ℕ) (head : List ℕ) (ls : List (List ℕ)) → IsHead dim head → boxes_of_file dim (head ∷ ls) ≡ boxes_of_lines dim 2 ls
headed dim head ls h =
    ap (λ (o : Option ℤ). boxes_after dim o ls) h.states
    ∙ ap (λ (b : Bool). cond b (boxes_of_lines dim 2 ls) (Err Dim)) (eq_yes (pos dim) (pos dim) refl)

-- a file that states cells
record Stated (dim : ℕ) (o : Option ℤ) (ls : List (List ℕ)) (S : List (List ℤ)) : Type 0 where
  pub head : (ms : List (List ℕ)) → boxes_after dim o ms ≡ boxes_of_lines dim 2 ms
  pub boxes : List Ends
  pub lines : boxes_of_lines dim 2 ls ≡ Ok boxes
  pub set : union_of dim boxes ≡ S

ok_is : (S T : List (List ℤ)) → (let r : Result (List (List ℤ)) BoxFileError = Ok S in r) ≡ Ok T → S ≡ T
ok_is S T e = cc e

lines_stated : (dim : ℕ) (o : Option ℤ) (ls : List (List ℕ)) (S : List (List ℤ)) (r : Boxes) → boxes_of_lines dim 2 ls ≡ r
    → ((ms : List (List ℕ)) → boxes_after dim o ms ≡ boxes_of_lines dim 2 ms) → union_or_refusal dim r ≡ Ok S → Stated dim o ls S
lines_stated dim o ls S (Ok boxes) e h q = record { head = h; boxes = boxes; lines = e; set = ok_is _ _ q }
lines_stated dim o ls S (Err f) e h q = absurd (cc q)

stated : (dim : ℕ) (o : Option ℤ) (ls : List (List ℕ)) (S : List (List ℤ)) → union_or_refusal dim (boxes_after dim o ls) ≡ Ok S → Stated dim o ls S
stated dim None ls S e = absurd (cc e)
stated dim (Some d) ls S e = by (int_eq d (pos dim)) refl
  where
    by : (b : Bool) → int_eq d (pos dim) ≡ b → Stated dim (Some d) ls S
    by true t =
        let head : (ms : List (List ℕ)) → boxes_after dim (Some d) ms ≡ boxes_of_lines dim 2 ms = λ ms. ap (λ (b : Bool). cond b (boxes_of_lines dim 2 ms) (Err Dim)) t in
        lines_stated dim (Some d) ls S (boxes_of_lines dim 2 ls) refl head (ap (union_or_refusal dim) (sym (head ls)) ∙ e)
    by false t = absurd (cc (ap (λ (b : Bool). union_or_refusal dim (cond b (boxes_of_lines dim 2 ls) (Err Dim))) (sym t) ∙ e))

-- the same of a text
text_stated : (dim : ℕ) (head : List ℕ) (ls : List (List ℕ)) (S : List (List ℤ)) → All IsLine (head ∷ ls) → file_cells dim (text_of (head ∷ ls)) ≡ Ok S
    → Stated dim (head_dim (words (without_cr head))) ls S
text_stated dim head ls S h e = stated dim (head_dim (words (without_cr head))) ls S (sym (cells_of_text dim (head ∷ ls) h) ∙ e)

-- a text whose boxes are known
states_text : (dim : ℕ) (head : List ℕ) (ls : List (List ℕ)) (r : Boxes) → All IsLine (head ∷ ls)
    → boxes_after dim (head_dim (words (without_cr head))) ls ≡ r → file_cells dim (text_of (head ∷ ls)) ≡ union_or_refusal dim r
states_text dim head ls r h e = cells_of_text dim (head ∷ ls) h ∙ ap (union_or_refusal dim) e

-- lines under a head, in two pieces, and with one between them
two_pieces : (head : List ℕ) (xs ys : List (List ℕ)) → IsLine head → All IsLine xs → All IsLine ys → All IsLine (head ∷ (xs ++ ys))
two_pieces head xs ys h x y = All-cons IsLine head (xs ++ ys) h (All-append IsLine xs ys x y)

pub pieces : PiecesStateUnion
pieces dim head xs ys S T h x y e f =
    let s = text_stated dim head xs S (All-cons IsLine head xs h x) e in
    let t = text_stated dim head ys T (All-cons IsLine head ys h y) f in
    let moved : boxes_of_lines dim (2 + length xs) ys ≡ Ok t.boxes = boxes_of_lines-moved dim 2 (2 + length xs) ys t.boxes t.lines in
    states_text dim head (xs ++ ys) (Ok (s.boxes ++ t.boxes)) (two_pieces head xs ys h x y)
    (s.head (xs ++ ys) ∙ boxes_of_lines-append dim 2 xs ys ∙ ap₂ joined s.lines moved)
    ∙ ap (λ (A : List (List ℤ)). Ok A) (sym (two_unions dim s.boxes t.boxes) ∙ ap₂ (or_cells dim) s.set t.set)

pub blanks : BlanksStateNothing
blanks dim head blank xs ys S h b x y e =
    let s = text_stated dim head (xs ++ ys) S (two_pieces head xs ys h x y) e in
    states_text dim head (xs ++ blank ∷ ys) (Ok s.boxes) (two_pieces head xs (blank ∷ ys) h x (All-cons IsLine blank ys b.whole y))
    (s.head (xs ++ blank ∷ ys) ∙ boxes_of_lines-blank dim 2 xs ys blank s.boxes b.skipped s.lines)
    ∙ ap (λ (A : List (List ℤ)). Ok A) s.set

pub wrong : FirstWrongLine
wrong dim head line xs ys bs e h l x y f w =
    let rest = boxes_of_lines dim (2 + length xs + 1) ys in
    states_text dim head (xs ++ line ∷ ys) (Err e) (two_pieces head xs (line ∷ ys) h.whole x (All-cons IsLine line ys l y))
    (headed dim head (xs ++ line ∷ ys) h ∙ boxes_of_lines-append dim 2 xs (line ∷ ys) ∙ ap₂ (λ (a b : Boxes). joined a (joined b rest)) f w)

-- ---- lines of boxes

-- the box of a line
line_of_box : (dim k : ℕ) (ends : Ends) (line : List ℕ) → HasBox dim ends line → boxes_of_line dim k line ≡ Ok (ends ∷ [])
line_of_box dim k ends line h =
    let ws = words (without_cr line) in
    let long = point_parts dim ends.lo h.box.low in
    let lo : take dim (ends.lo ++ ends.hi) ≡ ends.lo = take_at ends.lo ends.hi dim long.0 in
    let hi : drop dim (ends.lo ++ ends.hi) ≡ ends.hi = drop_at ends.lo ends.hi dim long.0 in
    ap (λ (b : Bool). cond b (Ok []) (box_of_numbers dim k (just_numbers (2 * dim) ws))) h.filled
    ∙ ap (box_of_numbers dim k) h.words
    ∙ ap₂ (λ (a b : List ℤ). cond (is_box dim a b) (Ok (record { lo = a; hi = b } ∷ [])) (Err (Range k))) lo hi
    ∙ ap (λ (b : Bool). cond b (Ok (ends ∷ [])) (Err (Range k))) ((box_test dim ends.lo ends.hi).1 h.box)

lines_of_boxes : (dim k : ℕ) (written : Ends → List ℕ) (bs : List Ends) → All (λ ends. HasBox dim ends (written ends)) bs → boxes_of_lines dim k (map written bs) ≡ Ok bs
lines_of_boxes dim k written [] h = refl
lines_of_boxes dim k written (b ∷ bs) h =
    ap₂ joined (line_of_box dim k b (written b) (All-head (λ ends. HasBox dim ends (written ends)) b bs h))
    (lines_of_boxes dim (k + 1) written bs (All-tail (λ ends. HasBox dim ends (written ends)) b bs h))

pub boxes : BoxesStateUnion
boxes dim head written bs h all =
    let whole : All IsLine (map written bs) = All-map IsLine written bs (All-weaker (λ ends. HasBox dim ends (written ends)) (λ ends. IsLine (written ends)) (λ ends b. b.whole) bs all) in
    states_text dim head (map written bs) (Ok bs) (All-cons IsLine head (map written bs) h.whole whole)
    (headed dim head (map written bs) h ∙ lines_of_boxes dim 2 written bs all)

-- ---- the worked file

first_room : Ends
first_room = record { lo = plane 0 0; hi = plane 2 2 }

second_room : Ends
second_room = record { lo = plane 1 1; hi = plane 3 3 }

-- the lines of a text that computes
pub two_rooms : TwoRooms
unfolding file_cells lines words number first_room second_room is_point is_point_coord limit each
two_rooms =
    let rooms : boxes_of_file 2 (lines (text_of (codes "evm-boxes 1 2" ∷ codes "# two rooms that overlap" ∷ codes "0 0 2 2" ∷ codes "1 1 3 3" ∷ []))) ≡ Ok (first_room ∷ second_room ∷ []) = refl in
    ap (union_or_refusal 2) rooms
    ∙ ap (λ (A : List (List ℤ)). Ok A)
    (sym (two_unions 2 (first_room ∷ []) (second_room ∷ [])) ∙ ap₂ (or_cells 2) (one_box 2 first_room) (one_box 2 second_room))
