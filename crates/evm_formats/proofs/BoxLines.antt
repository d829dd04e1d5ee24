-- Boxes of lines, piece by piece.
use Rattle.std.proofs.Common.{◌≡◌, ℕ, ◌+◌, ◌*◌, Bool, true, false, cond, List, [], ◌∷◌, ◌++◌, length, take, drop, Option, Some, None, Ok, Err, ℤ, refl, sym, ap, ap₂, ◌∙◌, arith, append_assoc, append-nil}
use Rattle.evm_cells.specs.Boxes.{is_box}
use Rattle.evm_cells.specs.Unions.{Ends}
use Rattle.evm_formats.specs.BoxFile.{Boxes, is_skipped, just_numbers, box_of_numbers, boxes_of_line, boxes_of_lines, joined}
use Rattle.evm_text.specs.Lines.{without_cr}
use Rattle.evm_text.specs.Words.{words}
use Rattle.evm_formats.specs.declared.boxes.BoxFileError.TheVariants.{Range}

pub joined-joined : (a b c : Boxes) → joined (joined a b) c ≡ joined a (joined b c)
joined-joined (Err e) b c = refl
joined-joined (Ok xs) (Err e) c = refl
joined-joined (Ok xs) (Ok ys) (Err e) = refl
joined-joined (Ok xs) (Ok ys) (Ok zs) = ap (λ (t : List Ends). Ok t) (append_assoc xs ys zs)

pub joined-none : (a : Boxes) → joined (Ok []) a ≡ a
joined-none (Err e) = refl
joined-none (Ok xs) = refl

pub joined-empty : (a : Boxes) → joined a (Ok []) ≡ a
joined-empty (Err e) = refl
joined-empty (Ok xs) = ap (λ (t : List Ends). Ok t) (append-nil xs)

-- the boxes of two pieces
pub boxes_of_lines-append : (dim k : ℕ) (xs ys : List (List ℕ)) → boxes_of_lines dim k (xs ++ ys) ≡ joined (boxes_of_lines dim k xs) (boxes_of_lines dim (k + length xs) ys)
boxes_of_lines-append dim k [] ys = ap (λ (n : ℕ). boxes_of_lines dim n ys) (omega arith) ∙ sym (joined-none (boxes_of_lines dim (k + 0) ys))
boxes_of_lines-append dim k (x ∷ xs) ys =
    let line = boxes_of_line dim k x in
    ap (joined line) (boxes_of_lines-append dim (k + 1) xs ys)
    ∙ sym (joined-joined line (boxes_of_lines dim (k + 1) xs) (boxes_of_lines dim (k + 1 + length xs) ys))
    ∙ ap (λ (n : ℕ). joined (boxes_of_lines dim k (x ∷ xs)) (boxes_of_lines dim n ys)) (omega arith)

-- ---- the number of a line is seen in refusals alone

-- the same boxes, or two refusals
abbrev Alike : Boxes → Boxes → Type 0
Alike (Ok xs) (Ok ys) = xs ≡ ys
Alike (Err e) (Err f) = Unit {0}
Alike _ _ = ⊥

numbers_alike : (dim k j : ℕ) (o : Option (List ℤ)) → Alike (box_of_numbers dim k o) (box_of_numbers dim j o)
numbers_alike dim k j None = tt
numbers_alike dim k j (Some ns) =
    let box : Boxes = Ok (record { lo = take dim ns; hi = drop dim ns } ∷ []) in
    elim (is_box dim (take dim ns) (drop dim ns)) as (λ b. Alike (cond b box (Err (Range k))) (cond b box (Err (Range j)))) [ true ↦ refl | false ↦ tt ]

line_alike : (dim k j : ℕ) (line : List ℕ) → Alike (boxes_of_line dim k line) (boxes_of_line dim j line)
line_alike dim k j line =
    let ws = words (without_cr line) in
    let rest = just_numbers (2 * dim) ws in
    elim (is_skipped ws) as (λ b. Alike (cond b (Ok []) (box_of_numbers dim k rest)) (cond b (Ok []) (box_of_numbers dim j rest)))
    [ true ↦ refl | false ↦ numbers_alike dim k j rest ]

joined_alike : (a b c d : Boxes) → Alike a b → Alike c d → Alike (joined a c) (joined b d)
joined_alike (Err e) (Err f) c d h k = tt
joined_alike (Err e) (Ok ys) c d h k = absurd h
joined_alike (Ok xs) (Err f) c d h k = absurd h
joined_alike (Ok xs) (Ok ys) (Err e) (Err f) h k = tt
joined_alike (Ok xs) (Ok ys) (Err e) (Ok ws) h k = absurd k
joined_alike (Ok xs) (Ok ys) (Ok zs) (Err f) h k = absurd k
joined_alike (Ok xs) (Ok ys) (Ok zs) (Ok ws) h k = ap₂ (λ (s t : List Ends). s ++ t) h k

lines_alike : (dim k j : ℕ) (ls : List (List ℕ)) → Alike (boxes_of_lines dim k ls) (boxes_of_lines dim j ls)
lines_alike dim k j [] = refl
lines_alike dim k j (line ∷ ls) =
    joined_alike (boxes_of_line dim k line) (boxes_of_line dim j line) (boxes_of_lines dim (k + 1) ls) (boxes_of_lines dim (j + 1) ls)
    (line_alike dim k j line) (lines_alike dim (k + 1) (j + 1) ls)

alike_ok : (a b : Boxes) (boxes : List Ends) → Alike a b → a ≡ Ok boxes → b ≡ Ok boxes
alike_ok (Ok xs) (Ok ys) boxes h e = sym (ap (λ (t : List Ends). Ok t) h) ∙ e
alike_ok (Ok xs) (Err f) boxes h e = absurd h
alike_ok (Err e) b boxes h q = absurd (cc q)

-- lines that are right state the same boxes wherever they stand
pub boxes_of_lines-moved : (dim k j : ℕ) (ls : List (List ℕ)) (boxes : List Ends) → boxes_of_lines dim k ls ≡ Ok boxes → boxes_of_lines dim j ls ≡ Ok boxes
boxes_of_lines-moved dim k j ls boxes e = alike_ok (boxes_of_lines dim k ls) (boxes_of_lines dim j ls) boxes (lines_alike dim k j ls) e

-- a blank line between others
pub boxes_of_lines-blank : (dim k : ℕ) (xs ys : List (List ℕ)) (blank : List ℕ) (boxes : List Ends) → is_skipped (words (without_cr blank)) ≡ true
    → boxes_of_lines dim k (xs ++ ys) ≡ Ok boxes → boxes_of_lines dim k (xs ++ blank ∷ ys) ≡ Ok boxes
boxes_of_lines-blank dim k xs ys blank boxes s e =
    let n = k + length xs in
    let front = boxes_of_lines dim k xs in
    let skipped : boxes_of_line dim n blank ≡ Ok [] = ap (λ (b : Bool). cond b (Ok []) (box_of_numbers dim n (just_numbers (2 * dim) (words (without_cr blank))))) s in
    let late : Boxes = boxes_of_lines dim (n + 1) ys in
    let moved : joined front late ≡ Ok boxes =
    alike_ok (joined front (boxes_of_lines dim n ys)) (joined front late) boxes
    (joined_alike front front (boxes_of_lines dim n ys) late (lines_alike dim k k xs) (lines_alike dim n (n + 1) ys))
    (sym (boxes_of_lines-append dim k xs ys) ∙ e) in
    boxes_of_lines-append dim k xs (blank ∷ ys) ∙ ap (λ (r : Boxes). joined front (joined r late)) skipped ∙ ap (joined front) (joined-none late) ∙ moved
