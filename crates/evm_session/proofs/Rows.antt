-- Rows as text.
use Rattle.std.proofs.Common.{◌≡◌, ℕ, ◌+◌, ◌<◌, ◌≤◌, List, [], ◌∷◌, ◌++◌, take, drop, get_or, length, ℤ, IsErr, Result, Ok, Err, codes, decimal, subst, refl, sym, ap, ◌∙◌, arith}
use Rattle.std.specs.Fmt.{signed_decimal}
use Rattle.std.proofs.lemmas.Bool.{false≢true}
use Rattle.std.proofs.lemmas.List.{append_assoc, take_more, take_at, take-take, take-append-drop, length-append}
use Rattle.std.proofs.Math.Seq.{take-length}
use Rattle.std.proofs.lemmas.Grind.{flat_map-append}
use Rattle.evm_model.specs.Replies.{Changed, Measured, Shown, line_of, spaced, rows_text, reply_text}
use Rattle.evm_model.specs.Figures.{vertices_in}
use Rattle.evm_cells.specs.Vertices.{evm, cells}
use Rattle.evm_formulas.specs.Stated.{figure_of}
use Rattle.evm_session.specs.Says.{Extends, Says, behind_spaces}
use Rattle.evm_rows.specs.Rows.{Vertices, rows_of}
use Rattle.evm_rows.specs.declared.solid.NoMemory.{NoMemory}

pub append_nil : (xs : List ℕ) → xs ++ [] ≡ xs
append_nil [] = refl
append_nil (x ∷ xs) = ap (λ (ys : List ℕ). x ∷ ys) (append_nil xs)

pub spaced_cons : (n : ℤ) (more : List ℤ) → spaced (n ∷ more) ≡ signed_decimal n ++ behind_spaces more
spaced_cons n [] = sym (append_nil (signed_decimal n))
spaced_cons n (m ∷ more) = ap (λ (t : List ℕ). signed_decimal n ++ 32 ∷ t) (spaced_cons m more)

pub behind_spaces_more : (numbers : List ℤ) (i : ℕ) (d : ℤ) → i < length numbers → behind_spaces (take (i + 1) numbers) ≡ behind_spaces (take i numbers) ++ 32 ∷ signed_decimal (get_or numbers i d)
behind_spaces_more numbers i d l =
    ap behind_spaces (take_more numbers i d l)
    ∙ flat_map-append (λ n. 32 ∷ signed_decimal n) (take i numbers) (get_or numbers i d ∷ [])
    ∙ ap (λ (t : List ℕ). behind_spaces (take i numbers) ++ 32 ∷ t) (append_nil (signed_decimal (get_or numbers i d)))

-- what extends a text that was appended to extends what it was appended to
pub extends_more : (before mid now text : List ℕ) → mid ≡ before ++ text → Extends mid now → Extends before now
extends_more before mid now text e h =
    let front : List ℕ → List ℕ = take (length before) in
    let shorter : length before ≤ length mid = omega (arith, ap (length {A = ℕ}) e, length-append before text) in
    let both : take (length before) now ≡ take (length before) mid = sym (take-take (length before) (length mid) now shorter) ∙ ap front h in
    both ∙ ap front e ∙ take_at before text (length before) refl

-- a text after a text
pub says_after : {X : Type 0} (r : Result X NoMemory) (before mid now first second : List ℕ) → mid ≡ before ++ first → Says r mid now second → Says r before now (first ++ second)
says_after (Ok done) before mid now first second e h = h ∙ ap (λ (t : List ℕ). t ++ second) e ∙ append_assoc before first second
says_after (Err lack) before mid now first second e h = extends_more before mid now first e h

-- an answer of want of memory
pub says_failed : {X : Type 0} (r : Result X NoMemory) (before now text : List ℕ) → IsErr r → Extends before now → Says r before now text
says_failed (Ok done) before now text e h = absurd (false≢true e)
says_failed (Err lack) before now text e h = h

-- a further coordinate
pub behind_spaces_step : (numbers : List ℤ) (i : ℕ) (d : ℤ) (before mid now : List ℕ) → i < length numbers → mid ≡ before ++ behind_spaces (take i numbers) → now ≡ mid ++ 32 ∷ signed_decimal (get_or numbers i d) → now ≡ before ++ behind_spaces (take (i + 1) numbers)
behind_spaces_step numbers i d before mid now l e f =
    f ∙ ap (λ (t : List ℕ). t ++ 32 ∷ signed_decimal (get_or numbers i d)) e
    ∙ append_assoc before (behind_spaces (take i numbers)) (32 ∷ signed_decimal (get_or numbers i d))
    ∙ ap (λ (t : List ℕ). before ++ t) (sym (behind_spaces_more numbers i d l))

-- a row with its first coordinate before the others
pub row_text : (row : List ℤ) (first : ℤ) (rest : List ℤ) (before one two : List ℕ) → row ≡ first ∷ rest → one ≡ before ++ signed_decimal first → two ≡ one ++ behind_spaces rest → two ≡ before ++ spaced row
row_text row first rest before one two e f g =
    g ∙ ap (λ (t : List ℕ). t ++ behind_spaces rest) f
    ∙ append_assoc before (signed_decimal first) (behind_spaces rest)
    ∙ ap (λ (t : List ℕ). before ++ t) (sym (spaced_cons first rest) ∙ ap spaced (sym e))

pub extends_itself : (text : List ℕ) → Extends text text
extends_itself text = take-length text

pub extends_on : (before mid now : List ℕ) → Extends before mid → Extends mid now → Extends before now
extends_on before mid now e h =
    extends_more before mid now (drop (length before) mid) (sym (take-append-drop (length before) mid) ∙ ap (λ (t : List ℕ). t ++ drop (length before) mid) e) h

-- what was appended stands behind what was before
pub extends_by : (before now text : List ℕ) → now ≡ before ++ text → Extends before now
extends_by before now text e = ap (take (length before)) e ∙ take_at before text (length before) refl

no_rows : (left : List ℤ) (width skip : ℕ) → length left ≡ 0 → rows_of left width skip ≡ []
unfolding rows_of
no_rows [] width skip e = refl
no_rows (x ∷ left) width skip e = absurd (omega arith)

-- all rows were appended
pub rows_done : (all left : List ℤ) (width skip : ℕ) (before now : List ℕ) → length left ≡ 0 → before ++ rows_text (rows_of all width skip) ≡ now ++ rows_text (rows_of left width skip) → now ≡ before ++ rows_text (rows_of all width skip)
rows_done all left width skip before now e h =
    sym (append_nil now) ∙ ap (λ (rows : List (List ℤ)). now ++ rows_text rows) (sym (no_rows left width skip e)) ∙ sym h

regroup : (before ok dim count : List ℕ) → ((((before ++ ok) ++ dim) ++ 32 ∷ []) ++ count) ++ 10 ∷ [] ≡ before ++ ((ok ++ dim ++ 32 ∷ count) ++ 10 ∷ [])
regroup before ok dim count = simp append_assoc

-- a line of a word and two numbers
pub header_said : (word x y before a b c d header : List ℕ) → a ≡ before ++ word → b ≡ a ++ x → c ≡ b ++ 32 ∷ [] → d ≡ c ++ y → header ≡ d ++ 10 ∷ [] → header ≡ before ++ line_of (word ++ x ++ 32 ∷ y)
header_said word x y before a b c d header ea eb ec ed eh =
    eh ∙ ap (λ (t : List ℕ). t ++ 10 ∷ []) (ed ∙ ap (λ (t : List ℕ). t ++ y) (ec ∙ ap (λ (t : List ℕ). t ++ 32 ∷ []) (eb ∙ ap (λ (t : List ℕ). t ++ x) ea)))
    ∙ regroup before word x y

-- the header of a solid, and then its rows
pub says_shown : (v : Vertices) (r : Result (Unit {0}) NoMemory) (dim count : ℕ) (before a b c d header now : List ℕ) → v.rows ≡ evm v.dim (cells v.dim v.rows) → dim ≡ v.dim → count ≡ length v.rows
    → a ≡ before ++ codes "ok " → b ≡ a ++ decimal dim → c ≡ b ++ 32 ∷ [] → d ≡ c ++ decimal count → header ≡ d ++ 10 ∷ []
    → Says r header now (rows_text v.rows) → Says r before now (reply_text (Shown (figure_of v)))
unfolding reply_text vertices_in
says_shown v r dim count before a b c d header now vertices n k ea eb ec ed eh h =
    let numbers : List ℕ → List ℕ → List ℕ = λ x y. line_of (codes "ok " ++ x ++ 32 ∷ y) in
    let first : header ≡ before ++ numbers (decimal dim) (decimal count) = header_said (codes "ok ") (decimal dim) (decimal count) before a b c d header ea eb ec ed eh in
    let text = ap (λ (x : ℕ). numbers (decimal x) (decimal count) ++ rows_text v.rows) n
    ∙ ap (λ (x : ℕ). numbers (decimal v.dim) (decimal x) ++ rows_text v.rows) k
    ∙ ap (λ (rows : List (List ℤ)). numbers (decimal v.dim) (decimal (length rows)) ++ rows_text rows) vertices in
    subst (λ (t : List ℕ). Says r before now t) text
    (says_after r before header now (numbers (decimal dim) (decimal count)) (rows_text v.rows) first h)

-- the reply to an edit
pub changed_said : (n : ℕ) (before a b now : List ℕ) → a ≡ before ++ codes "ok " → b ≡ a ++ decimal n → now ≡ b ++ 10 ∷ [] → now ≡ before ++ reply_text (Changed n)
unfolding reply_text
changed_said n before a b now ea eb en =
    en ∙ ap (λ (t : List ℕ). t ++ 10 ∷ []) (eb ∙ ap (λ (t : List ℕ). t ++ decimal n) ea)
    ∙ simp append_assoc

pub measured_said : (n : ℕ) (before a b now : List ℕ) → a ≡ before ++ codes "ok " → b ≡ a ++ decimal n → now ≡ b ++ 10 ∷ [] → now ≡ before ++ reply_text (Measured n)
unfolding reply_text
measured_said n before a b now ea eb en =
    en ∙ ap (λ (t : List ℕ). t ++ 10 ∷ []) (eb ∙ ap (λ (t : List ℕ). t ++ decimal n) ea)
    ∙ simp append_assoc
