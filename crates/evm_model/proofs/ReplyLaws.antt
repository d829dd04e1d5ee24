-- Texts of replies.
use Rattle.std.proofs.Common.{◌≡◌, ◌⊎◌, ℕ, cond, List, [], ◌∷◌, ◌++◌, length, codes, decimal, ℤ, refl, sym, ap, subst, ◌∙◌, inl, inr, ⊎_elim}
use Rattle.std.specs.Prelude.{nat_eq}
use Rattle.std.specs.List.{starts_with, join_with_byte}
use Rattle.std.specs.Fmt.{signed_decimal}
use Rattle.std.proofs.lemmas.List.{append_assoc}
use Rattle.evm_model.specs.Figures.{Figure, CutFaces, vertices_in, content_of}
use Rattle.evm_report.specs.Report.{report_text}
use Rattle.evm_model.specs.Scene.{Entry}
use Rattle.evm_model.specs.Replies.{Reply, Empty, No, Done, Changed, Shown, Measured, Filled, Placed, Faced, Parted, Reported, Listed, reply_text, line_of, rows_text, spaced, cuts_text, part_text, parts_text, entry_words, entries_text, code_text, place_text, is_no}

pub begins : (reply : Reply) → starts_with nat_eq (reply_text reply) (codes "no") ≡ is_no reply
unfolding reply_text
begins Empty = refl
begins (No code) = refl
begins Done = refl
begins (Changed n) = refl
begins (Shown a) = refl
begins (Measured n) = refl
begins (Filled full) = refl
begins (Placed place) = refl
begins (Faced faces) = refl
begins (Parted parts) = refl
begins (Reported facts) = refl
begins (Listed entries) = refl

-- a text that is empty or ends with LF
abbrev pub IsLines : List ℕ → Type 0
IsLines text = (text ≡ []) ⊎ ((front : List ℕ) × (text ≡ front ++ 10 ∷ []))

one_line : (text : List ℕ) → IsLines (line_of text)
one_line text = inr (text, refl)

append_nil : (xs : List ℕ) → xs ++ [] ≡ xs
append_nil [] = refl
append_nil (x ∷ xs) = ap (λ (ys : List ℕ). x ∷ ys) (append_nil xs)

then_lines : (text more : List ℕ) → IsLines more → IsLines (line_of text ++ more)
then_lines text more h =
    ⊎_elim
    (λ e. inr (text, ap (λ (t : List ℕ). line_of text ++ t) e ∙ append_nil (line_of text)))
    (λ p. inr (line_of text ++ p.0, ap (λ (t : List ℕ). line_of text ++ t) p.1 ∙ sym (append_assoc (line_of text) p.0 (10 ∷ []))))
    h

rows_lines : (rows : List (List ℤ)) → IsLines (rows_text rows)
rows_lines [] = inl refl
rows_lines (row ∷ rows) = then_lines (spaced row) (rows_text rows) (rows_lines rows)

cuts_lines : (faces : List CutFaces) → IsLines (cuts_text faces)
cuts_lines [] = inl refl
cuts_lines (f ∷ fs) = then_lines (signed_decimal f.at ++ 32 ∷ decimal f.rises ++ 32 ∷ decimal f.falls) (cuts_text fs) (cuts_lines fs)

-- two texts one after another
both_lines : (first second : List ℕ) → IsLines first → IsLines second → IsLines (first ++ second)
both_lines first second h k =
    ⊎_elim
    (λ e. subst (λ (t : List ℕ). IsLines (first ++ t)) (sym e) (subst IsLines (sym (append_nil first)) h))
    (λ p. inr (first ++ p.0, ap (λ (t : List ℕ). first ++ t) p.1 ∙ sym (append_assoc first p.0 (10 ∷ []))))
    k

parts_lines : (parts : List Figure) → IsLines (parts_text parts)
parts_lines [] = inl refl
parts_lines (a ∷ parts) =
    both_lines (part_text a) (parts_text parts)
    (then_lines (codes "part " ++ decimal (length (vertices_in a)) ++ 32 ∷ decimal (content_of a)) (rows_text (vertices_in a)) (rows_lines (vertices_in a)))
    (parts_lines parts)

entries_lines : (entries : List Entry) → IsLines (entries_text entries)
entries_lines [] = inl refl
entries_lines (e ∷ es) = then_lines (join_with_byte 32 (entry_words e)) (entries_text es) (entries_lines es)

pub are_lines : (reply : Reply) → IsLines (reply_text reply)
unfolding reply_text
are_lines Empty = inl refl
are_lines (No code) = one_line (codes "no " ++ code_text code)
are_lines Done = one_line (codes "ok")
are_lines (Changed n) = one_line (codes "ok " ++ decimal n)
are_lines (Shown a) = then_lines (codes "ok " ++ decimal a.dim ++ 32 ∷ decimal (length (vertices_in a))) (rows_text (vertices_in a)) (rows_lines (vertices_in a))
are_lines (Measured n) = one_line (codes "ok " ++ decimal n)
are_lines (Filled full) = one_line (codes "ok " ++ cond full (codes "filled") (codes "empty"))
are_lines (Placed place) = one_line (codes "ok " ++ place_text place)
are_lines (Faced faces) = then_lines (codes "ok " ++ decimal (length faces)) (cuts_text faces) (cuts_lines faces)
are_lines (Parted parts) = then_lines (codes "ok " ++ decimal (length parts)) (parts_text parts) (parts_lines parts)
are_lines (Reported facts) = one_line (codes "ok " ++ report_text facts)
are_lines (Listed entries) = then_lines (codes "ok " ++ decimal (length entries)) (entries_text entries) (entries_lines entries)
