-- The lines of a script have no LF, and make the script.
use Rattle.std.specs.Prelude.{ℕ, ◌≡◌, ◌⊎◌, not, ◌&&◌, ◌||◌, flat_map, Bool, false, List, [], ◌∷◌, ◌++◌, refl}
use Rattle.std.specs.List.{list_any, list_all, onto_first, join_with_byte, slice_split}
use Rattle.std.proofs.Common.{true, sym, ◌∙◌, ap, subst, cond, inl, inr, ⊎_elim}
use Rattle.std.proofs.lemmas.List.Splits.{join_with_byte-slice_split}
use Rattle.std.proofs.lemmas.List.{append_assoc, append-nil}
use Rattle.evm_cells.proofs.Xor.{and_first, and_second, and_both}
use Rattle.evm_model.specs.Replies.{line_of}
use Rattle.evm_text.specs.Lines.{is_lf, lines, lines_of_parts}

-- a script from its lines, to which an LF may have been added
abbrev pub Makes : List (List ℕ) → List ℕ → Type 0
Makes ls script = (flat_map line_of ls ≡ script) ⊎ (flat_map line_of ls ≡ script ++ 10 ∷ [])

makes_more : (x : List ℕ) (ls : List (List ℕ)) (rest : List ℕ) → Makes ls rest → Makes (x ∷ ls) (x ++ 10 ∷ rest)
makes_more x ls rest h =
    ⊎_elim
    (λ e. inl (append_assoc x (10 ∷ []) (flat_map line_of ls) ∙ ap (λ (t : List ℕ). x ++ 10 ∷ t) e))
    (λ e. inr (append_assoc x (10 ∷ []) (flat_map line_of ls) ∙ ap (λ (t : List ℕ). x ++ 10 ∷ t) e ∙ sym (append_assoc x (10 ∷ rest) (10 ∷ []))))
    h

parts_make : (parts : List (List ℕ)) → Makes (lines_of_parts parts) (join_with_byte 10 parts)
parts_make [] = inl refl
parts_make ([] ∷ []) = inl refl
parts_make ((b ∷ bs) ∷ []) = inr (append-nil (line_of (b ∷ bs)))
parts_make (x ∷ y ∷ more) = makes_more x (lines_of_parts (y ∷ more)) (join_with_byte 10 (y ∷ more)) (parts_make (y ∷ more))

pub lines_make : (script : List ℕ) → Makes (lines script) script
unfolding lines
lines_make script =
    subst (λ (t : List ℕ). Makes (lines_of_parts (slice_split is_lf script)) t) (join_with_byte-slice_split 10 script) (parts_make (slice_split is_lf script))

-- a line without LF
abbrev pub has_no_lf : List ℕ → Bool
has_no_lf line = not (list_any is_lf line)

onto_no_lf : (b : ℕ) (parts : List (List ℕ)) → is_lf b ≡ false → list_all has_no_lf parts ≡ true → list_all has_no_lf (onto_first b parts) ≡ true
onto_no_lf b [] n h = ap (λ (t : Bool). not (t || false) && true) n
onto_no_lf b (part ∷ parts) n h = ap (λ (t : Bool). not (t || list_any is_lf part) && list_all has_no_lf parts) n ∙ h

split_no_lf : (script : List ℕ) → list_all has_no_lf (slice_split is_lf script) ≡ true
split_no_lf [] = refl
split_no_lf (b ∷ bs) =
    elim (is_lf b) as (λ t. is_lf b ≡ t → list_all has_no_lf (cond t ([] ∷ slice_split is_lf bs) (onto_first b (slice_split is_lf bs))) ≡ true)
    [ true ↦ λ e. split_no_lf bs | false ↦ λ e. onto_no_lf b (slice_split is_lf bs) e (split_no_lf bs) ] refl

parts_no_lf : (parts : List (List ℕ)) → list_all has_no_lf parts ≡ true → list_all has_no_lf (lines_of_parts parts) ≡ true
parts_no_lf [] h = refl
parts_no_lf ([] ∷ []) h = refl
parts_no_lf ((b ∷ bs) ∷ []) h = h
parts_no_lf (x ∷ y ∷ more) h =
    and_both (has_no_lf x) (list_all has_no_lf (lines_of_parts (y ∷ more))) (and_first (has_no_lf x) (list_all has_no_lf (y ∷ more)) h)
    (parts_no_lf (y ∷ more) (and_second (has_no_lf x) (list_all has_no_lf (y ∷ more)) h))

pub lines_no_lf : (script : List ℕ) → list_all has_no_lf (lines script) ≡ true
unfolding lines
lines_no_lf script = parts_no_lf (slice_split is_lf script) (split_no_lf script)
