-- Words with one space between each two, cut into words again.
use Rattle.std.proofs.Common.{◌≡◌, ℕ, ◌+◌, ◌*◌, ◌<◌, ◌≤◌, Bool, true, false, not, ◌&&◌, List, [], ◌∷◌, ◌++◌, length, take, get_or, refl, sym, ◌∙◌, ap, arith, append_assoc, nat_eq, nat_lt, nat_le, if◌then◌else◌, length-append, inl, inr, map, ℤ, pos}
use Rattle.std.specs.Prelude.{slice_index, ◌-◌}
use Rattle.std.specs.List.{All, list_all, filter, slice_split}
use Rattle.std.proofs.lemmas.List.Sums.{AllPass-from_list_all}
use Rattle.std.proofs.lemmas.List.Folds.{list_all-append}
use Rattle.std.proofs.lemmas.List.Splits.{slice_split_none, slice_split_at}
use Rattle.std.proofs.lemmas.Bool.{and_parts, and_from, leb-true, cases_lt}
use Rattle.std.proofs.lemmas.Bool.Decides.{nat_tests}
use Rattle.std.proofs.lemmas.List.{get_or_past, take_more, flat_map_more, append-nil}
use Rattle.std.specs.Fmt.{signed_decimal}
use Rattle.evm_text.specs.Lines.{without_cr}
use Rattle.evm_text.specs.Words.{is_blank, is_filled, words}
use Rattle.evm_text.specs.Spaced.{spaced, behind_spaces}

-- one number more, with a space before it
pub numbers_more : (text : List ℕ) (zs : List ℤ) (i : ℕ) → i < length zs
    → text ++ behind_spaces (take (i + 1) zs) ≡ (text ++ behind_spaces (take i zs)) ++ 32 ∷ signed_decimal (get_or zs i (pos 0))
numbers_more text zs i h =
    ap (λ (t : List ℤ). text ++ behind_spaces t) (take_more zs i (pos 0) h)
    ∙ sym (flat_map_more (λ n. 32 ∷ signed_decimal n) text (take i zs) (get_or zs i (pos 0)))

-- a word and numbers
pub word_and_numbers : (w : List ℕ) (zs : List ℤ) → spaced (w ∷ map signed_decimal zs) ≡ w ++ behind_spaces zs
word_and_numbers w [] = sym (append-nil w)
word_and_numbers w (z ∷ zs) = ap (λ (t : List ℕ). w ++ 32 ∷ t) (word_and_numbers (signed_decimal z) zs)

-- two words and numbers, appended to a text
pub after_two : (text v w : List ℕ) (zs : List ℤ)
    → (text ++ (v ++ 32 ∷ w)) ++ behind_spaces zs ≡ text ++ spaced (v ∷ w ∷ map signed_decimal zs)
after_two text v w zs =
    append_assoc text (v ++ 32 ∷ w) (behind_spaces zs)
    ∙ ap (λ (t : List ℕ). text ++ t) (append_assoc v (32 ∷ w) (behind_spaces zs))
    ∙ ap (λ (t : List ℕ). text ++ (v ++ 32 ∷ t)) (sym (word_and_numbers w zs))

-- a word without blanks and control bytes, of 1 to 64 bytes
abbrev pub is_plain : List ℕ → Bool
is_plain w = list_all (nat_lt 32) w && (nat_le 1 (length w) && nat_le (length w) 64)

-- the parts of that
no_blanks : (w : List ℕ) → is_plain w ≡ true → All (λ b. is_blank b ≡ false) w
no_blanks w h k d lt =
    let above : nat_lt 32 (get_or w k d) ≡ true = AllPass-from_list_all (nat_lt 32) w (and_parts (list_all (nat_lt 32) w) _ h).0 k d lt in
    grind (arith, nat_tests)

some_bytes : (w : List ℕ) → is_plain w ≡ true → not (nat_eq (length w) 0) ≡ true
some_bytes w h =
    let sizes = (and_parts (list_all (nat_lt 32) w) _ h).1 in
    let some : nat_le 1 (length w) ≡ true = (and_parts (nat_le 1 (length w)) _ sizes).0 in
    grind (arith, nat_tests)

few_bytes : (w : List ℕ) → is_plain w ≡ true → length w ≤ 64
few_bytes w h =
    let sizes = (and_parts (list_all (nat_lt 32) w) _ h).1 in
    leb-true (length w) 64 (and_parts (nat_le 1 (length w)) _ sizes).1

kept : (w : List ℕ) (ws : List (List ℕ)) → not (nat_eq (length w) 0) ≡ true → filter is_filled (w ∷ ws) ≡ w ∷ filter is_filled ws
kept w ws h = ap (λ (b : Bool). if b then w ∷ filter is_filled ws else filter is_filled ws) h

-- the words of spaced words
pub words_spaced : (ws : List (List ℕ)) → list_all is_plain ws ≡ true → words (spaced ws) ≡ ws
unfolding words
words_spaced [] h = refl
words_spaced (w ∷ []) h =
    let plain = (and_parts (is_plain w) _ h).0 in
    ap (filter is_filled) (slice_split_none is_blank w (no_blanks w plain)) ∙ kept w [] (some_bytes w plain)
words_spaced (w ∷ x ∷ ws) h =
    let both = and_parts (is_plain w) _ h in
    ap (filter is_filled) (slice_split_at is_blank w 32 (spaced (x ∷ ws)) (no_blanks w both.0) refl)
    ∙ kept w (slice_split is_blank (spaced (x ∷ ws))) (some_bytes w both.0)
    ∙ ap (λ (t : List (List ℕ)). w ∷ t) (words_spaced (x ∷ ws) both.1)

-- no byte of spaced words is a carriage return
weaker : (w : List ℕ) → list_all (nat_lt 32) w ≡ true → list_all (nat_le 32) w ≡ true
weaker [] h = refl
weaker (b ∷ w) h =
    let both = and_parts (nat_lt 32 b) _ h in
    let first = both.0 in
    and_from (nat_le 32 b) _ (grind (arith, nat_tests)) (weaker w both.1)

printable : (ws : List (List ℕ)) → list_all is_plain ws ≡ true → list_all (nat_le 32) (spaced ws) ≡ true
printable [] h = refl
printable (w ∷ []) h = weaker w (and_parts (list_all (nat_lt 32) w) _ (and_parts (is_plain w) _ h).0).0
printable (w ∷ x ∷ ws) h =
    let both = and_parts (is_plain w) _ h in
    list_all-append (nat_le 32) w (32 ∷ spaced (x ∷ ws))
    ∙ and_from (list_all (nat_le 32) w) _ (weaker w (and_parts (list_all (nat_lt 32) w) _ both.0).0) (printable (x ∷ ws) both.1)

not_cr : (bs : List ℕ) (k : ℕ) → list_all (nat_le 32) bs ≡ true → nat_eq (slice_index bs k) 13 ≡ false
not_cr bs k h = elim (cases_lt k (length bs)) [
  | inl lt ↦ (let above : nat_le 32 (get_or bs k 0) ≡ true = AllPass-from_list_all (nat_le 32) bs h k 0 lt in grind (arith, nat_tests))
  | inr ge ↦ ap (λ (n : ℕ). nat_eq n 13) (get_or_past bs k 0 ge)
]

pub no_cr_spaced : (ws : List (List ℕ)) → list_all is_plain ws ≡ true → without_cr (spaced ws) ≡ spaced ws
no_cr_spaced ws h = ap (λ (b : Bool). if b then take (length (spaced ws) - 1) (spaced ws) else spaced ws) (not_cr (spaced ws) (length (spaced ws) - 1) (printable ws h))

-- the length of spaced words
pub spaced_short : (ws : List (List ℕ)) → list_all is_plain ws ≡ true → length (spaced ws) ≤ 65 * length ws
spaced_short [] h = omega arith
spaced_short (w ∷ []) h = omega (arith, few_bytes w (and_parts (is_plain w) _ h).0)
spaced_short (w ∷ x ∷ ws) h =
    let both = and_parts (is_plain w) _ h in
    omega (arith, few_bytes w both.0, spaced_short (x ∷ ws) both.1, length-append w (32 ∷ spaced (x ∷ ws)))
