-- How the words of a line follow from its front.
use Rattle.std.proofs.Common.{◌≡◌, ℕ, zero, suc, ◌+◌, ◌-◌, ◌<◌, ◌≤◌, Bool, true, false, not, nat_eq, cond, List, [], ◌∷◌, length, take, drop, get_or, refl, sym, ◌∙◌, ap, subst, arith, Some, None}
use Rattle.std.specs.List.{filter, slice_split, position, position_or_len, before_first, after_first}
use Rattle.std.proofs.lemmas.Bool.{true≢false}
use Rattle.std.proofs.lemmas.Bool.Decides.{nat_tests}
use Rattle.std.proofs.lemmas.List.{drop_all, drop_more, length-take}
use Rattle.std.proofs.lemmas.List.Splits.{slice_split_none, slice_split_first, slice_split-cons_yes}
use Rattle.std.proofs.lemmas.List.Sums.{fails_before_first, passes_at_first}
use Rattle.evm_text.specs.Words.{is_blank, is_filled, words}
use Rattle.evm_text.proofs.LineCuts.{some_place, no_place, tail_is}

pub words_nil : words [] ≡ []
unfolding words
words_nil = refl

-- a text without bytes has no words
pub words_none : (xs : List ℕ) → length xs ≡ 0 → words xs ≡ []
words_none [] h = words_nil
words_none (x ∷ xs) h = absurd (omega arith)

-- a blank before a text makes no word
words_blank : (x : ℕ) (xs : List ℕ) → is_blank x ≡ true → words (x ∷ xs) ≡ words xs
unfolding words
words_blank x xs b = ap (filter is_filled) (slice_split-cons_yes is_blank x xs b)

-- nor do blanks
words_blanks : (xs : List ℕ) (k : ℕ) → ((j : ℕ) → j < k → is_blank (get_or xs j 0) ≡ true) → words (drop k xs) ≡ words xs
words_blanks xs zero h = refl
words_blanks [] (suc k) h = refl
words_blanks (x ∷ xs) (suc k) h = words_blanks xs k (λ j l. h (suc j) (omega arith)) ∙ sym (words_blank x xs (h 0 (omega arith)))

turned : (b : Bool) → not b ≡ false → b ≡ true
turned true h = refl
turned false h = absurd (true≢false h)

turned_back : (b : Bool) → not b ≡ true → b ≡ false
turned_back true h = absurd (true≢false (sym h))
turned_back false h = refl

abbrev pub is_seen : ℕ → Bool
is_seen b = not (is_blank b)

-- a text from its first byte on that is not blank has the same words
pub words_from : (xs : List ℕ) (at : ℕ) → position is_seen xs ≡ Some at → words (take (length xs - at) (drop at xs)) ≡ words xs
words_from xs at e =
    let found = some_place is_seen xs at e in
    ap words (tail_is xs at)
    ∙ words_blanks xs at (λ j l. turned (is_blank (get_or xs j 0)) (fails_before_first is_seen xs j 0 (omega arith)))

-- and begins with no blank
pub begins_seen : (xs : List ℕ) (at : ℕ) → position is_seen xs ≡ Some at → is_blank (get_or (take (length xs - at) (drop at xs)) 0 0) ≡ false
begins_seen xs at e =
    let found = some_place is_seen xs at e in
    let lt : at < length xs = omega arith in
    ap (λ (t : List ℕ). is_blank (get_or t 0 0)) (tail_is xs at ∙ drop_more xs at 0 lt)
    ∙ turned_back (is_blank (get_or xs at 0)) (subst (λ (k : ℕ). is_seen (get_or xs k 0) ≡ true) found.1 (passes_at_first is_seen xs 0 found.0))

-- a text of blanks has no words
pub words_of_blanks : (xs : List ℕ) → position is_seen xs ≡ None → words (take (length xs - length xs) (drop (length xs) xs)) ≡ words xs
words_of_blanks xs e =
    ap words (tail_is xs (length xs))
    ∙ words_blanks xs (length xs) (λ j l. turned (is_blank (get_or xs j 0)) (fails_before_first is_seen xs j 0 (omega (arith, no_place is_seen xs e))))

kept_word : (w : List ℕ) (ws : List (List ℕ)) → 0 < length w → filter is_filled (w ∷ ws) ≡ w ∷ filter is_filled ws
kept_word w ws h = ap (λ (b : Bool). cond (not b) (w ∷ filter is_filled ws) (filter is_filled ws)) (not_zero (length w) h)
  where
    not_zero : (n : ℕ) → 0 < n → nat_eq n 0 ≡ false
    not_zero n some = grind (arith, nat_tests)

-- the first blank of a text that begins with none is not at its front
past_front : (xs : List ℕ) → is_blank (get_or xs 0 0) ≡ false → position_or_len is_blank xs < length xs → 0 < position_or_len is_blank xs
past_front xs seen h = not_zero (position_or_len is_blank xs) (passes_at_first is_blank xs 0 h)
  where
    not_zero : (k : ℕ) → is_blank (get_or xs k 0) ≡ true → 0 < k
    not_zero zero e = absurd (true≢false (sym e ∙ seen))
    not_zero (suc k) e = omega arith

word_first : (xs : List ℕ) → is_blank (get_or xs 0 0) ≡ false → position_or_len is_blank xs < length xs
    → words xs ≡ take (position_or_len is_blank xs) xs ∷ words (drop (position_or_len is_blank xs) xs)
unfolding words
word_first xs seen h =
    let k = position_or_len is_blank xs in
    ap (filter is_filled) (slice_split_first is_blank xs 0 h)
    ∙ kept_word (before_first is_blank xs) (slice_split is_blank (after_first is_blank xs)) (omega (arith, past_front xs seen h, length-take k xs))
    ∙ ap (λ (ws : List (List ℕ)). take k xs ∷ ws)
    (sym (words_blank (get_or xs k 0) (drop (k + 1) xs) (passes_at_first is_blank xs 0 h)) ∙ ap words (sym (drop_more xs k 0 h)))

-- the first word ends at the first blank
pub words_at : (xs : List ℕ) (at : ℕ) → is_blank (get_or xs 0 0) ≡ false → position is_blank xs ≡ Some at → words xs ≡ take at xs ∷ words (take (length xs - at) (drop at xs))
words_at xs at seen e =
    let found = some_place is_blank xs at e in
    word_first xs seen found.0
    ∙ ap (λ (k : ℕ). take k xs ∷ words (drop k xs)) found.1
    ∙ ap (λ (t : List ℕ). take at xs ∷ words t) (sym (tail_is xs at))

word_only : (xs : List ℕ) → length xs ≤ position_or_len is_blank xs → 0 < length xs → words xs ≡ xs ∷ []
unfolding words
word_only xs h some =
    ap (filter is_filled) (slice_split_none is_blank xs (λ k d l. fails_before_first is_blank xs k d (omega arith))) ∙ kept_word xs [] some

-- or is the only one
pub words_end : (xs : List ℕ) → position is_blank xs ≡ None → 0 < length xs → words xs ≡ xs ∷ words (take (length xs - length xs) (drop (length xs) xs))
words_end xs e some =
    let none : take (length xs - length xs) (drop (length xs) xs) ≡ [] = tail_is xs (length xs) ∙ drop_all (length xs) xs (omega arith) in
    word_only xs (no_place is_blank xs e) some ∙ ap (λ (t : List (List ℕ)). xs ∷ t) (sym (ap words none ∙ words_nil))
