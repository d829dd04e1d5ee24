-- How the lines of a text follow from its front.
use Rattle.std.proofs.Common.{◌≡◌, ℕ, ◌+◌, ◌-◌, ◌<◌, ◌≤◌, Bool, true, false, cond, ltb, List, [], ◌∷◌, length, take, drop, refl, sym, ◌∙◌, ap, arith, Some, None}
use Rattle.std.specs.List.{slice_split, position, position_or_len, before_first, after_first}
use Rattle.std.proofs.lemmas.Bool.{ltb-true, ltb-false}
use Rattle.std.proofs.lemmas.List.{take_all, drop_all, length-drop}
use Rattle.std.proofs.lemmas.List.Splits.{slice_split_none, slice_split_first, length-slice_split}
use Rattle.std.proofs.lemmas.List.Sums.{fails_before_first}
use Rattle.evm_text.specs.Lines.{is_lf, last_line, lines_of_parts, lines}

-- a first place that was found, and one that was not
pub some_place : (p : ℕ → Bool) (xs : List ℕ) (at : ℕ) → position p xs ≡ Some at → (position_or_len p xs < length xs) × (position_or_len p xs ≡ at)
some_place p xs at e = of_test (ltb (position_or_len p xs) (length xs)) refl e
  where
    of_test : (b : Bool) → ltb (position_or_len p xs) (length xs) ≡ b → cond b (Some (position_or_len p xs)) None ≡ Some at → (position_or_len p xs < length xs) × (position_or_len p xs ≡ at)
    of_test true t h = (ltb-true _ _ t, cc)
    of_test false t h = absurd (cc h)

pub no_place : (p : ℕ → Bool) (xs : List ℕ) → position p xs ≡ None → length xs ≤ position_or_len p xs
no_place p xs e = of_test (ltb (position_or_len p xs) (length xs)) refl e
  where
    of_test : (b : Bool) → ltb (position_or_len p xs) (length xs) ≡ b → cond b (Some (position_or_len p xs)) None ≡ None → length xs ≤ position_or_len p xs
    of_test true t h = absurd (cc h)
    of_test false t h = ltb-false _ _ t

-- a tail as it is written by the code
pub tail_is : (xs : List ℕ) (k : ℕ) → take (length xs - k) (drop k xs) ≡ drop k xs
tail_is xs k = take_all (length xs - k) (drop k xs) (omega (arith, length-drop k xs))

parts_step : (x : List ℕ) (parts : List (List ℕ)) → 0 < length parts → lines_of_parts (x ∷ parts) ≡ x ∷ lines_of_parts parts
parts_step x [] h = absurd (omega arith)
parts_step x (y ∷ more) h = refl

one_part : (xs : List ℕ) → 0 < length xs → last_line xs ≡ xs ∷ []
one_part [] h = absurd (omega arith)
one_part (x ∷ xs) h = refl

pub lines_nil : lines [] ≡ []
unfolding lines
lines_nil = refl

-- a text without bytes has no lines
pub lines_none : (xs : List ℕ) → length xs ≡ 0 → lines xs ≡ []
lines_none [] h = lines_nil
lines_none (x ∷ xs) h = absurd (omega arith)

lines_first : (xs : List ℕ) → position_or_len is_lf xs < length xs → lines xs ≡ take (position_or_len is_lf xs) xs ∷ lines (drop (position_or_len is_lf xs + 1) xs)
unfolding lines
lines_first xs h =
    ap lines_of_parts (slice_split_first is_lf xs 0 h)
    ∙ parts_step (before_first is_lf xs) (slice_split is_lf (after_first is_lf xs)) (omega (arith, length-slice_split is_lf (after_first is_lf xs)))

lines_only : (xs : List ℕ) → length xs ≤ position_or_len is_lf xs → 0 < length xs → lines xs ≡ xs ∷ []
unfolding lines
lines_only xs h some = ap lines_of_parts (slice_split_none is_lf xs (λ k d l. fails_before_first is_lf xs k d (omega arith))) ∙ one_part xs some

-- the first line ends at the first line feed
pub lines_at : (xs : List ℕ) (at : ℕ) → position is_lf xs ≡ Some at → lines xs ≡ take at xs ∷ lines (take (length xs - (at + 1)) (drop (at + 1) xs))
lines_at xs at e =
    let found = some_place is_lf xs at e in
    lines_first xs found.0
    ∙ ap (λ (k : ℕ). take k xs ∷ lines (drop (k + 1) xs)) found.1
    ∙ ap (λ (t : List ℕ). take at xs ∷ lines t) (sym (tail_is xs (at + 1)))

-- or is the only one
pub lines_end : (xs : List ℕ) → position is_lf xs ≡ None → 0 < length xs → lines xs ≡ xs ∷ lines (take (length xs - length xs) (drop (length xs) xs))
lines_end xs e some =
    let none : take (length xs - length xs) (drop (length xs) xs) ≡ [] = tail_is xs (length xs) ∙ drop_all (length xs) xs (omega arith) in
    lines_only xs (no_place is_lf xs e) some ∙ ap (λ (t : List (List ℕ)). xs ∷ t) (sym (ap lines none ∙ lines_nil))
