-- Plain words are read as what they say.
use Rattle.std.proofs.Common.{◌≡◌, ◌∙◌, ℕ, ◌+◌, ◌-◌, ◌*◌, ◌<◌, ◌≤◌, ◌^◌, ◌⊎◌, inl, inr, Bool, true, false, List, [], ◌∷◌, ◌++◌, length, refl, sym, ap, ap₂, subst, arith, Some, None, codes, if◌then◌else◌, nat_eq, nat_le, nat_lt, lt-ltb}
use Rattle.std.specs.Prelude.{option_and_then}
use Rattle.std.specs.List.{list_all, list_any}
use Rattle.std.specs.Char.{digit_value}
use Rattle.std.specs.Str.Parse.{AllDigits, digits_value_after, digits_value, without_leading_plus}
use Rattle.std.proofs.lemmas.Bool.{and_parts, and_from, le-leb, or_from}
use Rattle.std.proofs.lemmas.Bool.Decides.{nat_tests}
use Rattle.evm_words.specs.Words.{Text, number_of, is_end, form_of_numbers, form_of_options, form_of_texts, texts_of}
use Rattle.evm_words.specs.Laws.{is_digit, number_after, StatesNumber, option_words, PlainWordsAskForScripts}
use Rattle.evm_words.specs.declared.form.Form.{Form}
use Rattle.evm_words.specs.declared.form.Form.TheVariants.{Gen}
use Rattle.evm_words.proofs.Numbers.{number_is}

-- a digit's value
digit : (b : ℕ) → is_digit b ≡ true → (digit_value b ≡ b - 48) × (digit_value b < 10)
digit b h =
    let both = and_parts (nat_le 48 b) _ h in
    let low = both.0 in
    let high = both.1 in
    (grind (arith, nat_tests), grind (arith, nat_tests))

-- digits are digits, and state the same number
all_digits : (ds : List ℕ) → list_all is_digit ds ≡ true → AllDigits 10 ds
all_digits [] h = tt
all_digits (d ∷ ds) h = let both = and_parts (is_digit d) _ h in ((digit d both.0).1, all_digits ds both.1)

same_number : (n : ℕ) (ds : List ℕ) → list_all is_digit ds ≡ true → digits_value_after 10 n ds ≡ number_after n ds
same_number n [] h = refl
same_number n (d ∷ ds) h =
    let both = and_parts (is_digit d) _ h in
    ap (λ (v : ℕ). digits_value_after 10 (n * 10 + v) ds) (digit d both.0).0 ∙ same_number (n * 10 + (d - 48)) ds both.1

-- no digit is a sign
no_plus : (ds : List ℕ) → 1 ≤ length ds → list_all is_digit ds ≡ true → without_leading_plus ds ≡ ds
no_plus [] some h = absurd (omega (arith, some))
no_plus (d ∷ ds) some h =
    let both = and_parts (is_digit d) _ h in
    let low : nat_le 48 d ≡ true = (and_parts (nat_le 48 d) _ both.0).0 in
    let no : nat_eq d 43 ≡ false = grind (arith, nat_tests) in
    rw no refl

bare : (text : Text) (n : ℕ) (s : StatesNumber text n) → without_leading_plus text ≡ s.digits
bare text n s = by s.is
  where
    by : (text ≡ s.digits) ⊎ (text ≡ 43 ∷ s.digits) → without_leading_plus text ≡ s.digits
    by (inl e) = ap without_leading_plus e ∙ no_plus s.digits s.some s.each
    by (inr e) = ap without_leading_plus e

states : (text : Text) (n : ℕ) → StatesNumber text n → number_of text ≡ Some n
states text n s =
    let same = bare text n s in
    number_is text (subst (λ (ds : List ℕ). (0 < length ds) × AllDigits 10 ds) (sym same) (omega (arith, s.some), all_digits s.digits s.each))
    ∙ ap (λ (ds : List ℕ). Some (digits_value 10 ds)) same
    ∙ ap (λ (v : ℕ). Some v) (same_number 0 s.digits s.each ∙ s.value)

-- a number is no `--`
no_end_of : (ds : List ℕ) → 1 ≤ length ds → list_all is_digit ds ≡ true → is_end ds ≡ false
no_end_of [] some h = absurd (omega (arith, some))
no_end_of (d ∷ ds) some h =
    let both = and_parts (is_digit d) _ h in
    let low : nat_le 48 d ≡ true = (and_parts (nat_le 48 d) _ both.0).0 in
    let no : nat_eq d 45 ≡ false = grind (arith, nat_tests) in
    rw no refl

no_end : (text : Text) (n : ℕ) → StatesNumber text n → is_end text ≡ false
no_end text n s = by s.is
  where
    by : (text ≡ s.digits) ⊎ (text ≡ 43 ∷ s.digits) → is_end text ≡ false
    by (inl e) = ap is_end e ∙ no_end_of s.digits s.some s.each
    by (inr e) = ap is_end e

-- numbers in their ranges
in_ranges : (seed edits : ℕ) → seed < 2 ^ 64 → 1 ≤ edits → edits ≤ 100000 → form_of_numbers (Some seed) (Some edits) ≡ Some (Gen seed edits)
in_ranges seed edits h i j =
    ap (λ (b : Bool). if b then Some (Gen seed edits) else None)
    (and_from (nat_lt seed (2 ^ 64)) _ (lt-ltb seed (2 ^ 64) h) (and_from (nat_le 1 edits) _ (le-leb 1 edits i) (le-leb edits 100000 j)))

asked : (seed_text edits_text : Text) (seed edits : ℕ) → StatesNumber seed_text seed → StatesNumber edits_text edits → seed < 2 ^ 64 → 1 ≤ edits → edits ≤ 100000
    → form_of_numbers (number_of seed_text) (number_of edits_text) ≡ Some (Gen seed edits)
asked seed_text edits_text seed edits s e h i j =
    ap₂ form_of_numbers (states seed_text seed s) (states edits_text edits e) ∙ in_ranges seed edits h i j

-- words without `--` that have these two texts
pub record Plain (words : List Text) (seed edits : Text) : Type 0 where
  pub ends : list_any is_end words ≡ false
  pub texts : texts_of words ≡ Some (seed, edits)

told : (words : List Text) (seed_text edits_text : Text) (form : Form) → Plain words seed_text edits_text
    → form_of_numbers (number_of seed_text) (number_of edits_text) ≡ Some form → form_of_options words ≡ Some form
told words seed_text edits_text form p h =
    ap (λ (b : Bool). if b then None else option_and_then form_of_texts (texts_of words)) p.ends
    ∙ ap (option_and_then form_of_texts) p.texts ∙ h

seed_first : (v u : Text) (p q : Bool) → is_end v ≡ false → is_end u ≡ false → Plain (option_words p (codes "seed") v ++ option_words q (codes "edits") u) v u
seed_first v u true true h k = record { ends = or_from (is_end v) _ h (or_from (is_end u) false k refl); texts = refl }
seed_first v u true false h k = record { ends = or_from (is_end v) false h refl; texts = refl }
seed_first v u false true h k = record { ends = or_from (is_end u) false k refl; texts = refl }
seed_first v u false false h k = record { ends = refl; texts = refl }

edits_first : (v u : Text) (p q : Bool) → is_end v ≡ false → is_end u ≡ false → Plain (option_words q (codes "edits") u ++ option_words p (codes "seed") v) v u
edits_first v u true true h k = record { ends = or_from (is_end u) _ k (or_from (is_end v) false h refl); texts = refl }
edits_first v u true false h k = record { ends = or_from (is_end v) false h refl; texts = refl }
edits_first v u false true h k = record { ends = or_from (is_end u) false k refl; texts = refl }
edits_first v u false false h k = record { ends = refl; texts = refl }

pub plain_words : PlainWordsAskForScripts
plain_words program v u seed edits p q s e h i j =
    let form = asked v u seed edits s e h i j in
    let seed_ends = no_end v seed s in
    let edits_ends = no_end u edits e in
    (told _ v u (Gen seed edits) (seed_first v u p q seed_ends edits_ends) form, told _ v u (Gen seed edits) (edits_first v u p q seed_ends edits_ends) form)
