-- Words that state both texts leave no fault, and the two ways together.
use Rattle.std.proofs.Common.{◌≡◌, ◌∙◌, ℕ, Bool, true, false, List, [], ◌∷◌, refl, sym, ap, drop, Option, Some, None, codes, bytes_eq, nat_eq, Result, Ok, Err}
use Rattle.std.specs.Prelude.{option_and_then}
use Rattle.std.specs.List.{list_any}
use Rattle.std.specs.Option.{option_map_or}
use Rattle.std.specs.Borrow.{Bor}
use Rattle.std.proofs.lemmas.Bool.{eqb-true}
use Rattle.std.proofs.lemmas.Slice.Eq.{bytes_eq-Decides}
use Rattle.clap.specs.Lexer.{long_of, short_of}
use Rattle.clap.specs.Walk.{Row, idle, option, first_of, nothing_held, rows_of}
use Rattle.clap.specs.Faults.{walk_fault, defaults_fault, fault_of}
use Rattle.clap.specs.Matches.{first_value}
use Rattle.clap.specs.Simple.{built, matches_of}
use Rattle.clap.specs.declared.parser.matches.Found.{Found}
use Rattle.clap.proofs.FaultLemmas.{leaf_fault}
use Rattle.clap.proofs.WalkLemmas.{first_value-rows}
use Rattle.evm_words.specs.Command.{gen_app}
use Rattle.evm_words.specs.Read.{AnswersTexts, Parses, IsBoth, both, both_values}
use Rattle.evm_words.specs.Words.{Text, is_end, take_option, value_in, value_of, first_word, texts_of, values_of, with_last, either_order, number_of, form_of_numbers, form_of_texts, form_of_options}
use Rattle.evm_words.specs.declared.form.WordsError.{WordsError}
use Rattle.evm_words.specs.declared.form.WordsError.TheVariants.{NoForm, NoMemory}
use Rattle.evm_words.proofs.Walks.{name, Long, held, idle_at, waits_at, valued, uses, fault_of_use, fault_left, both_false, both_empty, word_fault, fault_is}
use Rattle.evm_words.proofs.Uses.{waiting_for, at_pending, NoEnd, same_fault, other_fault}
use Rattle.evm_words.proofs.Taking.{sound, settling_is, settled_is}
use Rattle.evm_words.proofs.Uses.{with_value, without_value}

-- ---- a value that begins with no hyphen

pub record IsPlain (v : Text) : Type 0 where
  pub long : long_of v ≡ None
  pub short : short_of v ≡ None

plain_word : (rows : List Row) (b : Bool) (v : Text) (words : List Text) → IsPlain v
    → word_fault (option (name b)) v (long_of v) (held rows (waiting_for b)) words ≡ fault_left (at_pending rows (valued b v)) words
plain_word rows true v words p =
    ap (λ (l : Long). word_fault (option (name true)) v l (held rows (waiting_for true)) words) p.long
    ∙ ap (λ (s : Option Text). other_fault (option (name true)) v s (held rows (waiting_for true)) words) p.short
plain_word rows false v words p =
    ap (λ (l : Long). word_fault (option (name false)) v l (held rows (waiting_for false)) words) p.long
    ∙ ap (λ (s : Option Text). other_fault (option (name false)) v s (held rows (waiting_for false)) words) p.short

waits_back : (rows : List Row) (b : Bool) (v : Text) (words : List Text) → NoEnd (v ∷ words) → IsPlain v → fault_of_use b v rows ≡ []
    → fault_left (idle_at (uses b v rows)) words ≡ [] → fault_left (waits_at rows b) (v ∷ words) ≡ []
waits_back rows b v words ne p fits z =
    fault_is (held rows (waiting_for b)) (option (name b)) v words (both_false _ _ ne).0
    ∙ plain_word rows b v words p
    ∙ same_fault rows (valued b v) words (both_false _ _ ne).1 (settling_is b v rows ∙ fits)
    ∙ ap (λ (r : List Row). fault_left (idle_at r) words) (settled_is b v rows)
    ∙ z

-- ---- an option at the front

-- what a first option takes, by what its word is
pub data Front (b : Bool) (word : Text) (words : List Text) (v : Text) (rest : List Text) : Type 0 where
  in_word : long_of word ≡ Some (name b, Some v) → words ≡ rest → Front b word words v rest
  in_next : long_of word ≡ Some (name b, None) → words ≡ v ∷ rest → Front b word words v rest

abbrev some_both : {A B : Type 0} → A → B → Option (A × B)
some_both v r = Some (v, r)

first_same : {A B : Type 0} (v u : A) (r s : B) → some_both v r ≡ some_both u s → v ≡ u
first_same {A} {B} v u r s e = ap (λ (o : Option (A × B)). option_map_or (λ p. p.0) o v) e

second_same : {A B : Type 0} (v u : A) (r s : B) → some_both v r ≡ some_both u s → r ≡ s
second_same {A} {B} v u r s e = ap (λ (o : Option (A × B)). option_map_or (λ p. p.1) o r) e

next_is : (words : List Text) (v : Text) (rest : List Text) → first_word words ≡ Some (v, rest) → words ≡ v ∷ rest
next_is [] v rest e = absurd (cc e)
next_is (w ∷ ws) v rest e = ap (λ (t : Text). t ∷ ws) (first_same w v ws rest e) ∙ ap (λ (r : List Text). v ∷ r) (second_same w v ws rest e)

front : (b : Bool) (word : Text) (words : List Text) (v : Text) (rest : List Text) → take_option (name b) (word ∷ words) ≡ Some (v, rest) → Front b word words v rest
front b word words v rest e = by_long (long_of word) refl
  where
    by_value : (n : Text) (x : Option Text) → long_of word ≡ Some (n, x) → n ≡ name b → value_of x words ≡ Some (v, rest) → Front b word words v rest
    by_value n (Some u) l is t =
        in_word (l ∙ ap (λ (m : Text). Some (m, Some u)) is ∙ ap (λ (m : Text). Some (name b, Some m)) (first_same u v words rest t)) (second_same u v words rest t)
    by_value n None l is t = in_next (l ∙ ap (λ (m : Text). Some (m, None)) is) (next_is words v rest t)

    by_name : (n : Text) (x : Option Text) (t : Bool) → long_of word ≡ Some (n, x) → bytes_eq (name b) n ≡ t → value_in (name b) (Some (n, x)) words ≡ Some (v, rest) → Front b word words v rest
    by_name n x true l h t = by_value n x l (sym ((bytes_eq-Decides (name b) n).0 h)) (rw h at t)
    by_name n x false l h t = absurd (cc (rw h at t))

    by_long : (l : Long) → long_of word ≡ l → Front b word words v rest
    by_long None l = absurd (cc (sym (ap (λ (m : Long). value_in (name b) m words) l) ∙ e))
    by_long (Some (n, x)) l = by_name n x (bytes_eq (name b) n) l refl (sym (ap (λ (m : Long). value_in (name b) m words) l) ∙ e)

ends_rest : (b : Bool) (word : Text) (words : List Text) (v : Text) (rest : List Text) → Front b word words v rest → NoEnd (word ∷ words) → NoEnd rest
ends_rest b word words v rest (in_word l e) ne = sym (ap (list_any is_end) e) ∙ (both_false _ _ ne).1
ends_rest b word words v rest (in_next l e) ne = (both_false _ _ (sym (ap (list_any is_end) e) ∙ (both_false _ _ ne).1)).1

-- the words of an option at the front leave what its use leaves
front_left : (rows : List Row) (b : Bool) (word : Text) (words : List Text) (v : Text) (rest : List Text) → Front b word words v rest → NoEnd (word ∷ words) → IsPlain v
    → fault_of_use b v rows ≡ [] → fault_left (idle_at (uses b v rows)) rest ≡ [] → fault_left (idle_at rows) (word ∷ words) ≡ []
front_left rows b word words v rest (in_word l e) ne p fits z =
    fault_is (held rows None) idle word words (both_false _ _ ne).0
    ∙ ap (λ (m : Long). word_fault idle word m (held rows None) words) l
    ∙ with_value b idle word v rows None words
    ∙ both_empty (fault_of_use b v rows) _ fits (ap (fault_left (idle_at (uses b v rows))) e ∙ z)
front_left rows b word words v rest (in_next l e) ne p fits z =
    fault_is (held rows None) idle word words (both_false _ _ ne).0
    ∙ ap (λ (m : Long). word_fault idle word m (held rows None) words) l
    ∙ without_value b idle word rows None words
    ∙ ap (fault_left (waits_at rows b)) e
    ∙ waits_back rows b v rest (sym (ap (list_any is_end) e) ∙ (both_false _ _ ne).1) p fits z

take_left : (rows : List Row) (b : Bool) (words : List Text) (v : Text) (rest : List Text) → take_option (name b) words ≡ Some (v, rest) → NoEnd words → IsPlain v
    → fault_of_use b v rows ≡ [] → fault_left (idle_at (uses b v rows)) rest ≡ [] → fault_left (idle_at rows) words ≡ []
take_left rows b [] v rest e ne p fits z = absurd (cc e)
take_left rows b (word ∷ words) v rest e ne p fits z = front_left rows b word words v rest (front b word words v rest e) ne p fits z

take_ends : (b : Bool) (words : List Text) (v : Text) (rest : List Text) → take_option (name b) words ≡ Some (v, rest) → NoEnd words → NoEnd rest
take_ends b [] v rest e ne = absurd (cc e)
take_ends b (word ∷ words) v rest e ne = ends_rest b word words v rest (front b word words v rest e) ne

-- ---- two options

pub record Two (b c : Bool) (words : List Text) (v u : Text) : Type 0 where
  pub rest : List Text
  pub first : take_option (name b) words ≡ Some (v, rest)
  pub second : take_option (name c) rest ≡ Some (u, [])

two_of : (b c : Bool) (words : List Text) (v u : Text) → values_of (name b) (name c) words ≡ Some (v, u) → Two b c words v u
two_of b c words v u e = by_first (take_option (name b) words) refl e
  where
    by_last : (x y : Text) (rest last : List Text) → take_option (name b) words ≡ Some (x, rest) → take_option (name c) rest ≡ Some (y, last)
        → with_last x (Some (y, last)) ≡ Some (v, u) → Two b c words v u
    by_last x y rest [] f s e =
        record {
          rest = rest;
          first = f ∙ ap (λ (t : Text). Some (t, rest)) (first_same x v y u e);
          second = s ∙ ap (λ (t : Text). Some (t, [])) (second_same x v y u e);
        }
    by_last x y rest (w ∷ ws) f s e = absurd (cc e)

    by_second : (x : Text) (rest : List Text) (o : Option (Text × List Text)) → take_option (name b) words ≡ Some (x, rest) → take_option (name c) rest ≡ o
        → with_last x o ≡ Some (v, u) → Two b c words v u
    by_second x rest None f s e = absurd (cc e)
    by_second x rest (Some (y, last)) f s e = by_last x y rest last f s e

    by_first : (o : Option (Text × List Text)) → take_option (name b) words ≡ o
        → option_and_then (λ first. with_last first.0 (take_option (name c) first.1)) o ≡ Some (v, u) → Two b c words v u
    by_first None f e = absurd (cc e)
    by_first (Some (x, rest)) f e = by_second x rest (take_option (name c) rest) f refl e

abbrev other_option : Bool → Bool
other_option true = false
other_option false = true

two_left : (b : Bool) (words : List Text) (v u : Text) → Two b (other_option b) words v u → NoEnd words → IsPlain v → IsPlain u → fault_left (idle_at []) words ≡ []
unfolding walk_fault defaults_fault
two_left true words v u t ne p q =
    take_left [] true words v t.rest t.first ne p refl
    (take_left (uses true v []) false t.rest u [] t.second (take_ends true words v t.rest t.first ne) q refl refl)
two_left false words v u t ne p q =
    take_left [] false words v t.rest t.first ne p refl
    (take_left (uses false v []) true t.rest u [] t.second (take_ends false words v t.rest t.first ne) q refl refl)

-- words that state both texts leave no fault
pub complete : (words : List Text) (seed edits : Text) → texts_of words ≡ Some (seed, edits) → NoEnd words → IsPlain seed → IsPlain edits → fault_left (idle_at []) words ≡ []
complete words seed edits e ne p q = by_order (values_of (codes "seed") (codes "edits") words) (values_of (codes "edits") (codes "seed") words) refl refl e
  where
    by_order : (o r : Option (Text × Text)) → values_of (codes "seed") (codes "edits") words ≡ o → values_of (codes "edits") (codes "seed") words ≡ r
        → either_order o r ≡ Some (seed, edits) → fault_left (idle_at []) words ≡ []
    by_order (Some x) r f s e = two_left true words seed edits (two_of true false words seed edits (f ∙ e)) ne p q
    by_order None None f s e = absurd (cc e)
    by_order None (Some (x, y)) f s e =
        two_left false words edits seed (two_of false true words edits seed (s ∙ ap (λ (t : Text). Some (t, y)) (second_same y seed x edits e) ∙ ap (λ (t : Text). Some (edits, t)) (first_same y seed x edits e))) ne q p

-- ---- numbers

plain_of_number : (v : Text) (n : ℕ) → number_of v ≡ Some n → IsPlain v
plain_of_number [] n e = record { long = refl; short = refl }
plain_of_number (x ∷ xs) n e = by_hyphen (nat_eq x 45) refl
  where
    by_hyphen : (t : Bool) → nat_eq x 45 ≡ t → IsPlain (x ∷ xs)
    by_hyphen false h = record { long = rw h refl; short = rw h refl }
    by_hyphen true h =
        let is : x ≡ 45 = eqb-true x 45 h in
        let none : number_of (45 ∷ xs) ≡ None = refl in
        absurd (cc (sym none ∙ ap (λ (y : ℕ). number_of (y ∷ xs)) (sym is) ∙ e))

no_form_of : (seed edits : Text) → (IsPlain seed → IsPlain edits → ⊥) → form_of_texts (seed, edits) ≡ None
no_form_of seed edits h = by_numbers (number_of seed) (number_of edits) refl refl
  where
    by_numbers : (s e : Option ℕ) → number_of seed ≡ s → number_of edits ≡ e → form_of_numbers (number_of seed) (number_of edits) ≡ None
    by_numbers None e p q = rw p refl
    by_numbers (Some s) None p q = rw (p, q) refl
    by_numbers (Some s) (Some e) p q = absurd (h (plain_of_number seed s p) (plain_of_number edits e q))

-- ---- the two ways together

fault_is_left : (words : List Text) → fault_of gen_app words ≡ fault_left (idle_at []) (drop 1 words)
fault_is_left words = leaf_fault (built gen_app) nothing_held (drop 1 words) refl

asked_nothing : (words : List Text) → NoEnd words → texts_of words ≡ None → form_of_options words ≡ None
asked_nothing words ne e = rw (ne, e) refl

-- words with a fault ask for nothing
refused : (words : List Text) → NoEnd words → (fault_left (idle_at []) words ≡ [] → ⊥) → form_of_options words ≡ None
refused words ne h = by_texts (texts_of words) refl
  where
    by_texts : (o : Option (Text × Text)) → texts_of words ≡ o → form_of_options words ≡ None
    by_texts None e = asked_nothing words ne e
    by_texts (Some (seed, edits)) e =
        let same : form_of_options words ≡ form_of_texts (seed, edits) = rw (ne, e) refl in
        same ∙ no_form_of seed edits (λ p q. h (complete words seed edits e ne p q))

-- the texts that are found are those that are stated
found_texts : (words : List Text) (found : Found) → NoEnd (drop 1 words) → fault_of gen_app words ≡ [] → rows_of found ≡ matches_of gen_app words
    → both_values found ≡ texts_of (drop 1 words)
found_texts words found ne z are =
    let all = sound (drop 1 words) ne (sym (fault_is_left words) ∙ z) in
    let s : first_value found (codes "seed") ≡ Some all.seed = first_value-rows found (codes "seed") ∙ ap (first_of (codes "seed")) are ∙ all.seed_found in
    let e : first_value found (codes "edits") ≡ Some all.edits = first_value-rows found (codes "edits") ∙ ap (first_of (codes "edits")) are ∙ all.edits_found in
    ap (λ (o : Option Text). both o (first_value found (codes "edits"))) s ∙ ap (both (Some all.seed)) e ∙ sym all.texts

pub answers_found : (words : List Text) (found : Found) (r : Result (Bor Text × Bor Text) WordsError) → NoEnd (drop 1 words) → fault_of gen_app words ≡ []
    → rows_of found ≡ matches_of gen_app words → IsBoth (both_values found) r → AnswersTexts (drop 1 words) r
answers_found words found (Ok texts) ne z are h = sym (found_texts words found ne z are) ∙ h
answers_found words found (Err NoForm) ne z are h = asked_nothing (drop 1 words) ne (sym (found_texts words found ne z are) ∙ h)
answers_found words found (Err NoMemory) ne z are h = tt

pub answers_refusal : (words : List Text) (e : WordsError) → NoEnd (drop 1 words) → Parses words (Err e) → AnswersTexts (drop 1 words) (Err e)
answers_refusal words NoForm ne h = refused (drop 1 words) ne (λ z. h (fault_is_left words ∙ z))
answers_refusal words NoMemory ne h = tt
