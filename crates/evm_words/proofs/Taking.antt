-- What `clap` makes of the words behind `gen` is what the definition of the words makes of them.
use Rattle.std.proofs.Common.{◌≡◌, ◌∙◌, ◌⊎◌, inl, inr, Bool, true, false, List, [], ◌∷◌, refl, sym, ap, Some, None, codes, bytes_eq}
use Rattle.std.proofs.lemmas.Slice.Eq.{bytes_eq-Decides}
use Rattle.clap.specs.Lexer.{long_of, short_of}
use Rattle.clap.specs.Walk.{Row, option, arg_by_long, settled_rows, first_of}
use Rattle.clap.specs.Faults.{walk_fault, defaults_fault}
use Rattle.evm_words.specs.Words.{Text, is_end, take_option, value_in, first_word, texts_of, values_of, either_order}
use Rattle.evm_words.proofs.Walks.{name, rules, Long, held, idle_at, waits_at, valued, uses, fault_of_use, fault_left, rows_left, some_kind, empty_left, empty_right, both_false, word_fault, word_rows, fault_is, rows_are}
use Rattle.evm_words.proofs.Uses.{Kind, unknown, given, alone, other, kind_of, unknown_refused, with_value, without_value, Taken, is_not, is_taken, taken_other, waiting_for, idle_word, idle_is, idle_rows, rows_of_word, settling, at_pending, NoEnd, pending_fits, same_fault, same_rows}

-- ---- an option that waits takes the next word

unsettled : (b : Bool) (rows : List Row) → settling (waiting_for b) rows ≡ [] → ⊥
unsettled true rows z = some_kind _ _ z
unsettled false rows z = some_kind _ _ z

pub settling_is : (b : Bool) (v : Text) (rows : List Row) → settling (valued b v) rows ≡ fault_of_use b v rows
settling_is true v rows = refl
settling_is false v rows = refl

pub settled_is : (b : Bool) (v : Text) (rows : List Row) → settled_rows rules (valued b v) rows ≡ uses b v rows
settled_is true v rows = refl
settled_is false v rows = refl

-- one value was read, and what is left is what is left behind its use
pub record Value (rows : List Row) (b : Bool) (words : List Text) (before : List Row) : Type 0 where
  pub v : Text
  pub rest : List Text
  pub are : words ≡ v ∷ rest
  pub fits : fault_of_use b v rows ≡ []
  pub fault : fault_left (idle_at (uses b v rows)) rest ≡ []
  pub kept : before ≡ rows_left (idle_at (uses b v rows)) rest
  pub ends : NoEnd rest

valued_then : (rows : List Row) (b : Bool) (word : Text) (words : List Text) (before : List Row) → NoEnd words
    → fault_left (at_pending rows (valued b word)) words ≡ [] → before ≡ rows_left (at_pending rows (valued b word)) words → Value rows b (word ∷ words) before
valued_then rows b word words before ne z kept =
    let fits = pending_fits rows (valued b word) words ne z in
    let is = settled_is b word rows in
    record {
      v = word;
      rest = words;
      are = refl;
      fits = sym (settling_is b word rows) ∙ fits;
      fault = ap (λ (r : List Row). fault_left (idle_at r) words) (sym is) ∙ sym (same_fault rows (valued b word) words ne fits) ∙ z;
      kept = kept ∙ same_rows rows (valued b word) words ne z ∙ ap (λ (r : List Row). rows_left (idle_at r) words) is;
      ends = ne;
    }

waits_then : (rows : List Row) (b : Bool) (words : List Text) → NoEnd words → fault_left (waits_at rows b) words ≡ [] → Value rows b words (rows_left (waits_at rows b) words)
unfolding walk_fault
waits_then rows b [] ne z = absurd (unsettled b rows (empty_left _ _ z))
waits_then rows b (word ∷ words) ne z = by_kind (kind_of (long_of word))
  where
    first : is_end word ≡ false
    first = (both_false _ _ ne).0

    left : word_fault (option (name b)) word (long_of word) (held rows (waiting_for b)) words ≡ []
    left = sym (fault_is (held rows (waiting_for b)) (option (name b)) word words first) ∙ z

    as_long : (l : Long) → long_of word ≡ l → word_fault (option (name b)) word l (held rows (waiting_for b)) words ≡ []
    as_long l e = ap (λ (m : Long). word_fault (option (name b)) word m (held rows (waiting_for b)) words) (sym e) ∙ left

    by_kind : Kind (long_of word) → Value rows b (word ∷ words) (rows_left (waits_at rows b) (word ∷ words))
    by_kind (unknown n v e f) = absurd (some_kind _ _ (sym (unknown_refused (option (name b)) word (arg_by_long rules n) v (held rows (waiting_for b)) words f) ∙ as_long _ e))
    by_kind (given c v e) = absurd (unsettled b rows (empty_left _ _ (empty_left _ _ (sym (with_value c (option (name b)) word v rows (waiting_for b) words) ∙ as_long _ e))))
    by_kind (alone c e) = absurd (unsettled b rows (empty_left _ _ (sym (without_value c (option (name b)) word rows (waiting_for b) words) ∙ as_long _ e)))
    by_kind (other e) = by_taken (taken_other rows b word (short_of word) words)
      where
        by_taken : Taken (word_fault (option (name b)) word None (held rows (waiting_for b)) words) (word_rows (option (name b)) word None (held rows (waiting_for b)) words) rows b word words
            → Value rows b (word ∷ words) (rows_left (waits_at rows b) (word ∷ words))
        by_taken (is_not f) = absurd (some_kind _ _ (sym f ∙ as_long None e))
        by_taken (is_taken f g) = valued_then rows b word words _ (both_false _ _ ne).1 (sym f ∙ as_long None e)
            (rows_are (held rows (waiting_for b)) (option (name b)) word words first
            ∙ ap (λ (l : Long). word_rows (option (name b)) word l (held rows (waiting_for b)) words) e ∙ g)

-- ---- one option after the other

pub record Use (rows : List Row) (words : List Text) : Type 0 where
  pub b : Bool
  pub v : Text
  pub rest : List Text
  pub takes : take_option (name b) words ≡ Some (v, rest)
  pub fits : fault_of_use b v rows ≡ []
  pub fault : fault_left (idle_at (uses b v rows)) rest ≡ []
  pub kept : rows_left (idle_at rows) words ≡ rows_left (idle_at (uses b v rows)) rest
  pub ends : NoEnd rest

takes_given : (b : Bool) (v : Text) (word : Text) (words : List Text) → long_of word ≡ Some (name b, Some v) → take_option (name b) (word ∷ words) ≡ Some (v, words)
takes_given true v word words e = ap (λ (l : Long). value_in (name true) l words) e
takes_given false v word words e = ap (λ (l : Long). value_in (name false) l words) e

takes_alone : (b : Bool) (word : Text) (words : List Text) → long_of word ≡ Some (name b, None) → take_option (name b) (word ∷ words) ≡ first_word words
takes_alone true word words e = ap (λ (l : Long). value_in (name true) l words) e
takes_alone false word words e = ap (λ (l : Long). value_in (name false) l words) e

pub one_use : (rows : List Row) (words : List Text) → NoEnd words → fault_left (idle_at rows) words ≡ [] → (words ≡ []) ⊎ Use rows words
unfolding idle_word idle_rows
one_use rows [] ne z = inl refl
one_use rows (word ∷ words) ne z = inr (by_kind (kind_of (long_of word)) (sym (idle_is word rows None words first) ∙ z) (rows_of_word word rows None words first))
  where
    first : is_end word ≡ false
    first = (both_false _ _ ne).0

    by_kind : (k : Kind (long_of word)) → idle_word word (long_of word) rows None words k ≡ []
        → rows_left (idle_at rows) (word ∷ words) ≡ idle_rows word (long_of word) rows None words k → Use rows (word ∷ words)
    by_kind (unknown n v e f) z kept = absurd (some_kind _ _ z)
    by_kind (given c x e) z are = record {
      b = c;
      v = x;
      rest = words;
      takes = takes_given c x word words e;
      fits = empty_left _ _ z;
      fault = empty_right _ _ z;
      kept = are;
      ends = (both_false _ _ ne).1;
    }
    by_kind (alone c e) z are =
        let next = waits_then rows c words (both_false _ _ ne).1 z in
        record {
          b = c;
          v = next.v;
          rest = next.rest;
          takes = takes_alone c word words e ∙ ap first_word next.are;
          fits = next.fits;
          fault = next.fault;
          kept = are ∙ next.kept;
          ends = next.ends;
        }
    by_kind (other e) z kept = absurd (some_kind _ _ z)

-- ---- words that leave no fault state both texts

-- no words begin with both options
no_other : (words : List Text) (p : Text × List Text) → take_option (codes "edits") words ≡ Some p → take_option (codes "seed") words ≡ None
no_other [] p e = refl
no_other (word ∷ words) p e = by_kind (kind_of (long_of word))
  where
    by_kind : Kind (long_of word) → take_option (codes "seed") (word ∷ words) ≡ None
    by_kind (unknown n v l f) = by_name (bytes_eq (codes "edits") n) refl
      where
        by_name : (t : Bool) → bytes_eq (codes "edits") n ≡ t → take_option (codes "seed") (word ∷ words) ≡ None
        by_name true h =
            let is = (bytes_eq-Decides (codes "edits") n).0 h in
            let found : arg_by_long rules (codes "edits") ≡ None = ap (arg_by_long rules) is ∙ f in
            absurd (cc found)
        by_name false h =
            let none : value_in (codes "edits") (Some (n, v)) words ≡ None = rw h refl in
            absurd (cc (sym none ∙ ap (λ (m : Long). value_in (codes "edits") m words) (sym l) ∙ e))
    by_kind (given true v l) = absurd (cc (sym (ap (λ (m : Long). value_in (codes "edits") m words) l) ∙ e))
    by_kind (given false v l) = ap (λ (m : Long). value_in (codes "seed") m words) l
    by_kind (alone true l) = absurd (cc (sym (ap (λ (m : Long). value_in (codes "edits") m words) l) ∙ e))
    by_kind (alone false l) = ap (λ (m : Long). value_in (codes "seed") m words) l
    by_kind (other l) = absurd (cc (sym (ap (λ (m : Long). value_in (codes "edits") m words) l) ∙ e))

values_are : (b c : Bool) (words rest last : List Text) (v u : Text) → take_option (name b) words ≡ Some (v, rest) → take_option (name c) rest ≡ Some (u, last)
    → last ≡ [] → values_of (name b) (name c) words ≡ Some (v, u)
values_are b c words rest last v u first second none = rw (first, second, none) refl

no_values : (b c : Bool) (words : List Text) → take_option (name b) words ≡ None → values_of (name b) (name c) words ≡ None
no_values b c words e = rw e refl

-- the texts, which are those of the matches
pub record Sound (words : List Text) (rows : List Row) : Type 0 where
  pub seed : Text
  pub edits : Text
  pub texts : texts_of words ≡ Some (seed, edits)
  pub seed_found : first_of (codes "seed") rows ≡ Some seed
  pub edits_found : first_of (codes "edits") rows ≡ Some edits

missing : (b : Bool) (v : Text) (rest : List Text) → fault_left (idle_at (uses b v [])) rest ≡ [] → rest ≡ [] → ⊥
unfolding walk_fault defaults_fault
missing true v rest z none = let left = ap (fault_left (idle_at (uses true v []))) (sym none) ∙ z in some_kind _ _ left
missing false v rest z none = let left = ap (fault_left (idle_at (uses false v []))) (sym none) ∙ z in some_kind _ _ left

third : (b c d : Bool) (v u t : Text) → fault_of_use c u (uses b v []) ≡ [] → fault_of_use d t (uses c u (uses b v [])) ≡ [] → ⊥
third true true d v u t two three = some_kind _ _ two
third false false d v u t two three = some_kind _ _ two
third true false true v u t two three = some_kind _ _ three
third true false false v u t two three = some_kind _ _ three
third false true true v u t two three = some_kind _ _ three
third false true false v u t two three = some_kind _ _ three

both_used : (b c : Bool) (words rest last : List Text) (v u : Text) (rows : List Row)
    → take_option (name b) words ≡ Some (v, rest) → take_option (name c) rest ≡ Some (u, last) → last ≡ []
    → fault_of_use c u (uses b v []) ≡ [] → rows ≡ rows_left (idle_at (uses c u (uses b v []))) last → Sound words rows
both_used true true words rest last v u rows first second none fits kept = absurd (some_kind _ _ fits)
both_used false false words rest last v u rows first second none fits kept = absurd (some_kind _ _ fits)
both_used true false words rest last v u rows first second none fits kept =
    let are = kept ∙ ap (rows_left (idle_at (uses false u (uses true v [])))) none in
    record {
      seed = v;
      edits = u;
      texts = ap (λ o. either_order o (values_of (codes "edits") (codes "seed") words)) (values_are true false words rest last v u first second none);
      seed_found = ap (first_of (codes "seed")) are;
      edits_found = ap (first_of (codes "edits")) are;
    }
both_used false true words rest last v u rows first second none fits kept =
    let are = kept ∙ ap (rows_left (idle_at (uses true u (uses false v [])))) none in
    record {
      seed = u;
      edits = v;
      texts = ap (λ o. either_order o (values_of (codes "edits") (codes "seed") words)) (no_values true false words (no_other words _ first))
          ∙ ap (either_order None) (values_are false true words rest last v u first second none);
      seed_found = ap (first_of (codes "seed")) are;
      edits_found = ap (first_of (codes "edits")) are;
    }

pub sound : (words : List Text) → NoEnd words → fault_left (idle_at []) words ≡ [] → Sound words (rows_left (idle_at []) words)
unfolding walk_fault defaults_fault
sound words ne z = by_first (one_use [] words ne z)
  where
    by_third : (f : Use [] words) (s : Use (uses f.b f.v []) f.rest) → (s.rest ≡ []) ⊎ Use (uses s.b s.v (uses f.b f.v [])) s.rest → Sound words (rows_left (idle_at []) words)
    by_third f s (inl e) = both_used f.b s.b words f.rest s.rest f.v s.v _ f.takes s.takes e s.fits (f.kept ∙ s.kept)
    by_third f s (inr t) = absurd (third f.b s.b t.b f.v s.v t.v s.fits t.fits)

    by_second : (f : Use [] words) → (f.rest ≡ []) ⊎ Use (uses f.b f.v []) f.rest → Sound words (rows_left (idle_at []) words)
    by_second f (inl e) = absurd (missing f.b f.v f.rest f.fault e)
    by_second f (inr s) = by_third f s (one_use (uses s.b s.v (uses f.b f.v [])) s.rest s.ends s.fault)

    by_first : (words ≡ []) ⊎ Use [] words → Sound words (rows_left (idle_at []) words)
    by_first (inl e) = absurd (some_kind _ _ (ap (fault_left (idle_at [])) (sym e) ∙ z))
    by_first (inr f) = by_second f (one_use (uses f.b f.v []) f.rest f.ends f.fault)
