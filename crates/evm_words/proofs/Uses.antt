-- The uses of the two options that the words behind `gen` make.
use Rattle.std.proofs.Common.{◌≡◌, ◌∙◌, ℕ, zero, suc, Bool, true, false, List, [], ◌∷◌, length, refl, sym, ap, Option, Some, None, codes, bytes_eq}
use Rattle.std.specs.List.{list_any}
use Rattle.std.specs.Prelude.{slice_get}
use Rattle.std.specs.Option.{option_map_or}
use Rattle.std.specs.Str.{chars}
use Rattle.std.proofs.lemmas.Slice.Eq.{bytes_eq-Decides}
use Rattle.clap.specs.Lexer.{long_of, short_of}
use Rattle.clap.specs.Kinds.{Kinds, or_else}
use Rattle.clap.specs.Walk.{Walk, Held, Row, Rule, Waiting, Outcome, idle, option, plain, finished, settled_rows, bundle_met, arg_by_long, after_flag, long_met, short_or_plain}
use Rattle.clap.specs.Faults.{walk_fault, flags_fault, settle_fault, bundle_fault, long_fault, defaults_fault, check_fault}
use Rattle.clap.specs.declared.error.kind.ErrorKind.TheVariants as kind
use Rattle.evm_words.specs.Words.{Text, is_end}
use Rattle.evm_words.proofs.Walks.{name, rules, shape, Pending, held, at, idle_at, waits_at, valued, uses, fault_of_use, fault_left, rows_left, Long, some_kind, or_else_nil, empty_left, both_false, after, met_fault, met_rows, word_fault, word_rows, fault_is, rows_are}

-- ---- long words

abbrev pub found_fault : Waiting → Text → Option Rule → Option Text → Held → List Text → Kinds
found_fault waiting word found v h words =
    met_fault (long_fault rules false found v h) waiting word h (after_flag rules waiting word (long_met rules found v h).0 (long_met rules found v h).1) words

-- a name is that of an option, or no option has it
pub data Named (n : Text) : Type 0 where
  is_option : (b : Bool) → n ≡ name b → Named n
  is_unknown : arg_by_long rules n ≡ None → Named n

pub named : (n : Text) → Named n
named n = by_seed (bytes_eq (codes "seed") n) (bytes_eq (codes "edits") n) refl refl
  where
    by_seed : (s e : Bool) → bytes_eq (codes "seed") n ≡ s → bytes_eq (codes "edits") n ≡ e → Named n
    by_seed true e h k = is_option true (sym ((bytes_eq-Decides (codes "seed") n).0 h))
    by_seed false true h k = is_option false (sym ((bytes_eq-Decides (codes "edits") n).0 k))
    by_seed false false h k = is_unknown (rw (h, k) refl)

pub unknown_refused : (waiting : Waiting) (word : Text) (found : Option Rule) (v : Option Text) (h : Held) (words : List Text) → found ≡ None
    → found_fault waiting word found v h words ≡ kind.UnknownArgument ∷ []
unknown_refused waiting word None v h words e = refl
unknown_refused waiting word (Some r) v h words e = absurd (cc e)

-- an option with its value in its word, and one with it in the next
pub with_value : (b : Bool) (waiting : Waiting) (word v : Text) (rows : List Row) (p : Pending) (words : List Text)
    → word_fault waiting word (Some (name b, Some v)) (held rows p) words
    ≡ after (or_else (settle_fault rules false (held rows p)) (fault_of_use b v (settled_rows rules p rows))) (idle_at (uses b v (settled_rows rules p rows))) words
with_value true waiting word v rows p words =
    ap (λ (k : Kinds). after k (idle_at (uses true v (settled_rows rules p rows))) words) (or_else_nil _)
with_value false waiting word v rows p words =
    ap (λ (k : Kinds). after k (idle_at (uses false v (settled_rows rules p rows))) words) (or_else_nil _)

pub without_value : (b : Bool) (waiting : Waiting) (word : Text) (rows : List Row) (p : Pending) (words : List Text)
    → word_fault waiting word (Some (name b, None)) (held rows p) words
    ≡ after (settle_fault rules false (held rows p)) (waits_at (settled_rows rules p rows) b) words
without_value true waiting word rows p words = ap (λ (k : Kinds). after k (waits_at (settled_rows rules p rows) true) words) (or_else_nil _)
without_value false waiting word rows p words = ap (λ (k : Kinds). after k (waits_at (settled_rows rules p rows) false) words) (or_else_nil _)

-- ---- other words

-- no option has a short name: a word of short names is refused, or has none and is plain
pub data Bundle (fault : Kinds) (met : Held × Outcome) (h : Held) : Type 0 where
  is_refused : fault ≡ kind.UnknownArgument ∷ [] → Bundle fault met h
  is_plain : fault ≡ [] → met ≡ (h, plain) → Bundle fault met h

bundled : (k : ℕ) (flags : Text) (h : Held) → Bundle (flags_fault rules false k flags 0 h) (bundle_met rules k flags 0 plain h) h
unfolding flags_fault bundle_met
bundled zero flags h = is_plain refl refl
bundled (suc k) flags h = by_first (slice_get (chars flags) 0) refl
  where
    by_first : (o : Option ℕ) → slice_get (chars flags) 0 ≡ o → Bundle (flags_fault rules false (suc k) flags 0 h) (bundle_met rules (suc k) flags 0 plain h) h
    by_first None e = is_plain (rw e refl) (rw e refl)
    by_first (Some x) e = is_refused (rw e refl)

abbrev pub bundle_fault_left : Waiting → Text → Kinds → Held × Outcome → Held → List Text → Kinds
bundle_fault_left waiting word k m h words = met_fault k waiting word h (after_flag rules waiting word m.0 m.1) words

abbrev pub bundle_rows_left : Waiting → Text → Held × Outcome → Held → List Text → List Row
bundle_rows_left waiting word m h words = met_rows waiting word h (after_flag rules waiting word m.0 m.1) words

-- where nothing waits, a word that is no option is refused
idle_bundle : (word : Text) (k : Kinds) (m : Held × Outcome) (h : Held) (words : List Text) → Bundle k m h
    → bundle_fault_left idle word k m h words ≡ kind.UnknownArgument ∷ []
idle_bundle word k m h words (is_refused e) = rw e refl
idle_bundle word k m h words (is_plain e f) = rw (e, f) refl

abbrev pub other_fault : Waiting → Text → Option Text → Held → List Text → Kinds
other_fault waiting word short h words =
    met_fault (option_map_or (λ flags. bundle_fault rules false flags h) short []) waiting word h (short_or_plain rules waiting word short h) words

abbrev pub other_rows : Waiting → Text → Option Text → Held → List Text → List Row
other_rows waiting word short h words = met_rows waiting word h (short_or_plain rules waiting word short h) words

idle_other : (word : Text) (short : Option Text) (rows : List Row) (p : Pending) (words : List Text)
    → other_fault idle word short (held rows p) words ≡ kind.UnknownArgument ∷ []
idle_other word None rows p words = refl
idle_other word (Some flags) rows p words = idle_bundle word _ _ (held rows p) words (bundled (length flags) flags (held rows p))

-- where an option waits, such a word is refused or is its value
pub data Taken (fault : Kinds) (gained : List Row) (rows : List Row) (b : Bool) (word : Text) (words : List Text) : Type 0 where
  is_not : fault ≡ kind.UnknownArgument ∷ [] → Taken fault gained rows b word words
  is_taken : fault ≡ fault_left (at (held rows (valued b word)) idle) words → gained ≡ rows_left (at (held rows (valued b word)) idle) words
      → Taken fault gained rows b word words

abbrev pub waiting_for : Bool → Pending
waiting_for b = Some (name b, [])

taken_plain : (rows : List Row) (b : Bool) (word : Text) (words : List Text)
    → Taken (other_fault (option (name b)) word None (held rows (waiting_for b)) words) (other_rows (option (name b)) word None (held rows (waiting_for b)) words) rows b word words
taken_plain rows true word words = is_taken refl refl
taken_plain rows false word words = is_taken refl refl

taken_bundle : (rows : List Row) (b : Bool) (word : Text) (k : Kinds) (m : Held × Outcome) (words : List Text) → Bundle k m (held rows (waiting_for b))
    → Taken (bundle_fault_left (option (name b)) word k m (held rows (waiting_for b)) words) (bundle_rows_left (option (name b)) word m (held rows (waiting_for b)) words) rows b word words
taken_bundle rows b word k m words (is_refused e) = is_not (rw e refl)
taken_bundle rows b word k m words (is_plain e f) = rw (e, f) (taken_plain rows b word words)

pub taken_other : (rows : List Row) (b : Bool) (word : Text) (short : Option Text) (words : List Text)
    → Taken (other_fault (option (name b)) word short (held rows (waiting_for b)) words) (other_rows (option (name b)) word short (held rows (waiting_for b)) words) rows b word words
taken_other rows b word None words = taken_plain rows b word words
taken_other rows b word (Some flags) words = taken_bundle rows b word _ _ words (bundled (length flags) flags (held rows (waiting_for b)))

-- ---- what a word is

pub data Kind (long : Long) : Type 0 where
  unknown : (n : Text) (v : Option Text) → long ≡ Some (n, v) → arg_by_long rules n ≡ None → Kind long
  given : (b : Bool) (v : Text) → long ≡ Some (name b, Some v) → Kind long
  alone : (b : Bool) → long ≡ Some (name b, None) → Kind long
  other : long ≡ None → Kind long

pub kind_of : (long : Long) → Kind long
kind_of None = other refl
kind_of (Some (n, v)) = by_name (named n) v
  where
    by_name : Named n → (v : Option Text) → Kind (Some (n, v))
    by_name (is_unknown e) v = unknown n v refl e
    by_name (is_option b e) None = alone b (ap (λ (m : Text). Some (m, None)) e)
    by_name (is_option b e) (Some v) = given b v (ap (λ (m : Text). Some (m, Some v)) e)

-- ---- a pending option is as one that was used

abbrev pub settling : Pending → List Row → Kinds
settling p rows = settle_fault rules false (held rows p)

abbrev pub at_pending : List Row → Pending → Walk
at_pending rows p = at (held rows p) idle

abbrev pub NoEnd : List Text → Type 0
NoEnd words = list_any is_end words ≡ false

-- the fault of a word of this kind, where nothing waits
unfoldable pub idle_word : (word : Text) (long : Long) (rows : List Row) (p : Pending) (words : List Text) → Kind long → Kinds
idle_word word long rows p words (unknown n v e f) = kind.UnknownArgument ∷ []
idle_word word long rows p words (given b v e) =
    after (or_else (settling p rows) (fault_of_use b v (settled_rows rules p rows))) (idle_at (uses b v (settled_rows rules p rows))) words
idle_word word long rows p words (alone b e) = after (settling p rows) (waits_at (settled_rows rules p rows) b) words
idle_word word long rows p words (other e) = kind.UnknownArgument ∷ []

pub idle_word_is : (word : Text) (long : Long) (rows : List Row) (p : Pending) (words : List Text) (k : Kind long) → long ≡ long_of word
    → word_fault idle word long (held rows p) words ≡ idle_word word long rows p words k
unfolding idle_word
idle_word_is word long rows p words (unknown n v e f) is =
    ap (λ (l : Long). word_fault idle word l (held rows p) words) e ∙ unknown_refused idle word (arg_by_long rules n) v (held rows p) words f
idle_word_is word long rows p words (given b v e) is =
    ap (λ (l : Long). word_fault idle word l (held rows p) words) e ∙ with_value b idle word v rows p words
idle_word_is word long rows p words (alone b e) is =
    ap (λ (l : Long). word_fault idle word l (held rows p) words) e ∙ without_value b idle word rows p words
idle_word_is word long rows p words (other e) is =
    ap (λ (l : Long). word_fault idle word l (held rows p) words) e ∙ idle_other word (short_of word) rows p words

pub idle_is : (word : Text) (rows : List Row) (p : Pending) (words : List Text) → is_end word ≡ false
    → fault_left (at_pending rows p) (word ∷ words) ≡ idle_word word (long_of word) rows p words (kind_of (long_of word))
idle_is word rows p words ne = fault_is (held rows p) idle word words ne ∙ idle_word_is word (long_of word) rows p words (kind_of (long_of word)) refl

-- what is pending has no fault where none is left
pub pending_fits : (rows : List Row) (p : Pending) (words : List Text) → NoEnd words → fault_left (at_pending rows p) words ≡ [] → settling p rows ≡ []
unfolding walk_fault idle_word
pending_fits rows p [] ne z = empty_left _ _ z
pending_fits rows p (word ∷ words) ne z = by_kind (kind_of (long_of word)) (sym (idle_is word rows p words (both_false _ _ ne).0) ∙ z)
  where
    by_kind : (k : Kind (long_of word)) → idle_word word (long_of word) rows p words k ≡ [] → settling p rows ≡ []
    by_kind (unknown n v e f) z = absurd (some_kind _ _ z)
    by_kind (given b v e) z = empty_left _ _ (empty_left _ _ z)
    by_kind (alone b e) z = empty_left _ _ z
    by_kind (other e) z = absurd (some_kind _ _ z)

-- and then the fault left is that of the rows with it
pub same_fault : (rows : List Row) (p : Pending) (words : List Text) → NoEnd words → settling p rows ≡ []
    → fault_left (at_pending rows p) words ≡ fault_left (idle_at (settled_rows rules p rows)) words
unfolding walk_fault idle_word
same_fault rows p [] ne fits =
    let r = settled_rows rules p rows in
    ap (λ (k : Kinds). or_else k (or_else (defaults_fault r rules) (check_fault shape (finished rules (held r None)) false))) fits
same_fault rows p (word ∷ words) ne fits =
    let first = (both_false _ _ ne).0 in
    idle_is word rows p words first ∙ by_kind (kind_of (long_of word)) ∙ sym (idle_is word (settled_rows rules p rows) None words first)
  where
    by_kind : (k : Kind (long_of word)) → idle_word word (long_of word) rows p words k ≡ idle_word word (long_of word) (settled_rows rules p rows) None words k
    by_kind (unknown n v e f) = refl
    by_kind (given b v e) =
        ap (λ (k : Kinds). after (or_else k (fault_of_use b v (settled_rows rules p rows))) (idle_at (uses b v (settled_rows rules p rows))) words) fits
    by_kind (alone b e) = ap (λ (k : Kinds). after k (waits_at (settled_rows rules p rows) b) words) fits
    by_kind (other e) = refl

-- ---- the rows that are left

with_rows : (b : Bool) (waiting : Waiting) (word v : Text) (rows : List Row) (p : Pending) (words : List Text)
    → word_rows waiting word (Some (name b, Some v)) (held rows p) words ≡ rows_left (idle_at (uses b v (settled_rows rules p rows))) words
with_rows true waiting word v rows p words = refl
with_rows false waiting word v rows p words = refl

without_rows : (b : Bool) (waiting : Waiting) (word : Text) (rows : List Row) (p : Pending) (words : List Text)
    → word_rows waiting word (Some (name b, None)) (held rows p) words ≡ rows_left (waits_at (settled_rows rules p rows) b) words
without_rows true waiting word rows p words = refl
without_rows false waiting word rows p words = refl

unfoldable pub idle_rows : (word : Text) (long : Long) (rows : List Row) (p : Pending) (words : List Text) → Kind long → List Row
idle_rows word long rows p words (unknown n v e f) = word_rows idle word long (held rows p) words
idle_rows word long rows p words (given b v e) = rows_left (idle_at (uses b v (settled_rows rules p rows))) words
idle_rows word long rows p words (alone b e) = rows_left (waits_at (settled_rows rules p rows) b) words
idle_rows word long rows p words (other e) = word_rows idle word long (held rows p) words

idle_rows_are : (word : Text) (long : Long) (rows : List Row) (p : Pending) (words : List Text) (k : Kind long)
    → word_rows idle word long (held rows p) words ≡ idle_rows word long rows p words k
unfolding idle_rows
idle_rows_are word long rows p words (unknown n v e f) = refl
idle_rows_are word long rows p words (given b v e) =
    ap (λ (l : Long). word_rows idle word l (held rows p) words) e ∙ with_rows b idle word v rows p words
idle_rows_are word long rows p words (alone b e) =
    ap (λ (l : Long). word_rows idle word l (held rows p) words) e ∙ without_rows b idle word rows p words
idle_rows_are word long rows p words (other e) = refl

pub rows_of_word : (word : Text) (rows : List Row) (p : Pending) (words : List Text) → is_end word ≡ false
    → rows_left (at_pending rows p) (word ∷ words) ≡ idle_rows word (long_of word) rows p words (kind_of (long_of word))
rows_of_word word rows p words ne = rows_are (held rows p) idle word words ne ∙ idle_rows_are word (long_of word) rows p words (kind_of (long_of word))

-- where no fault is left, the rows are those of the walk with the pending option used
pub same_rows : (rows : List Row) (p : Pending) (words : List Text) → NoEnd words → fault_left (at_pending rows p) words ≡ []
    → rows_left (at_pending rows p) words ≡ rows_left (idle_at (settled_rows rules p rows)) words
unfolding idle_word idle_rows
same_rows rows p [] ne z = refl
same_rows rows p (word ∷ words) ne z =
    let first = (both_false _ _ ne).0 in
    rows_of_word word rows p words first
    ∙ by_kind (kind_of (long_of word)) (sym (idle_is word rows p words first) ∙ z)
    ∙ sym (rows_of_word word (settled_rows rules p rows) None words first)
  where
    by_kind : (k : Kind (long_of word)) → idle_word word (long_of word) rows p words k ≡ []
        → idle_rows word (long_of word) rows p words k ≡ idle_rows word (long_of word) (settled_rows rules p rows) None words k
    by_kind (unknown n v e f) z = absurd (some_kind _ _ z)
    by_kind (given b v e) z = refl
    by_kind (alone b e) z = refl
    by_kind (other e) z = absurd (some_kind _ _ z)
