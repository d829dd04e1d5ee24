-- How `clap` walks over the words behind `gen`.
use Rattle.std.proofs.Common.{◌≡◌, ◌∙◌, Bool, ◌||◌, true, false, List, [], ◌∷◌, refl, ap, Option, Some, None, codes}
use Rattle.std.specs.List.{fold}
use Rattle.clap.specs.Lexer.{long_of}
use Rattle.clap.specs.Kinds.{Kinds, or_else}
use Rattle.clap.specs.Walk.{Held, Row, Rule, Walk, Waiting, Step, idle, option, positional, finished, settled, used, walked, after_step, long_or_other}
use Rattle.clap.specs.Faults.{walk_fault, turn_fault, settle_fault, use_fault, defaults_fault, check_fault, flag_word_fault, step_fault}
use Rattle.clap.specs.Simple.{Shape, built, filled}
use Rattle.evm_words.specs.Command.{option_rule, gen_app}
use Rattle.evm_words.specs.Words.{Text, is_end}

-- ---- the built command, and where the walk stands

abbrev pub name : Bool → Text
name true = codes "seed"
name false = codes "edits"

abbrev pub rule : Bool → Rule
rule b = filled (option_rule (name b))

abbrev pub shape : Shape
shape = (built gen_app).top

abbrev pub rules : List Rule
rules = shape.rules

abbrev pub Pending : Type 0
Pending = Option (Text × List Text)

abbrev pub held : List Row → Pending → Held
held rows pending = record { rows = rows; pending = pending; skip = 0 }

abbrev pub at : Held → Waiting → Walk
at h waiting = record { held = h; waiting = waiting; position = 1; is_trailing = false; stopped = None }

-- nothing is pending; an option waits for its value; an option has its value
abbrev pub idle_at : List Row → Walk
idle_at rows = at (held rows None) idle

abbrev pub waits_at : List Row → Bool → Walk
waits_at rows b = at (held rows (Some (name b, []))) (option (name b))

abbrev pub valued : Bool → Text → Pending
valued b v = Some (name b, v ∷ [])

-- the rows and the fault of one use
abbrev pub uses : Bool → Text → List Row → List Row
uses b v rows = used (rule b) (v ∷ []) rows

abbrev pub fault_of_use : Bool → Text → List Row → Kinds
fault_of_use b v rows = use_fault false (rule b) (v ∷ []) rows

-- ---- what is left of the parse

abbrev pub end_fault : Held → Kinds
end_fault h =
    or_else (settle_fault rules false h) (or_else (defaults_fault (settled rules h).rows rules) (check_fault shape (finished rules h) false))

abbrev pub fault_left : Walk → List Text → Kinds
fault_left w words = or_else (walk_fault shape [] w words) (end_fault (fold (walked rules []) w words).held)

abbrev pub rows_left : Walk → List Text → List Row
rows_left w words = finished rules (fold (walked rules []) w words).held

-- ---- lists of kinds

pub or_else_assoc : (a b c : Kinds) → or_else (or_else a b) c ≡ or_else a (or_else b c)
or_else_assoc [] b c = refl
or_else_assoc (k ∷ ks) b c = refl

pub or_else_nil : (a : Kinds) → or_else a [] ≡ a
or_else_nil [] = refl
or_else_nil (k ∷ ks) = refl

pub empty_left : (a b : Kinds) → or_else a b ≡ [] → a ≡ []
empty_left [] b e = refl
empty_left (k ∷ ks) b e = e

pub empty_right : (a b : Kinds) → or_else a b ≡ [] → b ≡ []
empty_right [] b e = e
empty_right (k ∷ ks) b e = absurd (cc e)

pub both_empty : (a b : Kinds) → a ≡ [] → b ≡ [] → or_else a b ≡ []
both_empty a b e f = rw (e, f) refl

pub some_kind : (k : _) (ks : Kinds) → k ∷ ks ≡ [] → ⊥
some_kind k ks e = absurd (cc e)

pub both_false : (a b : Bool) → (a || b) ≡ false → (a ≡ false) × (b ≡ false)
both_false true b e = absurd (cc e)
both_false false b e = (refl, e)

-- ---- one word

abbrev pub after : Kinds → Walk → List Text → Kinds
after fault w words = or_else fault (fault_left w words)

abbrev pub met_fault : Kinds → Waiting → Text → Held → Held × Step → List Text → Kinds
met_fault fault waiting word h met words =
    after (or_else fault (step_fault shape 1 met.0 met.1)) (after_step rules word (at h waiting) met.0 met.1) words

abbrev pub met_rows : Waiting → Text → Held → Held × Step → List Text → List Row
met_rows waiting word h met words = rows_left (after_step rules word (at h waiting) met.0 met.1) words

abbrev pub Long : Type 0
Long = Option (Text × Option Text)

abbrev pub word_fault : Waiting → Text → Long → Held → List Text → Kinds
word_fault waiting word long h words =
    met_fault (flag_word_fault rules false long word h) waiting word h (long_or_other rules waiting word long h) words

abbrev pub word_rows : Waiting → Text → Long → Held → List Text → List Row
word_rows waiting word long h words = met_rows waiting word h (long_or_other rules waiting word long h) words

turn_is : (h : Held) (waiting : Waiting) (word : Text) → is_end word ≡ false
    → turn_fault shape [] (at h waiting) word
    ≡ or_else (flag_word_fault rules false (long_of word) word h) (step_fault shape 1 (long_or_other rules waiting word (long_of word) h).0 (long_or_other rules waiting word (long_of word) h).1)
turn_is h idle word ne = rw ne refl
turn_is h (option id) word ne = rw ne refl
turn_is h positional word ne = rw ne refl

walk_is : (h : Held) (waiting : Waiting) (word : Text) → is_end word ≡ false
    → walked rules [] (at h waiting) word
    ≡ after_step rules word (at h waiting) (long_or_other rules waiting word (long_of word) h).0 (long_or_other rules waiting word (long_of word) h).1
unfolding walked
walk_is h idle word ne = rw ne refl
walk_is h (option id) word ne = rw ne refl
walk_is h positional word ne = rw ne refl

first_turn : (w : Walk) (word : Text) (words : List Text) → fault_left w (word ∷ words) ≡ after (turn_fault shape [] w word) (walked rules [] w word) words
unfolding walk_fault
first_turn w word words = or_else_assoc (turn_fault shape [] w word) (walk_fault shape [] (walked rules [] w word) words) _

pub fault_is : (h : Held) (waiting : Waiting) (word : Text) (words : List Text) → is_end word ≡ false
    → fault_left (at h waiting) (word ∷ words) ≡ word_fault waiting word (long_of word) h words
fault_is h waiting word words ne =
    first_turn (at h waiting) word words
    ∙ ap (λ (k : Kinds). after k (walked rules [] (at h waiting) word) words) (turn_is h waiting word ne)
    ∙ ap (λ (w : Walk). after (or_else (flag_word_fault rules false (long_of word) word h) (step_fault shape 1 (long_or_other rules waiting word (long_of word) h).0 (long_or_other rules waiting word (long_of word) h).1)) w words) (walk_is h waiting word ne)

pub rows_are : (h : Held) (waiting : Waiting) (word : Text) (words : List Text) → is_end word ≡ false
    → rows_left (at h waiting) (word ∷ words) ≡ word_rows waiting word (long_of word) h words
rows_are h waiting word words ne = ap (λ (w : Walk). rows_left w words) (walk_is h waiting word ne)
