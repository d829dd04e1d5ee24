-- What was carried out over a shelf, as an answer of the model with its mark.
use Rattle.std.proofs.Common.{◌≡◌, ℕ, ◌+◌, ◌≤◌, Bool, true, false, not, List, ◌++◌, Option, Some, None, is_some, refl, sym, ap, ◌∙◌, subst, arith}
use Rattle.std.proofs.lemmas.Bool.{false≢true}
use Rattle.std.specs.FinMap as finite
use Rattle.evm_outside.specs.Causes.{Climbed, MayClimb}
use Rattle.evm_outside.specs.Shelves.{Files, KeepsFiles}
use Rattle.evm_model.specs.Scene.{Scene}
use Rattle.evm_model.specs.Edits.{Code}
use Rattle.evm_model.specs.Replies.{Reply, No, reply_text, is_no}
use Rattle.evm_model.specs.Steps.{Turn, stays, fetches, asks}
use Rattle.evm_model.specs.Runs.{World, Mark, Answer, answer, turned, may_have, fetched_from}
use Rattle.evm_model.specs.Runs as marks
use Rattle.evm_model.specs.LineWork.{line_work, Adds, AddsAtLack}
use Rattle.evm_session.specs.declared.refusals.Refusal.{Refusal}
use Rattle.evm_session.specs.declared.refusals.Refusal.TheVariants as refusals
use Rattle.evm_session.specs.Refusals.{code_of}
use Rattle.evm_session.specs.Answers.{Around, told_files, world_of, AreFiles, FaultsBy, MissesBy, IsAnswered, IsAsBefore}
use Rattle.evm_session.specs.Requests.{line_request, IsSoBy, IsSoOver, IsTurnWith, IsTurnOf, AddsFor, IsDone, IsRefused}
use Rattle.evm_session.proofs.Shelved.{kept_told, kept_files, so_more}

-- a mark that a line with this turn may have, by which the model's answer is the turn's, and these steps are within its work
record IsMarked (old : Scene) (files : Option Files) (line : List ℕ) (turn : Turn) (before now : ℕ) : Type 0 where
  mark : Mark
  memory : mark ≡ marks.NoMemory → ⊥
  allowed : may_have (is_some files) (world_of old files) line mark ≡ true
  answered : answer (world_of old files) line mark ≡ turned (told_files files) turn
  faults : (n : ℕ) → FaultsBy mark n n
  steps : Adds (is_some files) (world_of old files) line mark before now

marked_untold : (old : Scene) (line : List ℕ) (turn : Turn) (before now : ℕ) (b : Bool) → fetches old line ≡ b → IsSoBy b (IsTurnWith (line_request old line) turn before now) → IsMarked old None line turn before now
marked_untold old line turn before now true e h = record {
  mark = marks.Fetched h.0;
  memory = λ same. cc;
  allowed = e;
  answered = ap (turned finite.empty) h.1.0;
  faults = λ n. refl;
  steps = h.1.1;
}
marked_untold old line turn before now false e h = record {
  mark = marks.Plain;
  memory = λ same. cc;
  allowed = ap not e;
  answered = ap (turned finite.empty) (h (fetched_from finite.empty)).0;
  faults = λ n. refl;
  steps = (h (fetched_from finite.empty)).1;
}

marked : (old : Scene) (files : Option Files) (line : List ℕ) (turn : Turn) (before now : ℕ) → IsSoOver files (line_request old line) (IsTurnWith (line_request old line) turn before now) → IsMarked old files line turn before now
marked old None line turn before now h = marked_untold old line turn before now (fetches old line) refl h
marked old (Some files) line turn before now h = record {
  mark = marks.Plain;
  memory = λ same. cc;
  allowed = refl;
  answered = ap (turned files) h.0;
  faults = λ n. refl;
  steps = h.1;
}

-- the steps of a line for which memory was missing are within its work
lack_by : (old : Scene) (line : List ℕ) (before now : ℕ) (b : Bool) → IsSoBy b (λ fetched. now ≤ before + line_work fetched old line) → AddsAtLack false (world_of old None) line before now
lack_by old line before now true h = h
lack_by old line before now false h = (None, h (λ _. None))

pub steps_of_lack : (old : Scene) (line : List ℕ) (around_old around_new : Around) → AddsFor around_old around_new (line_request old line) → AddsAtLack (is_some around_old.files) (world_of old around_old.files) line around_old.steps around_new.steps
steps_of_lack old line around_old around_new h = over around_old.files h
  where
    over : (files : Option Files) → IsSoOver files (line_request old line) (λ fetched. around_new.steps ≤ around_old.steps + line_work fetched old line)
        → AddsAtLack (is_some files) (world_of old files) line around_old.steps around_new.steps
    over None t = lack_by old line around_old.steps around_new.steps (fetches old line) t
    over (Some files) t = t

-- a reply that does not refuse tells of no miss
misses_fine : (reply : Reply) (before now : ℕ) → is_no reply ≡ false → now ≡ before → MissesBy reply before now
misses_fine (No code) before now n h = absurd (false≢true (sym n))
misses_fine reply before now n h = h

-- the turn of a line was made
by_turn : (line : List ℕ) (old new : Scene) (before now : List ℕ) (around_old around_new : Around) (turn : Turn) (fine : Bool)
    → IsTurnOf around_old around_new (line_request old line) turn → now ≡ before ++ reply_text turn.reply → new ≡ turn.scene → fine ≡ not (is_no turn.reply) → is_some around_new.files ≡ is_some around_old.files
    → AreFiles around_new.files (turned (told_files around_old.files) turn).world.files → around_new.faults ≡ around_old.faults → MissesBy turn.reply around_old.misses around_new.misses
    → IsAnswered line old new before now fine around_old around_new
by_turn line old new before now around_old around_new turn fine t text scene refused told files faults misses =
    let m = marked old around_old.files line turn around_old.steps around_new.steps t in
    let same = sym m.answered in record {
      mark = m.mark;
      memory = m.memory;
      allowed = m.allowed;
      text = text ∙ ap (λ (a : Answer). before ++ reply_text a.reply) same;
      scene = scene ∙ ap (λ (a : Answer). a.world.scene) same;
      refused = refused ∙ ap (λ (a : Answer). not (is_no a.reply)) same;
      told = told;
      files = subst (λ (a : Answer). AreFiles around_new.files a.world.files) same files;
      faults = subst (λ (n : ℕ). FaultsBy m.mark around_old.faults n) (sym faults) (m.faults around_old.faults);
      misses = subst (λ (a : Answer). MissesBy a.reply around_old.misses around_new.misses) same misses;
      steps = m.steps;
    }

-- a line was carried out
pub answered_done : (line : List ℕ) (old new : Scene) (before now : List ℕ) (around_old around_new : Around) → IsDone new before now around_old around_new (line_request old line) → IsAnswered line old new before now true around_old around_new
answered_done line old new before now around_old around_new d =
    by_turn line old new before now around_old around_new d.turn true d.made d.text d.scene (sym (ap not d.fine)) d.told d.files d.faults
    (misses_fine d.turn.reply around_old.misses around_new.misses d.fine d.misses)

-- the turn of a line refuses by a code
by_code : (code : Code) (line : List ℕ) (old new : Scene) (before now : List ℕ) (around_old around_new : Around)
    → IsTurnOf around_old around_new (line_request old line) (stays old (No code)) → now ≡ before ++ reply_text (No code) → new ≡ old → KeepsFiles around_old.files around_new.files → around_new.faults ≡ around_old.faults → MissesBy (No code) around_old.misses around_new.misses
    → IsAnswered line old new before now false around_old around_new
by_code code line old new before now around_old around_new t text scene kept faults misses =
    by_turn line old new before now around_old around_new (stays old (No code)) false t text scene refl (kept_told around_old.files around_new.files kept)
    (kept_files around_old.files around_new.files None kept refl) faults misses

-- the shelf failed
by_shelf : (line : List ℕ) (old new : Scene) (before now : List ℕ) (around_old around_new : Around) → asks old line ≡ true → now ≡ before ++ reply_text (No (code_of refusals.Shelf)) → new ≡ old → KeepsFiles around_old.files around_new.files
    → Climbed around_old.faults around_new.faults → around_new.misses ≡ around_old.misses → around_new.steps ≤ around_old.steps → IsAnswered line old new before now false around_old around_new
by_shelf line old new before now around_old around_new a text scene kept faults misses few = record {
  mark = marks.NoShelf;
  memory = λ same. cc;
  allowed = a;
  text = text;
  scene = scene;
  refused = refl;
  told = kept_told around_old.files around_new.files kept;
  files = kept_files around_old.files around_new.files None kept refl;
  faults = faults;
  misses = misses;
  steps = few;
}

text_said : (before mid now reply text : List ℕ) → mid ≡ before → reply ≡ text → now ≡ mid ++ reply → now ≡ before ++ text
text_said before mid now reply text e f h = h ∙ ap (λ (t : List ℕ). t ++ reply) e ∙ ap (λ (t : List ℕ). before ++ t) f

-- a line was refused, and the reply to the refusal was appended
pub answered_refused : (refusal : Refusal) (line : List ℕ) (old new : Scene) (before mid now reply : List ℕ) (around_old around_new : Around) → (refusal ≡ refusals.NoMemory → ⊥) → reply ≡ reply_text (No (code_of refusal)) → now ≡ mid ++ reply
    → IsRefused refusal old new before mid around_old around_new (line_request old line) → IsAnswered line old new before now false around_old around_new
answered_refused refusals.NoMemory line old new before mid now reply around_old around_new other said text r = absurd (other refl)
answered_refused refusals.Shelf line old new before mid now reply around_old around_new other said text r =
    by_shelf line old new before now around_old around_new r.cause.0 (text_said before mid now reply (reply_text (No (code_of refusals.Shelf))) r.text said text) r.scene r.files r.cause.1 r.cause.2 r.cause.3
answered_refused refusal line old new before mid now reply around_old around_new other said text r =
    by_code (code_of refusal) line old new before now around_old around_new r.cause.0 (text_said before mid now reply (reply_text (No (code_of refusal))) r.text said text) r.scene r.files r.cause.1 r.cause.2

-- a count that stays or rose has not fallen
stays_may_climb : (before now : ℕ) → now ≡ before → MayClimb before now
stays_may_climb before now e = (omega (arith, e), omega (arith, e))

rose_may_climb : (before now : ℕ) → Climbed before now → MayClimb before now
rose_may_climb before now h = (h.0, omega (arith, h.1.1))

-- no step is within the work of a line
none_of_lack : (told : Bool) (world : World) (line : List ℕ) (before now : ℕ) → now ≤ before → AddsAtLack told world line before now
none_of_lack true world line before now h = omega (arith, h)
none_of_lack false world line before now h = (None, omega (arith, h))

-- a line was refused, and memory was missing for the reply
unsaid_code : (turn : Turn) (line : List ℕ) (old new : Scene) (before mid now : List ℕ) (around_old around_new : Around) → IsTurnOf around_old around_new (line_request old line) turn → mid ≡ before → now ≡ mid → new ≡ old
    → KeepsFiles around_old.files around_new.files → MayClimb around_old.faults around_new.faults → MayClimb around_old.misses around_new.misses → IsAsBefore line old new before now around_old around_new
unsaid_code turn line old new before mid now around_old around_new t text same scene files faults misses = record {
  text = same ∙ text;
  scene = scene;
  files = files;
  faults = faults;
  misses = misses;
  steps = steps_of_lack old line around_old around_new
      (so_more around_old.files (line_request old line) (IsTurnWith (line_request old line) turn around_old.steps around_new.steps)
      (λ fetched. around_new.steps ≤ around_old.steps + line_work fetched old line) (λ fetched both. both.1) t);
}

pub unsaid : (refusal : Refusal) (line : List ℕ) (old new : Scene) (before mid now : List ℕ) (around_old around_new : Around) → (refusal ≡ refusals.NoMemory → ⊥) → now ≡ mid
    → IsRefused refusal old new before mid around_old around_new (line_request old line) → IsAsBefore line old new before now around_old around_new
unsaid refusals.NoMemory line old new before mid now around_old around_new other same r = absurd (other refl)
unsaid refusals.Shelf line old new before mid now around_old around_new other same r = record {
  text = same ∙ r.text;
  scene = r.scene;
  files = r.files;
  faults = rose_may_climb around_old.faults around_new.faults r.cause.1;
  misses = stays_may_climb around_old.misses around_new.misses r.cause.2;
  steps = none_of_lack (is_some around_old.files) (world_of old around_old.files) line around_old.steps around_new.steps r.cause.3;
}
unsaid refusals.Missing line old new before mid now around_old around_new other same r =
    unsaid_code (stays old (No (code_of refusals.Missing))) line old new before mid now around_old around_new r.cause.0 r.text same r.scene r.files
    (stays_may_climb around_old.faults around_new.faults r.cause.1) (rose_may_climb around_old.misses around_new.misses r.cause.2)
unsaid refusal line old new before mid now around_old around_new other same r =
    unsaid_code (stays old (No (code_of refusal))) line old new before mid now around_old around_new r.cause.0 r.text same r.scene r.files
    (stays_may_climb around_old.faults around_new.faults r.cause.1) (stays_may_climb around_old.misses around_new.misses r.cause.2)
