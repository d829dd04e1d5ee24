-- What a run reads, writes and places, by its status.
use Rattle.std.specs.Prelude.{ℕ, ◌≡◌, ◌+◌, ◌<◌, ◌≤◌, ◌⊎◌, Bool, true, false, List, [], ◌∷◌, ◌++◌, length, take, drop, count_by, Option, None, Some, is_some}
use Rattle.std.specs.List.{list_any}
use Rattle.std.specs.Io.KnownBytes.{Appends, Consumes, Keeps, IsAtEnd}
use Rattle.evm_cells.specs.Localities.{Measure}
use Rattle.evm_outside.specs.Causes.{Rose, counter_last}
use Rattle.evm_outside.specs.Shelves.{KeepsFiles}
use Rattle.evm_model.specs.Scene.{start_with}
use Rattle.evm_model.specs.Edits.{Shelf, Missing, Memory}
use Rattle.evm_model.specs.Replies.{Reply, No, reply_text}
use Rattle.evm_model.specs.Runs.{World, Mark, answer, may_all_have, run, world_after, texts, some_no}
use Rattle.evm_model.specs.LineWork.{AddsAll}
use Rattle.evm_text.specs.Lines.{lines}
use Rattle.evm_session.specs.Answers.{Around, world_of, AreFiles}
use Rattle.evm_words.specs.declared.form.Form.{Form}
use Rattle.evm_words.specs.declared.form.Form.TheVariants.{Run, Gen}
use Rattle.evm_tool.specs.EndedLines.{ended_lines}
use Rattle.evm_tool.specs.Generated.{Generates}
use Rattle.evm_tool.specs.Streams.{script_limit, piece_max}
use Rattle.evm_tool.specs.declared.top.Status.{Status}
use Rattle.evm_tool.specs.declared.top.Status.TheVariants.{Done, Refused, Words, ReadFault, WriteFault, NoMemory, TooLong}

-- the world in which a run starts: no names, free meters of these kinds, and the files that the shelf tells
abbrev pub first_world : List Measure → Around → World
first_world kinds around = world_of (start_with kinds) around.files

-- whether a reply is `no shelf`
abbrev pub is_no_shelf : Reply → Bool
is_no_shelf (No Shelf) = true
is_no_shelf reply = false

-- whether a reply is `no missing`
abbrev pub is_no_missing : Reply → Bool
is_no_missing (No Missing) = true
is_no_missing reply = false

-- whether a reply is `no memory`, behind which the shelf may have failed too
abbrev pub is_no_memory : Reply → Bool
is_no_memory (No Memory) = true
is_no_memory reply = false

-- a count rose by so much at least, or stands at just the last value of a 64-bit counter
abbrev pub RoseBy : ℕ → ℕ → ℕ → Type 0
RoseBy much before now = (before + much ≤ now) ⊎ (now ≡ counter_last)

-- a count over these replies: it rose once for each of one kind at least, and stays where there is none of this kind and none
-- that says that memory was missing
pub record Counts (kind : Reply → Bool) (replies : List Reply) (before now : ℕ) : Type 0 where
  pub rose : RoseBy (count_by kind replies) before now
  pub stays : list_any kind replies ≡ false → list_any is_no_memory replies ≡ false → now ≡ before

-- what answering these lines with these marks leaves around the session: the files of the run, counts of the shelf that tell of its
-- replies, and at most the work of each line added to the steps
pub record LeavesAround (kinds : List Measure) (ls : List (List ℕ)) (marks : List Mark) (before now : Around) : Type 0 where
  pub allowed : may_all_have (is_some before.files) (first_world kinds before) ls marks ≡ true
  pub told : is_some now.files ≡ is_some before.files
  pub files : AreFiles now.files (world_after (first_world kinds before) ls marks).files
  pub faults : Counts is_no_shelf (run (first_world kinds before) ls marks) before.faults now.faults
  pub misses : Counts is_no_missing (run (first_world kinds before) ls marks) before.misses now.misses
  pub steps : AddsAll (is_some before.files) (first_world kinds before) ls marks before.steps now.steps

-- all these lines were answered, with one mark each, and some reply refuses or none does
pub record Answers (kinds : List Measure) (ls : List (List ℕ)) (gained : List ℕ) (some : Bool) (before now : Around) : Type 0 where
  pub marks : List Mark
  pub each : length marks ≡ length ls
  pub around : LeavesAround kinds ls marks before now
  pub text : gained ≡ texts (run (first_world kinds before) ls marks)
  pub refused : some_no (run (first_world kinds before) ls marks) ≡ some

-- some of these lines were answered whole and one more in part: a front of its reply was written, and not all of it
pub record Begins (kinds : List Measure) (ls : List (List ℕ)) (gained : List ℕ) (before now : Around) : Type 0 where
  pub marks : List Mark
  pub mark : Mark
  pub line : List ℕ
  pub later : List (List ℕ)
  pub here : drop (length marks) ls ≡ line ∷ later
  pub around : LeavesAround kinds ls (marks ++ mark ∷ []) before now
  pub front : List ℕ
  pub rest : List ℕ
  pub more : 0 < length rest
  pub cut : front ++ rest ≡ reply_text (answer (world_after (first_world kinds before) ls marks) line mark).reply
  pub text : gained ≡ texts (run (first_world kinds before) ls marks) ++ front

-- the sink failed at the reply to one of the lines, the k-th: those before it were answered whole, and of its own reply only a front
-- was written. It was a whole line when it was answered: an LF ends it, or the input ends with it. At most one piece was taken after it
pub record StopsAt (kinds : List Measure) (left_now : Option (List ℕ)) (taken gained : List ℕ)
    (before now : Around) : Type 0 where
  pub begins : Begins kinds (lines taken) gained before now
  pub upto : List ℕ
  pub after : List ℕ
  pub whole : taken ≡ upto ++ after
  pub here : lines upto ≡ take (length begins.marks + 1) (lines taken)
  pub ended : (ended_lines upto ≡ lines upto) ⊎ ((after ≡ []) × IsAtEnd left_now)
  pub near : length after ≤ piece_max

-- the shelf and the steps are as before
abbrev pub KeepsAround : Around → Around → Type 0
KeepsAround before now =
    KeepsFiles before.files now.files × (now.faults ≡ before.faults) × (now.misses ≡ before.misses) × (now.steps ≡ before.steps)

-- nothing was written, and the shelf and the steps are as before
abbrev pub DoesNothing : List ℕ → Around → Around → Type 0
DoesNothing gained before now = (gained ≡ []) × KeepsAround before now

-- all these lines were answered, whether some reply refuses or not
abbrev pub AnswersAll : List Measure → List (List ℕ) → List ℕ → Around → Around → Type 0
AnswersAll kinds ls gained before now = (some : Bool) × Answers kinds ls gained some before now

-- which lines were answered and what was written, by the bytes that were taken: all lines; where the source failed, those that an LF ends;
-- where the sink failed, those up to the one whose reply was cut; of a script that is too long, those that an LF ends among the bytes
-- that a script may have
abbrev pub Writes : Status → List Measure → Option (List ℕ) → List ℕ → List ℕ → Around → Around → Type 0
Writes Done kinds left_now taken gained before now = Answers kinds (lines taken) gained false before now
Writes Refused kinds left_now taken gained before now = Answers kinds (lines taken) gained true before now
Writes Words kinds left_now taken gained before now = DoesNothing gained before now
Writes ReadFault kinds left_now taken gained before now = AnswersAll kinds (ended_lines taken) gained before now
Writes WriteFault kinds left_now taken gained before now = StopsAt kinds left_now taken gained before now
Writes NoMemory kinds left_now taken gained before now = DoesNothing gained before now
Writes TooLong kinds left_now taken gained before now = AnswersAll kinds (ended_lines (take script_limit taken)) gained before now

-- all known bytes are these, and they are no more than a script may have
abbrev pub TakesAll : Option (List ℕ) → Option (List ℕ) → List ℕ → Type 0
TakesAll before now taken = Consumes before now taken × IsAtEnd now × (length taken ≤ script_limit)

-- the bytes that were taken, of a source that tells them: all to the end; none; a front of them; or just one more than a script may have
abbrev pub Takes : Status → Option (List ℕ) → Option (List ℕ) → List ℕ → Type 0
Takes Done before now taken = TakesAll before now taken
Takes Refused before now taken = TakesAll before now taken
Takes Words before now taken = Consumes before now taken × (taken ≡ [])
Takes ReadFault before now taken = Consumes before now taken × (length taken ≤ script_limit)
Takes WriteFault before now taken = Consumes before now taken × (length taken ≤ script_limit)
Takes NoMemory before now taken = Consumes before now taken × (taken ≡ [])
Takes TooLong before now taken = Consumes before now taken × (length taken ≡ script_limit + 1)

-- some bytes were taken, whatever they are, and what was written and left around the session is what a run of these bytes writes and leaves
pub record Runs (kinds : List Measure) (status : Status) (left left_now written written_now : Option (List ℕ))
    (around around_now : Around) : Type 0 where
  pub taken : List ℕ
  pub takes : Takes status left left_now taken
  pub gained : List ℕ
  pub appended : Appends written written_now gained
  pub writes : Writes status kinds left_now taken gained around around_now

-- the source's count of faults rose where a read fault is answered, and else it is as before
abbrev pub ReadFaults : Status → ℕ → ℕ → Type 0
ReadFaults Done before now = now ≡ before
ReadFaults Refused before now = now ≡ before
ReadFaults Words before now = now ≡ before
ReadFaults ReadFault before now = Rose before now
ReadFaults WriteFault before now = now ≡ before
ReadFaults NoMemory before now = now ≡ before
ReadFaults TooLong before now = now ≡ before

-- the same of the sink
abbrev pub WriteFaults : Status → ℕ → ℕ → Type 0
WriteFaults Done before now = now ≡ before
WriteFaults Refused before now = now ≡ before
WriteFaults Words before now = now ≡ before
WriteFaults ReadFault before now = now ≡ before
WriteFaults WriteFault before now = Rose before now
WriteFaults NoMemory before now = now ≡ before
WriteFaults TooLong before now = now ≡ before

-- all lines were answered; or memory was missing, no byte was taken and nothing was written
abbrev pub IsAnswered : Status → Option (List ℕ) → Option (List ℕ)
    → Option (List ℕ) → Option (List ℕ) → Type 0
IsAnswered Done left left_now written written_now = Unit {0}
IsAnswered Refused left left_now written written_now = Unit {0}
IsAnswered Words left left_now written written_now = ⊥
IsAnswered ReadFault left left_now written written_now = ⊥
IsAnswered WriteFault left left_now written written_now = ⊥
IsAnswered NoMemory left left_now written written_now = Keeps left left_now × Keeps written written_now
IsAnswered TooLong left left_now written written_now = ⊥

-- a script that is not too long is answered where neither the source nor the sink failed
abbrev pub Finishes : Status → List ℕ → Option (List ℕ) → Option (List ℕ)
    → Option (List ℕ) → Option (List ℕ) → ℕ → ℕ → ℕ → ℕ → Type 0
Finishes status script left left_now written written_now read_before read_now write_before write_now =
    length script ≤ script_limit
    → (Rose read_before read_now → ⊥)
    → (Rose write_before write_now → ⊥)
    → IsAnswered status left left_now written written_now

-- so is one where the words ask for a run
abbrev pub Completes : Status → Option Form → List ℕ → Option (List ℕ) → Option (List ℕ)
    → Option (List ℕ) → Option (List ℕ) → ℕ → ℕ → ℕ → ℕ → Type 0
Completes status asked script left left_now written written_now read_before read_now write_before write_now =
    asked ≡ Some Run
    → Finishes status script left left_now written written_now read_before read_now write_before write_now

-- a status that says that the words ask for nothing comes just where they do, but for want of memory
abbrev pub TellsForm : Status → Option Form → Type 0
TellsForm Words asked = asked ≡ None
TellsForm NoMemory asked = Unit {0}
TellsForm status asked = asked ≡ None → ⊥

-- a generated script was answered: its summary was written, the source and the shelf are as before, and steps were added
pub record Makes (status : Status) (seed edits : ℕ)
    (left left_now written written_now : Option (List ℕ)) (around around_now : Around) : Type 0 where
  pub text : Generates status seed edits written written_now around.steps around_now.steps
  pub left_kept : left_now ≡ left
  pub around_kept : around_now ≡ record around { steps = around_now.steps }

-- what words ask for was done; where they ask for nothing, nothing was
abbrev pub Does : Option Form → List Measure → Status → Option (List ℕ) → Option (List ℕ)
    → Option (List ℕ) → Option (List ℕ) → Around → Around → Type 0
Does None kinds status left left_now written written_now around around_now =
    Runs kinds status left left_now written written_now around around_now
Does (Some Run) kinds status left left_now written written_now around around_now =
    Runs kinds status left left_now written written_now around around_now
Does (Some (Gen seed edits)) kinds status left left_now written written_now around around_now =
    Makes status seed edits left left_now written written_now around around_now

-- the exit status
abbrev pub exit_code : Status → ℕ
exit_code Done = 0
exit_code Refused = 1
exit_code Words = 2
exit_code ReadFault = 3
exit_code WriteFault = 4
exit_code NoMemory = 5
exit_code TooLong = 6
