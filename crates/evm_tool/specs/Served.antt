-- One line that was answered, and all lines so far.
use Rattle.std.specs.Prelude.{ℕ, ◌≡◌, ◌≤◌, ◌⊎◌, Bool, true, false, not, ◌||◌, List, [], ◌∷◌, ◌++◌, ◌-◌, All, length, drop, Option, is_some, Result, Ok, Err}
use Rattle.std.specs.Io.KnownBytes.{Appends, Consumes}
use Rattle.evm_cells.specs.Localities.{Measure}
use Rattle.evm_outside.specs.declared.Failed.{Failed}
use Rattle.evm_outside.specs.Causes.{Climbed, MayClimb}
use Rattle.evm_model.specs.Scene.{Scene}
use Rattle.evm_model.specs.Edits.{Shelf, Missing, Memory}
use Rattle.evm_model.specs.Replies.{Reply, No, reply_text, is_no}
use Rattle.evm_model.specs.Runs.{Mark, answer, may_have, run, texts, some_no, world_after}
use Rattle.evm_model.specs.LineWork.{Adds}
use Rattle.evm_session.specs.Answers.{Around, world_of, AreFiles}
use Rattle.evm_text.specs.Lines.{text_of}
use Rattle.evm_tool.specs.EndedLines.{HasNoLf, IsCut}
use Rattle.evm_tool.specs.Streams.{AppendsPart, line_kept}
use Rattle.evm_tool.specs.Top.{LeavesAround, first_world}

-- the reply went out whole, or in part where the sink failed
abbrev pub Sends : Result Bool Failed → Option (List ℕ) → Option (List ℕ) → Reply → Type 0
Sends (Ok fine) before now reply = Appends before now (reply_text reply) × (fine ≡ not (is_no reply))
Sends (Err failed) before now reply = AppendsPart before now (reply_text reply)

-- the shelf's count of faults over a line with this reply
abbrev pub FaultsOver : Reply → ℕ → ℕ → Type 0
FaultsOver (No Shelf) before now = Climbed before now
FaultsOver (No Memory) before now = MayClimb before now
FaultsOver reply before now = now ≡ before

-- the same of its count of misses
abbrev pub MissesOver : Reply → ℕ → ℕ → Type 0
MissesOver (No Missing) before now = Climbed before now
MissesOver (No Memory) before now = MayClimb before now
MissesOver reply before now = now ≡ before

-- with one of the marks that a line may have, its reply went out, the scene and the shelf are those after it, and at most the work of
-- the line was added to the steps
pub record Serves (result : Result Bool Failed) (old new : Scene)
    (before now : Option (List ℕ)) (line : List ℕ) (around_old around_new : Around) : Type 0 where
  pub mark : Mark
  pub allowed : may_have (is_some around_old.files) (world_of old around_old.files) line mark ≡ true
  pub scene : new ≡ (answer (world_of old around_old.files) line mark).world.scene
  pub sent : Sends result before now (answer (world_of old around_old.files) line mark).reply
  pub told : is_some around_new.files ≡ is_some around_old.files
  pub files : AreFiles around_new.files (answer (world_of old around_old.files) line mark).world.files
  pub faults : FaultsOver (answer (world_of old around_old.files) line mark).reply around_old.faults around_new.faults
  pub misses : MissesOver (answer (world_of old around_old.files) line mark).reply around_old.misses around_new.misses
  pub steps : Adds (is_some around_old.files) (world_of old around_old.files) line mark
      around_old.steps around_new.steps

-- of these lines all but the rest were answered, and some reply refused or none did
pub record Progress (kinds : List Measure) (ls rest : List (List ℕ)) (scene : Scene)
    (before now : Option (List ℕ)) (some : Bool) (around_before around_now : Around) : Type 0 where
  pub marks : List Mark
  pub most : length marks ≤ length ls
  pub left : drop (length marks) ls ≡ rest
  pub reached : scene ≡ (world_after (first_world kinds around_before) ls marks).scene
  pub around : LeavesAround kinds ls marks around_before around_now
  pub text : Appends before now (texts (run (first_world kinds around_before) ls marks))
  pub refused : some_no (run (first_world kinds around_before) ls marks) ≡ some

-- what the answers change: the scene, what was written, and what is around the session
pub record State : Type 0 where
  pub scene : Scene
  pub written : Option (List ℕ)
  pub around : Around

abbrev pub state_of : Scene → Option (List ℕ) → Around → State
state_of scene written around = record { scene = scene; written = written; around = around }

-- one line was served on the way from a state to another
abbrev pub ServesFrom : Result Bool Failed → List ℕ → State → State → Type 0
ServesFrom result line old new = Serves result old.scene new.scene old.written new.written line old.around new.around

-- these lines were served one after another, and some reply refused or none did
abbrev pub Served : List (List ℕ) → Bool → State → State → Type 0
Served [] some old new = (new ≡ old) × (some ≡ false)
Served (line ∷ more) some old new =
    (between : State) × (fine : Bool) × (later : Bool) × ServesFrom (Ok fine) line old between
    × Served more later between new × (some ≡ not fine || later)

-- the front of a text is lines that were served, each with an LF behind it, and this is the rest
pub record ServesFront (text rest : List ℕ) (some : Bool) (old new : State) : Type 0 where
  pub ls : List (List ℕ)
  pub whole : text ≡ text_of ls ++ rest
  pub each : All HasNoLf ls
  pub served : Served ls some old new

-- each line of a text that an LF ends was served, and so many bytes of the text are left behind them
pub record ServesEnded (text : List ℕ) (left : ℕ) (some : Bool) (old new : State) : Type 0 where
  pub ls : List (List ℕ)
  pub fits : left ≤ length text
  pub cut : IsCut text ls (drop (length text - left) text)
  pub served : Served ls some old new

-- the sink failed at the reply to a line that an LF ends, and those before it were served
pub record CutsEnded (text : List ℕ) (old new : State) : Type 0 where
  pub ls : List (List ℕ)
  pub line : List ℕ
  pub after : List ℕ
  pub whole : text ≡ text_of (ls ++ line ∷ []) ++ after
  pub each : All HasNoLf (ls ++ line ∷ [])
  pub some : Bool
  pub between : State
  pub served : Served ls some old between
  pub failed : Failed
  pub last : ServesFrom (Err failed) line between new

-- what serving the lines of a text that an LF ends leaves
abbrev pub AnswersEnded : Result (ℕ × Bool) Failed → List ℕ → State → State → Type 0
AnswersEnded (Ok rest) text old new = ServesEnded text rest.0 rest.1 old new
AnswersEnded (Err failed) text old new = CutsEnded text old new

-- what is kept of a line that is not ended yet: all of it, or so much that the line is too long whatever follows
abbrev pub KeepsOf : List ℕ → List ℕ → Type 0
KeepsOf kept line = (kept ≡ line) ⊎ ((line_kept ≤ length kept) × (line_kept ≤ length line))

-- so many bytes were taken, the lines that an LF ends among them were served, and this is kept of what follows the last of them
pub record Stands (left left_now : Option (List ℕ)) (count : ℕ) (kept : List ℕ)
    (some : Bool) (old now : State) : Type 0 where
  pub ls : List (List ℕ)
  pub rest : List ℕ
  pub each : All HasNoLf ls
  pub behind : HasNoLf rest
  pub kept_behind : HasNoLf kept
  pub taken : Consumes left left_now (text_of ls ++ rest)
  pub size : length (text_of ls ++ rest) ≡ count
  pub keeps : KeepsOf kept rest
  pub served : Served ls some old now
