-- What answering a line leaves, over a shelf that tells its files or not.
use Rattle.std.specs.Prelude.{ℕ, ◌≡◌, Bool, true, not, List, ◌++◌, Option, None, Some, is_some, Result, Ok, Err}
use Rattle.std.specs.FinMap as finite
use Rattle.evm_rows.specs.declared.solid.NoMemory.{NoMemory}
use Rattle.evm_outside.specs.Causes.{Climbed, MayClimb}
use Rattle.evm_outside.specs.Shelves.{Files, KeepsFiles}
use Rattle.evm_model.specs.Scene.{Scene}
use Rattle.evm_model.specs.Edits.{Missing}
use Rattle.evm_model.specs.Replies.{Reply, No, reply_text, is_no}
use Rattle.evm_model.specs.Runs.{World, Mark, answer, may_have}
use Rattle.evm_model.specs.Runs as marks
use Rattle.evm_model.specs.LineWork.{Adds, AddsAtLack}

-- what is around a session: the files of a shelf where it tells them, how often it failed and how often it found no file, and how
-- many steps were counted
pub record Around : Type 0 where
  pub files : Option Files
  pub faults : ℕ
  pub misses : ℕ
  pub steps : ℕ

abbrev pub around : Option Files → ℕ → ℕ → ℕ → Around
around files faults misses steps = record { files = files; faults = faults; misses = misses; steps = steps }

-- the files of a shelf, or none where it does not tell them
abbrev pub told_files : Option Files → Files
told_files None = finite.empty
told_files (Some files) = files

-- a scene and the files of a shelf
abbrev pub world_of : Scene → Option Files → World
world_of scene files = record { scene = scene; files = told_files files }

-- told files are these
abbrev pub AreFiles : Option Files → Files → Type 0
AreFiles None files = Unit {0}
AreFiles (Some told) files = told ≡ files

-- the count of faults over a line that was answered: it rose where the mark says that the shelf failed, and else stays
abbrev pub FaultsBy : Mark → ℕ → ℕ → Type 0
FaultsBy marks.NoShelf before now = Climbed before now
FaultsBy mark before now = now ≡ before

-- the count of misses over a line with this reply: it rose where there was no file, and else stays
abbrev pub MissesBy : Reply → ℕ → ℕ → Type 0
MissesBy (No Missing) before now = Climbed before now
MissesBy reply before now = now ≡ before

-- a line was answered, with a mark that it may have: the reply of the model's answer was appended, the scene and the told files
-- are those of its world, the counts of the shelf rose just where the answer says that it failed or that there was no file, and the
-- steps that were added are at most the work of the line
pub record IsAnswered (line : List ℕ) (old new : Scene) (before now : List ℕ) (fine : Bool)
    (around_old around_new : Around) : Type 0 where
  pub mark : Mark
  pub memory : mark ≡ marks.NoMemory → ⊥
  pub allowed : may_have (is_some around_old.files) (world_of old around_old.files) line mark ≡ true
  pub text : now ≡ before ++ reply_text (answer (world_of old around_old.files) line mark).reply
  pub scene : new ≡ (answer (world_of old around_old.files) line mark).world.scene
  pub refused : fine ≡ not (is_no (answer (world_of old around_old.files) line mark).reply)
  pub told : is_some around_new.files ≡ is_some around_old.files
  pub files : AreFiles around_new.files (answer (world_of old around_old.files) line mark).world.files
  pub faults : FaultsBy mark around_old.faults around_new.faults
  pub misses : MissesBy (answer (world_of old around_old.files) line mark).reply
      around_old.misses around_new.misses
  pub steps : Adds (is_some around_old.files) (world_of old around_old.files) line mark
      around_old.steps around_new.steps

-- nothing was answered for want of memory: the text, the scene and the files are as before, no count of the shelf fell, and the steps
-- that were added are at most the work of the line
pub record IsAsBefore (line : List ℕ) (old new : Scene) (before now : List ℕ)
    (around_old around_new : Around) : Type 0 where
  pub text : now ≡ before
  pub scene : new ≡ old
  pub files : KeepsFiles around_old.files around_new.files
  pub faults : MayClimb around_old.faults around_new.faults
  pub misses : MayClimb around_old.misses around_new.misses
  pub steps : AddsAtLack (is_some around_old.files) (world_of old around_old.files) line
      around_old.steps around_new.steps

-- a line is answered, or memory was missing
abbrev pub Answers : Result Bool NoMemory → List ℕ → Scene → Scene → List ℕ → List ℕ
    → Around → Around → Type 0
Answers (Ok fine) line old new before now around_old around_new = IsAnswered line old new before now fine around_old around_new
Answers (Err lack) line old new before now around_old around_new = IsAsBefore line old new before now around_old around_new
