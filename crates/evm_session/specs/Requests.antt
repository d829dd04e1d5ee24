-- What carrying out a command leaves over a shelf of files.
use Rattle.std.specs.Prelude.{ℕ, ◌≡◌, ◌+◌, ◌≤◌, Bool, true, false, List, ◌++◌, Option, None, Some, is_some, Result, Ok, Err}
use Rattle.evm_outside.specs.Causes.{Climbed, MayClimb}
use Rattle.evm_outside.specs.Shelves.{Files, KeepsFiles}
use Rattle.evm_script.specs.declared.command.Command.{Command}
use Rattle.evm_script.specs.declared.command.Command.TheVariants as commands
use Rattle.evm_model.specs.Files.{Fetches}
use Rattle.evm_model.specs.Scene.{Scene}
use Rattle.evm_model.specs.Replies.{No, reply_text, is_no}
use Rattle.evm_model.specs.Steps.{Turn, stays, turn_of, step, command_fetches, command_asks, fetches, asks}
use Rattle.evm_model.specs.Runs.{fetched_from, with_placed}
use Rattle.evm_model.specs.LineWork.{command_work, line_work}
use Rattle.evm_session.specs.declared.refusals.Refusal.{Refusal}
use Rattle.evm_session.specs.declared.refusals.Refusal.TheVariants.{Missing, Shelf, NoMemory}
use Rattle.evm_session.specs.Refusals.{code_of}
use Rattle.evm_session.specs.Answers.{Around, told_files, AreFiles}
use Rattle.evm_session.specs.Carried.{LeavesText}

-- whether a command names a file
abbrev pub names_file : Command → Bool
names_file (commands.Load name form file) = true
names_file (commands.Save name form file) = true
names_file command = false

-- what is to be carried out: its turn and its work by what fetches give, and whether it fetches a file and whether it asks the shelf
pub record Request : Type 0 where
  pub turns : Fetches → Turn
  pub works : Fetches → ℕ
  pub fetches : Bool
  pub asks : Bool

-- a command in a scene
abbrev pub request_of : Scene → Command → Request
request_of scene command = record {
  turns = λ fetched. turn_of fetched scene command;
  works = λ fetched. command_work fetched scene command;
  fetches = command_fetches scene command;
  asks = command_asks scene command;
}

-- a line in a scene
abbrev pub line_request : Scene → List ℕ → Request
line_request scene line = record {
  turns = λ fetched. step fetched scene line;
  works = λ fetched. line_work fetched scene line;
  fetches = fetches scene line;
  asks = asks scene line;
}

-- over files that are not told, this is so by what a fetch gave where there is one, and else whatever fetches give
abbrev pub IsSoBy : Bool → (Fetches → Type 0) → Type 0
IsSoBy true is_so = (got : Option (List ℕ)) × is_so (λ name. got)
IsSoBy false is_so = (fetched : Fetches) → is_so fetched

-- over told files this is so by what they give
abbrev pub IsSoOver : Option Files → Request → (Fetches → Type 0) → Type 0
IsSoOver None request is_so = IsSoBy request.fetches is_so
IsSoOver (Some files) request is_so = is_so (fetched_from files)

-- the turn of a request, and at most its work added to the steps
abbrev pub IsTurnWith : Request → Turn → ℕ → ℕ → Fetches → Type 0
IsTurnWith request turn before now fetched = (request.turns fetched ≡ turn) × (now ≤ before + request.works fetched)

abbrev pub IsTurnOf : Around → Around → Request → Turn → Type 0
IsTurnOf old new request turn = IsSoOver old.files request (IsTurnWith request turn old.steps new.steps)

-- at most the work of a request added to the steps
abbrev pub AddsFor : Around → Around → Request → Type 0
AddsFor old new request = IsSoOver old.files request (λ fetched. new.steps ≤ old.steps + request.works fetched)

-- the turn's reply, which does not refuse, was appended, and scene and files are the turn's
pub record IsDone (new : Scene) (before now : List ℕ)
    (around_old around_new : Around) (request : Request) : Type 0 where
  pub turn : Turn
  pub made : IsTurnOf around_old around_new request turn
  pub text : now ≡ before ++ reply_text turn.reply
  pub fine : is_no turn.reply ≡ false
  pub scene : new ≡ turn.scene
  pub told : is_some around_new.files ≡ is_some around_old.files
  pub files : AreFiles around_new.files (with_placed (told_files around_old.files) turn.placed)
  pub faults : around_new.faults ≡ around_old.faults
  pub misses : around_new.misses ≡ around_old.misses

-- the cause of a refusal, and the counts of the shelf, of which one rose where the shelf failed or had no file: the turn is
-- refused so, the shelf was asked and failed, which adds no step, or memory was missing
abbrev pub HasCause : Refusal → Scene → Around → Around → Request → Type 0
HasCause NoMemory scene old new request = MayClimb old.faults new.faults × MayClimb old.misses new.misses × AddsFor old new request
HasCause Shelf scene old new request =
    (request.asks ≡ true) × Climbed old.faults new.faults × (new.misses ≡ old.misses) × (new.steps ≤ old.steps)
HasCause Missing scene old new request =
    IsTurnOf old new request (stays scene (No (code_of Missing))) × (new.faults ≡ old.faults) × Climbed old.misses new.misses
HasCause refusal scene old new request =
    IsTurnOf old new request (stays scene (No (code_of refusal))) × (new.faults ≡ old.faults) × (new.misses ≡ old.misses)

-- refused for a cause: scene and files stay
pub record IsRefused (refusal : Refusal) (old new : Scene) (before now : List ℕ)
    (around_old around_new : Around) (request : Request) : Type 0 where
  pub cause : HasCause refusal old around_old around_new request
  pub text : LeavesText refusal before now
  pub scene : new ≡ old
  pub files : KeepsFiles around_old.files around_new.files

-- a request was carried out, or refused
abbrev pub CarriesOver : Result (Unit {0}) Refusal → Scene → Scene → List ℕ → List ℕ
    → Around → Around → Request → Type 0
CarriesOver (Ok done) old new before now around_old around_new request =
    IsDone new before now around_old around_new request
CarriesOver (Err refusal) old new before now around_old around_new request =
    IsRefused refusal old new before now around_old around_new request
