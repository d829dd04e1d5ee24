-- The work of a line, and what the lines of a run add to a count of steps.
use Rattle.std.specs.Prelude.{ℕ, ◌+◌, ◌≤◌, Bool, true, false, List, [], ◌∷◌, ◌++◌, Option, is_none, is_some, Result, Ok, Err, if◌then◌else◌}
use Rattle.evm_script.specs.Line.{command}
use Rattle.evm_script.specs.declared.command.Command.{Command}
use Rattle.evm_script.specs.declared.command.LineError.{LineError}
use Rattle.evm_script.specs.declared.files.LoadForm.{LoadForm}
use Rattle.evm_model.specs.Files.{Fetches, figure_fetched}
use Rattle.evm_model.specs.Scene.{Scene, dim_of}
use Rattle.evm_model.specs.Edits.{Replace, Code, Missing, Form, first_cause}
use Rattle.evm_model.specs.Work.{work}
use Rattle.evm_model.specs.Steps.{Way, Edits, Asks, Loads, Saves, Hands, way_of, load_causes, loaded}
use Rattle.evm_model.specs.Runs.{World, Mark, Plain, NoMemory, NoShelf, Fetched, answer, fetched_from}

-- what refuses a load before its edit: the line, or the file, which is not there or states no figure
abbrev pub unread_causes : Fetches → Scene → List ℕ → LoadForm → List ℕ → List (Bool × Code)
unread_causes fetched scene name form file =
    load_causes scene name form
    ++ (is_none (fetched file), Missing)
    ∷ (is_none (figure_fetched form (dim_of scene name) (fetched file)), Form)
    ∷ []

-- the work of a load: that of the edit that puts the figure of its file in place of that of an input, none where it is refused before
abbrev pub load_work : Fetches → Scene → List ℕ → LoadForm → List ℕ → ℕ
load_work fetched scene name form file =
    if is_some (first_cause (unread_causes fetched scene name form file)) then 0
    else work scene (Replace name (loaded fetched scene name form file))

-- the work of a way, where fetches give this: only edits and loads have some
abbrev pub way_work : Fetches → Scene → Way → ℕ
way_work fetched scene (Edits edit) = work scene edit
way_work fetched scene (Asks causes answer) = 0
way_work fetched scene (Loads name form file) = load_work fetched scene name form file
way_work fetched scene (Saves name form file) = 0
way_work fetched scene (Hands causes answer left) = 0

-- the work of a command
abbrev pub command_work : Fetches → Scene → Command → ℕ
command_work fetched scene c = way_work fetched scene (way_of c)

-- the work of what was read as a command, or as none
abbrev pub read_work : Fetches → Scene → Result Command LineError → ℕ
read_work fetched scene (Ok c) = command_work fetched scene c
read_work fetched scene (Err e) = 0

-- the work of a line in a scene, where fetches give this
unfoldable pub line_work : Fetches → Scene → List ℕ → ℕ
line_work fetched scene line = read_work fetched scene (command line)

-- what a line for which memory was missing adds to a count of steps: at most its work, by the files of the world or, where these
-- are not told, by something that a fetch may give
abbrev pub AddsAtLack : Bool → World → List ℕ → ℕ → ℕ → Type 0
AddsAtLack true world line before now = now ≤ before + line_work (fetched_from world.files) world.scene line
AddsAtLack false world line before now = (got : Option (List ℕ)) × (now ≤ before + line_work (λ name. got) world.scene line)

-- what a line with its mark adds: at most its work, by what was fetched; none where the shelf failed
abbrev pub Adds : Bool → World → List ℕ → Mark → ℕ → ℕ → Type 0
Adds told world line Plain before now = now ≤ before + line_work (fetched_from world.files) world.scene line
Adds told world line NoMemory before now = AddsAtLack told world line before now
Adds told world line NoShelf before now = now ≤ before
Adds told world line (Fetched got) before now = now ≤ before + line_work (λ name. got) world.scene line

-- what these lines add one after another, as far as there are marks
abbrev pub AddsAll : Bool → World → List (List ℕ) → List Mark → ℕ → ℕ → Type 0
AddsAll told world [] marks before now = now ≤ before
AddsAll told world (line ∷ more) [] before now = now ≤ before
AddsAll told world (line ∷ more) (mark ∷ marks) before now =
    (between : ℕ) × Adds told world line mark before between
    × AddsAll told (answer world line mark).world more marks between now
