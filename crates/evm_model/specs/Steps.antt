-- One line: its reply, the scene after it, and the file that it places.
use Rattle.std.specs.Prelude.{ℕ, nat_abs, Bool, false, not, List, [], ◌∷◌, ◌++◌, length, Option, None, Some, is_none, Result, Ok, Err}
use Rattle.evm_cells.specs.Limits.{is_cell_coord, is_point_coord}
use Rattle.evm_script.specs.Line.{command}
use Rattle.evm_script.specs.declared.command.Command.{Command}
use Rattle.evm_script.specs.declared.command.Command.TheVariants as commands
use Rattle.evm_script.specs.declared.command.LineError.{LineError}
use Rattle.evm_script.specs.declared.command.LineError.TheVariants as faults
use Rattle.evm_script.specs.declared.files.LoadForm.{LoadForm}
use Rattle.evm_script.specs.declared.files.SaveForm.{SaveForm}
use Rattle.evm_model.specs.Figures.{Figure, content_of, boundary_of, fills, place_of, slice_of, proj_of, faces_of, parts_of}
use Rattle.evm_model.specs.Files.{Fetches, form_fits, form_in_range, figure_fetched, or_nothing, save_fits, bytes_in}
use Rattle.evm_model.specs.Scene.{Scene, value, stands, dim_of, is_input, reading, attached, detached}
use Rattle.evm_model.specs.Edits.{Edit, Input, Toggle, Add, Cut, Replace, Def, Drop, Code, Line, Syntax, Name, Kind, Dim, Range, Missing, Form, first_cause, name_causes, place_causes, attach_causes, reading_causes, section_causes, axis_causes, value_causes, refusal, after, changed}
use Rattle.evm_model.specs.Replies.{Reply, Empty, No, Done, Changed, Shown, Measured, Filled, Placed, Faced, Parted, Reported, Listed}
use Rattle.evm_model.specs.Reports.{reported}

-- what a line does: its reply, the scene after it, and the file that it places, as a name and its bytes
pub record Turn : Type 0 where
  pub reply : Reply
  pub scene : Scene
  pub placed : Option (List ℕ × List ℕ)

-- a reply that leaves the scene
abbrev pub stays : Scene → Reply → Turn
stays scene reply = record { reply = reply; scene = scene; placed = None }

-- refused by the first cause, or as stated
abbrev pub unless_refused : Option Code → Scene → Turn → Turn
unless_refused None scene turn = turn
unless_refused (Some code) scene turn = stays scene (No code)

-- an edit that is refused or made, with this reply
abbrev pub edited : Scene → Edit → Reply → Turn
edited scene edit reply =
    unless_refused (refusal scene edit) scene (record { reply = reply; scene = after scene edit; placed = None })

-- a question that is refused by one of these causes or answered
abbrev pub asked : List (Bool × Code) → Scene → Reply → Turn
asked causes scene reply = unless_refused (first_cause causes) scene (stays scene reply)

-- a change of a slot that is refused by one of these causes or made
abbrev pub handed_on : List (Bool × Code) → Scene → Reply → Scene → Turn
handed_on causes scene reply left =
    unless_refused (first_cause causes) scene (record { reply = reply; scene = left; placed = None })

-- a reading as an answer; what refuses the line comes first where there is none
abbrev pub read_off : Option ℕ → Reply
read_off None = Empty
read_off (Some n) = Measured n

-- what refuses a load before its file is fetched
abbrev pub load_causes : Scene → List ℕ → LoadForm → List (Bool × Code)
load_causes scene name form =
    (not (stands scene name), Name)
    ∷ (not (is_input scene name), Kind)
    ∷ (not (form_fits form (dim_of scene name)), Dim)
    ∷ (not (form_in_range form), Range)
    ∷ []

-- the figure that a load puts in place of that of an input
abbrev pub loaded : Fetches → Scene → List ℕ → LoadForm → List ℕ → Figure
loaded fetched scene name form file =
    or_nothing (dim_of scene name) (figure_fetched form (dim_of scene name) (fetched file))

-- what refuses a load by its file: there is none, its bytes are none of the form, or a formula would make a place out of the
-- limits
abbrev pub file_causes : Fetches → Scene → List ℕ → LoadForm → List ℕ → List (Bool × Code)
file_causes fetched scene name form file =
    (is_none (fetched file), Missing)
    ∷ (is_none (figure_fetched form (dim_of scene name) (fetched file)), Form)
    ∷ value_causes (after scene (Replace name (loaded fetched scene name form file)))

-- a load that is refused, or puts the figure of a file in place of that of an input
abbrev pub load_turn : Fetches → Scene → List ℕ → LoadForm → List ℕ → Turn
load_turn fetched scene name form file =
    unless_refused (first_cause (load_causes scene name form ++ file_causes fetched scene name form file)) scene (record {
      reply = Changed (changed scene (Replace name (loaded fetched scene name form file)));
      scene = after scene (Replace name (loaded fetched scene name form file));
      placed = None;
    })

-- what refuses a save before its file is placed
abbrev pub save_causes : Scene → List ℕ → SaveForm → List (Bool × Code)
save_causes scene name form = (not (stands scene name), Name) ∷ (not (save_fits form (dim_of scene name)), Dim) ∷ []

-- a file that is placed, which leaves the scene
abbrev pub saved : Scene → List ℕ → List ℕ → Turn
saved scene file bytes = record { reply = Measured (length bytes); scene = scene; placed = Some (file, bytes) }

-- a save that is refused, or places the file of the value of its name
abbrev pub save_turn : Scene → List ℕ → SaveForm → List ℕ → Turn
save_turn scene name form file = unless_refused (first_cause (save_causes scene name form)) scene (saved scene file (bytes_in form (value scene name)))

-- the ways that commands go: an edit; a question, with what refuses it and its answer; a load; a save; and a change of a slot, with
-- what refuses it, its answer and the scene after it
pub data Way : Type 0 where
  Edits : Edit → Way
  Asks : (Scene → List (Bool × Code)) → (Scene → Reply) → Way
  Loads : List ℕ → LoadForm → List ℕ → Way
  Saves : List ℕ → SaveForm → List ℕ → Way
  Hands : (Scene → List (Bool × Code)) → (Scene → Reply) → (Scene → Scene) → Way

-- a question about the value of a name
abbrev pub of_value : List ℕ → (Scene → List (Bool × Code)) → (Figure → Reply) → Way
of_value name causes answer = Asks causes (λ scene. answer (value scene name))

-- the way of a command
abbrev pub way_of : Command → Way
way_of commands.Blank = Asks (λ scene. []) (λ scene. Empty)
way_of (commands.Input name dim) = Edits (Input name dim)
way_of (commands.Toggle name nums) = Edits (Toggle name nums)
way_of (commands.Add name nums) = Edits (Add name nums)
way_of (commands.Cut name nums) = Edits (Cut name nums)
way_of (commands.Load name form file) = Loads name form file
way_of (commands.Def name formula) = Edits (Def name formula)
way_of (commands.Drop name) = Edits (Drop name)
way_of (commands.Meter slot name) =
    Hands (λ scene. attach_causes scene slot name)
    (λ scene. read_off (reading (attached scene slot name) slot))
    (λ scene. attached scene slot name)
way_of (commands.Read slot) =
    Asks (λ scene. reading_causes scene slot) (λ scene. read_off (reading scene slot))
way_of (commands.Unmeter slot) =
    Hands (λ scene. reading_causes scene slot) (λ scene. Done) (λ scene. detached scene slot)
way_of commands.List = Asks (λ scene. []) (λ scene. Listed scene.entries)
way_of (commands.Show name) = of_value name (λ scene. name_causes scene name) (λ a. Shown a)
way_of (commands.Section name axis at) =
    of_value name (λ scene. section_causes scene name axis at) (λ a. Shown (slice_of (nat_abs axis) at a))
way_of (commands.Project name axis) =
    of_value name (λ scene. axis_causes scene name axis) (λ a. Shown (proj_of (nat_abs axis) a))
way_of (commands.Faces name axis) =
    of_value name (λ scene. axis_causes scene name axis) (λ a. Faced (faces_of (nat_abs axis) a))
way_of (commands.Parts name) = of_value name (λ scene. name_causes scene name) (λ a. Parted (parts_of a))
way_of (commands.Report name) = Asks (λ scene. name_causes scene name) (λ scene. Reported (reported scene name))
way_of (commands.Content name) = of_value name (λ scene. name_causes scene name) (λ a. Measured (content_of a))
way_of (commands.Boundary name) = of_value name (λ scene. name_causes scene name) (λ a. Measured (boundary_of a))
way_of (commands.At name nums) =
    of_value name (λ scene. place_causes scene name nums (is_cell_coord (dim_of scene name)))
    (λ a. Filled (fills a nums))
way_of (commands.Point name nums) =
    of_value name (λ scene. place_causes scene name nums (is_point_coord (dim_of scene name)))
    (λ a. Placed (place_of a nums))
way_of (commands.Save name form file) = Saves name form file

-- the answer to an edit: how many names it changes, which is none where it makes its name or takes it out
abbrev pub edit_reply : Scene → Edit → Reply
edit_reply scene (Input name dim) = Changed 0
edit_reply scene (Drop name) = Changed 0
edit_reply scene edit = Changed (changed scene edit)

-- what a way does in a scene, where fetches give this
abbrev pub way_turn : Fetches → Scene → Way → Turn
way_turn fetched scene (Edits edit) = edited scene edit (edit_reply scene edit)
way_turn fetched scene (Asks causes answer) = asked (causes scene) scene (answer scene)
way_turn fetched scene (Loads name form file) = load_turn fetched scene name form file
way_turn fetched scene (Saves name form file) = save_turn scene name form file
way_turn fetched scene (Hands causes answer left) = handed_on (causes scene) scene (answer scene) (left scene)

-- what a command does
abbrev pub turn_of : Fetches → Scene → Command → Turn
turn_of fetched scene c = way_turn fetched scene (way_of c)

-- the answer to a line that is no command (a definition of commands never lacks memory)
abbrev pub fault_reply : LineError → Reply
fault_reply faults.Long = No Line
fault_reply faults.Syntax = No Syntax
fault_reply faults.NoMemory = Empty

-- what a line does that was read as a command, or as none
abbrev pub line_turn : Fetches → Scene → Result Command LineError → Turn
line_turn fetched scene (Ok c) = turn_of fetched scene c
line_turn fetched scene (Err e) = stays scene (fault_reply e)

-- what a line does in a scene, where fetches give this
unfoldable pub step : Fetches → Scene → List ℕ → Turn
step fetched scene line = line_turn fetched scene (command line)

-- whether a command fetches a file: a load that nothing refuses before
abbrev pub way_fetches : Scene → Way → Bool
way_fetches scene (Loads name form file) = is_none (first_cause (load_causes scene name form))
way_fetches scene _ = false

abbrev pub command_fetches : Scene → Command → Bool
command_fetches scene c = way_fetches scene (way_of c)

-- whether a command asks the shelf: it fetches, or it is a save that nothing refuses
abbrev pub way_asks : Scene → Way → Bool
way_asks scene (Loads name form file) = is_none (first_cause (load_causes scene name form))
way_asks scene (Saves name form file) = is_none (first_cause (save_causes scene name form))
way_asks scene _ = false

abbrev pub command_asks : Scene → Command → Bool
command_asks scene c = way_asks scene (way_of c)

-- whether a test of commands holds of a line, which may be none
abbrev pub of_line : (Command → Bool) → Result Command LineError → Bool
of_line test (Ok c) = test c
of_line test (Err e) = false

-- whether a line fetches a file
unfoldable pub fetches : Scene → List ℕ → Bool
fetches scene line = of_line (command_fetches scene) (command line)

-- whether a line asks the shelf
unfoldable pub asks : Scene → List ℕ → Bool
asks scene line = of_line (command_asks scene) (command line)
