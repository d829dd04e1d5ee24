-- Laws of figures, scenes, edits, replies, steps and runs.
use Rattle.std.specs.Prelude.{ℕ, ◌≡◌, ◌≢◌, ◌↔◌, ◌≤◌, ◌⊎◌, Bool, true, false, not, ◌&&◌, ◌||◌, nat_eq, nat_abs, ℤ, pos, int_le, int_lt, ◌-◌, List, [], ◌∷◌, ◌++◌, length, take, map, flat_map, codes, Option, Some, None, is_some, Ok, bytes_eq, count_by, if◌then◌else◌}
use Rattle.std.specs.List.{list_any, list_all, starts_with}
use Rattle.evm_cells.specs.Places.{has, with_at}
use Rattle.evm_cells.specs.Limits.{IsCellSet}
use Rattle.evm_cells.specs.Localities.{Measure}
use Rattle.evm_cells.specs.Shapes.{added}
use Rattle.evm_text.specs.Lines.{lines}
use Rattle.evm_script.specs.Line.{command}
use Rattle.evm_script.specs.declared.command.Command.{Command}
use Rattle.evm_script.specs.declared.command.Command.TheVariants as commands
use Rattle.evm_formats.specs.FirstFile.{first_file_of_cells}
use Rattle.evm_formats.specs.File.{IsSolidCells}
use Rattle.evm_script.specs.declared.files.LoadForm.{LoadForm}
use Rattle.evm_script.specs.declared.files.LoadForm.TheVariants as forms
use Rattle.evm_script.specs.declared.files.SaveForm.{SaveForm}
use Rattle.evm_script.specs.declared.files.SaveForm.TheVariants as saves
use Rattle.evm_script.specs.declared.formula.Formula.{Formula}
use Rattle.evm_script.specs.declared.formula.Formula.TheVariants.{Shift, Lift}
use Rattle.evm_model.specs.Figures.{Figure, nothing, box_at, xor_of, or_of, sub_of, same_figure}
use Rattle.evm_model.specs.Files.{Fetches, form_fits, figure_in, figure_fetched, bytes_in}
use Rattle.evm_model.specs.Orders.{is_among}
use Rattle.evm_model.specs.Scene.{Scene, Entry, Made, Free, Watches, Gone, start_with, slot_at, reading, measure_of, attached, detached, entry_of, stands, dim_of, operands_of, formula_value, entry_value, value, reaches, is_read, all_stay, with_figure, is_dim, IsWell, IsOrderOf}
use Rattle.evm_model.specs.Edits.{Edit, Input, Toggle, Add, Cut, Replace, Def, Drop, Meter, Missing, Shelf, Form, Memory, EditFits, name_of, refusal, after, changed, changed_names}
use Rattle.evm_model.specs.Replies.{Reply, No, Done, Measured, reply_text, line_of, is_no}
use Rattle.evm_model.specs.Steps.{Way, Edits, Loads, Saves, Hands, way_of, step, fetches, asks, of_line}
use Rattle.evm_model.specs.Runs.{World, Mark, Plain, Fetched, answer, fetched_from, run, world_after}

-- two figures that are cell sets are the same exactly where they are equal
abbrev pub SameIsEqual : Type 0
SameIsEqual = (a b : Figure) → IsCellSet a.dim a.cells → IsCellSet b.dim b.cells
    → (same_figure a b ≡ true) ↔ (a ≡ b)

-- the text of a reply begins with `no` exactly where the reply refuses
abbrev pub RefusalsBeginWithNo : Type 0
RefusalsBeginWithNo = (reply : Reply)
    → starts_with nat_eq (reply_text reply) (codes "no") ≡ is_no reply

-- the text of a reply is empty or ends with LF
abbrev pub RepliesAreLines : Type 0
RepliesAreLines = (reply : Reply)
    → (reply_text reply ≡ []) ⊎ ((front : List ℕ) × (reply_text reply ≡ front ++ 10 ∷ []))

-- a refused line leaves the scene, and places no file
abbrev pub RefusalChangesNothing : Type 0
RefusalChangesNothing = (fetched : Fetches) (scene : Scene) (line : List ℕ)
    → is_no (step fetched scene line).reply ≡ true
    → ((step fetched scene line).scene ≡ scene) × ((step fetched scene line).placed ≡ None)

-- a command that changes the scene: an edit, a load, or a change of a slot
abbrev pub is_edit_way : Way → Bool
is_edit_way (Edits edit) = true
is_edit_way (Loads name form file) = true
is_edit_way (Hands causes answer left) = true
is_edit_way _ = false

abbrev pub is_edit : Command → Bool
is_edit c = is_edit_way (way_of c)

-- a line that is no edit leaves the scene
abbrev pub QuestionsLeaveScene : Type 0
QuestionsLeaveScene = (fetched : Fetches) (scene : Scene) (line : List ℕ) (c : Command)
    → command line ≡ Ok c
    → is_edit c ≡ false
    → (step fetched scene line).scene ≡ scene

-- an edit after which a formula would make a place out of the limits is refused
abbrev pub OutOfLimitsIsRefused : Type 0
OutOfLimitsIsRefused = (scene : Scene) (edit : Edit) → IsWell scene
    → all_stay (after scene edit) ≡ false
    → refusal scene edit ≢ None

-- a step never lacks memory, and its shelf never fails: that comes by a mark alone
abbrev pub StepHasMemory : Type 0
StepHasMemory = (fetched : Fetches) (scene : Scene) (line : List ℕ)
    → ((step fetched scene line).reply ≢ No Memory) × ((step fetched scene line).reply ≢ No Shelf)

-- the scene before the first line is well, whatever meters are handed in
abbrev pub StartIsWell : Type 0
StartIsWell = (kinds : List Measure) → IsWell (start_with kinds)

-- a line keeps a scene well
abbrev pub StepsKeepWell : Type 0
StepsKeepWell = (fetched : Fetches) (scene : Scene) (line : List ℕ) → IsWell scene
    → IsWell (step fetched scene line).scene

-- an edit that is not refused keeps a scene well, where a figure that it states has a cell set
abbrev pub EditsKeepWell : Type 0
EditsKeepWell = (scene : Scene) (edit : Edit) → IsWell scene → EditFits edit
    → refusal scene edit ≡ None
    → IsWell (after scene edit)

-- the value of a name is what its entry makes of the values of its operands
abbrev pub ValuesFollowFormulas : Type 0
ValuesFollowFormulas = (scene : Scene) (name : List ℕ) → IsWell scene
    → value scene name ≡ entry_value (entry_of scene.entries name) (value scene)

-- figures that follow the formulas are the values
abbrev pub FormulasDetermineValues : Type 0
FormulasDetermineValues = (scene : Scene) (figures : List ℕ → Figure) → IsWell scene
    → ((name : List ℕ) → figures name ≡ entry_value (entry_of scene.entries name) figures)
    → (name : List ℕ) → figures name ≡ value scene name

-- a name reaches what it reads, and what that reaches, and no more
abbrev pub ReachingFollowsFormulas : Type 0
ReachingFollowsFormulas = (scene : Scene) (name other : List ℕ) → IsWell scene
    → reaches scene name other
    ≡ list_any (λ o. bytes_eq o other || reaches scene o other) (operands_of scene.entries name)

-- no name reaches itself
abbrev pub NoneReachesItself : Type 0
NoneReachesItself = (scene : Scene) (name : List ℕ) → IsWell scene → reaches scene name name ≡ false

-- the names of a well scene have an order in which operands come first
abbrev pub NamesHaveOrder : Type 0
NamesHaveOrder = (scene : Scene) → IsWell scene → (order : List (List ℕ)) × IsOrderOf scene order

-- where they have one, operands stand, and no name reaches itself
abbrev pub OrdersShowWell : Type 0
OrdersShowWell = (scene : Scene) (order : List (List ℕ)) → IsOrderOf scene order
    → ((x o : List ℕ) → is_among o (operands_of scene.entries x) ≡ true → stands scene o ≡ true)
    × ((name : List ℕ) → reaches scene name name ≡ false)

-- the value of a shift has each cell of its operand, moved, and no other: none is lost at the limits
abbrev pub ShiftsMoveAllCells : Type 0
ShiftsMoveAllCells = (scene : Scene) (name operand : List ℕ) (nums : List ℤ) (e : Entry)
    → IsWell scene
    → entry_of scene.entries name ≡ Some e → e.what ≡ Made (Shift operand nums)
    → (value scene name).cells ≡ map (added nums) (value scene operand).cells

-- the value of a lift has each cell of its operand, with each height from lo up to, but not at, hi put in at its axis, and no
-- other: none is lost at the limits
abbrev pub LiftsKeepAllCells : Type 0
LiftsKeepAllCells
    = (scene : Scene) (name operand : List ℕ) (axis lo hi height : ℤ) (cell : List ℤ) (e : Entry)
    → IsWell scene
    → entry_of scene.entries name ≡ Some e → e.what ≡ Made (Lift operand axis lo hi)
    → length cell ≡ dim_of scene operand
    → has (value scene name).cells (with_at (nat_abs axis - 1) height cell)
    ≡ (has (value scene operand).cells cell && (int_le lo height && int_lt height hi))

-- what a name reads stands
abbrev pub OperandsStand : Type 0
OperandsStand = (scene : Scene) (name operand : List ℕ) → IsWell scene
    → is_among operand (operands_of scene.entries name) ≡ true → stands scene operand ≡ true

-- the dimension of a name is that of its value
abbrev pub DimIsOfValue : Type 0
DimIsOfValue = (scene : Scene) (name : List ℕ) → IsWell scene
    → dim_of scene name ≡ (value scene name).dim

-- each value is a cell set of its dimension
abbrev pub ValuesAreCellSets : Type 0
ValuesAreCellSets = (scene : Scene) (name : List ℕ) → IsWell scene
    → IsCellSet (value scene name).dim (value scene name).cells

-- an edit leaves the value of each other name that does not reach its own
abbrev pub OthersStay : Type 0
OthersStay = (scene : Scene) (edit : Edit) (other : List ℕ) → IsWell scene
    → bytes_eq other (name_of edit) ≡ false
    → reaches scene other (name_of edit) ≡ false
    → value (after scene edit) other ≡ value scene other

-- each other name stands after an edit where it stood before
abbrev pub OthersStand : Type 0
OthersStand = (scene : Scene) (edit : Edit) (other : List ℕ) → bytes_eq other (name_of edit) ≡ false
    → stands (after scene edit) other ≡ stands scene other

-- a new input has no cell
abbrev pub InputsStartEmpty : Type 0
InputsStartEmpty = (scene : Scene) (name : List ℕ) (dim : ℤ) → IsWell scene
    → refusal scene (Input name dim) ≡ None
    → value (after scene (Input name dim)) name ≡ nothing (nat_abs dim)

-- a box combines with the value of the name
abbrev pub BoxesCombine : Type 0
BoxesCombine = (scene : Scene) (name : List ℕ) (nums : List ℤ) → stands scene name ≡ true
    → (value (after scene (Toggle name nums)) name ≡ xor_of (value scene name) (box_at (dim_of scene name) nums))
    × (value (after scene (Add name nums)) name ≡ or_of (value scene name) (box_at (dim_of scene name) nums))
    × (value (after scene (Cut name nums)) name ≡ sub_of (value scene name) (box_at (dim_of scene name) nums))

-- another figure for a name is its value
abbrev pub ReplacementsHold : Type 0
ReplacementsHold = (scene : Scene) (name : List ℕ) (figure : Figure) → stands scene name ≡ true
    → value (after scene (Replace name figure)) name ≡ figure

-- a definition gives its name what the formula makes of the values that the operands have before, and keep
abbrev pub DefinitionsHold : Type 0
DefinitionsHold = (scene : Scene) (name : List ℕ) (formula : Formula) → IsWell scene
    → refusal scene (Def name formula) ≡ None
    → value (after scene (Def name formula)) name ≡ formula_value formula (value scene)

-- a dropped name does not stand
abbrev pub DropsTakeOut : Type 0
DropsTakeOut = (scene : Scene) (name : List ℕ) → IsWell scene
    → stands (after scene (Drop name)) name ≡ false

-- an entry of a name, or of one that reaches it
abbrev pub is_or_reaches : Scene → List ℕ → Entry → Bool
is_or_reaches scene name e = bytes_eq e.name name || reaches scene e.name name

-- an edit changes no names but its own and those that reach it
abbrev pub ChangedReachName : Type 0
ChangedReachName = (scene : Scene) (edit : Edit) → IsWell scene
    → changed scene edit ≤ count_by (is_or_reaches scene (name_of edit)) scene.entries

-- an edit that makes its name changes no other
abbrev pub NewNamesChangeNone : Type 0
NewNamesChangeNone = (scene : Scene) (edit : Edit) → IsWell scene
    → stands scene (name_of edit) ≡ false
    → changed scene edit ≡ 0

-- nor does a drop that is not refused
abbrev pub DropsChangeNone : Type 0
DropsChangeNone = (scene : Scene) (name : List ℕ) → IsWell scene → refusal scene (Drop name) ≡ None
    → changed scene (Drop name) ≡ 0

-- another figure under a name that no formula reads changes that name alone, or none where the figure is the same
abbrev pub OneNameChanges : Type 0
OneNameChanges = (scene : Scene) (name : List ℕ) (new : Figure) → IsWell scene
    → stands scene name ≡ true
    → is_read scene name ≡ false
    → changed_names scene (with_figure scene name new)
    ≡ (if same_figure (value scene name) new then 0 else 1)

-- the figure that a name has already changes no value
abbrev pub SameFigureStays : Type 0
SameFigureStays = (scene : Scene) (name other : List ℕ) → IsWell scene
    → value (with_figure scene name (value scene name)) other ≡ value scene other

-- a toggle that is not refused always changes its name
abbrev pub ToggleChangesName : Type 0
ToggleChangesName = (scene : Scene) (name : List ℕ) (nums : List ℤ) → IsWell scene
    → refusal scene (Toggle name nums) ≡ None
    → same_figure (value scene name) (value (after scene (Toggle name nums)) name) ≡ false

-- and so counts at least that name
abbrev pub ToggleCountsName : Type 0
ToggleCountsName = (scene : Scene) (name : List ℕ) (nums : List ℤ) → IsWell scene
    → refusal scene (Toggle name nums) ≡ None → 1 ≤ changed scene (Toggle name nums)

-- ---- slots

-- an edit leaves all slots
abbrev pub EditsLeaveSlots : Type 0
EditsLeaveSlots = (scene : Scene) (edit : Edit) → (after scene edit).slots ≡ scene.slots

-- a change of a slot leaves all names
abbrev pub SlotsLeaveNames : Type 0
SlotsLeaveNames = (scene : Scene) (k : ℤ) (name : List ℕ)
    → ((attached scene k name).entries ≡ scene.entries) × ((detached scene k).entries ≡ scene.entries)

-- a meter that was handed to a name reads the measure of its value, of the kind that its slot had
abbrev pub AttachedReadsValue : Type 0
AttachedReadsValue = (scene : Scene) (k : ℤ) (name : List ℕ) (kind : Measure)
    → slot_at scene k ≡ Some (Free kind)
    → reading (attached scene k name) k ≡ Some (measure_of kind (value scene name))

-- a slot that watches a name reads the measure of what the name's value is after an edit
abbrev pub ReadingsFollowEdits : Type 0
ReadingsFollowEdits = (scene : Scene) (edit : Edit) (k : ℤ) (name : List ℕ) (kind : Measure)
    → slot_at scene k ≡ Some (Watches kind name)
    → reading (after scene edit) k ≡ Some (measure_of kind (value (after scene edit) name))

-- a slot whose meter was given up is gone for good
abbrev pub GoneStays : Type 0
GoneStays = (fetched : Fetches) (scene : Scene) (line : List ℕ) (k : ℤ)
    → slot_at scene k ≡ Some Gone
    → slot_at (step fetched scene line).scene k ≡ Some Gone

-- a slot never changes its number, and no slot comes
abbrev pub SlotsAreFixed : Type 0
SlotsAreFixed = (fetched : Fetches) (scene : Scene) (line : List ℕ)
    → length (step fetched scene line).scene.slots ≡ length scene.slots

-- no line makes a slot or takes one out
abbrev pub NoSlotComesOrGoes : Type 0
NoSlotComesOrGoes = (fetched : Fetches) (scene : Scene) (line : List ℕ) (k : ℤ)
    → is_some (slot_at (step fetched scene line).scene k) ≡ is_some (slot_at scene k)

-- a command that hands a meter to a name, or gives one up
abbrev pub changes_a_slot : Command → Bool
changes_a_slot (commands.Meter slot name) = true
changes_a_slot (commands.Unmeter slot) = true
changes_a_slot _ = false

-- any other line leaves each slot, and so the name that it watches
abbrev pub OthersLeaveSlots : Type 0
OthersLeaveSlots = (fetched : Fetches) (scene : Scene) (line : List ℕ)
    → of_line changes_a_slot (command line) ≡ false
    → (step fetched scene line).scene.slots ≡ scene.slots

-- a line that reads a slot which watches a name is answered by the measure of what the name's value is then
abbrev pub ReadsTellMeasures : Type 0
ReadsTellMeasures = (fetched : Fetches) (scene : Scene) (line name : List ℕ) (k : ℤ) (kind : Measure)
    → command line ≡ Ok (commands.Read k)
    → slot_at scene k ≡ Some (Watches kind name)
    → (step fetched scene line).reply ≡ Measured (measure_of kind (value scene name))

-- and it is refused where the slot reads nothing
abbrev pub NothingIsRead : Type 0
NothingIsRead = (fetched : Fetches) (scene : Scene) (line : List ℕ) (k : ℤ)
    → command line ≡ Ok (commands.Read k)
    → reading scene k ≡ None
    → (step fetched scene line).reply ≡ No Meter

-- a line that hands a free meter to a name that stands is answered by the measure of what the name's value is then, and from then on
-- the slot watches the name
abbrev pub HandoversTellMeasures : Type 0
HandoversTellMeasures = (fetched : Fetches) (scene : Scene) (line name : List ℕ) (k : ℤ) (kind : Measure)
    → command line ≡ Ok (commands.Meter k name)
    → stands scene name ≡ true
    → slot_at scene k ≡ Some (Free kind)
    → ((step fetched scene line).reply ≡ Measured (measure_of kind (value scene name)))
    × (slot_at (step fetched scene line).scene k ≡ Some (Watches kind name))

-- a line that gives up the meter of a slot which watches a name is carried out, and the slot is gone
abbrev pub MetersAreGivenUp : Type 0
MetersAreGivenUp = (fetched : Fetches) (scene : Scene) (line name : List ℕ) (k : ℤ) (kind : Measure)
    → command line ≡ Ok (commands.Unmeter k)
    → slot_at scene k ≡ Some (Watches kind name)
    → ((step fetched scene line).reply ≡ Done)
    × (slot_at (step fetched scene line).scene k ≡ Some Gone)

-- ---- loads and saves

-- a load depends on what is fetched under its file name alone
abbrev pub LoadsReadTheirFile : Type 0
LoadsReadTheirFile = (f g : Fetches) (scene : Scene) (line name file : List ℕ) (form : LoadForm)
    → command line ≡ Ok (commands.Load name form file)
    → f file ≡ g file → step f scene line ≡ step g scene line

-- a line that fetches no file is the same whatever fetches give
abbrev pub OthersReadNone : Type 0
OthersReadNone = (f g : Fetches) (scene : Scene) (line : List ℕ) → fetches scene line ≡ false
    → step f scene line ≡ step g scene line

-- a load that is not refused gives its name the figure that the fetched bytes state
abbrev pub LoadsTakeFigure : Type 0
LoadsTakeFigure = (fetched : Fetches) (scene : Scene) (line name file : List ℕ) (form : LoadForm)
    → command line ≡ Ok (commands.Load name form file)
    → is_no (step fetched scene line).reply ≡ false
    → figure_fetched form (dim_of scene name) (fetched file)
    ≡ Some (value (step fetched scene line).scene name)

-- a load is answered that there is no file exactly where it fetches and nothing is there
abbrev pub MissingIsNoFile : Type 0
MissingIsNoFile = (fetched : Fetches) (scene : Scene) (line name file : List ℕ) (form : LoadForm)
    → command line ≡ Ok (commands.Load name form file)
    → ((step fetched scene line).reply ≡ No Missing)
    ↔ ((fetches scene line ≡ true) × (fetched file ≡ None))

-- no line is so answered that fetches no file
abbrev pub MissingIsFetched : Type 0
MissingIsFetched = (fetched : Fetches) (scene : Scene) (line : List ℕ) → fetches scene line ≡ false
    → (step fetched scene line).reply ≢ No Missing

-- bytes were fetched that state no figure in a form
abbrev pub StatesNone : LoadForm → ℕ → Option (List ℕ) → Type 0
StatesNone form n got = (bytes : List ℕ) × (got ≡ Some bytes) × (figure_in form n bytes ≡ None)

-- a load is answered that bytes are none of its form exactly where it fetches bytes that state no figure in it
abbrev pub FormIsNoFigure : Type 0
FormIsNoFigure = (fetched : Fetches) (scene : Scene) (line name file : List ℕ) (form : LoadForm)
    → command line ≡ Ok (commands.Load name form file)
    → ((step fetched scene line).reply ≡ No Form)
    ↔ ((fetches scene line ≡ true) × StatesNone form (dim_of scene name) (fetched file))

-- a save that is not refused places the bytes of the value of its name
abbrev pub SavesPlaceValues : Type 0
SavesPlaceValues = (fetched : Fetches) (scene : Scene) (line name file : List ℕ) (form : SaveForm)
    → command line ≡ Ok (commands.Save name form file)
    → is_no (step fetched scene line).reply ≡ false
    → (step fetched scene line).placed ≡ Some (file, bytes_in form (value scene name))

-- a command that saves
abbrev pub is_save_way : Way → Bool
is_save_way (Saves name form file) = true
is_save_way _ = false

abbrev pub is_save : Command → Bool
is_save c = is_save_way (way_of c)

-- a line that is no save places no file
abbrev pub OnlySavesPlace : Type 0
OnlySavesPlace = (fetched : Fetches) (scene : Scene) (line : List ℕ)
    → of_line is_save (command line) ≡ false
    → (step fetched scene line).placed ≡ None

-- a line asks the shelf exactly where it fetches a file or is a save that its step does not refuse
abbrev pub ShelfIsAsked : Type 0
ShelfIsAsked = (fetched : Fetches) (scene : Scene) (line : List ℕ)
    → asks scene line
    ≡ (fetches scene line || (of_line is_save (command line) && not (is_no (step fetched scene line).reply)))

-- two solids are saved in equal bytes exactly if they are equal
abbrev pub SavedBytesTellSolids : Type 0
SavedBytesTellSolids = (a b : Figure) → IsSolidCells a.dim a.cells → IsSolidCells b.dim b.cells
    → (bytes_in saves.Evm a ≡ bytes_in saves.Evm b) ↔ (a ≡ b)

-- so two names of one dimension are, exactly if they have the same cells
abbrev pub SavedBytesTellNames : Type 0
SavedBytesTellNames = (scene : Scene) (x y : List ℕ) → IsWell scene → stands scene x ≡ true
    → stands scene y ≡ true
    → dim_of scene x ≡ dim_of scene y
    → (bytes_in saves.Evm (value scene x) ≡ bytes_in saves.Evm (value scene y))
    ↔ ((value scene x).cells ≡ (value scene y).cells)

-- bytes state a solid as an EVM file exactly if it is saved in these bytes, or they are its file of version 1
abbrev pub SavedBytesLoad : Type 0
SavedBytesLoad = (bytes : List ℕ) (a : Figure) → IsSolidCells a.dim a.cells
    → (figure_in forms.Evm a.dim bytes ≡ Some a)
    ↔ ((bytes ≡ bytes_in saves.Evm a) ⊎ (bytes ≡ first_file_of_cells a.dim a.cells))

-- the box file in which a solid is saved states this solid
abbrev pub SavedBoxesLoad : Type 0
SavedBoxesLoad = (a : Figure) → IsSolidCells a.dim a.cells
    → figure_in forms.Boxes a.dim (bytes_in saves.Boxes a) ≡ Some a

-- each figure that bytes state is a cell set of the dimension that was asked for, where the form fits it
abbrev pub FiguresAreCellSets : Type 0
FiguresAreCellSets = (form : LoadForm) (n : ℕ) (bytes : List ℕ) (a : Figure) → is_dim (pos n) ≡ true
    → form_fits form n ≡ true → figure_in form n bytes ≡ Some a
    → (a.dim ≡ n) × IsCellSet a.dim a.cells

-- ---- runs

-- a refused line leaves the scene and the files
abbrev pub RefusedLeavesWorld : Type 0
RefusedLeavesWorld = (world : World) (line : List ℕ) (mark : Mark)
    → is_no (answer world line mark).reply ≡ true
    → (answer world line mark).world ≡ world

-- a line keeps the scene of a world well
abbrev pub AnswersKeepWell : Type 0
AnswersKeepWell = (world : World) (line : List ℕ) (mark : Mark) → IsWell world.scene
    → IsWell (answer world line mark).world.scene

-- the scene of a world that a run leaves is well
abbrev pub RunsKeepWell : Type 0
RunsKeepWell = (world : World) (ls : List (List ℕ)) (marks : List Mark) → IsWell world.scene
    → IsWell (world_after world ls marks).scene

-- whether a command saves to a file of this name
abbrev pub saves_to : List ℕ → Command → Bool
saves_to file (commands.Save name form to) = bytes_eq file to
saves_to file _ = false

-- a run leaves each file to which none of its lines saves
abbrev pub RunLeavesFiles : Type 0
RunLeavesFiles = (world : World) (ls : List (List ℕ)) (marks : List Mark) (file : List ℕ)
    → list_any (λ line. of_line (saves_to file) (command line)) ls ≡ false
    → fetched_from (world_after world ls marks).files file ≡ fetched_from world.files file

-- the last file that was saved under a name is there
abbrev pub SavedFileIsThere : Type 0
SavedFileIsThere = (world : World) (line name file : List ℕ) (form : SaveForm) (mark : Mark)
    → command line ≡ Ok (commands.Save name form file)
    → is_no (answer world line mark).reply ≡ false
    → fetched_from (answer world line mark).world.files file
    ≡ Some (bytes_in form (value world.scene name))

-- a line of a shelf that does not tell its files is that of one that does, where the fetched bytes are those of its file
abbrev pub FetchedIsTold : Type 0
FetchedIsTold = (world : World) (line name file : List ℕ) (form : LoadForm) (got : Option (List ℕ))
    → command line ≡ Ok (commands.Load name form file)
    → fetched_from world.files file ≡ got
    → answer world line (Fetched got) ≡ answer world line Plain

-- each line is answered once, as far as there are marks
abbrev pub OneReplyEach : Type 0
OneReplyEach = (world : World) (ls : List (List ℕ)) (marks : List Mark) → length marks ≤ length ls
    → length (run world ls marks) ≡ length marks

-- the replies to a front of the lines are the front of the replies
abbrev pub FrontOfRun : Type 0
FrontOfRun = (world : World) (ls : List (List ℕ)) (marks : List Mark) (k : ℕ)
    → run world ls (take k marks) ≡ take k (run world ls marks)

-- later lines change no earlier reply, and not the world at that time
abbrev pub LaterLinesWait : Type 0
LaterLinesWait = (world : World) (ls more : List (List ℕ)) (marks : List Mark)
    → length marks ≤ length ls
    → (run world (ls ++ more) marks ≡ run world ls marks)
    × (world_after world (ls ++ more) marks ≡ world_after world ls marks)

-- no line has an LF
abbrev pub LinesHaveNoLf : Type 0
LinesHaveNoLf = (script : List ℕ)
    → list_all (λ line. not (list_any (λ b. nat_eq b 10) line)) (lines script) ≡ true

-- the lines, each with an LF behind it, are the script, to whose last line an LF may have been added
abbrev pub LinesMakeScript : Type 0
LinesMakeScript = (script : List ℕ)
    → (flat_map line_of (lines script) ≡ script)
    ⊎ (flat_map line_of (lines script) ≡ script ++ 10 ∷ [])
