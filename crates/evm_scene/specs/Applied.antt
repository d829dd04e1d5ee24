-- What an edit answers, and what it leaves.
use Rattle.std.specs.Prelude.{◌≡◌, None, Some, Result, Ok, Err}
use Rattle.evm_model.specs.Scene.{Scene}
use Rattle.evm_model.specs.Edits as model
use Rattle.evm_scene.specs.declared.edit.Edit.{Edit}
use Rattle.evm_scene.specs.declared.edit.Edit.TheVariants.{Input, Box, Replace, Def, Drop}
use Rattle.evm_scene.specs.declared.edit.Refusal.{Refusal}
use Rattle.evm_scene.specs.declared.edit.Refusal.TheVariants.{Name, Taken, Kind, Used, Cycle, Dim, Range, NoMemory}
use Rattle.evm_scene.specs.declared.edit.Changed.{Changed}
use Rattle.evm_formulas.specs.Stated.{figure_of}
use Rattle.evm_scene.specs.InputEdits.{edit_by}

-- the edit, as the model words it
abbrev pub edit_view : Edit → model.Edit
edit_view (Input name dim) = model.Input name dim
edit_view (Box how name nums) = edit_by how name nums
edit_view (Replace name solid) = model.Replace name (figure_of solid)
edit_view (Def name formula) = model.Def name formula
edit_view (Drop name) = model.Drop name

-- refused by this code, and nothing is changed
abbrev pub RefusedBy : model.Code → Scene → Scene → model.Edit → Type 0
RefusedBy code old new edit = (model.refusal old edit ≡ Some code) × (new ≡ old)

-- an edit that nothing refuses is made, and the names that it changes are counted; a refused edit has the first cause that
-- holds and leaves the scene, and so does want of memory, which may come at any edit
abbrev pub Applies : Result Changed Refusal → Scene → Scene → model.Edit → Type 0
Applies (Ok changed) old new edit = (model.refusal old edit ≡ None) × (new ≡ model.after old edit) × (changed.names ≡ model.changed old edit)
Applies (Err Name) old new edit = RefusedBy model.Name old new edit
Applies (Err Taken) old new edit = RefusedBy model.Taken old new edit
Applies (Err Kind) old new edit = RefusedBy model.Kind old new edit
Applies (Err Used) old new edit = RefusedBy model.Used old new edit
Applies (Err Cycle) old new edit = RefusedBy model.Cycle old new edit
Applies (Err Dim) old new edit = RefusedBy model.Dim old new edit
Applies (Err Range) old new edit = RefusedBy model.Range old new edit
Applies (Err NoMemory) old new edit = new ≡ old
