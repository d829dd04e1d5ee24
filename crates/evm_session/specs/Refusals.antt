-- Refusals, by their codes and by the errors of the crates below.
use Rattle.evm_script.specs.declared.command.LineError.{LineError}
use Rattle.evm_script.specs.declared.command.LineError.TheVariants as lines
use Rattle.evm_outside.specs.declared.shelf.FetchError.{FetchError}
use Rattle.evm_outside.specs.declared.shelf.FetchError.TheVariants as fetching
use Rattle.evm_outside.specs.declared.shelf.PlaceError.{PlaceError}
use Rattle.evm_outside.specs.declared.shelf.PlaceError.TheVariants as placing
use Rattle.evm_formats.specs.declared.file.FileError.{FileError}
use Rattle.evm_formats.specs.declared.file.FileError.TheVariants as files
use Rattle.evm_formats.specs.declared.boxes.BoxFileError.{BoxFileError}
use Rattle.evm_formats.specs.declared.boxes.BoxFileError.TheVariants as boxes
use Rattle.evm_formats.specs.declared.voxels.VoxelError.{VoxelError}
use Rattle.evm_formats.specs.declared.voxels.VoxelError.TheVariants as voxels
use Rattle.evm_model.specs.Edits as codes
use Rattle.evm_scene.specs.declared.edit.Refusal.{Refusal as SceneRefusal}
use Rattle.evm_scene.specs.declared.edit.Refusal.TheVariants as edits
use Rattle.evm_scene.specs.declared.edit.AttachError.{AttachError}
use Rattle.evm_scene.specs.declared.edit.AttachError.TheVariants as attaching
use Rattle.evm_session.specs.declared.refusals.Refusal.{Refusal}
use Rattle.evm_session.specs.declared.refusals.Refusal.TheVariants.{Line, Syntax, Name, Meter, Taken, Kind, Used, Cycle, Dim, Range, Missing, Shelf, Form, NoMemory}

-- the code of a refusal
abbrev pub code_of : Refusal → codes.Code
code_of Line = codes.Line
code_of Syntax = codes.Syntax
code_of Name = codes.Name
code_of Meter = codes.Meter
code_of Taken = codes.Taken
code_of Kind = codes.Kind
code_of Used = codes.Used
code_of Cycle = codes.Cycle
code_of Dim = codes.Dim
code_of Range = codes.Range
code_of Missing = codes.Missing
code_of Shelf = codes.Shelf
code_of Form = codes.Form
code_of NoMemory = codes.Memory

-- where a line is no command
abbrev pub of_line_error : LineError → Refusal
of_line_error lines.Long = Line
of_line_error lines.Syntax = Syntax
of_line_error lines.NoMemory = NoMemory

-- where the scene refuses an edit
abbrev pub of_scene_refusal : SceneRefusal → Refusal
of_scene_refusal edits.Name = Name
of_scene_refusal edits.Taken = Taken
of_scene_refusal edits.Kind = Kind
of_scene_refusal edits.Used = Used
of_scene_refusal edits.Cycle = Cycle
of_scene_refusal edits.Dim = Dim
of_scene_refusal edits.Range = Range
of_scene_refusal edits.NoMemory = NoMemory

-- where no meter watches a name
abbrev pub of_attach_error : AttachError → Refusal
of_attach_error attaching.Name = Name
of_attach_error attaching.Slot = Meter
of_attach_error attaching.NoMemory = NoMemory

-- where no file was fetched
abbrev pub of_fetch_error : FetchError → Refusal
of_fetch_error fetching.Missing = Missing
of_fetch_error fetching.Failed = Shelf
of_fetch_error fetching.NoMemory = NoMemory

-- where no file was placed
abbrev pub of_place_error : PlaceError → Refusal
of_place_error placing.Failed = Shelf
of_place_error placing.NoMemory = NoMemory

-- where bytes are not the file of a solid, no file of boxes, or no images
abbrev pub of_file_error : FileError → Refusal
of_file_error files.NoMemory = NoMemory
of_file_error e = Form

abbrev pub of_box_file_error : BoxFileError → Refusal
of_box_file_error boxes.NoMemory = NoMemory
of_box_file_error e = Form

abbrev pub of_voxel_error : VoxelError → Refusal
of_voxel_error voxels.NoMemory = NoMemory
of_voxel_error e = Form
