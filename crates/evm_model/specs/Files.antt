-- Files by name, and what the bytes of a file state in the form that a command names.
use Rattle.std.specs.Prelude.{ℕ, ◌==◌, nat_abs, nat_le, Bool, true, List, Option, None, Some, Result, Ok, Err, ℤ, pos, int_le, ◌&&◌, ◌||◌, bytes_eq, if◌then◌else◌}
use Rattle.evm_cells.specs.Vertices.{cells}
use Rattle.evm_formats.specs.FirstFile.{first_file_of_cells}
use Rattle.evm_formats.specs.File.{file_of_cells, stated_rows}
use Rattle.evm_formats.specs.BoxFile as boxes
use Rattle.evm_formats.specs.BoxText.{box_file}
use Rattle.evm_formats.specs.FaceText.{face_file}
use Rattle.evm_formats.specs.ObjText.{obj_file}
use Rattle.evm_formats.specs.Pgm.{pgm_cells}
use Rattle.evm_formats.specs.Y4m.{y4m_cells}
use Rattle.evm_script.specs.declared.files.LoadForm.{LoadForm}
use Rattle.evm_script.specs.declared.files.LoadForm.TheVariants as forms
use Rattle.evm_script.specs.declared.files.SaveForm.{SaveForm}
use Rattle.evm_script.specs.declared.files.SaveForm.TheVariants as saves
use Rattle.evm_model.specs.Figures.{Figure, nothing}

-- what a fetch of a file name gives: the bytes of the file, or nothing where there is none
abbrev pub Fetches : Type 0
Fetches = List ℕ → Option (List ℕ)

-- no file is there
abbrev pub no_files : Fetches
no_files name = None

-- the bytes are an EVM file of these cells: the one that is written, or the one of version 1
abbrev pub is_evm_file : List ℕ → ℕ → List (List ℤ) → Bool
is_evm_file bytes n S = bytes_eq bytes (file_of_cells n S) || bytes_eq bytes (first_file_of_cells n S)

-- the figure of dimension n whose EVM file the bytes are: its cells are those of the rows that they state
abbrev pub evm_figure : ℕ → List ℕ → Option Figure
evm_figure n bytes =
    if is_evm_file bytes n (cells n (stated_rows bytes))
    then Some (record { dim = n; cells = cells n (stated_rows bytes) })
    else None

-- the figure of cells that a file states, or none where it is refused
abbrev pub figure_stated : {E : Type 0} → ℕ → Result (List (List ℤ)) E → Option Figure
figure_stated n (Ok cells) = Some (record { dim = n; cells = cells })
figure_stated n (Err e) = None

-- images make solids of dimension 2 and 3
abbrev pub form_fits : LoadForm → ℕ → Bool
form_fits forms.Evm n = true
form_fits forms.Boxes n = true
form_fits (forms.Pgm threshold) n = nat_le n 3
form_fits (forms.Y4m threshold) n = nat_le n 3

-- a threshold for samples
abbrev pub is_threshold : ℤ → Bool
is_threshold threshold = int_le (pos 0) threshold && int_le threshold (pos 65535)

-- the threshold that a form states is one
abbrev pub form_in_range : LoadForm → Bool
form_in_range forms.Evm = true
form_in_range forms.Boxes = true
form_in_range (forms.Pgm threshold) = is_threshold threshold
form_in_range (forms.Y4m threshold) = is_threshold threshold

-- the figure of dimension n that bytes state in a form, or none where its reader refuses them
unfoldable pub figure_in : LoadForm → ℕ → List ℕ → Option Figure
figure_in forms.Evm n bytes = evm_figure n bytes
figure_in forms.Boxes n bytes = figure_stated n (boxes.file_cells n bytes)
figure_in (forms.Pgm threshold) n bytes = figure_stated n (pgm_cells n (nat_abs threshold) bytes)
figure_in (forms.Y4m threshold) n bytes = figure_stated n (y4m_cells n (nat_abs threshold) bytes)

-- the figure in what a fetch gave
abbrev pub figure_fetched : LoadForm → ℕ → Option (List ℕ) → Option Figure
figure_fetched form n None = None
figure_fetched form n (Some bytes) = figure_in form n bytes

-- that figure, or no cell
abbrev pub or_nothing : ℕ → Option Figure → Figure
or_nothing n None = nothing n
or_nothing n (Some a) = a

-- whether solids of dimension n are saved in a form: a mesh has three dimensions
abbrev pub save_fits : SaveForm → ℕ → Bool
save_fits saves.Evm n = true
save_fits saves.Boxes n = true
save_fits saves.Faces n = true
save_fits saves.Obj n = n == 3

-- the bytes of the file of a figure in a form
unfoldable pub bytes_in : SaveForm → Figure → List ℕ
bytes_in saves.Evm a = file_of_cells a.dim a.cells
bytes_in saves.Boxes a = box_file a.dim a.cells
bytes_in saves.Faces a = face_file a.dim a.cells
bytes_in saves.Obj a = obj_file a.cells
