-- Shapes of what follows `load` and `save`: a name, the form of a file, and the file.
use Rattle.std.specs.Prelude.{ℕ, if◌then◌else◌, List, [], ◌∷◌, Option, None, Some, codes, option_map, ℤ}
use Rattle.std.specs.Option.{option_zip}
use Rattle.evm_outside.specs.Shelves.{is_file_name}
use Rattle.evm_text.specs.Numbers.{number}
use Rattle.evm_script.specs.Shapes.{same_bytes, name_of}
use Rattle.evm_script.specs.declared.files.LoadForm.{LoadForm}
use Rattle.evm_script.specs.declared.files.LoadForm.TheVariants as forms
use Rattle.evm_script.specs.declared.files.SaveForm.{SaveForm}
use Rattle.evm_script.specs.declared.files.SaveForm.TheVariants as saves

-- a word as a file name
abbrev pub file_of : List ℕ → Option (List ℕ)
file_of word = if is_file_name word then Some word else None

-- the forms that one word makes
abbrev pub word_form : List ℕ → Option LoadForm
word_form word =
    if same_bytes word (codes "evm") then Some forms.Evm
    else if same_bytes word (codes "boxes") then Some forms.Boxes
    else None

-- the forms that a word and a threshold make
abbrev pub threshold_form : List ℕ → Option ℤ → Option LoadForm
threshold_form word threshold =
    if same_bytes word (codes "pgm") then option_map forms.Pgm threshold
    else if same_bytes word (codes "y4m") then option_map forms.Y4m threshold
    else None

-- the shapes `evm FILE`, `boxes FILE`, `pgm T FILE` and `y4m T FILE`
abbrev pub form_file : List (List ℕ) → Option (LoadForm × List ℕ)
form_file [] = None
form_file (form ∷ []) = None
form_file (form ∷ file ∷ []) = option_zip (word_form form) (file_of file)
form_file (form ∷ threshold ∷ file ∷ []) = option_zip (threshold_form form (number threshold)) (file_of file)
form_file (form ∷ threshold ∷ file ∷ word ∷ rest) = None

-- a name before one of these
abbrev pub name_load : List (List ℕ) → Option (List ℕ × (LoadForm × List ℕ))
name_load [] = None
name_load (name ∷ rest) = option_zip (name_of name) (form_file rest)

-- the form of a file that is saved
abbrev pub save_form : List ℕ → Option SaveForm
save_form word =
    if same_bytes word (codes "evm") then Some saves.Evm
    else if same_bytes word (codes "boxes") then Some saves.Boxes
    else if same_bytes word (codes "faces") then Some saves.Faces
    else if same_bytes word (codes "obj") then Some saves.Obj
    else None

-- the shapes `evm FILE`, `boxes FILE`, `faces FILE` and `obj FILE`
abbrev pub save_file : List (List ℕ) → Option (SaveForm × List ℕ)
save_file [] = None
save_file (form ∷ []) = None
save_file (form ∷ file ∷ []) = option_zip (save_form form) (file_of file)
save_file (form ∷ file ∷ word ∷ rest) = None

-- a name before that
abbrev pub name_save : List (List ℕ) → Option (List ℕ × (SaveForm × List ℕ))
name_save [] = None
name_save (name ∷ rest) = option_zip (name_of name) (save_file rest)
