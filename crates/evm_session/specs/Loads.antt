-- What is read of a file, and what is tested before.
use Rattle.std.specs.Prelude.{ℕ, ◌≡◌, not, nat_le, Bool, ℤ, List, [], ◌∷◌, Option, None, Some, Result, Ok, Err}
use Rattle.evm_rows.specs.Rows.{Vertices}
use Rattle.evm_script.specs.declared.files.LoadForm.{LoadForm}
use Rattle.evm_model.specs.Figures.{Figure}
use Rattle.evm_model.specs.Files.{is_threshold, form_fits, form_in_range}
use Rattle.evm_model.specs.Scene.{Scene, dim_of}
use Rattle.evm_model.specs.Edits.{Code, Dim, Range, first_cause}
use Rattle.evm_model.specs.Steps.{load_causes}
use Rattle.evm_formulas.specs.Stated.{figure_of}
use Rattle.evm_session.specs.declared.refusals.Refusal.{Refusal}
use Rattle.evm_session.specs.declared.refusals.Refusal.TheVariants.{NoMemory, Form}
use Rattle.evm_session.specs.Refusals.{code_of}

-- what refuses images for an input of dimension n
abbrev pub image_causes : ℤ → ℕ → List (Bool × Code)
image_causes threshold n = (not (nat_le n 3), Dim) ∷ (not (is_threshold threshold), Range) ∷ []

-- what refuses a form for an input of dimension n
abbrev pub form_causes : LoadForm → ℕ → List (Bool × Code)
form_causes form n = (not (form_fits form n), Dim) ∷ (not (form_in_range form), Range) ∷ []

-- nothing refuses; or the refusal is the first cause
abbrev pub Tests : {X : Type 0} → Result X Refusal → List (Bool × Code) → Type 0
Tests (Ok found) causes = first_cause causes ≡ None
Tests (Err refusal) causes = first_cause causes ≡ Some (code_of refusal)

-- the dimension of an input into which a file can be loaded; or the first cause why none can
abbrev pub FindsInput : Result ℕ Refusal → Scene → List ℕ → LoadForm → Type 0
FindsInput (Ok dim) scene name form = (dim ≡ dim_of scene name) × (first_cause (load_causes scene name form) ≡ None)
FindsInput (Err refusal) scene name form = first_cause (load_causes scene name form) ≡ Some (code_of refusal)

-- the solid that is meant; or none is, or memory was missing
abbrev pub ReadsFigure : Result Vertices Refusal → Option Figure → Type 0
ReadsFigure (Ok solid) meant = meant ≡ Some (figure_of solid)
ReadsFigure (Err Form) meant = meant ≡ None
ReadsFigure (Err NoMemory) meant = Unit {0}
ReadsFigure (Err refusal) meant = ⊥
