-- The text of a command and of a formula, and which of them a value of the crate's types can be.
use Rattle.std.specs.Prelude.{ℕ, ◌≡◌, true, List, [], ◌∷◌, map, Some, Ok, codes}
use Rattle.std.specs.Fmt.{signed_decimal}
use Rattle.evm_outside.specs.Shelves.{is_file_name}
use Rattle.evm_text.specs.Words.{words}
use Rattle.evm_text.specs.Spaced.{spaced}
use Rattle.evm_text.specs.Numbers.{in_number_range}
use Rattle.evm_script.specs.Words.{is_name, keeps_nums}
use Rattle.evm_script.specs.Formulas.{formula_of}
use Rattle.evm_script.specs.Line.{command}
use Rattle.evm_script.specs.declared.command.Command.{Command}
use Rattle.evm_script.specs.declared.command.Command.TheVariants as commands
use Rattle.evm_script.specs.declared.files.LoadForm.{LoadForm}
use Rattle.evm_script.specs.declared.files.LoadForm.TheVariants as forms
use Rattle.evm_script.specs.declared.files.SaveForm.{SaveForm}
use Rattle.evm_script.specs.declared.files.SaveForm.TheVariants as saves
use Rattle.evm_script.specs.declared.formula.Formula.{Formula}
use Rattle.evm_script.specs.declared.formula.Formula.TheVariants as formulas

-- the words of a formula, as they stand after `def NAME`; each number in plain decimal
abbrev pub formula_words : Formula → List (List ℕ)
formula_words (formulas.Or a b) = codes "or" ∷ a ∷ b ∷ []
formula_words (formulas.And a b) = codes "and" ∷ a ∷ b ∷ []
formula_words (formulas.Sub a b) = codes "sub" ∷ a ∷ b ∷ []
formula_words (formulas.Xor a b) = codes "xor" ∷ a ∷ b ∷ []
formula_words (formulas.Box dim nums) = codes "box" ∷ signed_decimal dim ∷ map signed_decimal nums
formula_words (formulas.Shift a nums) = codes "shift" ∷ a ∷ map signed_decimal nums
formula_words (formulas.Mirror a axis) = codes "mirror" ∷ a ∷ signed_decimal axis ∷ []
formula_words (formulas.Swap a i j) = codes "swap" ∷ a ∷ signed_decimal i ∷ signed_decimal j ∷ []
formula_words (formulas.Clip a nums) = codes "clip" ∷ a ∷ map signed_decimal nums
formula_words (formulas.Slice a axis at) = codes "slice" ∷ a ∷ signed_decimal axis ∷ signed_decimal at ∷ []
formula_words (formulas.Proj a axis) = codes "proj" ∷ a ∷ signed_decimal axis ∷ []
formula_words (formulas.Lift a axis lo hi) = codes "lift" ∷ a ∷ signed_decimal axis ∷ signed_decimal lo ∷ signed_decimal hi ∷ []

-- the words of a form and a file, as they stand after `load NAME`
abbrev pub load_words : LoadForm → List ℕ → List (List ℕ)
load_words forms.Evm file = codes "evm" ∷ file ∷ []
load_words forms.Boxes file = codes "boxes" ∷ file ∷ []
load_words (forms.Pgm threshold) file = codes "pgm" ∷ signed_decimal threshold ∷ file ∷ []
load_words (forms.Y4m threshold) file = codes "y4m" ∷ signed_decimal threshold ∷ file ∷ []

-- the words of a form and a file, as they stand after `save NAME`
abbrev pub save_words : SaveForm → List ℕ → List (List ℕ)
save_words saves.Evm file = codes "evm" ∷ file ∷ []
save_words saves.Boxes file = codes "boxes" ∷ file ∷ []
save_words saves.Faces file = codes "faces" ∷ file ∷ []
save_words saves.Obj file = codes "obj" ∷ file ∷ []

-- the words of a command, each number in plain decimal
abbrev pub command_words : Command → List (List ℕ)
command_words commands.Blank = []
command_words (commands.Input name dim) = codes "input" ∷ name ∷ signed_decimal dim ∷ []
command_words (commands.Toggle name nums) = codes "toggle" ∷ name ∷ map signed_decimal nums
command_words (commands.Add name nums) = codes "add" ∷ name ∷ map signed_decimal nums
command_words (commands.Cut name nums) = codes "cut" ∷ name ∷ map signed_decimal nums
command_words (commands.Load name form file) = codes "load" ∷ name ∷ load_words form file
command_words (commands.Def name formula) = codes "def" ∷ name ∷ formula_words formula
command_words (commands.Drop name) = codes "drop" ∷ name ∷ []
command_words (commands.Show name) = codes "show" ∷ name ∷ []
command_words (commands.Content name) = codes "content" ∷ name ∷ []
command_words (commands.Boundary name) = codes "boundary" ∷ name ∷ []
command_words (commands.At name nums) = codes "at" ∷ name ∷ map signed_decimal nums
command_words (commands.Point name nums) = codes "point" ∷ name ∷ map signed_decimal nums
command_words (commands.Section name axis at) = codes "section" ∷ name ∷ signed_decimal axis ∷ signed_decimal at ∷ []
command_words (commands.Project name axis) = codes "project" ∷ name ∷ signed_decimal axis ∷ []
command_words (commands.Faces name axis) = codes "faces" ∷ name ∷ signed_decimal axis ∷ []
command_words (commands.Parts name) = codes "parts" ∷ name ∷ []
command_words (commands.Report name) = codes "report" ∷ name ∷ []
command_words (commands.Save name form file) = codes "save" ∷ name ∷ save_words form file
command_words commands.List = codes "list" ∷ []
command_words (commands.Meter slot name) = codes "meter" ∷ signed_decimal slot ∷ name ∷ []
command_words (commands.Read slot) = codes "read" ∷ signed_decimal slot ∷ []
command_words (commands.Unmeter slot) = codes "unmeter" ∷ signed_decimal slot ∷ []

-- the text of a command, without a line feed
abbrev pub printed : Command → List ℕ
printed what = spaced (command_words what)

-- a formula whose names and numbers keep their rules, as those of each value do
abbrev pub FormulaKeepsRules : Formula → Type 0
FormulaKeepsRules (formulas.Or a b) = (is_name a ≡ true) × (is_name b ≡ true)
FormulaKeepsRules (formulas.And a b) = (is_name a ≡ true) × (is_name b ≡ true)
FormulaKeepsRules (formulas.Sub a b) = (is_name a ≡ true) × (is_name b ≡ true)
FormulaKeepsRules (formulas.Xor a b) = (is_name a ≡ true) × (is_name b ≡ true)
FormulaKeepsRules (formulas.Box dim nums) = (in_number_range dim ≡ true) × (keeps_nums nums ≡ true)
FormulaKeepsRules (formulas.Shift a nums) = (is_name a ≡ true) × (keeps_nums nums ≡ true)
FormulaKeepsRules (formulas.Mirror a axis) = (is_name a ≡ true) × (in_number_range axis ≡ true)
FormulaKeepsRules (formulas.Swap a i j) = (is_name a ≡ true) × (in_number_range i ≡ true) × (in_number_range j ≡ true)
FormulaKeepsRules (formulas.Clip a nums) = (is_name a ≡ true) × (keeps_nums nums ≡ true)
FormulaKeepsRules (formulas.Slice a axis at) = (is_name a ≡ true) × (in_number_range axis ≡ true) × (in_number_range at ≡ true)
FormulaKeepsRules (formulas.Proj a axis) = (is_name a ≡ true) × (in_number_range axis ≡ true)
FormulaKeepsRules (formulas.Lift a axis lo hi) =
    (is_name a ≡ true) × (in_number_range axis ≡ true) × (in_number_range lo ≡ true) × (in_number_range hi ≡ true)

-- a form whose threshold, if it has one, keeps the rule of numbers
abbrev pub FormKeepsRules : LoadForm → Type 0
FormKeepsRules forms.Evm = Unit {0}
FormKeepsRules forms.Boxes = Unit {0}
FormKeepsRules (forms.Pgm threshold) = in_number_range threshold ≡ true
FormKeepsRules (forms.Y4m threshold) = in_number_range threshold ≡ true

-- a command whose names, numbers and files keep their rules
abbrev pub KeepsRules : Command → Type 0
KeepsRules commands.Blank = Unit {0}
KeepsRules (commands.Input name dim) = (is_name name ≡ true) × (in_number_range dim ≡ true)
KeepsRules (commands.Toggle name nums) = (is_name name ≡ true) × (keeps_nums nums ≡ true)
KeepsRules (commands.Add name nums) = (is_name name ≡ true) × (keeps_nums nums ≡ true)
KeepsRules (commands.Cut name nums) = (is_name name ≡ true) × (keeps_nums nums ≡ true)
KeepsRules (commands.Load name form file) = (is_name name ≡ true) × FormKeepsRules form × (is_file_name file ≡ true)
KeepsRules (commands.Def name formula) = (is_name name ≡ true) × FormulaKeepsRules formula
KeepsRules (commands.Drop name) = is_name name ≡ true
KeepsRules (commands.Show name) = is_name name ≡ true
KeepsRules (commands.Content name) = is_name name ≡ true
KeepsRules (commands.Boundary name) = is_name name ≡ true
KeepsRules (commands.At name nums) = (is_name name ≡ true) × (keeps_nums nums ≡ true)
KeepsRules (commands.Point name nums) = (is_name name ≡ true) × (keeps_nums nums ≡ true)
KeepsRules (commands.Section name axis at) = (is_name name ≡ true) × (in_number_range axis ≡ true) × (in_number_range at ≡ true)
KeepsRules (commands.Project name axis) = (is_name name ≡ true) × (in_number_range axis ≡ true)
KeepsRules (commands.Faces name axis) = (is_name name ≡ true) × (in_number_range axis ≡ true)
KeepsRules (commands.Parts name) = is_name name ≡ true
KeepsRules (commands.Report name) = is_name name ≡ true
KeepsRules (commands.Save name form file) = (is_name name ≡ true) × (is_file_name file ≡ true)
KeepsRules commands.List = Unit {0}
KeepsRules (commands.Meter slot name) = (in_number_range slot ≡ true) × (is_name name ≡ true)
KeepsRules (commands.Read slot) = in_number_range slot ≡ true
KeepsRules (commands.Unmeter slot) = in_number_range slot ≡ true

-- a command's text is a line that is read as this command
abbrev pub IsReadAgain : Command → Type 0
IsReadAgain what = command (printed what) ≡ Ok what

-- a formula's text has the words of this formula
abbrev pub IsFormulaAgain : Formula → Type 0
IsFormulaAgain what = formula_of (words (spaced (formula_words what))) ≡ Some what
