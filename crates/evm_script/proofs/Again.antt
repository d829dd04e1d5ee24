-- A printed command is read again.
use Rattle.std.proofs.Common.{◌≡◌, ℕ, ◌≤◌, Bool, true, List, [], ◌∷◌, length, map, refl, ◌∙◌, ap, arith, nat_lt, ℤ, Option, Some, Ok, Err, if◌then◌else◌, codes}
use Rattle.std.specs.Prelude.{option_map}
use Rattle.std.specs.Option.{option_zip}
use Rattle.std.specs.Fmt.{signed_decimal}
use Rattle.std.specs.List.{list_all}
use Rattle.evm_outside.specs.Shelves.{is_file_name}
use Rattle.evm_text.specs.Words.{words}
use Rattle.evm_text.specs.Numbers.{in_number_range}
use Rattle.evm_script.specs.Words.{is_name, keeps_nums, line_max}
use Rattle.evm_script.specs.Shapes.{of_pair, of_three}
use Rattle.evm_script.specs.Formulas.{formula_of}
use Rattle.evm_script.specs.Line.{command, command_of_words, form_of, or_syntax}
use Rattle.evm_text.specs.Spaced.{spaced}
use Rattle.evm_script.specs.Printed.{printed, formula_words, load_words, save_words, FormulaKeepsRules, FormKeepsRules, KeepsRules, IsReadAgain}
use Rattle.evm_script.specs.declared.command.Command.{Command}
use Rattle.evm_script.specs.declared.command.Command.TheVariants as commands
use Rattle.evm_script.specs.declared.command.LineError.TheVariants.{Long}
use Rattle.evm_script.specs.declared.files.LoadForm.{LoadForm}
use Rattle.evm_script.specs.declared.files.SaveForm.{SaveForm}
use Rattle.evm_script.specs.declared.formula.Formula.{Formula}
use Rattle.evm_text.proofs.Spaced.{is_plain, words_spaced, no_cr_spaced}
use Rattle.evm_text.proofs.Decimals.{number_again}
use Rattle.evm_script.proofs.Spaced.{short_spaced}
use Rattle.evm_script.proofs.ShapesAgain.{named_plain, one_plain, two_plain, plain_nums, few_nums, name_again, name_number_again, name_two_again, name_numbers_again, zip_again, plain_name, plain_more, counted_plain, number_name_again}
use Rattle.evm_script.proofs.FormulasAgain.{words_of_formula}
use Rattle.evm_script.proofs.FilesAgain.{words_of_load, words_of_save}

-- a line of plain words is the command of these words
read_spaced : (ws : List (List ℕ)) → list_all is_plain ws ≡ true → length ws ≤ 20 → command (spaced ws) ≡ command_of_words ws
unfolding command
read_spaced ws h few =
    ap (λ (line : List ℕ). if nat_lt line_max (length line) then Err Long else command_of_words (words line)) (no_cr_spaced ws h)
    ∙ ap (λ (b : Bool). if b then Err Long else command_of_words (words (spaced ws))) (short_spaced ws h few)
    ∙ ap command_of_words (words_spaced ws h)

-- the same of a first word, a name and further words
read_named : (first name : List ℕ) (ws : List (List ℕ)) → is_plain first ≡ true → is_name name ≡ true → list_all is_plain ws ≡ true → length ws ≤ 18 → command (spaced (first ∷ name ∷ ws)) ≡ command_of_words (first ∷ name ∷ ws)
read_named first name ws p h k few = read_spaced (first ∷ name ∷ ws) (named_plain first name ws p h k) (omega arith)

-- a first word and a name
with_name : (first name : List ℕ) → is_plain first ≡ true → is_name name ≡ true → command (spaced (first ∷ name ∷ [])) ≡ command_of_words (first ∷ name ∷ [])
with_name first name p h = read_named first name [] p h refl (omega arith)

-- a first word, a name and a number
with_number : (first name : List ℕ) (n : ℤ) → is_plain first ≡ true → is_name name ≡ true → in_number_range n ≡ true → command (spaced (first ∷ name ∷ signed_decimal n ∷ [])) ≡ command_of_words (first ∷ name ∷ signed_decimal n ∷ [])
with_number first name n p h k = read_named first name (signed_decimal n ∷ []) p h (one_plain n k) (omega arith)

-- a first word, a name and a list of numbers
with_numbers : (first name : List ℕ) (ns : List ℤ) → is_plain first ≡ true → is_name name ≡ true → keeps_nums ns ≡ true → command (spaced (first ∷ name ∷ map signed_decimal ns)) ≡ command_of_words (first ∷ name ∷ map signed_decimal ns)
with_numbers first name ns p h k = read_named first name (map signed_decimal ns) p h (plain_nums ns k) (omega (arith, few_nums ns k))

-- a first word and the number of a slot
with_slot : (first : List ℕ) (n : ℤ) → is_plain first ≡ true → in_number_range n ≡ true → command (spaced (first ∷ signed_decimal n ∷ [])) ≡ command_of_words (first ∷ signed_decimal n ∷ [])
with_slot first n p h = read_spaced (first ∷ signed_decimal n ∷ []) (counted_plain first n [] p h refl) (omega arith)

-- a definition
definition_again : (name : List ℕ) (f : Formula) → is_name name ≡ true → FormulaKeepsRules f → IsReadAgain (commands.Def name f)
unfolding form_of
definition_again name f h k =
    let again = words_of_formula f k in
    read_named (codes "def") name (formula_words f) refl h again.plain (omega (arith, again.few))
    ∙ ap (λ (o : Option (List ℕ)). or_syntax (option_map (of_pair commands.Def) (option_zip o (formula_of (formula_words f))))) (name_again name h)
    ∙ ap (λ (o : Option Formula). or_syntax (option_map (of_pair commands.Def) (option_zip (Some name) o))) again.read

-- a load and a save
load_again : (name : List ℕ) (form : LoadForm) (file : List ℕ) → is_name name ≡ true → FormKeepsRules form → is_file_name file ≡ true → IsReadAgain (commands.Load name form file)
unfolding form_of
load_again name form file h k i =
    let again = words_of_load form file k i in
    read_named (codes "load") name (load_words form file) refl h again.plain (omega (arith, again.few))
    ∙ ap (λ (o : Option (List ℕ × (LoadForm × List ℕ))). or_syntax (option_map (of_three commands.Load) o)) (zip_again name (form, file) (name_again name h) again.read)

save_again : (name : List ℕ) (form : SaveForm) (file : List ℕ) → is_name name ≡ true → is_file_name file ≡ true → IsReadAgain (commands.Save name form file)
unfolding form_of
save_again name form file h k =
    let again = words_of_save form file k in
    read_named (codes "save") name (save_words form file) refl h again.plain (omega (arith, again.few))
    ∙ ap (λ (o : Option (List ℕ × (SaveForm × List ℕ))). or_syntax (option_map (of_three commands.Save) o)) (zip_again name (form, file) (name_again name h) again.read)

-- each command
pub read_again : (c : Command) → KeepsRules c → IsReadAgain c
unfolding form_of
read_again commands.Blank h = read_spaced [] refl (omega arith)
read_again (commands.Input name dim) h =
    with_number (codes "input") name dim refl h.0 h.1
    ∙ ap (λ (o : Option (List ℕ × ℤ)). or_syntax (option_map (of_pair commands.Input) o)) (name_number_again name dim h.0 h.1)
read_again (commands.Toggle name nums) h =
    with_numbers (codes "toggle") name nums refl h.0 h.1
    ∙ ap (λ (o : Option (List ℕ × List ℤ)). or_syntax (option_map (of_pair commands.Toggle) o)) (name_numbers_again name nums h.0 h.1)
read_again (commands.Add name nums) h =
    with_numbers (codes "add") name nums refl h.0 h.1
    ∙ ap (λ (o : Option (List ℕ × List ℤ)). or_syntax (option_map (of_pair commands.Add) o)) (name_numbers_again name nums h.0 h.1)
read_again (commands.Cut name nums) h =
    with_numbers (codes "cut") name nums refl h.0 h.1
    ∙ ap (λ (o : Option (List ℕ × List ℤ)). or_syntax (option_map (of_pair commands.Cut) o)) (name_numbers_again name nums h.0 h.1)
read_again (commands.Load name form file) h = load_again name form file h.0 h.1 h.2
read_again (commands.Def name formula) h = definition_again name formula h.0 h.1
read_again (commands.Drop name) h =
    with_name (codes "drop") name refl h ∙ ap (λ (o : Option (List ℕ)). or_syntax (option_map commands.Drop o)) (name_again name h)
read_again (commands.Show name) h =
    with_name (codes "show") name refl h ∙ ap (λ (o : Option (List ℕ)). or_syntax (option_map commands.Show o)) (name_again name h)
read_again (commands.Content name) h =
    with_name (codes "content") name refl h ∙ ap (λ (o : Option (List ℕ)). or_syntax (option_map commands.Content o)) (name_again name h)
read_again (commands.Boundary name) h =
    with_name (codes "boundary") name refl h ∙ ap (λ (o : Option (List ℕ)). or_syntax (option_map commands.Boundary o)) (name_again name h)
read_again (commands.At name nums) h =
    with_numbers (codes "at") name nums refl h.0 h.1
    ∙ ap (λ (o : Option (List ℕ × List ℤ)). or_syntax (option_map (of_pair commands.At) o)) (name_numbers_again name nums h.0 h.1)
read_again (commands.Point name nums) h =
    with_numbers (codes "point") name nums refl h.0 h.1
    ∙ ap (λ (o : Option (List ℕ × List ℤ)). or_syntax (option_map (of_pair commands.Point) o)) (name_numbers_again name nums h.0 h.1)
read_again (commands.Section name axis at) h =
    read_named (codes "section") name (signed_decimal axis ∷ signed_decimal at ∷ []) refl h.0
    (two_plain axis at h.1 h.2) (omega arith)
    ∙ ap (λ (o : Option (List ℕ × (ℤ × ℤ))). or_syntax (option_map (of_three commands.Section) o)) (name_two_again name axis at h.0 h.1 h.2)
read_again (commands.Project name axis) h =
    with_number (codes "project") name axis refl h.0 h.1
    ∙ ap (λ (o : Option (List ℕ × ℤ)). or_syntax (option_map (of_pair commands.Project) o)) (name_number_again name axis h.0 h.1)
read_again (commands.Faces name axis) h =
    with_number (codes "faces") name axis refl h.0 h.1
    ∙ ap (λ (o : Option (List ℕ × ℤ)). or_syntax (option_map (of_pair commands.Faces) o)) (name_number_again name axis h.0 h.1)
read_again (commands.Parts name) h =
    with_name (codes "parts") name refl h ∙ ap (λ (o : Option (List ℕ)). or_syntax (option_map commands.Parts o)) (name_again name h)
read_again (commands.Report name) h =
    with_name (codes "report") name refl h ∙ ap (λ (o : Option (List ℕ)). or_syntax (option_map commands.Report o)) (name_again name h)
read_again (commands.Save name form file) h = save_again name form file h.0 h.1
read_again commands.List h = read_spaced (codes "list" ∷ []) refl (omega arith)
read_again (commands.Meter slot name) h =
    read_spaced (codes "meter" ∷ signed_decimal slot ∷ name ∷ [])
    (counted_plain (codes "meter") slot (name ∷ []) refl h.0 (plain_more name [] (plain_name name h.1) refl)) (omega arith)
    ∙ ap (λ (o : Option (ℤ × List ℕ)). or_syntax (option_map (of_pair commands.Meter) o)) (number_name_again slot name h.0 h.1)
read_again (commands.Read slot) h =
    with_slot (codes "read") slot refl h ∙ ap (λ (o : Option ℤ). or_syntax (option_map commands.Read o)) (number_again slot h)
read_again (commands.Unmeter slot) h =
    with_slot (codes "unmeter") slot refl h ∙ ap (λ (o : Option ℤ). or_syntax (option_map commands.Unmeter o)) (number_again slot h)

-- commands with one text are one command
pub same_command : (c d : Command) → KeepsRules c → KeepsRules d → printed c ≡ printed d → c ≡ d
same_command c d h k e =
    let first : command (printed c) ≡ Ok c = read_again c h in
    let second : command (printed c) ≡ Ok d = ap command e ∙ read_again d k in
    cc
