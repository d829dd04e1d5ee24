-- Loads and saves, as the model states them.
use Rattle.std.proofs.Common.{◌≡◌, ℕ, ◌+◌, ◌≤◌, ◌==◌, Bool, true, false, not, cond, if◌then◌else◌, List, [], ◌∷◌, ◌++◌, Option, Some, None, is_some, is_none, Result, Ok, Err, length, ℤ, nat_abs, refl, sym, ap, ◌∙◌, subst, arith}
use Rattle.std.proofs.lemmas.Bool.Decides.{Decides-eqb}
use Rattle.evm_outside.specs.Shelves.{KeepsFiles, HasFile, PlacesFile}
use Rattle.evm_formats.specs.BoxFile.{file_cells}
use Rattle.evm_formats.specs.Pgm.{pgm_cells}
use Rattle.evm_formats.specs.Y4m.{y4m_cells}
use Rattle.evm_script.specs.declared.command.Command.TheVariants as commands
use Rattle.evm_script.specs.declared.files.LoadForm.{LoadForm}
use Rattle.evm_script.specs.declared.files.LoadForm.TheVariants as forms
use Rattle.evm_script.specs.declared.files.SaveForm.{SaveForm}
use Rattle.evm_model.specs.Figures.{Figure}
use Rattle.evm_model.specs.Files.{Fetches, figure_in, figure_fetched, figure_stated, or_nothing, form_fits, form_in_range, save_fits, bytes_in}
use Rattle.evm_model.specs.Scene.{Scene, stands, is_input, dim_of, value}
use Rattle.evm_model.specs.Edits.{Code, Name, Kind, Dim, Range, Missing, Form, Replace, first_cause, value_causes, after, changed}
use Rattle.evm_model.specs.Replies.{No, Changed, Measured, reply_text}
use Rattle.evm_model.specs.Work.{work}
use Rattle.evm_model.specs.LineWork.{load_work}
use Rattle.evm_model.specs.Steps.{Turn, stays, unless_refused, edited, load_causes, file_causes, loaded, load_turn, save_causes, saved}
use Rattle.evm_session.specs.declared.refusals.Refusal.{Refusal}
use Rattle.evm_session.specs.declared.refusals.Refusal.TheVariants as refusals
use Rattle.evm_session.specs.Answers.{Around}
use Rattle.evm_session.specs.Carried.{Carries}
use Rattle.evm_session.specs.Loads.{ReadsFigure}
use Rattle.evm_session.specs.Refusals.{code_of}
use Rattle.evm_session.specs.Requests.{request_of, IsTurnOf, CarriesOver}
use Rattle.evm_session.specs.Says.{Extends}
use Rattle.evm_session.proofs.Rows.{extends_itself}
use Rattle.evm_session.proofs.Turns.{refusal_itself, text_itself}
use Rattle.evm_session.proofs.Shelved.{code_of_shelf, maybe_of_shelf, quiet_first, quiet_turn, one_turn, fetched_turn, placed_told, placed_files, carried_quiet, carried_alone}

-- ---- causes before the file is fetched

past_four : (a b c d : Bool) (rest : List (Bool × Code)) → first_cause ((a, Name) ∷ (b, Kind) ∷ (c, Dim) ∷ (d, Range) ∷ []) ≡ None
    → first_cause ((a, Name) ∷ (b, Kind) ∷ (c, Dim) ∷ (d, Range) ∷ rest) ≡ first_cause rest
past_four true b c d rest h = cc
past_four false true c d rest h = cc
past_four false false true d rest h = cc
past_four false false false true rest h = cc
past_four false false false false rest h = refl

at_four : (a b c d : Bool) (rest : List (Bool × Code)) (code : Code) → first_cause ((a, Name) ∷ (b, Kind) ∷ (c, Dim) ∷ (d, Range) ∷ []) ≡ Some code
    → first_cause ((a, Name) ∷ (b, Kind) ∷ (c, Dim) ∷ (d, Range) ∷ rest) ≡ Some code
at_four true b c d rest code h = h
at_four false true c d rest code h = h
at_four false false true d rest code h = h
at_four false false false true rest code h = h
at_four false false false false rest code h = cc

none_of_four : (a b c d : Bool) → first_cause ((a, Name) ∷ (b, Kind) ∷ (c, Dim) ∷ (d, Range) ∷ []) ≡ None → (a ≡ false) × (b ≡ false) × (c ≡ false) × (d ≡ false)
none_of_four true b c d h = cc
none_of_four false true c d h = cc
none_of_four false false true d h = cc
none_of_four false false false true h = cc
none_of_four false false false false h = (refl, refl, refl, refl)

holds : (b : Bool) → not b ≡ false → b ≡ true
holds true h = refl
holds false h = sym h

-- what holds where nothing refuses a load before its file
pub record IsLoadable (scene : Scene) (name : List ℕ) (form : LoadForm) : Type 0 where
  pub stand : stands scene name ≡ true
  pub input : is_input scene name ≡ true
  pub fits : form_fits form (dim_of scene name) ≡ true
  pub range : form_in_range form ≡ true

pub loadable : (scene : Scene) (name : List ℕ) (form : LoadForm) → first_cause (load_causes scene name form) ≡ None → IsLoadable scene name form
loadable scene name form h =
    let all = none_of_four (not (stands scene name)) (not (is_input scene name)) (not (form_fits form (dim_of scene name))) (not (form_in_range form)) h in record {
      stand = holds _ all.0;
      input = holds _ all.1;
      fits = holds _ all.2;
      range = holds _ all.3;
    }

-- ---- by the file

-- the turn of a load by what its fetch gave
abbrev pub load_by : Scene → List ℕ → LoadForm → List ℕ → Option (List ℕ) → Turn
load_by scene name form file got = load_turn (λ _. got) scene name form file

-- another figure was put in place
abbrev pub replaced : Scene → List ℕ → Figure → Turn
replaced scene name figure = record { reply = Changed (changed scene (Replace name figure)); scene = after scene (Replace name figure); placed = None }

-- refused before the file is fetched
pub load_refused : (fetched : Fetches) (scene : Scene) (name : List ℕ) (form : LoadForm) (file : List ℕ) (code : Code) → first_cause (load_causes scene name form) ≡ Some code → load_turn fetched scene name form file ≡ stays scene (No code)
load_refused fetched scene name form file code h =
    ap (λ (o : Option Code). unless_refused o scene (replaced scene name (loaded fetched scene name form file)))
    (at_four (not (stands scene name)) (not (is_input scene name)) (not (form_fits form (dim_of scene name))) (not (form_in_range form)) (file_causes fetched scene name form file) code h)

-- nothing refuses before the file
past_load : (scene : Scene) (name : List ℕ) (form : LoadForm) (file : List ℕ) (got : Option (List ℕ)) → first_cause (load_causes scene name form) ≡ None
    → load_by scene name form file got ≡ unless_refused (first_cause (file_causes (λ _. got) scene name form file)) scene (replaced scene name (loaded (λ _. got) scene name form file))
past_load scene name form file got h =
    ap (λ (o : Option Code). unless_refused o scene (replaced scene name (loaded (λ _. got) scene name form file)))
    (past_four (not (stands scene name)) (not (is_input scene name)) (not (form_fits form (dim_of scene name))) (not (form_in_range form)) (file_causes (λ _. got) scene name form file) h)

-- there is no file
pub load_missing : (scene : Scene) (name : List ℕ) (form : LoadForm) (file : List ℕ) → first_cause (load_causes scene name form) ≡ None → load_by scene name form file None ≡ stays scene (No Missing)
load_missing scene name form file h = past_load scene name form file None h

-- the turn of a load by the figure that its file states
abbrev pub load_figure : Scene → List ℕ → Option Figure → Turn
load_figure scene name found =
    unless_refused (first_cause ((is_none found, Form) ∷ value_causes (after scene (Replace name (or_nothing (dim_of scene name) found))))) scene (replaced scene name (or_nothing (dim_of scene name) found))

-- the bytes of the file state none
pub load_unread : (scene : Scene) (name : List ℕ) (form : LoadForm) (file bytes : List ℕ) → first_cause (load_causes scene name form) ≡ None → figure_in form (dim_of scene name) bytes ≡ None
    → load_by scene name form file (Some bytes) ≡ stays scene (No Form)
load_unread scene name form file bytes h e = past_load scene name form file (Some bytes) h ∙ ap (load_figure scene name) e

dim_or : ℕ → Option Figure → ℕ
dim_or n None = n
dim_or n (Some a) = a.dim

dim_stated : {E : Type 0} (n : ℕ) (r : Result (List (List ℤ)) E) → dim_or n (figure_stated n r) ≡ n
unfolding dim_or
dim_stated n (Ok cells) = refl
dim_stated n (Err e) = refl

dim_tested : (n : ℕ) (b : Bool) (a : Figure) → a.dim ≡ n → dim_or n (cond b (Some a) None) ≡ n
unfolding dim_or
dim_tested n true a e = e
dim_tested n false a e = refl

-- the figure that a file states has the dimension that is asked for
dim_read : (form : LoadForm) (n : ℕ) (bytes : List ℕ) → dim_or n (figure_in form n bytes) ≡ n
unfolding figure_in
dim_read forms.Evm n bytes = dim_tested n _ _ refl
dim_read forms.Boxes n bytes = dim_stated n (file_cells n bytes)
dim_read (forms.Pgm threshold) n bytes = dim_stated n (pgm_cells n (nat_abs threshold) bytes)
dim_read (forms.Y4m threshold) n bytes = dim_stated n (y4m_cells n (nat_abs threshold) bytes)

dim_found : (form : LoadForm) (n : ℕ) (bytes : List ℕ) (a : Figure) → figure_in form n bytes ≡ Some a → a.dim ≡ n
unfolding dim_or
dim_found form n bytes a e = sym (ap (dim_or n) e) ∙ dim_read form n bytes

-- the figure of an input's dimension that is put in its place is refused by values alone
replaced_by : (scene : Scene) (name : List ℕ) (a : Figure) → stands scene name ≡ true → is_input scene name ≡ true → a.dim ≡ dim_of scene name
    → edited scene (Replace name a) (Changed (changed scene (Replace name a))) ≡ load_figure scene name (Some a)
replaced_by scene name a s i d =
    let values = value_causes (after scene (Replace name a)) in
    let turn = replaced scene name a in
    let same : (a.dim == dim_of scene name) ≡ true = (Decides-eqb a.dim (dim_of scene name)).1 d in
    ap (λ (b : Bool). unless_refused (first_cause ((not b, Name) ∷ (not (is_input scene name), Kind) ∷ (not (a.dim == dim_of scene name), Dim) ∷ values)) scene turn) s
    ∙ ap (λ (b : Bool). unless_refused (first_cause ((not b, Kind) ∷ (not (a.dim == dim_of scene name), Dim) ∷ values)) scene turn) i
    ∙ ap (λ (b : Bool). unless_refused (first_cause ((not b, Dim) ∷ values)) scene turn) same

-- the bytes of the file state a figure, which is put in place
pub load_edits : (scene : Scene) (name : List ℕ) (form : LoadForm) (file bytes : List ℕ) (a : Figure) → first_cause (load_causes scene name form) ≡ None → figure_in form (dim_of scene name) bytes ≡ Some a
    → edited scene (Replace name a) (Changed (changed scene (Replace name a))) ≡ load_by scene name form file (Some bytes)
load_edits scene name form file bytes a h e =
    let all = loadable scene name form h in
    replaced_by scene name a all.stand all.input (dim_found form (dim_of scene name) bytes a e)
    ∙ sym (past_load scene name form file (Some bytes) h ∙ ap (load_figure scene name) e)

-- ---- over the shelf

-- a load that is refused before its file is fetched
pub load_early : (refusal : Refusal) (scene : Scene) (name : List ℕ) (form : LoadForm) (file before : List ℕ) (around : Around) → first_cause (load_causes scene name form) ≡ Some (code_of refusal)
    → CarriesOver (Err refusal) scene scene before before around around (request_of scene (commands.Load name form file))
load_early refusal scene name form file before around h =
    let quiet : code_of_shelf (code_of refusal) ≡ false = sym (ap maybe_of_shelf h) ∙ quiet_first (load_causes scene name form) refl in
    carried_alone (Err refusal) scene scene before before around around (request_of scene (commands.Load name form file)) (stays scene (No (code_of refusal))) refl refl refl
    (λ fetched. load_refused fetched scene name form file (code_of refusal) h) (λ fetched. omega arith) (record { reply = quiet; placed = refl })
    (refusal_itself refusal scene, text_itself refusal before, refl)

-- the work of a load by what its fetch gave
abbrev pub load_work_by : Scene → List ℕ → LoadForm → List ℕ → Option (List ℕ) → ℕ
load_work_by scene name form file got = load_work (λ _. got) scene name form file

load_work_same : (scene : Scene) (name : List ℕ) (form : LoadForm) (file : List ℕ) (got : Option (List ℕ)) (fetched : Fetches) → fetched file ≡ got → load_work fetched scene name form file ≡ load_work_by scene name form file got
load_work_same scene name form file got fetched e = rw e refl

-- the work of a load by the figure that its file states
abbrev pub figure_work : Scene → List ℕ → Option Figure → ℕ
figure_work scene name found = if is_some (first_cause ((is_none found, Form) ∷ [])) then 0 else work scene (Replace name (or_nothing (dim_of scene name) found))

-- it is that of the edit that puts the figure there
pub load_works : (scene : Scene) (name : List ℕ) (form : LoadForm) (file bytes : List ℕ) (a : Figure) → first_cause (load_causes scene name form) ≡ None → figure_in form (dim_of scene name) bytes ≡ Some a
    → work scene (Replace name a) ≡ load_work_by scene name form file (Some bytes)
load_works scene name form file bytes a h e =
    sym (ap (λ (o : Option Code). if is_some o then 0 else work scene (Replace name (loaded (λ _. Some bytes) scene name form file)))
    (past_four (not (stands scene name)) (not (is_input scene name)) (not (form_fits form (dim_of scene name))) (not (form_in_range form))
    ((is_none (Some bytes), Missing) ∷ (is_none (figure_fetched form (dim_of scene name) (Some bytes)), Form) ∷ []) h)
    ∙ ap (figure_work scene name) e)

-- the turn of a load that fetched
pub load_turn_of : (old new : Around) (scene : Scene) (name : List ℕ) (form : LoadForm) (file : List ℕ) (got : Option (List ℕ)) → first_cause (load_causes scene name form) ≡ None → HasFile old.files file got
    → new.steps ≤ old.steps + load_work_by scene name form file got → IsTurnOf old new (request_of scene (commands.Load name form file)) (load_by scene name form file got)
load_turn_of old new scene name form file got h has few =
    fetched_turn old new (request_of scene (commands.Load name form file)) file (load_by scene name form file) (load_work_by scene name form file) got (ap (λ (o : Option Code). is_none o) h)
    (λ fetched. refl) (λ got fetched e. load_work_same scene name form file got fetched e) has few

-- a load whose file was fetched
pub load_over : (r : Result (Unit {0}) Refusal) (old new : Scene) (before now : List ℕ) (around_old around_new : Around) (name : List ℕ) (form : LoadForm) (file bytes : List ℕ)
    → first_cause (load_causes old name form) ≡ None → HasFile around_old.files file (Some bytes) → KeepsFiles around_old.files around_new.files → around_new.faults ≡ around_old.faults → around_new.misses ≡ around_old.misses
    → around_new.steps ≤ around_old.steps + load_work_by old name form file (Some bytes)
    → Carries r old new before now (load_by old name form file (Some bytes)) → CarriesOver r old new before now around_old around_new (request_of old (commands.Load name form file))
load_over r old new before now around_old around_new name form file bytes h has kept faults misses few carried =
    carried_quiet r old new before now around_old around_new (request_of old (commands.Load name form file)) (load_by old name form file (Some bytes))
    (load_turn_of around_old around_new old name form file (Some bytes) h has few)
    (quiet_turn (load_causes old name form ++ file_causes (λ _. Some bytes) old name form file) old (replaced old name (loaded (λ _. Some bytes) old name form file)) refl (record { reply = refl; placed = refl })) kept faults misses carried

-- a load whose file was fetched and not read
pub unread_carries : (refusal : Refusal) (scene : Scene) (name : List ℕ) (form : LoadForm) (file bytes before now : List ℕ) → first_cause (load_causes scene name form) ≡ None → now ≡ before
    → ReadsFigure (Err refusal) (figure_in form (dim_of scene name) bytes) → Carries (Err refusal) scene scene before now (load_by scene name form file (Some bytes))
unread_carries refusals.Form scene name form file bytes before now h text e = (load_unread scene name form file bytes h e, text, refl)
unread_carries refusals.NoMemory scene name form file bytes before now h text e = (tt, subst (Extends before) (sym text) (extends_itself before), refl)
unread_carries refusal scene name form file bytes before now h text e = absurd e

-- a save by its causes, where the name stands
save_by : (scene : Scene) (name : List ℕ) (form : SaveForm) (turn : Turn) (b : Bool) → stands scene name ≡ true → save_fits form (dim_of scene name) ≡ b
    → unless_refused (first_cause (save_causes scene name form)) scene turn ≡ unless_refused (first_cause ((not b, Dim) ∷ [])) scene turn
save_by scene name form turn b s f =
    ap (λ (t : Bool). unless_refused (first_cause ((not t, Name) ∷ (not (save_fits form (dim_of scene name)), Dim) ∷ [])) scene turn) s
    ∙ ap (λ (t : Bool). unless_refused (first_cause ((not t, Dim) ∷ [])) scene turn) f

-- a save in a form that has no solids of the dimension
pub save_unfit : (scene : Scene) (name : List ℕ) (form : SaveForm) (file before : List ℕ) (around : Around) → stands scene name ≡ true → save_fits form (dim_of scene name) ≡ false
    → CarriesOver (Err refusals.Dim) scene scene before before around around (request_of scene (commands.Save name form file))
save_unfit scene name form file before around s f =
    carried_alone (Err refusals.Dim) scene scene before before around around (request_of scene (commands.Save name form file)) (stays scene (No Dim)) refl refl refl
    (λ fetched. save_by scene name form (saved scene file (bytes_in form (value scene name))) false s f) (λ fetched. omega arith) (record { reply = refl; placed = refl }) (refl, refl, refl)

-- a save whose file was placed
pub save_done : (scene : Scene) (name : List ℕ) (form : SaveForm) (file bytes before now : List ℕ) (around_old around_new : Around) → stands scene name ≡ true → save_fits form (dim_of scene name) ≡ true → bytes ≡ bytes_in form (value scene name)
    → now ≡ before ++ reply_text (Measured (length bytes)) → PlacesFile around_old.files around_new.files file bytes → around_new.faults ≡ around_old.faults → around_new.misses ≡ around_old.misses
    → around_new.steps ≤ around_old.steps → CarriesOver (Ok tt) scene scene before now around_old around_new (request_of scene (commands.Save name form file))
save_done scene name form file bytes before now around_old around_new s f e text placed faults misses few = record {
  turn = saved scene file bytes;
  made = one_turn around_old around_new (request_of scene (commands.Save name form file)) (saved scene file bytes)
      (λ fetched. save_by scene name form (saved scene file (bytes_in form (value scene name))) true s f ∙ ap (saved scene file) (sym e)) (λ fetched. omega (arith, few));
  text = text;
  fine = refl;
  scene = refl;
  told = placed_told around_old.files around_new.files file bytes placed;
  files = placed_files around_old.files around_new.files file bytes placed;
  faults = faults;
  misses = misses;
}
