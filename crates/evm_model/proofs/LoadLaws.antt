-- Loads: what refuses them, and what they take from their file.
use Rattle.std.proofs.Common.{◌≡◌, Bool, true, false, not, cond, List, [], ◌∷◌, ◌++◌, Option, Some, None, Ok, refl, sym, ap, ◌∙◌}
use Rattle.std.specs.Prelude.{ℕ, is_none, ◌↔◌}
use Rattle.std.specs.List.{list_all}
use Rattle.std.proofs.lemmas.Bool.{false≢true}
use Rattle.evm_cells.proofs.Xor.{and_first, and_second}
use Rattle.evm_script.specs.Line.{command}
use Rattle.evm_script.specs.declared.command.Command.TheVariants as commands
use Rattle.evm_script.specs.declared.files.LoadForm.{LoadForm}
use Rattle.evm_model.specs.Figures.{Figure}
use Rattle.evm_model.specs.Files.{Fetches, form_fits, form_in_range, figure_in, figure_fetched, or_nothing}
use Rattle.evm_model.specs.Scene.{Scene, stands, dim_of, is_input, value, with_figure, all_stay, IsWell}
use Rattle.evm_model.specs.Edits.{Replace, Code, Missing, Form, first_cause, value_causes, after, changed}
use Rattle.evm_model.specs.Replies.{No, Changed, is_no}
use Rattle.evm_model.specs.Steps.{Turn, unless_refused, load_causes, loaded, file_causes, load_turn, line_turn, step, command_fetches, of_line, fetches}
use Rattle.evm_model.proofs.Names.{not_false, not_true}
use Rattle.evm_model.proofs.Refusals.{none_holds}
use Rattle.evm_model.proofs.WellEdits.{standing_dim, well_figure}
use Rattle.evm_model.proofs.EditLaws.{value_own}
use Rattle.evm_model.proofs.FileLaws.{HasCells, loaded_set}

-- the first cause passes a test that the codes of all causes pass
pub first_passes : (test : Code → Bool) (causes : List (Bool × Code)) (code : Code) → list_all (λ (c : Bool × Code). test c.1) causes ≡ true → first_cause causes ≡ Some code → test code ≡ true
first_passes test [] code h e = absurd (no_some e)
  where
    no_some : None ≡ Some code → ⊥
    no_some q = cc
first_passes test (c ∷ cs) code h e =
    elim c.0 as (λ b. cond b (Some c.1) (first_cause cs) ≡ Some code → test code ≡ true) [
      | true ↦ λ k. ap test (sym (same_code k)) ∙ and_first (test c.1) (list_all (λ (d : Bool × Code). test d.1) cs) h
      | false ↦ λ k. first_passes test cs code (and_second (test c.1) (list_all (λ (d : Bool × Code). test d.1) cs) h) k
    ] e
  where
    same_code : Some c.1 ≡ Some code → c.1 ≡ code
    same_code q = cc

-- the first cause of a front, and of what is behind a front without causes
pub first_front : (cs ds : List (Bool × Code)) (code : Code) → first_cause cs ≡ Some code → first_cause (cs ++ ds) ≡ Some code
first_front [] ds code e = absurd (no_some e)
  where
    no_some : None ≡ Some code → ⊥
    no_some q = cc
first_front (c ∷ cs) ds code e =
    elim c.0 as (λ b. cond b (Some c.1) (first_cause cs) ≡ Some code → cond b (Some c.1) (first_cause (cs ++ ds)) ≡ Some code) [ true ↦ λ k. k | false ↦ λ k. first_front cs ds code k ] e

pub first_back : (cs ds : List (Bool × Code)) → first_cause cs ≡ None → first_cause (cs ++ ds) ≡ first_cause ds
first_back [] ds e = refl
first_back (c ∷ cs) ds e =
    elim c.0 as (λ b. cond b (Some c.1) (first_cause cs) ≡ None → cond b (Some c.1) (first_cause (cs ++ ds)) ≡ first_cause ds) [ true ↦ λ k. absurd (no_some k) | false ↦ λ k. first_back cs ds k ] e
  where
    no_some : Some c.1 ≡ None → ⊥
    no_some q = cc

pub some_cause : (o : Option Code) → is_none o ≡ false → (code : Code) × (o ≡ Some code)
some_cause None h = absurd (false≢true (sym h))
some_cause (Some code) h = (code, refl)

pub no_cause : (o : Option Code) → is_none o ≡ true → o ≡ None
no_cause None h = refl
no_cause (Some code) h = absurd (false≢true h)

-- a turn refuses by a code exactly where the code is the first cause
refused_so : (o : Option Code) (scene : Scene) (turn : Turn) (code : Code) → is_no turn.reply ≡ false → (unless_refused o scene turn).reply ≡ No code → o ≡ Some code
refused_so None scene turn code h e = absurd (false≢true (sym h ∙ ap is_no e))
refused_so (Some c) scene turn code h e = ap (λ (d : Code). Some d) (same_code e)
  where
    same_code : No c ≡ No code → c ≡ code
    same_code q = cc

-- what a line does that loads
pub load_step : (fetched : Fetches) (scene : Scene) (line name file : List ℕ) (form : LoadForm) → command line ≡ Ok (commands.Load name form file)
    → step fetched scene line ≡ load_turn fetched scene name form file
unfolding step
load_step fetched scene line name file form e = ap (line_turn fetched scene) e

load_fetches : (scene : Scene) (line name file : List ℕ) (form : LoadForm) → command line ≡ Ok (commands.Load name form file) → fetches scene line ≡ is_none (first_cause (load_causes scene name form))
unfolding fetches
load_fetches scene line name file form e = ap (of_line (command_fetches scene)) e

-- a load that is not refused
pub record IsLoad (fetched : Fetches) (scene : Scene) (name file : List ℕ) (form : LoadForm) : Type 0 where
  pub standing : stands scene name ≡ true
  pub input : is_input scene name ≡ true
  pub fits : form_fits form (dim_of scene name) ≡ true
  pub range : form_in_range form ≡ true
  pub stated : is_none (figure_fetched form (dim_of scene name) (fetched file)) ≡ false
  pub stay : all_stay (with_figure scene name (loaded fetched scene name form file)) ≡ true

pub load_for : (fetched : Fetches) (scene : Scene) (name file : List ℕ) (form : LoadForm)
    → first_cause (load_causes scene name form ++ file_causes fetched scene name form file) ≡ None → IsLoad fetched scene name file form
load_for fetched scene name file form r =
    let h = none_holds (load_causes scene name form ++ file_causes fetched scene name form file) r in
    record {
      standing = not_false (stands scene name) h.0;
      input = not_false (is_input scene name) h.1.0;
      fits = not_false (form_fits form (dim_of scene name)) h.1.1.0;
      range = not_false (form_in_range form) h.1.1.1.0;
      stated = h.1.1.1.1.1.0;
      stay = not_false (all_stay (with_figure scene name (loaded fetched scene name form file))) h.1.1.1.1.1.1.0;
    }

-- the figure of a load is a cell set of the dimension of its name
load_set : (fetched : Fetches) (scene : Scene) (name file : List ℕ) (form : LoadForm) → IsWell scene → IsLoad fetched scene name file form → HasCells (dim_of scene name) (loaded fetched scene name form file)
load_set fetched scene name file form well l = loaded_set form (dim_of scene name) (fetched file) (standing_dim scene well name l.standing) l.fits

-- a load keeps a scene well
pub well_load : (fetched : Fetches) (scene : Scene) (name file : List ℕ) (form : LoadForm) → IsWell scene → IsWell (load_turn fetched scene name form file).scene
well_load fetched scene name file form well = by_cause (first_cause (load_causes scene name form ++ file_causes fetched scene name form file)) refl
  where
    new : Figure
    new = loaded fetched scene name form file

    turn : Turn
    turn = record { reply = Changed (changed scene (Replace name new)); scene = after scene (Replace name new); placed = None }

    by_cause : (o : Option Code) → first_cause (load_causes scene name form ++ file_causes fetched scene name form file) ≡ o → IsWell (unless_refused o scene turn).scene
    by_cause None e =
        let l = load_for fetched scene name file form e in
        let set = load_set fetched scene name file form well l in
        well_figure scene name new well (sym set.0) set.1 l.stay
    by_cause (Some code) e = well

-- a load is the same for two shelves that have the same under its file's name
pub load_reads : (f g : Fetches) (scene : Scene) (line name file : List ℕ) (form : LoadForm) → command line ≡ Ok (commands.Load name form file) → f file ≡ g file → step f scene line ≡ step g scene line
load_reads f g scene line name file form e same =
    load_step f scene line name file form e
    ∙ ap (λ (got : Option (List ℕ)). load_turn (λ o. got) scene name form file) same
    ∙ sym (load_step g scene line name file form e)

-- a figure that is there
there : (n : ℕ) (o : Option Figure) → is_none o ≡ false → o ≡ Some (or_nothing n o)
there n None h = absurd (false≢true (sym h))
there n (Some a) h = refl

-- a load that is not refused gives its name the figure of the file
load_takes : (fetched : Fetches) (scene : Scene) (name file : List ℕ) (form : LoadForm) → is_no (load_turn fetched scene name form file).reply ≡ false
    → figure_fetched form (dim_of scene name) (fetched file) ≡ Some (value (load_turn fetched scene name form file).scene name)
load_takes fetched scene name file form = by_cause (first_cause (load_causes scene name form ++ file_causes fetched scene name form file)) refl
  where
    new : Figure
    new = loaded fetched scene name form file

    turn : Turn
    turn = record { reply = Changed (changed scene (Replace name new)); scene = after scene (Replace name new); placed = None }

    by_cause : (o : Option Code) → first_cause (load_causes scene name form ++ file_causes fetched scene name form file) ≡ o → is_no (unless_refused o scene turn).reply ≡ false
        → figure_fetched form (dim_of scene name) (fetched file) ≡ Some (value (unless_refused o scene turn).scene name)
    by_cause None e h =
        let l = load_for fetched scene name file form e in
        there (dim_of scene name) (figure_fetched form (dim_of scene name) (fetched file)) l.stated ∙ ap (λ (a : Figure). Some a) (sym (value_own scene name new l.standing))
    by_cause (Some code) e h = absurd (false≢true (sym h))

pub takes_figure : (fetched : Fetches) (scene : Scene) (line name file : List ℕ) (form : LoadForm) → command line ≡ Ok (commands.Load name form file)
    → is_no (step fetched scene line).reply ≡ false → figure_fetched form (dim_of scene name) (fetched file) ≡ Some (value (step fetched scene line).scene name)
takes_figure fetched scene line name file form e h =
    load_takes fetched scene name file form (sym (ap (λ (t : Turn). is_no t.reply) same) ∙ h) ∙ ap (λ (t : Turn). Some (value t.scene name)) (sym same)
  where
    same : step fetched scene line ≡ load_turn fetched scene name form file
    same = load_step fetched scene line name file form e

-- ---- what refuses a load by its file

-- the turn of a load that nothing refuses
abbrev load_made : Fetches → Scene → List ℕ → LoadForm → List ℕ → Turn
load_made fetched scene name form file = record {
  reply = Changed (changed scene (Replace name (loaded fetched scene name form file)));
  scene = after scene (Replace name (loaded fetched scene name form file));
  placed = None;
}

abbrev pub is_missing : Code → Bool
is_missing Missing = true
is_missing _ = false

abbrev pub is_form : Code → Bool
is_form Form = true
is_form _ = false

-- a code that no cause has is not the first
absent : (test : Code → Bool) (causes : List (Bool × Code)) (code : Code) → list_all (λ (c : Bool × Code). not (test c.1)) causes ≡ true → test code ≡ true → first_cause causes ≡ Some code → ⊥
absent test causes code h t e = false≢true (sym (not_true (test code) (first_passes (λ c. not (test c)) causes code h e)) ∙ t)

-- a load is answered by a code of its file exactly where it fetches and the code is the first of what refuses it by the file
by_file : (fetched : Fetches) (scene : Scene) (line name file : List ℕ) (form : LoadForm) (test : Code → Bool) (code : Code) → command line ≡ Ok (commands.Load name form file)
    → list_all (λ (c : Bool × Code). not (test c.1)) (load_causes scene name form) ≡ true → test code ≡ true
    → ((step fetched scene line).reply ≡ No code) ↔ ((fetches scene line ≡ true) × (first_cause (file_causes fetched scene name form file) ≡ Some code))
by_file fetched scene line name file form test code e others own = (into, from)
  where
    before : List (Bool × Code)
    before = load_causes scene name form

    behind : List (Bool × Code)
    behind = file_causes fetched scene name form file

    into : (step fetched scene line).reply ≡ No code → (fetches scene line ≡ true) × (first_cause behind ≡ Some code)
    into q = by (first_cause before) refl
      where
        first : first_cause (before ++ behind) ≡ Some code
        first = refused_so (first_cause (before ++ behind)) scene (load_made fetched scene name form file) code refl
            (sym (ap (λ (t : Turn). t.reply) (load_step fetched scene line name file form e)) ∙ q)

        by : (o : Option Code) → first_cause before ≡ o → (fetches scene line ≡ true) × (first_cause behind ≡ Some code)
        by None k = (load_fetches scene line name file form e ∙ ap (λ (o : Option Code). is_none o) k, sym (first_back before behind k) ∙ first)
        by (Some c) k = absurd (absent test before code others own (k ∙ sym (first_front before behind c k) ∙ first))

    from : (fetches scene line ≡ true) × (first_cause behind ≡ Some code) → (step fetched scene line).reply ≡ No code
    from h =
        ap (λ (t : Turn). t.reply) (load_step fetched scene line name file form e)
        ∙ ap (λ (o : Option Code). (unless_refused o scene (load_made fetched scene name form file)).reply)
        (first_back before behind (no_cause (first_cause before) (sym (load_fetches scene line name file form e) ∙ h.0)) ∙ h.1)

-- there is no file exactly where the first cause says so
missing_cause : (got : Option (List ℕ)) (ds : List (Bool × Code)) → list_all (λ (c : Bool × Code). not (is_missing c.1)) ds ≡ true
    → (first_cause ((is_none got, Missing) ∷ ds) ≡ Some Missing) ↔ (got ≡ None)
missing_cause got ds h = (into got, λ e. ap (λ (x : Option (List ℕ)). first_cause ((is_none x, Missing) ∷ ds)) e)
  where
    into : (o : Option (List ℕ)) → first_cause ((is_none o, Missing) ∷ ds) ≡ Some Missing → o ≡ None
    into None e = refl
    into (Some bytes) e = absurd (absent is_missing ds Missing h refl e)

pub missing_is : (fetched : Fetches) (scene : Scene) (line name file : List ℕ) (form : LoadForm) → command line ≡ Ok (commands.Load name form file)
    → ((step fetched scene line).reply ≡ No Missing) ↔ ((fetches scene line ≡ true) × (fetched file ≡ None))
missing_is fetched scene line name file form e =
    let code = by_file fetched scene line name file form is_missing Missing e refl refl in
    let file_law = missing_cause (fetched file) ((is_none (figure_fetched form (dim_of scene name) (fetched file)), Form) ∷ value_causes (with_figure scene name (loaded fetched scene name form file))) refl in
    (λ q. ((code.0 q).0, file_law.0 (code.0 q).1), λ h. code.1 (h.0, file_law.1 h.1))

-- its bytes state no figure exactly where the first cause says so
form_cause : (form : LoadForm) (n : ℕ) (got : Option (List ℕ)) (ds : List (Bool × Code)) → list_all (λ (c : Bool × Code). not (is_form c.1)) ds ≡ true
    → (first_cause ((is_none got, Missing) ∷ (is_none (figure_fetched form n got), Form) ∷ ds) ≡ Some Form)
    ↔ ((bytes : List ℕ) × (got ≡ Some bytes) × (figure_in form n bytes ≡ None))
form_cause form n got ds h = (
  into got,
  λ (bytes, found, none).
      ap (λ (x : Option (List ℕ)). first_cause ((is_none x, Missing) ∷ (is_none (figure_fetched form n x), Form) ∷ ds)) found
      ∙ ap (λ (x : Option Figure). first_cause ((is_none x, Form) ∷ ds)) none,
)
  where
    no_form : Some Missing ≡ Some Form → ⊥
    no_form q = cc

    none_stated : (a : Option Figure) → first_cause ((is_none a, Form) ∷ ds) ≡ Some Form → a ≡ None
    none_stated None q = refl
    none_stated (Some a) q = absurd (absent is_form ds Form h refl q)

    into : (o : Option (List ℕ)) → first_cause ((is_none o, Missing) ∷ (is_none (figure_fetched form n o), Form) ∷ ds) ≡ Some Form
        → (bytes : List ℕ) × (o ≡ Some bytes) × (figure_in form n bytes ≡ None)
    into None e = absurd (no_form e)
    into (Some bytes) e = (bytes, refl, none_stated (figure_in form n bytes) e)

pub form_is : (fetched : Fetches) (scene : Scene) (line name file : List ℕ) (form : LoadForm) → command line ≡ Ok (commands.Load name form file)
    → ((step fetched scene line).reply ≡ No Form) ↔ ((fetches scene line ≡ true) × ((bytes : List ℕ) × (fetched file ≡ Some bytes) × (figure_in form (dim_of scene name) bytes ≡ None)))
form_is fetched scene line name file form e =
    let code = by_file fetched scene line name file form is_form Form e refl refl in
    let file_law = form_cause form (dim_of scene name) (fetched file) (value_causes (with_figure scene name (loaded fetched scene name form file))) refl in
    (λ q. ((code.0 q).0, file_law.0 (code.0 q).1), λ h. code.1 (h.0, file_law.1 h.1))
