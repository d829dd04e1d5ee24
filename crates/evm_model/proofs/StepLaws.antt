-- What a line leaves in a scene, and which files it reads and places.
use Rattle.std.proofs.Common.{◌≡◌, Bool, true, false, not, ◌&&◌, ◌||◌, List, [], ◌∷◌, ◌++◌, length, map, Option, Some, None, Result, Ok, Err, refl, sym, ap, ◌∙◌}
use Rattle.std.specs.Prelude.{ℕ, ℤ, nat_abs, is_none, slice_get}
use Rattle.std.specs.List.{list_any, list_all}
use Rattle.std.proofs.lemmas.List.{length-set}
use Rattle.std.proofs.lemmas.Bool.{false≢true}
use Rattle.evm_cells.specs.Localities.{Measure}
use Rattle.evm_script.specs.Line.{command}
use Rattle.evm_script.specs.declared.command.Command.{Command}
use Rattle.evm_script.specs.declared.command.Command.TheVariants as commands
use Rattle.evm_script.specs.declared.command.LineError.{LineError}
use Rattle.evm_script.specs.declared.command.LineError.TheVariants as faults
use Rattle.evm_script.specs.declared.files.LoadForm.{LoadForm}
use Rattle.evm_script.specs.declared.files.SaveForm.{SaveForm}
use Rattle.evm_model.specs.Files.{Fetches, bytes_in}
use Rattle.evm_model.specs.Scene.{Scene, Free, Gone, start_with, slot_watches, slot_at, handed, reading, attached, detached, value, IsWell}
use Rattle.evm_model.specs.Edits as codes
use Rattle.evm_model.specs.Edits.{Edit, Input, Toggle, Add, Cut, Replace, Def, Drop, EditFits, Code, Missing, Shelf, Memory, first_cause, name_causes, place_causes, attach_causes, reading_causes, section_causes, axis_causes, edit_causes, refusal, after, changed}
use Rattle.evm_model.specs.Replies.{Reply, No, Done, Changed, is_no}
use Rattle.evm_model.specs.Laws.{is_edit, is_edit_way, is_save, is_save_way}
use Rattle.evm_model.specs.Steps.{fault_reply, Way, Edits, Asks, Loads, Saves, Hands, read_off, way_of, way_turn, way_fetches, way_asks, edit_reply, save_causes, command_asks, asks, Turn, stays, unless_refused, edited, load_causes, loaded, file_causes, load_turn, saved, turn_of, line_turn, step, command_fetches, of_line, fetches}
use Rattle.evm_model.proofs.EditLaws.{well_edit}
use Rattle.evm_model.proofs.WellSlots.{well_attached, well_detached, handover, gone_attached, gone_detached}
use Rattle.evm_model.proofs.Names.{not_both, not_true, among_none, or-false}
use Rattle.evm_model.proofs.LoadLaws.{first_passes, first_front, some_cause, well_load}

-- the codes that come by a mark alone
abbrev pub by_mark : Code → Bool
by_mark Shelf = true
by_mark Memory = true
by_mark _ = false

-- these, and the codes that come by a file
abbrev pub is_outer : Code → Bool
is_outer Missing = true
is_outer Shelf = true
is_outer codes.Form = true
is_outer Memory = true
is_outer _ = false

outer_mark : (code : Code) → is_outer code ≡ false → by_mark code ≡ false
outer_mark Shelf h = absurd (false≢true (sym h))
outer_mark Memory h = absurd (false≢true (sym h))
outer_mark _ h = refl

-- whether a reply refuses by such a code
abbrev pub refuses_by : (Code → Bool) → Reply → Bool
refuses_by test (No code) = test code
refuses_by test _ = false

-- a turn that leaves the scene and places no file where it refuses, and refuses by no such code
abbrev pub IsMild : (Code → Bool) → Scene → Turn → Type 0
IsMild test scene turn = (is_no turn.reply ≡ true → (turn.scene ≡ scene) × (turn.placed ≡ None)) × (refuses_by test turn.reply ≡ false)

outer_mild : (scene : Scene) (turn : Turn) → IsMild is_outer scene turn → IsMild by_mark scene turn
outer_mild scene turn m = (m.0, by turn.reply m.1)
  where
    by : (reply : Reply) → refuses_by is_outer reply ≡ false → refuses_by by_mark reply ≡ false
    by (No code) h = outer_mark code h
    by _ h = refl

no_none : (test : Code → Bool) (reply : Reply) → is_no reply ≡ false → refuses_by test reply ≡ false
no_none test (No code) h = absurd (false≢true (sym h))
no_none test _ h = refl

mild_reply : (test : Code → Bool) (scene : Scene) (turn : Turn) → is_no turn.reply ≡ false → IsMild test scene turn
mild_reply test scene turn n = (λ h. absurd (false≢true (sym n ∙ h)), no_none test turn.reply n)

mild_unless : (test : Code → Bool) (scene : Scene) (turn : Turn) (causes : List (Bool × Code)) → list_all (λ (c : Bool × Code). not (test c.1)) causes ≡ true → is_no turn.reply ≡ false
    → IsMild test scene (unless_refused (first_cause causes) scene turn)
mild_unless test scene turn causes m n = by_cause (first_cause causes) refl
  where
    by_cause : (o : Option Code) → first_cause causes ≡ o → IsMild test scene (unless_refused o scene turn)
    by_cause None e = mild_reply test scene turn n
    by_cause (Some code) e = (λ h. (refl, refl), not_true (test code) (first_passes (λ c. not (test c)) causes code m e))

-- causes without an outer code, and an answer that does not refuse
abbrev IsMildly : List (Bool × Code) → Reply → Type 0
IsMildly causes answer = (list_all (λ (c : Bool × Code). not (is_outer c.1)) causes ≡ true) × (is_no answer ≡ false)

-- a change of a slot refuses by no outer code, keeps a scene well, and leaves as many slots, and what is gone
pub record IsHanding (causes : Scene → List (Bool × Code)) (answer : Scene → Reply) (left : Scene → Scene) : Type 0 where
  pub mildly : (scene : Scene) → IsMildly (causes scene) (answer scene)
  pub well : (scene : Scene) → IsWell scene → first_cause (causes scene) ≡ None → IsWell (left scene)
  pub fixed : (scene : Scene) → length (left scene).slots ≡ length scene.slots
  pub gone : (scene : Scene) (i : ℕ) → slice_get scene.slots i ≡ Some Gone → slice_get (left scene).slots i ≡ Some Gone

-- an edit of a command states no figure of its own; a question refuses by no outer code, and its answer does not refuse
abbrev pub IsPlain : Way → Type 0
IsPlain (Edits edit) = EditFits edit
IsPlain (Asks causes answer) = (scene : Scene) → IsMildly (causes scene) (answer scene)
IsPlain (Hands causes answer left) = IsHanding causes answer left
IsPlain _ = Unit {0}

-- a reading does not refuse
read_is_no : (n : Option ℕ) → is_no (read_off n) ≡ false
read_is_no None = refl
read_is_no (Some n) = refl

attach_handing : (k : ℤ) (name : List ℕ)
    → IsHanding (λ scene. attach_causes scene k name) (λ scene. read_off (reading (attached scene k name) k)) (λ scene. attached scene k name)
attach_handing k name = record {
  mildly = λ scene. (refl, read_is_no (reading (attached scene k name) k));
  well = λ scene well r. well_attached scene k name well (handover scene k name r).standing;
  fixed = λ scene. length-set scene.slots (nat_abs k) (handed name (slot_at scene k));
  gone = λ scene i h. gone_attached scene k name i h;
}

detach_handing : (k : ℤ) → IsHanding (λ scene. reading_causes scene k) (λ scene. Done) (λ scene. detached scene k)
detach_handing k = record {
  mildly = λ scene. (refl, refl);
  well = λ scene well r. well_detached scene k well;
  fixed = λ scene. length-set scene.slots (nat_abs k) Gone;
  gone = λ scene i h. gone_detached scene k i h;
}

pub plain_way : (c : Command) → IsPlain (way_of c)
plain_way (commands.Input name dim) = tt
plain_way (commands.Toggle name nums) = tt
plain_way (commands.Add name nums) = tt
plain_way (commands.Cut name nums) = tt
plain_way (commands.Def name formula) = tt
plain_way (commands.Drop name) = tt
plain_way (commands.Load name form file) = tt
plain_way (commands.Save name form file) = tt
plain_way (commands.Meter slot name) = attach_handing slot name
plain_way (commands.Read slot) = λ scene. (refl, read_is_no (reading scene slot))
plain_way (commands.Unmeter slot) = detach_handing slot
plain_way _ = λ scene. (refl, refl)

plain_edit : (scene : Scene) (edit : Edit)
    → IsMildly (edit_causes scene edit) (edit_reply scene edit)
plain_edit scene (Input name dim) = (refl, refl)
plain_edit scene _ = (refl, refl)

-- a command refuses by no mark, and by no file where it fetches none
abbrev IsQuiet : Fetches → Scene → Way → Type 0
IsQuiet fetched scene way = IsMild by_mark scene (way_turn fetched scene way) × (way_fetches scene way ≡ false → IsMild is_outer scene (way_turn fetched scene way))

quiet : (fetched : Fetches) (scene : Scene) (way : Way) → IsMild is_outer scene (way_turn fetched scene way) → IsQuiet fetched scene way
quiet fetched scene way m = (outer_mild scene (way_turn fetched scene way) m, λ h. m)

quiet_load : (fetched : Fetches) (scene : Scene) (name file : List ℕ) (form : LoadForm) → IsQuiet fetched scene (Loads name form file)
quiet_load fetched scene name file form = (
  mild_unless by_mark scene _ (load_causes scene name form ++ file_causes fetched scene name form file) refl refl,
  λ h. refused (first_cause (load_causes scene name form)) refl h,
)
  where
    refused : (o : Option Code) → first_cause (load_causes scene name form) ≡ o → is_none o ≡ false → IsMild is_outer scene (load_turn fetched scene name form file)
    refused None e h = absurd (false≢true (sym h))
    refused (Some code) e h = rw (first_front (load_causes scene name form) (file_causes fetched scene name form file) code e) ((λ k. (refl, refl), not_true (is_outer code) (first_passes (λ c. not (is_outer c)) (load_causes scene name form) code refl e)))

quiet_way : (fetched : Fetches) (scene : Scene) (way : Way) → IsPlain way → IsQuiet fetched scene way
quiet_way fetched scene (Edits edit) p =
    let q = plain_edit scene edit in quiet fetched scene (Edits edit) (mild_unless is_outer scene _ (edit_causes scene edit) q.0 q.1)
quiet_way fetched scene (Asks causes answer) p = quiet fetched scene (Asks causes answer) (mild_unless is_outer scene _ (causes scene) (p scene).0 (p scene).1)
quiet_way fetched scene (Loads name form file) p = quiet_load fetched scene name file form
quiet_way fetched scene (Saves name form file) p = quiet fetched scene (Saves name form file) (mild_unless is_outer scene _ (save_causes scene name form) refl refl)
quiet_way fetched scene (Hands causes answer left) p =
    quiet fetched scene (Hands causes answer left) (mild_unless is_outer scene _ (causes scene) (p.mildly scene).0 (p.mildly scene).1)

quiet_fault : (scene : Scene) (e : LineError) → IsMild is_outer scene (stays scene (fault_reply e))
quiet_fault scene faults.Long = (λ h. (refl, refl), refl)
quiet_fault scene faults.Syntax = (λ h. (refl, refl), refl)
quiet_fault scene faults.NoMemory = (λ h. (refl, refl), refl)

quiet_line : (fetched : Fetches) (scene : Scene) (r : Result Command LineError)
    → IsMild by_mark scene (line_turn fetched scene r) × (of_line (command_fetches scene) r ≡ false → IsMild is_outer scene (line_turn fetched scene r))
quiet_line fetched scene (Ok c) = quiet_way fetched scene (way_of c) (plain_way c)
quiet_line fetched scene (Err e) = let m = quiet_fault scene e in (outer_mild scene (stays scene (fault_reply e)) m, λ h. m)

pub mild_step : (fetched : Fetches) (scene : Scene) (line : List ℕ) → IsMild by_mark scene (step fetched scene line)
unfolding step
mild_step fetched scene line = (quiet_line fetched scene (command line)).0

pub has_memory : (fetched : Fetches) (scene : Scene) (line : List ℕ) → ((step fetched scene line).reply ≡ No Memory → ⊥) × ((step fetched scene line).reply ≡ No Shelf → ⊥)
has_memory fetched scene line =
    let h = (mild_step fetched scene line).1 in
    (λ e. false≢true (sym h ∙ ap (refuses_by by_mark) e), λ e. false≢true (sym h ∙ ap (refuses_by by_mark) e))

-- where no file is fetched none is missing
pub missing_fetched : (fetched : Fetches) (scene : Scene) (line : List ℕ) → fetches scene line ≡ false → (step fetched scene line).reply ≡ No Missing → ⊥
unfolding step fetches
missing_fetched fetched scene line h e = false≢true (sym ((quiet_line fetched scene (command line)).1 h).1 ∙ ap (refuses_by is_outer) e)

-- a line that fetches no file is the same whatever fetches give
others_load : (f g : Fetches) (scene : Scene) (name file : List ℕ) (form : LoadForm) → is_none (first_cause (load_causes scene name form)) ≡ false → load_turn f scene name form file ≡ load_turn g scene name form file
others_load f g scene name file form h = let some = some_cause (first_cause (load_causes scene name form)) h in refused f some.0 some.1 ∙ sym (refused g some.0 some.1)
  where
    refused : (fetched : Fetches) (code : Code) → first_cause (load_causes scene name form) ≡ Some code → load_turn fetched scene name form file ≡ stays scene (No code)
    refused fetched code e =
        let new = loaded fetched scene name form file in
        ap (λ (o : Option Code). unless_refused o scene (record { reply = Changed (changed scene (Replace name new)); scene = after scene (Replace name new); placed = None }))
        (first_front (load_causes scene name form) (file_causes fetched scene name form file) code e)

others_way : (f g : Fetches) (scene : Scene) (way : Way) → way_fetches scene way ≡ false → way_turn f scene way ≡ way_turn g scene way
others_way f g scene (Loads name form file) h = others_load f g scene name file form h
others_way f g scene _ h = refl

others_line : (f g : Fetches) (scene : Scene) (r : Result Command LineError) → of_line (command_fetches scene) r ≡ false → line_turn f scene r ≡ line_turn g scene r
others_line f g scene (Ok c) h = others_way f g scene (way_of c) h
others_line f g scene (Err e) h = refl

pub others_read_none : (f g : Fetches) (scene : Scene) (line : List ℕ) → fetches scene line ≡ false → step f scene line ≡ step g scene line
unfolding step fetches
others_read_none f g scene line h = others_line f g scene (command line) h

-- a question leaves the scene
leaves : (scene : Scene) (o : Option Code) (turn : Turn) → turn.scene ≡ scene → (unless_refused o scene turn).scene ≡ scene
leaves scene None turn h = h
leaves scene (Some code) turn h = refl

question_way : (fetched : Fetches) (scene : Scene) (way : Way) → is_edit_way way ≡ false → (way_turn fetched scene way).scene ≡ scene
question_way fetched scene (Asks causes answer) h = leaves scene (first_cause (causes scene)) _ refl
question_way fetched scene (Saves name form file) h = leaves scene (first_cause (save_causes scene name form)) _ refl
question_way fetched scene _ h = absurd (false≢true (sym h))

pub question_leaves : (fetched : Fetches) (scene : Scene) (line : List ℕ) (c : Command) → command line ≡ Ok c → is_edit c ≡ false → (step fetched scene line).scene ≡ scene
unfolding step
question_leaves fetched scene line c e h = ap (λ (r : Result Command LineError). (line_turn fetched scene r).scene) e ∙ question_way fetched scene (way_of c) h

-- a line that is no save places no file
unplaced : (scene : Scene) (o : Option Code) (turn : Turn) → turn.placed ≡ None → (unless_refused o scene turn).placed ≡ None
unplaced scene None turn h = h
unplaced scene (Some code) turn h = refl

unsaved_way : (fetched : Fetches) (scene : Scene) (way : Way) → is_save_way way ≡ false → (way_turn fetched scene way).placed ≡ None
unsaved_way fetched scene (Edits edit) h = unplaced scene (refusal scene edit) _ refl
unsaved_way fetched scene (Asks causes answer) h = unplaced scene (first_cause (causes scene)) _ refl
unsaved_way fetched scene (Loads name form file) h = unplaced scene (first_cause (load_causes scene name form ++ file_causes fetched scene name form file)) _ refl
unsaved_way fetched scene (Saves name form file) h = absurd (false≢true (sym h))
unsaved_way fetched scene (Hands causes answer left) h = unplaced scene (first_cause (causes scene)) _ refl

pub unsaved_turn : (fetched : Fetches) (scene : Scene) (c : Command) → is_save c ≡ false → (turn_of fetched scene c).placed ≡ None
unsaved_turn fetched scene c h = unsaved_way fetched scene (way_of c) h

unsaved_line : (fetched : Fetches) (scene : Scene) (r : Result Command LineError) → of_line is_save r ≡ false → (line_turn fetched scene r).placed ≡ None
unsaved_line fetched scene (Ok c) h = unsaved_turn fetched scene c h
unsaved_line fetched scene (Err e) h = refl

pub only_saves : (fetched : Fetches) (scene : Scene) (line : List ℕ) → of_line is_save (command line) ≡ false → (step fetched scene line).placed ≡ None
unfolding step
only_saves fetched scene line h = unsaved_line fetched scene (command line) h

-- a save that is not refused places its file
made : (scene : Scene) (o : Option Code) (turn : Turn) → is_no (unless_refused o scene turn).reply ≡ false → (unless_refused o scene turn).placed ≡ turn.placed
made scene None turn h = refl
made scene (Some code) turn h = absurd (false≢true (sym h))

pub save_places : (fetched : Fetches) (scene : Scene) (line name file : List ℕ) (form : SaveForm) → command line ≡ Ok (commands.Save name form file)
    → is_no (step fetched scene line).reply ≡ false → (step fetched scene line).placed ≡ Some (file, bytes_in form (value scene name))
unfolding step
save_places fetched scene line name file form e h =
    ap (λ (r : Result Command LineError). (line_turn fetched scene r).placed) e
    ∙ made scene (first_cause (save_causes scene name form)) (saved scene file (bytes_in form (value scene name))) (sym (ap (λ (r : Result Command LineError). is_no (line_turn fetched scene r).reply) e) ∙ h)

-- a line asks the shelf exactly where it fetches or saves
not_refused : (scene : Scene) (o : Option Code) (turn : Turn) → is_no turn.reply ≡ false → is_none o ≡ not (is_no (unless_refused o scene turn).reply)
not_refused scene None turn h = sym (ap not h)
not_refused scene (Some code) turn h = refl

asked_way : (fetched : Fetches) (scene : Scene) (way : Way)
    → way_asks scene way ≡ (way_fetches scene way || (is_save_way way && not (is_no (way_turn fetched scene way).reply)))
asked_way fetched scene (Loads name form file) = sym (or-false (is_none (first_cause (load_causes scene name form))))
asked_way fetched scene (Saves name form file) = not_refused scene (first_cause (save_causes scene name form)) (saved scene file (bytes_in form (value scene name))) refl
asked_way fetched scene _ = refl

asked_line : (fetched : Fetches) (scene : Scene) (r : Result Command LineError)
    → of_line (command_asks scene) r ≡ (of_line (command_fetches scene) r || (of_line is_save r && not (is_no (line_turn fetched scene r).reply)))
asked_line fetched scene (Ok c) = asked_way fetched scene (way_of c)
asked_line fetched scene (Err e) = refl

pub asked_shelf : (fetched : Fetches) (scene : Scene) (line : List ℕ)
    → asks scene line ≡ (fetches scene line || (of_line is_save (command line) && not (is_no (step fetched scene line).reply)))
unfolding step fetches asks
asked_shelf fetched scene line = asked_line fetched scene (command line)

-- free meters watch no name
free_watch_none : (kinds : List Measure) (name : List ℕ) → list_any (slot_watches name) (map Free kinds) ≡ false
free_watch_none [] name = refl
free_watch_none (kind ∷ kinds) name = free_watch_none kinds name

-- the scene before the first line is well: nothing stands in it, and nothing is watched
pub well_start : (kinds : List Measure) → IsWell (start_with kinds)
well_start kinds = record {
  names = refl;
  dims = refl;
  sound = refl;
  stay = refl;
  stand = λ x o m. among_none o m;
  acyclic = λ x. refl;
  watched = λ x h. not_both (list_any (slot_watches x) (map Free kinds)) h (free_watch_none kinds x);
}

well_edited : (scene : Scene) (edit : Edit) (reply : Reply) → IsWell scene → EditFits edit → IsWell (edited scene edit reply).scene
well_edited scene edit reply well fits = by_cause (refusal scene edit) refl
  where
    by_cause : (o : Option Code) → refusal scene edit ≡ o → IsWell (unless_refused o scene (record { reply = reply; scene = after scene edit; placed = None })).scene
    by_cause None e = well_edit scene edit well fits e
    by_cause (Some code) e = well

-- a turn that leaves a scene keeps it well
well_left : (scene left : Scene) → IsWell scene → left ≡ scene → IsWell left
well_left scene left well e = rw e well

well_way : (fetched : Fetches) (scene : Scene) (way : Way) → IsPlain way → IsWell scene → IsWell (way_turn fetched scene way).scene
well_way fetched scene (Edits edit) p well = well_edited scene edit _ well p
well_way fetched scene (Loads name form file) p well = well_load fetched scene name file form well
well_way fetched scene (Asks causes answer) p well = well_left scene _ well (question_way fetched scene (Asks causes answer) refl)
well_way fetched scene (Saves name form file) p well = well_left scene _ well (question_way fetched scene (Saves name form file) refl)
well_way fetched scene (Hands causes answer left) p well = by_cause (first_cause (causes scene)) refl
  where
    by_cause : (o : Option Code) → first_cause (causes scene) ≡ o → IsWell (unless_refused o scene (record { reply = answer scene; scene = left scene; placed = None })).scene
    by_cause None e = p.well scene well e
    by_cause (Some code) e = well

well_line : (fetched : Fetches) (scene : Scene) (r : Result Command LineError) → IsWell scene → IsWell (line_turn fetched scene r).scene
well_line fetched scene (Ok c) well = well_way fetched scene (way_of c) (plain_way c) well
well_line fetched scene (Err e) well = well

pub well_step : (fetched : Fetches) (scene : Scene) (line : List ℕ) → IsWell scene → IsWell (step fetched scene line).scene
unfolding step
well_step fetched scene line well = well_line fetched scene (command line) well
