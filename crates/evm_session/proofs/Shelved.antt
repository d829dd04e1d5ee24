-- Commands over a shelf of files: which turns do not speak of the shelf, and what they leave.
use Rattle.std.proofs.Common.{◌≡◌, ℕ, ◌+◌, ◌≤◌, Bool, true, false, not, ◌&&◌, cond, List, [], ◌∷◌, Option, Some, None, is_some, Result, Ok, Err, nat_abs, refl, sym, ap, ◌∙◌, subst, arith}
use Rattle.std.specs.List.{list_all}
use Rattle.std.proofs.lemmas.Bool.{false≢true}
use Rattle.evm_cells.proofs.Xor.{and_first, and_second}
use Rattle.evm_cells.specs.Limits.{is_cell_coord, is_point_coord}
use Rattle.evm_outside.specs.Shelves.{Files, KeepsFiles, HasFile, PlacesFile}
use Rattle.evm_script.specs.declared.command.Command.{Command}
use Rattle.evm_script.specs.declared.command.Command.TheVariants as commands
use Rattle.evm_model.specs.Files.{Fetches, no_files}
use Rattle.evm_model.specs.Figures.{content_of, boundary_of, fills, place_of, slice_of, proj_of, faces_of, parts_of}
use Rattle.evm_model.specs.Scene.{Scene, value, dim_of, reading, attached}
use Rattle.evm_model.specs.Edits.{Edit, Input, Toggle, Add, Cut, Replace, Def, Drop, Code, first_cause, name_causes, place_causes, attach_causes, reading_causes, section_causes, axis_causes, edit_causes, after, changed}
use Rattle.evm_model.specs.Edits as codes
use Rattle.evm_model.specs.Replies.{Reply, Empty, No, Changed, Shown, Measured, Filled, Placed, Faced, Parted, Reported, Listed}
use Rattle.evm_model.specs.Reports.{reported}
use Rattle.evm_model.specs.Steps.{Turn, stays, unless_refused, edited, asked, read_off, turn_of}
use Rattle.evm_model.specs.LineWork.{command_work}
use Rattle.evm_model.specs.Runs.{fetched_from, with_placed}
use Rattle.evm_session.specs.declared.refusals.Refusal.{Refusal}
use Rattle.evm_session.specs.declared.refusals.Refusal.TheVariants as refusals
use Rattle.evm_session.specs.Answers.{Around, told_files, AreFiles}
use Rattle.evm_session.specs.Carried.{Carries, IsRefusalOf}
use Rattle.evm_session.specs.Says.{Extends}
use Rattle.evm_session.specs.Requests.{Request, request_of, names_file, IsSoBy, IsSoOver, IsTurnWith, IsTurnOf, HasCause, CarriesOver}

-- whether a code, and whether a reply speaks of the shelf
abbrev pub code_of_shelf : Code → Bool
code_of_shelf codes.Missing = true
code_of_shelf codes.Shelf = true
code_of_shelf code = false

abbrev pub tells_shelf : Reply → Bool
tells_shelf (No code) = code_of_shelf code
tells_shelf reply = false

abbrev pub maybe_of_shelf : Option Code → Bool
maybe_of_shelf None = false
maybe_of_shelf (Some code) = code_of_shelf code

-- a cause that does not hold, or has another code
abbrev pub is_quiet : Bool × Code → Bool
is_quiet c = not (code_of_shelf c.1 && c.0)

not_both : (b : Bool) → not (b && true) ≡ true → b ≡ false
not_both true h = absurd (false≢true h)
not_both false h = refl

quiet_head : (b : Bool) (code : Code) (rest : Option Code) → not (code_of_shelf code && b) ≡ true → maybe_of_shelf rest ≡ false → maybe_of_shelf (cond b (Some code) rest) ≡ false
quiet_head true code rest h k = not_both (code_of_shelf code) h
quiet_head false code rest h k = k

-- the first of such causes has such a code
pub quiet_first : (cs : List (Bool × Code)) → list_all is_quiet cs ≡ true → maybe_of_shelf (first_cause cs) ≡ false
quiet_first [] h = refl
quiet_first (c ∷ cs) h =
    quiet_head c.0 c.1 (first_cause cs) (and_first (is_quiet c) (list_all is_quiet cs) h) (quiet_first cs (and_second (is_quiet c) (list_all is_quiet cs) h))

-- a turn that does not speak of the shelf, and places no file
pub record IsQuiet (turn : Turn) : Type 0 where
  pub reply : tells_shelf turn.reply ≡ false
  pub placed : turn.placed ≡ None

quiet_reply : (scene : Scene) (reply : Reply) → tells_shelf reply ≡ false → IsQuiet (stays scene reply)
quiet_reply scene reply h = record { reply = h; placed = refl }

quiet_unless : (o : Option Code) (scene : Scene) (turn : Turn) → maybe_of_shelf o ≡ false → IsQuiet turn → IsQuiet (unless_refused o scene turn)
quiet_unless None scene turn h q = q
quiet_unless (Some code) scene turn h q = quiet_reply scene (No code) h

-- a turn that such causes refuse, or else a quiet one
pub quiet_turn : (causes : List (Bool × Code)) (scene : Scene) (turn : Turn) → list_all is_quiet causes ≡ true → IsQuiet turn → IsQuiet (unless_refused (first_cause causes) scene turn)
quiet_turn causes scene turn h q = quiet_unless (first_cause causes) scene turn (quiet_first causes h) q

quiet_asked : (causes : List (Bool × Code)) (scene : Scene) (reply : Reply) → list_all is_quiet causes ≡ true → tells_shelf reply ≡ false → IsQuiet (asked causes scene reply)
quiet_asked causes scene reply h k = quiet_turn causes scene (stays scene reply) h (quiet_reply scene reply k)

quiet_edit : (scene : Scene) (edit : Edit) → list_all is_quiet (edit_causes scene edit) ≡ true
quiet_edit scene (Input name dim) = refl
quiet_edit scene (Toggle name nums) = refl
quiet_edit scene (Add name nums) = refl
quiet_edit scene (Cut name nums) = refl
quiet_edit scene (Replace name figure) = refl
quiet_edit scene (Def name formula) = refl
quiet_edit scene (Drop name) = refl

quiet_edited : (scene : Scene) (edit : Edit) (reply : Reply) → tells_shelf reply ≡ false → IsQuiet (edited scene edit reply)
quiet_edited scene edit reply h =
    quiet_turn (edit_causes scene edit) scene (record { reply = reply; scene = after scene edit; placed = None }) (quiet_edit scene edit) (record { reply = h; placed = refl })

-- neither does a reading
quiet_reading : (o : Option ℕ) → tells_shelf (read_off o) ≡ false
quiet_reading None = refl
quiet_reading (Some n) = refl

-- the turn of a command that names no file is quiet
pub quiet_command : (scene : Scene) (c : Command) → names_file c ≡ false → IsQuiet (turn_of no_files scene c)
quiet_command scene commands.Blank h = quiet_reply scene Empty refl
quiet_command scene (commands.Input name dim) h = quiet_edited scene (Input name dim) (Changed 0) refl
quiet_command scene (commands.Toggle name nums) h = quiet_edited scene (Toggle name nums) (Changed (changed scene (Toggle name nums))) refl
quiet_command scene (commands.Add name nums) h = quiet_edited scene (Add name nums) (Changed (changed scene (Add name nums))) refl
quiet_command scene (commands.Cut name nums) h = quiet_edited scene (Cut name nums) (Changed (changed scene (Cut name nums))) refl
quiet_command scene (commands.Load name form file) h = absurd (false≢true (sym h))
quiet_command scene (commands.Def name formula) h = quiet_edited scene (Def name formula) (Changed (changed scene (Def name formula))) refl
quiet_command scene (commands.Drop name) h = quiet_edited scene (Drop name) (Changed 0) refl
quiet_command scene (commands.Meter slot name) h =
    quiet_turn (attach_causes scene slot name) scene _ refl (record { reply = quiet_reading (reading (attached scene slot name) slot); placed = refl })
quiet_command scene (commands.Read slot) h = quiet_asked (reading_causes scene slot) scene (read_off (reading scene slot)) refl (quiet_reading (reading scene slot))
quiet_command scene (commands.Unmeter slot) h = quiet_turn (reading_causes scene slot) scene _ refl (record { reply = refl; placed = refl })
quiet_command scene commands.List h = quiet_reply scene (Listed scene.entries) refl
quiet_command scene (commands.Show name) h = quiet_asked (name_causes scene name) scene (Shown (value scene name)) refl refl
quiet_command scene (commands.Section name axis at) h = quiet_asked (section_causes scene name axis at) scene (Shown (slice_of (nat_abs axis) at (value scene name))) refl refl
quiet_command scene (commands.Project name axis) h = quiet_asked (axis_causes scene name axis) scene (Shown (proj_of (nat_abs axis) (value scene name))) refl refl
quiet_command scene (commands.Content name) h = quiet_asked (name_causes scene name) scene (Measured (content_of (value scene name))) refl refl
quiet_command scene (commands.Boundary name) h = quiet_asked (name_causes scene name) scene (Measured (boundary_of (value scene name))) refl refl
quiet_command scene (commands.At name nums) h = quiet_asked (place_causes scene name nums (is_cell_coord (dim_of scene name))) scene (Filled (fills (value scene name) nums)) refl refl
quiet_command scene (commands.Point name nums) h = quiet_asked (place_causes scene name nums (is_point_coord (dim_of scene name))) scene (Placed (place_of (value scene name) nums)) refl refl
quiet_command scene (commands.Faces name axis) h = quiet_asked (axis_causes scene name axis) scene (Faced (faces_of (nat_abs axis) (value scene name))) refl refl
quiet_command scene (commands.Parts name) h = quiet_asked (name_causes scene name) scene (Parted (parts_of (value scene name))) refl refl
quiet_command scene (commands.Report name) h = quiet_asked (name_causes scene name) scene (Reported (reported scene name)) refl refl
quiet_command scene (commands.Save name form file) h = absurd (false≢true (sym h))

-- it has its turn and its work whatever fetches give
pub same_turn : (scene : Scene) (c : Command) (fetched : Fetches) → names_file c ≡ false → turn_of fetched scene c ≡ turn_of no_files scene c
same_turn scene (commands.Load name form file) fetched h = absurd (false≢true (sym h))
same_turn scene (commands.Save name form file) fetched h = absurd (false≢true (sym h))
same_turn scene c fetched h = refl

pub same_work : (scene : Scene) (c : Command) (fetched : Fetches) → names_file c ≡ false → command_work fetched scene c ≡ command_work no_files scene c
same_work scene (commands.Load name form file) fetched h = absurd (false≢true (sym h))
same_work scene (commands.Save name form file) fetched h = absurd (false≢true (sym h))
same_work scene c fetched h = refl

-- ---- turns of requests

-- what is so whatever fetches give is so by what they gave
so_by : (b : Bool) (is_so : Fetches → Type 0) → ((fetched : Fetches) → is_so fetched) → IsSoBy b is_so
so_by true is_so h = (None, h (λ _. None))
so_by false is_so h = h

pub so_always : (files : Option Files) (request : Request) (is_so : Fetches → Type 0) → ((fetched : Fetches) → is_so fetched) → IsSoOver files request is_so
so_always None request is_so h = so_by request.fetches is_so h
so_always (Some files) request is_so h = h (fetched_from files)

-- and so is what follows from it
more_by : (b : Bool) (is_so follows : Fetches → Type 0) → ((fetched : Fetches) → is_so fetched → follows fetched) → IsSoBy b is_so → IsSoBy b follows
more_by true is_so follows f h = (h.0, f (λ _. h.0) h.1)
more_by false is_so follows f h = λ fetched. f fetched (h fetched)

pub so_more : (files : Option Files) (request : Request) (is_so follows : Fetches → Type 0) → ((fetched : Fetches) → is_so fetched → follows fetched) → IsSoOver files request is_so → IsSoOver files request follows
so_more None request is_so follows f h = more_by request.fetches is_so follows f h
so_more (Some files) request is_so follows f h = f (fetched_from files) h

-- a request with one turn, whatever fetches give
pub one_turn : (old new : Around) (request : Request) (turn : Turn) → ((fetched : Fetches) → request.turns fetched ≡ turn) → ((fetched : Fetches) → new.steps ≤ old.steps + request.works fetched) → IsTurnOf old new request turn
one_turn old new request turn t w = so_always old.files request (IsTurnWith request turn old.steps new.steps) (λ fetched. (t fetched, w fetched))

-- a request that fetches a file has its turn and its work by what that fetch gave
pub fetched_turn : (old new : Around) (request : Request) (file : List ℕ) (turns : Option (List ℕ) → Turn) (works : Option (List ℕ) → ℕ) (got : Option (List ℕ)) → request.fetches ≡ true
    → ((fetched : Fetches) → request.turns fetched ≡ turns (fetched file)) → ((got : Option (List ℕ)) (fetched : Fetches) → fetched file ≡ got → request.works fetched ≡ works got)
    → HasFile old.files file got → new.steps ≤ old.steps + works got → IsTurnOf old new request (turns got)
fetched_turn old new request file turns works got e t w has few = by_files old.files has
  where
    with : (fetched : Fetches) → fetched file ≡ got → IsTurnWith request (turns got) old.steps new.steps fetched
    with fetched same = (t fetched ∙ ap turns same, subst (λ (n : ℕ). new.steps ≤ old.steps + n) (sym (w got fetched same)) few)

    by_files : (files : Option Files) → HasFile files file got → IsSoOver files request (IsTurnWith request (turns got) old.steps new.steps)
    by_files None h = subst (λ (b : Bool). IsSoBy b (IsTurnWith request (turns got) old.steps new.steps)) (sym e) (got, with (λ _. got) refl)
    by_files (Some files) h = with (fetched_from files) h

-- ---- what is left

-- kept files are those of a turn that places none
pub kept_told : (old new : Option Files) → KeepsFiles old new → is_some new ≡ is_some old
kept_told None new h = ap (λ (o : Option Files). is_some o) h
kept_told (Some files) None h = absurd h
kept_told (Some files) (Some now) h = refl

pub kept_files : (old new : Option Files) (placed : Option (List ℕ × List ℕ)) → KeepsFiles old new → placed ≡ None → AreFiles new (with_placed (told_files old) placed)
kept_files None new placed h e = subst (λ (o : Option Files). AreFiles o (with_placed (told_files None) placed)) (sym h) tt
kept_files (Some files) None placed h e = absurd h
kept_files (Some files) (Some now) placed h e = h ∙ ap (with_placed files) (sym e)

-- a placed file stands in told files
pub placed_told : (old new : Option Files) (name bytes : List ℕ) → PlacesFile old new name bytes → is_some new ≡ is_some old
placed_told None new name bytes h = ap (λ (o : Option Files). is_some o) h
placed_told (Some files) None name bytes h = absurd h
placed_told (Some files) (Some now) name bytes h = refl

pub placed_files : (old new : Option Files) (name bytes : List ℕ) → PlacesFile old new name bytes → AreFiles new (with_placed (told_files old) (Some (name, bytes)))
placed_files None new name bytes h = subst (λ (o : Option Files). AreFiles o (with_placed (told_files None) (Some (name, bytes)))) (sym h) tt
placed_files (Some files) None name bytes h = absurd h
placed_files (Some files) (Some now) name bytes h = h

same_files : (old new : Option Files) → new ≡ old → KeepsFiles old new
same_files None new e = e
same_files (Some files) new e = subst (KeepsFiles (Some files)) (sym e) refl

-- a refusal of a turn that does not speak of the shelf
quiet_cause : (refusal : Refusal) (scene : Scene) (old new : Around) (request : Request) (turn : Turn) → IsTurnOf old new request turn → tells_shelf turn.reply ≡ false → new.faults ≡ old.faults → new.misses ≡ old.misses → IsRefusalOf refusal scene turn
    → HasCause refusal scene old new request
quiet_cause refusals.NoMemory scene old new request turn t q f m h =
    (omega arith, omega arith, so_more old.files request (IsTurnWith request turn old.steps new.steps) (λ fetched. new.steps ≤ old.steps + request.works fetched) (λ fetched both. both.1) t)
quiet_cause refusals.Missing scene old new request turn t q f m h = absurd (false≢true (sym q ∙ ap (λ (u : Turn). tells_shelf u.reply) h))
quiet_cause refusals.Shelf scene old new request turn t q f m h = absurd (false≢true (sym q ∙ ap (λ (u : Turn). tells_shelf u.reply) h))
quiet_cause refusal scene old new request turn t q f m h = (subst (IsTurnOf old new request) h t, f, m)

-- a turn that places no file and does not speak of the shelf, whose counts and files stay
pub carried_quiet : (r : Result (Unit {0}) Refusal) (old new : Scene) (before now : List ℕ) (around_old around_new : Around) (request : Request) (turn : Turn)
    → IsTurnOf around_old around_new request turn → IsQuiet turn → KeepsFiles around_old.files around_new.files → around_new.faults ≡ around_old.faults → around_new.misses ≡ around_old.misses
    → Carries r old new before now turn → CarriesOver r old new before now around_old around_new request
carried_quiet (Ok done) old new before now around_old around_new request turn t q k f m h = record {
  turn = turn;
  made = t;
  text = h.0;
  fine = h.2;
  scene = h.1;
  told = kept_told around_old.files around_new.files k;
  files = kept_files around_old.files around_new.files turn.placed k q.placed;
  faults = f;
  misses = m;
}
carried_quiet (Err refusal) old new before now around_old around_new request turn t q k f m h = record {
  cause = quiet_cause refusal old around_old around_new request turn t q.reply f m h.0;
  text = h.1;
  scene = h.2;
  files = k;
}

-- a request that does not touch the shelf
pub carried_alone : (r : Result (Unit {0}) Refusal) (old new : Scene) (before now : List ℕ) (around_old around_new : Around) (request : Request) (turn : Turn)
    → around_new.files ≡ around_old.files → around_new.faults ≡ around_old.faults → around_new.misses ≡ around_old.misses
    → ((fetched : Fetches) → request.turns fetched ≡ turn) → ((fetched : Fetches) → around_new.steps ≤ around_old.steps + request.works fetched) → IsQuiet turn
    → Carries r old new before now turn → CarriesOver r old new before now around_old around_new request
carried_alone r old new before now around_old around_new request turn same f m t w q h =
    carried_quiet r old new before now around_old around_new request turn (one_turn around_old around_new request turn t w) q (same_files around_old.files around_new.files same) f m h

-- a command that names no file
pub carried_command : (r : Result (Unit {0}) Refusal) (old new : Scene) (before now : List ℕ) (around_old around_new : Around) (c : Command)
    → around_new.files ≡ around_old.files → around_new.faults ≡ around_old.faults → around_new.misses ≡ around_old.misses → names_file c ≡ false
    → around_new.steps ≤ around_old.steps + command_work no_files old c → Carries r old new before now (turn_of no_files old c) → CarriesOver r old new before now around_old around_new (request_of old c)
carried_command r old new before now around_old around_new c same f m n few h =
    carried_alone r old new before now around_old around_new (request_of old c) (turn_of no_files old c) same f m (λ fetched. same_turn old c fetched n)
    (λ fetched. subst (λ (work : ℕ). around_new.steps ≤ around_old.steps + work) (sym (same_work old c fetched n)) few) (quiet_command old c n) h

-- want of memory before the shelf was asked
pub lacking : (scene : Scene) (before now : List ℕ) (around : Around) (request : Request) → Extends before now → CarriesOver (Err refusals.NoMemory) scene scene before now around around request
lacking scene before now around request h = record {
  cause = (omega arith, omega arith, so_always around.files request (λ fetched. around.steps ≤ around.steps + request.works fetched) (λ fetched. omega arith));
  text = h;
  scene = refl;
  files = same_files around.files around.files refl;
}
