-- A run goes on by one line, and leaves the files to which no line saves.
use Rattle.std.specs.Prelude.{ℕ, zero, suc, ◌≡◌, ◌≤◌, ◌+◌, Bool, true, false, ◌||◌, ◌&&◌, cond, Option, Some, None, Result, Ok, Err, List, [], ◌∷◌, ◌++◌, length, take, drop, refl}
use Rattle.std.proofs.Common.{sym, ◌∙◌, ap, arith, bytes_eq}
use Rattle.std.specs.FinMap as finite
use Rattle.std.specs.FinMap.{get-insert}
use Rattle.std.specs.Cmp.Lexicographic.{nat_list_cmp_total}
use Rattle.std.specs.List.{list_any}
use Rattle.std.proofs.lemmas.Bool.{false≢true}
use Rattle.std.proofs.lemmas.Map.Text.{is_eq-slice_cmp}
use Rattle.std.proofs.lemmas.List.{length-drop, drop-drop, append-nil}
use Rattle.std.proofs.Math.Seq.{take-nil}
use Rattle.evm_outside.specs.Shelves.{Files}
use Rattle.evm_script.specs.Line.{command}
use Rattle.evm_script.specs.declared.command.Command.{Command}
use Rattle.evm_script.specs.declared.command.Command.TheVariants as commands
use Rattle.evm_script.specs.declared.command.LineError.{LineError}
use Rattle.evm_script.specs.declared.files.LoadForm.{LoadForm}
use Rattle.evm_script.specs.declared.files.SaveForm.{SaveForm}
use Rattle.evm_model.specs.Files.{Fetches, bytes_in}
use Rattle.evm_model.specs.Scene.{Scene, value, IsWell}
use Rattle.evm_model.specs.Edits.{Code, first_cause}
use Rattle.evm_model.specs.Replies.{Reply, reply_text, is_no}
use Rattle.evm_model.specs.Steps.{Turn, unless_refused, save_causes, saved, turn_of, line_turn, step, of_line}
use Rattle.evm_model.specs.Runs.{Mark, Plain, NoMemory, NoShelf, Fetched, World, with_placed, turned, fetched_from, answer, may_have, may_all_have, run, world_after, texts, some_no}
use Rattle.evm_model.specs.Laws.{saves_to}
use Rattle.std.proofs.lemmas.List.Folds.{list_any-append}
use Rattle.std.proofs.lemmas.Grind.{flat_map-append}
use Rattle.evm_cells.proofs.Xor.{and-true, and_assoc}
use Rattle.evm_model.proofs.Names.{name_itself, or_none, or-false}
use Rattle.evm_model.proofs.LoadLaws.{load_reads}
use Rattle.evm_model.proofs.StepLaws.{mild_step, save_places, unsaved_turn, well_step}

pub run_no_marks : (world : World) (ls : List (List ℕ)) → run world ls [] ≡ []
run_no_marks world [] = refl
run_no_marks world (l ∷ ls) = refl

pub after_no_marks : (world : World) (ls : List (List ℕ)) → world_after world ls [] ≡ world
after_no_marks world [] = refl
after_no_marks world (l ∷ ls) = refl

nothing_left : (n : ℕ) (l : List ℕ) (rest : List (List ℕ)) → drop n [] ≡ l ∷ rest → ⊥
nothing_left n l rest e = omega (arith, ap length e, length-drop {A = List ℕ} n [])

same_head : {X : Type 0} (x y : X) (xs ys : List X) → x ∷ xs ≡ y ∷ ys → x ≡ y
same_head x y xs ys e = cc

-- one reply more
pub run_more : (world : World) (ls : List (List ℕ)) (ms : List Mark) (l : List ℕ) (rest : List (List ℕ)) (m : Mark) → drop (length ms) ls ≡ l ∷ rest → run world ls (ms ++ m ∷ []) ≡ run world ls ms ++ (answer (world_after world ls ms) l m).reply ∷ []
run_more world [] ms l rest m e = absurd (nothing_left (length ms) l rest e)
run_more world (x ∷ ls) [] l rest m e =
    ap (λ (t : List Reply). (answer world x m).reply ∷ t) (run_no_marks (answer world x m).world ls)
    ∙ ap (λ (y : List ℕ). (answer world y m).reply ∷ []) (same_head x l ls rest e)
run_more world (x ∷ ls) (k ∷ ms) l rest m e =
    ap (λ (t : List Reply). (answer world x k).reply ∷ t) (run_more (answer world x k).world ls ms l rest m e)

-- and the world after it
pub world_more : (world : World) (ls : List (List ℕ)) (ms : List Mark) (l : List ℕ) (rest : List (List ℕ)) (m : Mark) → drop (length ms) ls ≡ l ∷ rest → world_after world ls (ms ++ m ∷ []) ≡ (answer (world_after world ls ms) l m).world
world_more world [] ms l rest m e = absurd (nothing_left (length ms) l rest e)
world_more world (x ∷ ls) [] l rest m e =
    after_no_marks (answer world x m).world ls ∙ ap (λ (y : List ℕ). (answer world y m).world) (same_head x l ls rest e)
world_more world (x ∷ ls) (k ∷ ms) l rest m e = world_more (answer world x k).world ls ms l rest m e

pub texts_more : (rs : List Reply) (r : Reply) → texts (rs ++ r ∷ []) ≡ texts rs ++ reply_text r
texts_more rs r = flat_map-append reply_text rs (r ∷ []) ∙ ap (λ (t : List ℕ). texts rs ++ t) (append-nil (reply_text r))

pub some_no_more : (rs : List Reply) (r : Reply) → some_no (rs ++ r ∷ []) ≡ some_no rs || is_no r
some_no_more rs r = list_any-append is_no rs (r ∷ []) ∙ ap (λ (b : Bool). some_no rs || b) (or-false (is_no r))

pub drop_more : {X : Type 0} (ls : List X) (n : ℕ) (l : X) (rest : List X) → drop n ls ≡ l ∷ rest → drop (n + 1) ls ≡ rest
drop_more ls n l rest e = sym (drop-drop 1 n ls) ∙ ap (λ (t : List _). drop 1 t) e

-- as many replies as marks
pub run_length : (world : World) (ls : List (List ℕ)) (ms : List Mark) → length ms ≤ length ls → length (run world ls ms) ≡ length ms
run_length world [] [] h = refl
run_length world [] (m ∷ ms) h = absurd (omega arith)
run_length world (l ∷ ls) [] h = refl
run_length world (l ∷ ls) (m ∷ ms) h = ap suc (run_length (answer world l m).world ls ms (omega arith))

-- the replies to a front
pub run_front : (world : World) (ls : List (List ℕ)) (ms : List Mark) (k : ℕ) → run world ls (take k ms) ≡ take k (run world ls ms)
run_front world [] ms k = sym (take-nil k)
run_front world (l ∷ ls) [] k = ap (run world (l ∷ ls)) (take-nil k) ∙ sym (take-nil k)
run_front world (l ∷ ls) (m ∷ ms) zero = refl
run_front world (l ∷ ls) (m ∷ ms) (suc k) = ap (λ (t : List Reply). (answer world l m).reply ∷ t) (run_front (answer world l m).world ls ms k)

-- later lines change no earlier reply, and not the world at that time
later_replies : (world : World) (ls more : List (List ℕ)) (ms : List Mark) → length ms ≤ length ls → run world (ls ++ more) ms ≡ run world ls ms
later_replies world [] more [] h = run_no_marks world more
later_replies world [] more (m ∷ ms) h = absurd (omega arith)
later_replies world (l ∷ ls) more [] h = refl
later_replies world (l ∷ ls) more (m ∷ ms) h = ap (λ (t : List Reply). (answer world l m).reply ∷ t) (later_replies (answer world l m).world ls more ms (omega arith))

later_world : (world : World) (ls more : List (List ℕ)) (ms : List Mark) → length ms ≤ length ls → world_after world (ls ++ more) ms ≡ world_after world ls ms
later_world world [] more [] h = after_no_marks world more
later_world world [] more (m ∷ ms) h = absurd (omega arith)
later_world world (l ∷ ls) more [] h = refl
later_world world (l ∷ ls) more (m ∷ ms) h = later_world (answer world l m).world ls more ms (omega arith)

pub run_later : (world : World) (ls more : List (List ℕ)) (ms : List Mark) → length ms ≤ length ls → (run world (ls ++ more) ms ≡ run world ls ms) × (world_after world (ls ++ more) ms ≡ world_after world ls ms)
run_later world ls more ms h = (later_replies world ls more ms h, later_world world ls more ms h)

-- one mark more that a line may have
pub may_no_marks : (told : Bool) (world : World) (ls : List (List ℕ)) → may_all_have told world ls [] ≡ true
may_no_marks told world [] = refl
may_no_marks told world (l ∷ ls) = refl

pub may_more : (told : Bool) (world : World) (ls : List (List ℕ)) (ms : List Mark) (l : List ℕ) (rest : List (List ℕ)) (m : Mark) → drop (length ms) ls ≡ l ∷ rest
    → may_all_have told world ls (ms ++ m ∷ []) ≡ may_all_have told world ls ms && may_have told (world_after world ls ms) l m
may_more told world [] ms l rest m e = absurd (nothing_left (length ms) l rest e)
may_more told world (x ∷ ls) [] l rest m e =
    ap (λ (b : Bool). may_have told world x m && b) (may_no_marks told (answer world x m).world ls)
    ∙ and-true (may_have told world x m)
    ∙ ap (λ (y : List ℕ). may_have told world y m) (same_head x l ls rest e)
may_more told world (x ∷ ls) (k ∷ ms) l rest m e =
    ap (λ (b : Bool). may_have told world x k && b) (may_more told (answer world x k).world ls ms l rest m e)
    ∙ sym (and_assoc (may_have told world x k) (may_all_have told (answer world x k).world ls ms) (may_have told (world_after (answer world x k).world ls ms) l m))

-- ---- what a line leaves of a world

-- a refused turn leaves the scene and the files
refused_turn : (world : World) (turn : Turn) → (is_no turn.reply ≡ true → (turn.scene ≡ world.scene) × (turn.placed ≡ None)) → is_no turn.reply ≡ true → (turned world.files turn).world ≡ world
refused_turn world turn mild h = let kept = mild h in λ i. record { scene = kept.0 i; files = with_placed world.files (kept.1 i) }

pub refused_leaves : (world : World) (line : List ℕ) (mark : Mark) → is_no (answer world line mark).reply ≡ true → (answer world line mark).world ≡ world
refused_leaves world line Plain h = refused_turn world (step (fetched_from world.files) world.scene line) (mild_step (fetched_from world.files) world.scene line).0 h
refused_leaves world line NoMemory h = refl
refused_leaves world line NoShelf h = refl
refused_leaves world line (Fetched got) h = refused_turn world (step (λ o. got) world.scene line) (mild_step (λ o. got) world.scene line).0 h

-- each scene of a run is well
pub well_answer : (world : World) (line : List ℕ) (mark : Mark) → IsWell world.scene → IsWell (answer world line mark).world.scene
well_answer world line Plain well = well_step (fetched_from world.files) world.scene line well
well_answer world line NoMemory well = well
well_answer world line NoShelf well = well
well_answer world line (Fetched got) well = well_step (λ o. got) world.scene line well

pub well_run : (world : World) (ls : List (List ℕ)) (ms : List Mark) → IsWell world.scene → IsWell (world_after world ls ms).scene
well_run world [] ms well = well
well_run world (l ∷ ls) [] well = well
well_run world (l ∷ ls) (m ∷ ms) well = well_run (answer world l m).world ls ms (well_answer world l m well)

-- a load over files that are not told is that over files that have what was fetched
pub fetched_told : (world : World) (line name file : List ℕ) (form : LoadForm) (got : Option (List ℕ)) → command line ≡ Ok (commands.Load name form file)
    → fetched_from world.files file ≡ got → answer world line (Fetched got) ≡ answer world line Plain
fetched_told world line name file form got e same = ap (turned world.files) (load_reads (λ o. got) (fetched_from world.files) world.scene line name file form e (sym same))

-- ---- files to which no line saves

placed_other : (files : Files) (to bytes file : List ℕ) → bytes_eq file to ≡ false → fetched_from (finite.insert files to bytes) file ≡ fetched_from files file
placed_other files to bytes file d = get-insert nat_list_cmp_total files to bytes file ∙ ap (λ (b : Bool). cond b (Some bytes) (fetched_from files file)) (is_eq-slice_cmp file to ∙ d)

placed_own : (files : Files) (file bytes : List ℕ) → fetched_from (finite.insert files file bytes) file ≡ Some bytes
placed_own files file bytes = get-insert nat_list_cmp_total files file bytes file ∙ ap (λ (b : Bool). cond b (Some bytes) (fetched_from files file)) (is_eq-slice_cmp file file ∙ name_itself file)

kept_turn : (files : Files) (fetched : Fetches) (scene : Scene) (c : Command) (file : List ℕ) → saves_to file c ≡ false → fetched_from (with_placed files (turn_of fetched scene c).placed) file ≡ fetched_from files file
kept_turn files fetched scene (commands.Save name form to) file d = by (first_cause (save_causes scene name form))
  where
    by : (o : Option Code) → fetched_from (with_placed files (unless_refused o scene (saved scene to (bytes_in form (value scene name)))).placed) file ≡ fetched_from files file
    by None = placed_other files to (bytes_in form (value scene name)) file d
    by (Some code) = refl
kept_turn files fetched scene c file d = ap (λ (p : Option (List ℕ × List ℕ)). fetched_from (with_placed files p) file) (unsaved_turn fetched scene c refl)

kept_line : (files : Files) (fetched : Fetches) (scene : Scene) (r : Result Command LineError) (file : List ℕ) → of_line (saves_to file) r ≡ false
    → fetched_from (with_placed files (line_turn fetched scene r).placed) file ≡ fetched_from files file
kept_line files fetched scene (Ok c) file d = kept_turn files fetched scene c file d
kept_line files fetched scene (Err e) file d = refl

kept_step : (files : Files) (fetched : Fetches) (scene : Scene) (line file : List ℕ) → of_line (saves_to file) (command line) ≡ false
    → fetched_from (with_placed files (step fetched scene line).placed) file ≡ fetched_from files file
unfolding step
kept_step files fetched scene line file d = kept_line files fetched scene (command line) file d

kept_answer : (world : World) (line file : List ℕ) (mark : Mark) → of_line (saves_to file) (command line) ≡ false → fetched_from (answer world line mark).world.files file ≡ fetched_from world.files file
kept_answer world line file Plain d = kept_step world.files (fetched_from world.files) world.scene line file d
kept_answer world line file NoMemory d = refl
kept_answer world line file NoShelf d = refl
kept_answer world line file (Fetched got) d = kept_step world.files (λ o. got) world.scene line file d

pub run_keeps : (world : World) (ls : List (List ℕ)) (ms : List Mark) (file : List ℕ) → list_any (λ line. of_line (saves_to file) (command line)) ls ≡ false
    → fetched_from (world_after world ls ms).files file ≡ fetched_from world.files file
run_keeps world [] ms file d = refl
run_keeps world (l ∷ ls) [] file d = refl
run_keeps world (l ∷ ls) (m ∷ ms) file d =
    let parts = or_none (of_line (saves_to file) (command l)) (list_any (λ line. of_line (saves_to file) (command line)) ls) d in
    run_keeps (answer world l m).world ls ms file parts.1 ∙ kept_answer world l file m parts.0

-- a file that was saved is there
pub saved_there : (world : World) (line name file : List ℕ) (form : SaveForm) (mark : Mark) → command line ≡ Ok (commands.Save name form file) → is_no (answer world line mark).reply ≡ false
    → fetched_from (answer world line mark).world.files file ≡ Some (bytes_in form (value world.scene name))
saved_there world line name file form Plain e h =
    ap (λ (p : Option (List ℕ × List ℕ)). fetched_from (with_placed world.files p) file) (save_places (fetched_from world.files) world.scene line name file form e h)
    ∙ placed_own world.files file (bytes_in form (value world.scene name))
saved_there world line name file form NoMemory e h = absurd (false≢true (sym h))
saved_there world line name file form NoShelf e h = absurd (false≢true (sym h))
saved_there world line name file form (Fetched got) e h =
    ap (λ (p : Option (List ℕ × List ℕ)). fetched_from (with_placed world.files p) file) (save_places (λ o. got) world.scene line name file form e h)
    ∙ placed_own world.files file (bytes_in form (value world.scene name))
