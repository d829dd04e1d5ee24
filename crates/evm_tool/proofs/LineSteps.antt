-- What lines add to a count of steps: one after another, and in worlds that are alike.
use Rattle.std.proofs.Common.{◌≡◌, ℕ, ◌+◌, ◌≤◌, Bool, true, false, if◌then◌else◌, List, [], ◌∷◌, ◌++◌, length, drop, refl, sym, ◌∙◌, ap, subst, arith, Option, None, Some, is_some, is_none, Result, Ok, Err}
use Rattle.std.proofs.lemmas.List.{length-drop}
use Rattle.evm_outside.specs.Shelves.{Files}
use Rattle.evm_script.specs.Line.{command}
use Rattle.evm_script.specs.declared.command.Command.{Command}
use Rattle.evm_script.specs.declared.command.LineError.{LineError}
use Rattle.evm_script.specs.declared.files.LoadForm.{LoadForm}
use Rattle.evm_model.specs.Edits.{Code, Replace, Missing, Form, first_cause}
use Rattle.evm_model.specs.Files.{Fetches, figure_fetched}
use Rattle.evm_model.specs.LineWork.{load_work, way_work, read_work, line_work, AddsAtLack, Adds, AddsAll}
use Rattle.evm_model.specs.Runs.{World, Mark, Plain, NoMemory, NoShelf, Fetched, answer, may_have, fetched_from, world_after}
use Rattle.evm_model.specs.Scene.{Scene, dim_of}
use Rattle.evm_model.specs.Steps.{Way, Edits, Asks, Loads, Saves, Hands, way_of, way_fetches, command_fetches, of_line, fetches, load_causes, loaded}
use Rattle.evm_model.specs.Work.{work}
use Rattle.evm_model.proofs.LoadLaws.{first_front, some_cause}
use Rattle.evm_model.proofs.Names.{not_true}
use Rattle.evm_session.specs.Answers.{world_of}
use Rattle.evm_tool.proofs.Worlds.{IsOf, told_world}

-- ---- one line

-- a line that fetches no file has the same work whatever fetches give
load_works : (f : Fetches) (scene : Scene) (name file : List ℕ) (form : LoadForm) → is_none (first_cause (load_causes scene name form)) ≡ false → load_work f scene name form file ≡ 0
load_works f scene name file form h =
    let some = some_cause (first_cause (load_causes scene name form)) h in
    let behind = (is_none (f file), Missing) ∷ (is_none (figure_fetched form (dim_of scene name) (f file)), Form) ∷ [] in
    ap (λ (o : Option Code). if is_some o then 0 else work scene (Replace name (loaded f scene name form file)))
    (first_front (load_causes scene name form) behind some.0 some.1)

way_works : (f g : Fetches) (scene : Scene) (way : Way) → way_fetches scene way ≡ false → way_work f scene way ≡ way_work g scene way
way_works f g scene (Edits edit) h = refl
way_works f g scene (Asks causes answer) h = refl
way_works f g scene (Loads name form file) h = load_works f scene name file form h ∙ sym (load_works g scene name file form h)
way_works f g scene (Saves name form file) h = refl
way_works f g scene (Hands causes answer left) h = refl

read_works : (f g : Fetches) (scene : Scene) (r : Result Command LineError) → of_line (command_fetches scene) r ≡ false → read_work f scene r ≡ read_work g scene r
read_works f g scene (Ok c) h = way_works f g scene (way_of c) h
read_works f g scene (Err e) h = refl

unfetched_work : (f g : Fetches) (scene : Scene) (line : List ℕ) → fetches scene line ≡ false → line_work f scene line ≡ line_work g scene line
unfolding line_work fetches
unfetched_work f g scene line h = read_works f g scene (command line) h

-- lines with one command have one work
work_same : (f : Fetches) (scene : Scene) (l k : List ℕ) → command l ≡ command k → line_work f scene l ≡ line_work f scene k
unfolding line_work
work_same f scene l k e = ap (λ (r : Result Command LineError). read_work f scene r) e

at_most : (before now m n : ℕ) → m ≡ n → now ≤ before + m → now ≤ before + n
at_most before now m n e h = omega (arith, e, h)

lack_same : (told : Bool) (w : World) (l k : List ℕ) (before now : ℕ) → command l ≡ command k → AddsAtLack told w l before now → AddsAtLack told w k before now
lack_same true w l k before now e h = at_most before now _ _ (work_same (fetched_from w.files) w.scene l k e) h
lack_same false w l k before now e h = (h.0, at_most before now _ _ (work_same (λ name. h.0) w.scene l k e) h.1)

pub adds_same : (told : Bool) (w : World) (l k : List ℕ) (m : Mark) (before now : ℕ) → command l ≡ command k → Adds told w l m before now → Adds told w k m before now
adds_same told w l k Plain before now e h = at_most before now _ _ (work_same (fetched_from w.files) w.scene l k e) h
adds_same told w l k NoMemory before now e h = lack_same told w l k before now e h
adds_same told w l k NoShelf before now e h = h
adds_same told w l k (Fetched got) before now e h = at_most before now _ _ (work_same (λ name. got) w.scene l k e) h

-- where the files are not told, a line that may have its mark adds the same in any two worlds with one scene
one_scene : (scene : Scene) (files other : Files) (line : List ℕ) (m : Mark) (before now : ℕ) → may_have false (record { scene = scene; files = files }) line m ≡ true
    → Adds false (record { scene = scene; files = files }) line m before now → Adds false (record { scene = scene; files = other }) line m before now
one_scene scene files other line Plain before now h a = at_most before now _ _ (unfetched_work (fetched_from files) (fetched_from other) scene line (not_true (fetches scene line) h)) a
one_scene scene files other line NoMemory before now h a = a
one_scene scene files other line NoShelf before now h a = a
one_scene scene files other line (Fetched got) before now h a = a

-- so a line adds as much in a world with the scene and the told files of a shelf
pub adds_alike : (told : Option Files) (scene : Scene) (w : World) (line : List ℕ) (m : Mark) (before now : ℕ) → IsOf told scene w → may_have (is_some told) (world_of scene told) line m ≡ true
    → Adds (is_some told) (world_of scene told) line m before now → Adds (is_some told) w line m before now
adds_alike None scene w line m before now b h a =
    subst (λ (s : Scene). Adds false (record { scene = s; files = w.files }) line m before now) b.scene
    (one_scene scene (world_of scene None).files w.files line m before now h a)
adds_alike (Some files) scene w line m before now b h a = subst (λ (v : World). Adds true v line m before now) (told_world files scene w b) a

-- what is added to fewer steps is added to more
lack_from : (told : Bool) (w : World) (line : List ℕ) (less before now : ℕ) → less ≤ before → AddsAtLack told w line less now → AddsAtLack told w line before now
lack_from true w line less before now e h = omega (arith, e, h)
lack_from false w line less before now e h = (h.0, omega (arith, e, h.1))

adds_from : (told : Bool) (w : World) (line : List ℕ) (m : Mark) (less before now : ℕ) → less ≤ before → Adds told w line m less now → Adds told w line m before now
adds_from told w line Plain less before now e h = omega (arith, e, h)
adds_from told w line NoMemory less before now e h = lack_from told w line less before now e h
adds_from told w line NoShelf less before now e h = omega (arith, e, h)
adds_from told w line (Fetched got) less before now e h = omega (arith, e, h)

-- ---- lines one after another

pub adds_none : (told : Bool) (w : World) (ls : List (List ℕ)) (before now : ℕ) → now ≤ before → AddsAll told w ls [] before now
adds_none told w [] before now h = h
adds_none told w (l ∷ ls) before now h = h

same_head : (x y : List ℕ) (xs ys : List (List ℕ)) → x ∷ xs ≡ y ∷ ys → x ≡ y
same_head x y xs ys e = cc

-- one line more
pub adds_more : (told : Bool) (w : World) (ls : List (List ℕ)) (ms : List Mark) (line : List ℕ) (after : List (List ℕ)) (m : Mark) (before between now : ℕ) → drop (length ms) ls ≡ line ∷ after
    → AddsAll told w ls ms before between → Adds told (world_after w ls ms) line m between now → AddsAll told w ls (ms ++ m ∷ []) before now
adds_more told w [] ms line after m before between now e h a = absurd (omega (arith, ap length e, length-drop {A = List ℕ} (length ms) []))
adds_more told w (x ∷ ls) [] line after m before between now e h a = (
  now,
  subst (λ (l : List ℕ). Adds told w l m before now) (sym (same_head x line ls after e)) (adds_from told w line m between before now h a),
  adds_none told (answer w x m).world ls now now (omega arith),
)
adds_more told w (x ∷ ls) (k ∷ ms) line after m before between now e h a =
    (h.0, h.1, adds_more told (answer w x k).world ls ms line after m h.0 between now e h.2 a)

-- later lines change nothing of what earlier ones add
pub adds_later : (told : Bool) (w : World) (ls more : List (List ℕ)) (ms : List Mark) (before now : ℕ) → length ms ≤ length ls → AddsAll told w ls ms before now → AddsAll told w (ls ++ more) ms before now
adds_later told w [] more [] before now e h = adds_none told w more before now h
adds_later told w [] more (m ∷ ms) before now e h = absurd (omega arith)
adds_later told w (l ∷ ls) more [] before now e h = h
adds_later told w (l ∷ ls) more (m ∷ ms) before now e h = (h.0, h.1, adds_later told (answer w l m).world ls more ms h.0 now (omega arith) h.2)
