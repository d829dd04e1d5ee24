-- What a line does in the world of a run, and in the world that a shelf tells.
use Rattle.std.proofs.Common.{◌≡◌, ℕ, Bool, true, false, not, ◌&&◌, ◌||◌, List, refl, sym, ◌∙◌, ap, subst, Option, None, Some, is_some}
use Rattle.std.proofs.lemmas.Bool.{false≢true}
use Rattle.evm_outside.specs.Shelves.{Files, KeepsFiles}
use Rattle.evm_model.specs.Scene.{Scene}
use Rattle.evm_model.specs.Steps.{Turn, fetches, asks}
use Rattle.evm_model.specs.Runs.{World, Mark, Plain, NoMemory, NoShelf, Fetched, Answer, answer, may_have, fetched_from, turned}
use Rattle.evm_model.proofs.Names.{not_true}
use Rattle.evm_model.proofs.StepLaws.{others_read_none}
use Rattle.evm_session.specs.Answers.{world_of, told_files, AreFiles}

-- one reply and one scene
pub record IsSameButFiles (a b : Answer) : Type 0 where
  pub reply : a.reply ≡ b.reply
  pub scene : a.world.scene ≡ b.world.scene

same_turns : (files other : Files) (s t : Turn) → s ≡ t → IsSameButFiles (turned files s) (turned other t)
same_turns files other s t e = record { reply = ap (λ (u : Turn). u.reply) e; scene = ap (λ (u : Turn). u.scene) e }

one_scene : (scene : Scene) (files other : Files) (line : List ℕ) (m : Mark) → may_have false (record { scene = scene; files = files }) line m ≡ true
    → IsSameButFiles (answer (record { scene = scene; files = files }) line m) (answer (record { scene = scene; files = other }) line m)
one_scene scene files other line Plain h = same_turns files other _ _ (others_read_none (fetched_from files) (fetched_from other) scene line (not_true (fetches scene line) h))
one_scene scene files other line NoMemory h = record { reply = refl; scene = refl }
one_scene scene files other line NoShelf h = record { reply = refl; scene = refl }
one_scene scene files other line (Fetched got) h = record { reply = refl; scene = refl }

-- where the files are not told, a line that may have its mark is answered the same in any two worlds with one scene
pub untold_alike : (v w : World) (line : List ℕ) (m : Mark) → v.scene ≡ w.scene → may_have false v line m ≡ true → IsSameButFiles (answer v line m) (answer w line m)
untold_alike v w line m e h =
    subst (λ (s : Scene). IsSameButFiles (answer v line m) (answer (record { scene = s; files = w.files }) line m)) e (one_scene v.scene v.files w.files line m h)

-- a scene and the told files of a shelf are those of a world
pub record IsOf (told : Option Files) (seen : Scene) (world : World) : Type 0 where
  pub scene : seen ≡ world.scene
  pub files : AreFiles told world.files

pub told_world : (files : Files) (scene : Scene) (w : World) → IsOf (Some files) scene w → world_of scene (Some files) ≡ w
told_world files scene w b =
    ap (λ (s : Scene). record { scene = s; files = files }) b.scene ∙ ap (λ (f : Files). record { scene = w.scene; files = f }) b.files

-- so a line is answered as in that world, the files aside
pub alike : (told : Option Files) (scene : Scene) (w : World) (line : List ℕ) (m : Mark) → IsOf told scene w → may_have (is_some told) (world_of scene told) line m ≡ true
    → IsSameButFiles (answer (world_of scene told) line m) (answer w line m)
alike None scene w line m b h = untold_alike (world_of scene None) w line m b.scene h
alike (Some files) scene w line m b h =
    subst (λ (v : World). IsSameButFiles (answer (world_of scene (Some files)) line m) (answer v line m)) (told_world files scene w b) (record { reply = refl; scene = refl })

-- and the files that the shelf tells afterwards are those of that world
pub files_alike : (told now : Option Files) (scene : Scene) (w : World) (line : List ℕ) (m : Mark) → IsOf told scene w → is_some now ≡ is_some told
    → AreFiles now (answer (world_of scene told) line m).world.files → AreFiles now (answer w line m).world.files
files_alike None None scene w line m b e h = tt
files_alike None (Some now) scene w line m b e h = absurd (false≢true (sym e))
files_alike (Some files) now scene w line m b e h = subst (λ (v : World). AreFiles now (answer v line m).world.files) (told_world files scene w b) h

-- whether a line may have a mark is seen from the scene
pub may_alike : (told : Bool) (v w : World) (line : List ℕ) (m : Mark) → v.scene ≡ w.scene → may_have told v line m ≡ may_have told w line m
may_alike told v w line Plain e = ap (λ (s : Scene). told || not (fetches s line)) e
may_alike told v w line NoMemory e = refl
may_alike told v w line NoShelf e = ap (λ (s : Scene). asks s line) e
may_alike told v w line (Fetched got) e = ap (λ (s : Scene). not told && fetches s line) e

-- files that are kept are told as before
pub told_kept : (told now : Option Files) → KeepsFiles told now → is_some now ≡ is_some told
told_kept None now h = ap is_some h
told_kept (Some files) None h = absurd h
told_kept (Some files) (Some now) h = refl

pub files_kept : (told now : Option Files) → KeepsFiles told now → AreFiles now (told_files told)
files_kept None None h = tt
files_kept None (Some now) h = absurd (false≢true (ap is_some (sym h)))
files_kept (Some files) None h = absurd h
files_kept (Some files) (Some now) h = h

pub files_told : (told : Option Files) → AreFiles told (told_files told)
files_told None = tt
files_told (Some files) = refl
