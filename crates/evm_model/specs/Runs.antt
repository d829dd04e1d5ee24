-- Whole runs: the lines of a script in order, each with a mark that says how it went, over the files of a shelf.
use Rattle.std.specs.Prelude.{ℕ, Bool, true, not, ◌&&◌, ◌||◌, List, [], ◌∷◌, Option, None, Some, flat_map}
use Rattle.std.specs.List.{list_any}
use Rattle.std.specs.FinMap as finite
use Rattle.evm_outside.specs.Shelves.{Files}
use Rattle.evm_model.specs.Files.{Fetches}
use Rattle.evm_model.specs.Scene.{Scene}
use Rattle.evm_model.specs.Edits.{Shelf, Memory}
use Rattle.evm_model.specs.Replies.{Reply, No, reply_text, is_no}
use Rattle.evm_model.specs.Steps.{Turn, step, fetches, asks}

-- how it went at a line: it was answered; memory was missing; the shelf failed; or it was answered with what a shelf that does
-- not tell its files gave
pub data Mark : Type 0 where
  Plain : Mark
  NoMemory : Mark
  NoShelf : Mark
  Fetched : Option (List ℕ) → Mark

-- a scene and the files of a shelf
pub record World : Type 0 where
  pub scene : Scene
  pub files : Files

-- the files with the one that a line placed
abbrev pub with_placed : Files → Option (List ℕ × List ℕ) → Files
with_placed files None = files
with_placed files (Some placed) = finite.insert files placed.0 placed.1

-- a reply, and the world after it
pub record Answer : Type 0 where
  pub reply : Reply
  pub world : World

-- what a turn makes of the files
abbrev pub turned : Files → Turn → Answer
turned files turn =
    record { reply = turn.reply; world = record { scene = turn.scene; files = with_placed files turn.placed } }

-- what files give where a name is fetched
abbrev pub fetched_from : Files → Fetches
fetched_from files name = finite.get files name

-- a reply that leaves the world
abbrev pub unanswered : World → Reply → Answer
unanswered world reply = record { reply = reply; world = world }

-- what a line with its mark does in a world
abbrev pub answer : World → List ℕ → Mark → Answer
answer world line Plain = turned world.files (step (fetched_from world.files) world.scene line)
answer world line NoMemory = unanswered world (No Memory)
answer world line NoShelf = unanswered world (No Shelf)
answer world line (Fetched got) = turned world.files (step (λ name. got) world.scene line)

-- whether a line may have a mark, over a shelf that tells its files or not: the shelf fails only where a line asks it; and where
-- the files are not told, what a fetch gave is known by the mark alone
abbrev pub may_have : Bool → World → List ℕ → Mark → Bool
may_have told world line Plain = told || not (fetches world.scene line)
may_have told world line NoMemory = true
may_have told world line NoShelf = asks world.scene line
may_have told world line (Fetched got) = not told && fetches world.scene line

-- whether each line may have its mark, as far as there are marks
abbrev pub may_all_have : Bool → World → List (List ℕ) → List Mark → Bool
may_all_have told world [] marks = true
may_all_have told world (line ∷ more) [] = true
may_all_have told world (line ∷ more) (mark ∷ marks) =
    may_have told world line mark && may_all_have told (answer world line mark).world more marks

-- the replies to the lines, as far as there are marks
abbrev pub run : World → List (List ℕ) → List Mark → List Reply
run world [] marks = []
run world (line ∷ more) [] = []
run world (line ∷ more) (mark ∷ marks) = (answer world line mark).reply
    ∷ run (answer world line mark).world more marks

-- the world after these lines
abbrev pub world_after : World → List (List ℕ) → List Mark → World
world_after world [] marks = world
world_after world (line ∷ more) [] = world
world_after world (line ∷ more) (mark ∷ marks) = world_after (answer world line mark).world more marks

-- the bytes of replies, one after another
abbrev pub texts : List Reply → List ℕ
texts replies = flat_map reply_text replies

-- whether some reply refuses
abbrev pub some_no : List Reply → Bool
some_no replies = list_any is_no replies
