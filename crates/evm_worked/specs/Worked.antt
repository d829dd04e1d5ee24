-- A worked example: a scene of squares, a cut in it, and the work of that cut as it comes out by hand.
use Rattle.std.specs.Prelude.{◌≡◌, ℕ, ℤ, pos, List, [], ◌∷◌, map, codes}
use Rattle.evm_outside.specs.Shelves.{Files}
use Rattle.evm_cells.specs.Examples.{plane}
use Rattle.evm_script.specs.declared.formula.Formula.TheVariants as formulas
use Rattle.evm_model.specs.Files.{Fetches}
use Rattle.evm_model.specs.Scene.{Scene, Entry, Given, Made, start}
use Rattle.evm_model.specs.Edits.{Edit, Cut}
use Rattle.evm_model.specs.Work.{work}
use Rattle.evm_model.specs.Runs.{World, Plain, world_after}
use Rattle.evm_model.specs.LineWork.{line_work}

-- the four cells of the square from (0, 0) to (2, 2)
abbrev pub low_square : List (List ℤ)
low_square = plane 0 0 ∷ plane 0 1 ∷ plane 1 0 ∷ plane 1 1 ∷ []

-- the four cells of the square from (1, 1) to (3, 3)
abbrev pub high_square : List (List ℤ)
high_square = plane 1 1 ∷ plane 1 2 ∷ plane 2 1 ∷ plane 2 2 ∷ []

-- the first square as an input a
abbrev pub entry_a : Entry
entry_a = record { name = codes "a"; dim = 2; what = Given low_square }

-- the second as an input b
abbrev pub entry_b : Entry
entry_b = record { name = codes "b"; dim = 2; what = Given high_square }

-- what the two share, as a formula c
abbrev pub entry_c : Entry
entry_c = record { name = codes "c"; dim = 2; what = Made (formulas.And (codes "a") (codes "b")) }

-- the scene of these three names, without meters
abbrev pub squares : Scene
squares = record { entries = entry_a ∷ entry_b ∷ entry_c ∷ []; slots = [] }

-- the lines that make it
abbrev pub lines_of_squares : List (List ℕ)
lines_of_squares =
    codes "input a 2"
    ∷ codes "add a 0 0 2 2"
    ∷ codes "input b 2"
    ∷ codes "add b 1 1 3 3"
    ∷ codes "def c and a b"
    ∷ []

-- the world at the start, without meters, over some files
abbrev pub world_over : Files → World
world_over files = record { scene = start; files = files }

-- where each line is answered, the lines leave this scene, whatever files there are
abbrev pub LinesMakeSquares : Type 0
LinesMakeSquares = (files : Files)
    → (world_after (world_over files) lines_of_squares (map (λ line. Plain) lines_of_squares)).scene ≡ squares

-- the cell at (1, 1) is cut out of b
abbrev pub cut_of_b : Edit
cut_of_b = Cut (codes "b") (pos 1 ∷ pos 1 ∷ pos 2 ∷ pos 2 ∷ [])

-- the work is 80: the names b and c are reached, each with two heights looked at and two cuts in the range of its change, and so with
-- 8 (1 + 2 + 2) each
abbrev pub WorkOfCut : Type 0
WorkOfCut = work squares cut_of_b ≡ 80

-- it is the work of the line that states this edit, whatever a fetch gives
abbrev pub WorkOfLine : Type 0
WorkOfLine = (fetched : Fetches) → line_work fetched squares (codes "cut b 1 1 2 2") ≡ 80
