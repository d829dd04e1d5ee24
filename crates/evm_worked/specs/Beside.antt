-- A second worked example: an input with cells anywhere, and a box apart from all of them. The work of the toggle of that box is the
-- same number whatever the other cells are, and so however many cuts they make.
use Rattle.std.specs.Prelude.{◌≡◌, ℕ, ◌≤◌, ◌*◌, Bool, true, ◌||◌, ℤ, pos, ◌+ℤ◌, ◌*ℤ◌, int_lt, List, [], ◌∷◌, map, get_or, codes}
use Rattle.std.specs.List.{list_all}
use Rattle.evm_cells.specs.Limits.{ints, IsCellSet}
use Rattle.evm_cells.specs.Boxes.{is_box}
use Rattle.evm_cells.specs.Heights.{cut_count}
use Rattle.evm_script.specs.declared.formula.Formula.TheVariants as formulas
use Rattle.evm_model.specs.Scene.{Scene, Entry, Given, Made}
use Rattle.evm_model.specs.Edits.{Edit, Toggle}
use Rattle.evm_model.specs.Work.{work}

-- an input of the plane with some cells
abbrev pub input_of : List ℕ → List (List ℤ) → Entry
input_of name S = record { name = name; dim = 2; what = Given S }

-- a formula c: the cells of a and of b
abbrev pub either : Entry
either = record { name = codes "c"; dim = 2; what = Made (formulas.Or (codes "a") (codes "b")) }

-- the scene of an input a with some cells, an input b without any, and that formula
abbrev pub scene_with : List (List ℤ) → Scene
scene_with S = record { entries = input_of (codes "a") S ∷ input_of (codes "b") [] ∷ either ∷ []; slots = [] }

-- the box from (x, w) to (y, z) is toggled in a
abbrev pub toggle_of_a : ℤ → ℤ → ℤ → ℤ → Edit
toggle_of_a x w y z = Toggle (codes "a") (x ∷ w ∷ y ∷ z ∷ [])

-- whether a cell ends before x on the first axis, or starts after y
abbrev pub is_apart : ℤ → ℤ → List ℤ → Bool
is_apart x y cell = int_lt (get_or cell 0 (pos 0) +ℤ pos 1) x || int_lt y (get_or cell 0 (pos 0))

-- where all cells of a are apart from the box, the work is 80, whatever cells these are: the names a and c are reached, each with the
-- two heights x and y looked at and the two cuts x and y in the range of its change, and so with 8 (1 + 2 + 2) each
abbrev pub WorkBeside : Type 0
WorkBeside = (S : List (List ℤ)) (x w y z : ℤ)
    → IsCellSet 2 S → is_box 2 (x ∷ w ∷ []) (y ∷ z ∷ []) ≡ true → list_all (is_apart x y) S ≡ true
    → work (scene_with S) (toggle_of_a x w y z) ≡ 80

-- the cells of n boxes in a row, the box from (10 k, 0) to (10 k + 1, 1) for each k from 0 to n - 1
abbrev pub row : ℕ → List (List ℤ)
row n = map (λ k. (pos 10 *ℤ k) ∷ pos 0 ∷ []) (ints (pos 0) n)

-- such a row has 2 n cuts, up to a hundred million boxes, which are within the limits
abbrev pub CutsOfRow : Type 0
CutsOfRow = (n : ℕ) → n ≤ 100000000 → cut_count 2 (row n ∷ []) ≡ 2 * n

-- the work of the toggle of the box from (5, 0) to (6, 1) is 80 in each of them: for a thousand boxes, with two thousand cuts, as
-- for one
abbrev pub WorkInRow : Type 0
WorkInRow = (n : ℕ) → n ≤ 100000000 → work (scene_with (row n)) (toggle_of_a (pos 5) (pos 0) (pos 6) (pos 1)) ≡ 80
