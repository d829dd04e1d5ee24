-- The lines that make the scene of squares, one after another, and the line of the cut.
use Rattle.std.proofs.Common.{◌≡◌, ℕ, ◌||◌, List, [], ◌∷◌, None, Ok, codes, ℤ, pos, refl, ap, ◌∙◌}
use Rattle.std.specs.Fmt.{digits}
use Rattle.evm_cells.specs.Places.{has, same, each}
use Rattle.evm_cells.specs.Limits.{limit, ints, tuples, is_point, is_cell_coord, is_point_coord}
use Rattle.evm_cells.specs.Booleans.{or_cells}
use Rattle.evm_cells.specs.Boxes.{box_cells}
use Rattle.evm_cells.specs.Examples.{plane}
use Rattle.evm_cells.proofs.Window.{combine_in, box_in}
use Rattle.evm_script.specs.Line.{command}
use Rattle.evm_script.specs.declared.command.Command.{Command}
use Rattle.evm_script.specs.declared.command.Command.TheVariants as commands
use Rattle.evm_script.specs.declared.formula.Formula.TheVariants as formulas
use Rattle.evm_script.proofs.Again.{read_again}
use Rattle.evm_model.specs.Figures.{box_of, box_fits, or_of}
use Rattle.evm_model.specs.Files.{Fetches}
use Rattle.evm_model.specs.Scene.{Scene, Entry, Given, start}
use Rattle.evm_model.specs.Edits.{Edit, refusal, after}
use Rattle.evm_model.specs.Replies.{Reply}
use Rattle.evm_model.specs.Steps.{step, line_turn, turn_of, unless_refused, edited}
use Rattle.evm_model.specs.Runs.{World, Plain, answer, fetched_from}
use Rattle.evm_model.specs.LineWork.{line_work, read_work}
use Rattle.evm_worked.specs.Worked.{low_square, high_square, entry_a, entry_b, squares, world_over, LinesMakeSquares, WorkOfLine}
use Rattle.evm_worked.proofs.Squares.{set_low, set_high, set_none, work_of_cut}

-- ---- what the lines state

first_line : command (codes "input a 2") ≡ Ok (commands.Input (codes "a") (pos 2))
unfolding digits
first_line = read_again (commands.Input (codes "a") (pos 2)) (refl, refl)

second_line : command (codes "add a 0 0 2 2") ≡ Ok (commands.Add (codes "a") (pos 0 ∷ pos 0 ∷ pos 2 ∷ pos 2 ∷ []))
unfolding digits
second_line = read_again (commands.Add (codes "a") (pos 0 ∷ pos 0 ∷ pos 2 ∷ pos 2 ∷ [])) (refl, refl)

third_line : command (codes "input b 2") ≡ Ok (commands.Input (codes "b") (pos 2))
unfolding digits
third_line = read_again (commands.Input (codes "b") (pos 2)) (refl, refl)

fourth_line : command (codes "add b 1 1 3 3") ≡ Ok (commands.Add (codes "b") (pos 1 ∷ pos 1 ∷ pos 3 ∷ pos 3 ∷ []))
unfolding digits
fourth_line = read_again (commands.Add (codes "b") (pos 1 ∷ pos 1 ∷ pos 3 ∷ pos 3 ∷ [])) (refl, refl)

fifth_line : command (codes "def c and a b") ≡ Ok (commands.Def (codes "c") (formulas.And (codes "a") (codes "b")))
fifth_line = read_again (commands.Def (codes "c") (formulas.And (codes "a") (codes "b"))) (refl, (refl, refl))

line_of_cut : command (codes "cut b 1 1 2 2") ≡ Ok (commands.Cut (codes "b") (pos 1 ∷ pos 1 ∷ pos 2 ∷ pos 2 ∷ []))
unfolding digits
line_of_cut = read_again (commands.Cut (codes "b") (pos 1 ∷ pos 1 ∷ pos 2 ∷ pos 2 ∷ [])) (refl, refl)

pub work_of_line : WorkOfLine
unfolding line_work
work_of_line fetched = ap (read_work fetched squares) line_of_cut ∙ work_of_cut

-- ---- what edits leave

edit_made : (scene : Scene) (edit : Edit) (reply : Reply) → refusal scene edit ≡ None → (edited scene edit reply).scene ≡ after scene edit
edit_made scene edit reply e =
    ap (λ r. (unless_refused r scene (record { reply = reply; scene = after scene edit; placed = None })).scene) e

line_read : (fetched : Fetches) (scene : Scene) (line : List ℕ) (c : Command) → command line ≡ Ok c → (step fetched scene line).scene ≡ (turn_of fetched scene c).scene
unfolding step
line_read fetched scene line c e = ap (λ x. (line_turn fetched scene x).scene) e

-- what a line leaves of the scene that a world has
next_scene : (w : World) (line : List ℕ) (s t : Scene) → w.scene ≡ s → ((fetched : Fetches) → (step fetched s line).scene ≡ t) → (answer w line Plain).world.scene ≡ t
next_scene w line s t e f = ap (λ x. (step (fetched_from w.files) x line).scene) e ∙ f (fetched_from w.files)

-- ---- the squares

low_box : box_cells 2 (plane 0 0) (plane 2 2) ≡ low_square
unfolding each tuples ints is_cell_coord is_point_coord limit
low_box = box_in 2 (pos 0) 2 (plane 0 0) (plane 2 2) refl refl refl refl refl

high_box : box_cells 2 (plane 1 1) (plane 3 3) ≡ high_square
unfolding each tuples ints is_cell_coord is_point_coord limit
high_box = box_in 2 (pos 1) 2 (plane 1 1) (plane 3 3) refl refl refl refl refl

low_added : or_cells 2 [] low_square ≡ low_square
unfolding or_cells tuples ints has same each
low_added = combine_in (λ a b. a || b) 2 (pos 0) 2 [] low_square refl set_none set_low refl refl

high_added : or_cells 2 [] high_square ≡ high_square
unfolding or_cells tuples ints has same each
high_added = combine_in (λ a b. a || b) 2 (pos 1) 2 [] high_square refl set_none set_high refl refl

-- ---- the scenes between the lines

abbrev given : List ℕ → List (List ℤ) → Entry
given name S = record { name = name; dim = 2; what = Given S }

abbrev scene_of : List Entry → Scene
scene_of entries = record { entries = entries; slots = [] }

after_first : (fetched : Fetches) → (step fetched start (codes "input a 2")).scene ≡ scene_of (given (codes "a") [] ∷ [])
after_first fetched = line_read fetched start (codes "input a 2") (commands.Input (codes "a") (pos 2)) first_line

after_second : (fetched : Fetches) → (step fetched (scene_of (given (codes "a") [] ∷ [])) (codes "add a 0 0 2 2")).scene ≡ scene_of (entry_a ∷ [])
unfolding box_fits is_point is_point_coord limit each or_of box_of
after_second fetched =
    line_read fetched (scene_of (given (codes "a") [] ∷ [])) (codes "add a 0 0 2 2") (commands.Add (codes "a") (pos 0 ∷ pos 0 ∷ pos 2 ∷ pos 2 ∷ [])) second_line
    ∙ ap (λ S. scene_of (given (codes "a") S ∷ [])) (ap (or_cells 2 []) low_box ∙ low_added)

after_third : (fetched : Fetches) → (step fetched (scene_of (entry_a ∷ [])) (codes "input b 2")).scene ≡ scene_of (entry_a ∷ given (codes "b") [] ∷ [])
after_third fetched = line_read fetched (scene_of (entry_a ∷ [])) (codes "input b 2") (commands.Input (codes "b") (pos 2)) third_line

after_fourth : (fetched : Fetches) → (step fetched (scene_of (entry_a ∷ given (codes "b") [] ∷ [])) (codes "add b 1 1 3 3")).scene ≡ scene_of (entry_a ∷ entry_b ∷ [])
unfolding box_fits is_point is_point_coord limit each or_of box_of
after_fourth fetched =
    line_read fetched (scene_of (entry_a ∷ given (codes "b") [] ∷ [])) (codes "add b 1 1 3 3") (commands.Add (codes "b") (pos 1 ∷ pos 1 ∷ pos 3 ∷ pos 3 ∷ [])) fourth_line
    ∙ ap (λ S. scene_of (entry_a ∷ given (codes "b") S ∷ [])) (ap (or_cells 2 []) high_box ∙ high_added)

after_fifth : (fetched : Fetches) → (step fetched (scene_of (entry_a ∷ entry_b ∷ [])) (codes "def c and a b")).scene ≡ squares
after_fifth fetched =
    line_read fetched (scene_of (entry_a ∷ entry_b ∷ [])) (codes "def c and a b") (commands.Def (codes "c") (formulas.And (codes "a") (codes "b"))) fifth_line

pub lines_make_squares : LinesMakeSquares
lines_make_squares files =
    let w0 : World = world_over files in
    let w1 : World = (answer w0 (codes "input a 2") Plain).world in
    let w2 : World = (answer w1 (codes "add a 0 0 2 2") Plain).world in
    let w3 : World = (answer w2 (codes "input b 2") Plain).world in
    let w4 : World = (answer w3 (codes "add b 1 1 3 3") Plain).world in
    let s1 : Scene = scene_of (given (codes "a") [] ∷ []) in
    let s2 : Scene = scene_of (entry_a ∷ []) in
    let s3 : Scene = scene_of (entry_a ∷ given (codes "b") [] ∷ []) in
    let s4 : Scene = scene_of (entry_a ∷ entry_b ∷ []) in
    next_scene w4 (codes "def c and a b") s4 squares
    (next_scene w3 (codes "add b 1 1 3 3") s3 s4
    (next_scene w2 (codes "input b 2") s2 s3
    (next_scene w1 (codes "add a 0 0 2 2") s1 s2
    (next_scene w0 (codes "input a 2") start s1 refl after_first)
    after_second)
    after_third)
    after_fourth)
    after_fifth
