-- Edits of a scene: what refuses them, what they leave, and how many names they change.
use Rattle.std.specs.Prelude.{ℕ, ◌*◌, ◌==◌, Bool, not, ◌&&◌, ◌||◌, if◌then◌else◌, ℤ, nat_abs, List, [], ◌∷◌, ◌++◌, length, Option, None, Some, is_some, count_by, bytes_eq}
use Rattle.std.specs.List.{list_any, list_all}
use Rattle.evm_cells.specs.Limits.{is_cell_coord, IsCellSet}
use Rattle.evm_script.specs.declared.formula.Formula.{Formula}
use Rattle.evm_model.specs.Figures.{Figure, low_of, high_of, box_at, xor_of, or_of, sub_of, box_fits, same_figure}
use Rattle.evm_model.specs.Scene.{Scene, Entry, Given, stands, is_input, is_read, dim_of, value, reaches, operands, formula_dim, formula_fits, formula_in_range, is_axis, all_stay, with_figure, with_formula, with_new, without_name, is_dim, is_watched, slot_at, slot_is_free, reading}

-- an edit: a name, and the dimension of a new input, the numbers of a box, a figure in the place of an input's, a formula, or
-- nothing more
pub data Edit : Type 0 where
  Input : List ℕ → ℤ → Edit
  Toggle : List ℕ → List ℤ → Edit
  Add : List ℕ → List ℤ → Edit
  Cut : List ℕ → List ℤ → Edit
  Replace : List ℕ → Figure → Edit
  Def : List ℕ → Formula → Edit
  Drop : List ℕ → Edit

-- the name that an edit makes, changes or takes out
abbrev pub name_of : Edit → List ℕ
name_of (Input name dim) = name
name_of (Toggle name nums) = name
name_of (Add name nums) = name
name_of (Cut name nums) = name
name_of (Replace name figure) = name
name_of (Def name formula) = name
name_of (Drop name) = name

-- a figure that an edit states has a cell set
abbrev pub EditFits : Edit → Type 0
EditFits (Input name dim) = Unit {0}
EditFits (Toggle name nums) = Unit {0}
EditFits (Add name nums) = Unit {0}
EditFits (Cut name nums) = Unit {0}
EditFits (Replace name figure) = IsCellSet figure.dim figure.cells
EditFits (Def name formula) = Unit {0}
EditFits (Drop name) = Unit {0}

-- why a line is refused: it is too long, or no command; a name does not stand; a slot has no free meter, or none that watches a
-- name; a name stands already; it stands for the other kind, an input or a formula; it is read by a formula, or watched; a formula
-- would reach itself; the dimension or the count of numbers is wrong; a number is past the limits; there is no file of a name, the
-- shelf of files failed, or a file's bytes are none of the form; or memory was missing
pub data Code : Type 0 where
  Line : Code
  Syntax : Code
  Name : Code
  Meter : Code
  Taken : Code
  Kind : Code
  Used : Code
  Cycle : Code
  Dim : Code
  Range : Code
  Missing : Code
  Shelf : Code
  Form : Code
  Memory : Code

-- the code of the first cause that holds
abbrev pub first_cause : List (Bool × Code) → Option Code
first_cause [] = None
first_cause (c ∷ cs) = if c.0 then Some c.1 else first_cause cs

-- what refuses a question about a name
abbrev pub name_causes : Scene → List ℕ → List (Bool × Code)
name_causes scene name = (not (stands scene name), Name) ∷ []

-- what refuses a question about a place, whose coordinates have to pass a test
abbrev pub place_causes : Scene → List ℕ → List ℤ → (ℤ → Bool) → List (Bool × Code)
place_causes scene name nums in_limits =
    (not (stands scene name), Name)
    ∷ (not (length nums == dim_of scene name), Dim)
    ∷ (not (list_all in_limits nums), Range)
    ∷ []

-- what refuses a question about sections at a height on an axis
abbrev pub section_causes : Scene → List ℕ → ℤ → ℤ → List (Bool × Code)
section_causes scene name axis at =
    (not (stands scene name), Name)
    ∷ (not (is_axis (dim_of scene name) axis), Dim)
    ∷ (not (is_cell_coord (dim_of scene name) at), Range)
    ∷ []

-- what refuses a question about an axis
abbrev pub axis_causes : Scene → List ℕ → ℤ → List (Bool × Code)
axis_causes scene name axis = (not (stands scene name), Name) ∷ (not (is_axis (dim_of scene name) axis), Dim) ∷ []

-- what refuses that a meter watches a name: the name does not stand; or there is no such slot, or its meter watches already or is
-- given up
abbrev pub attach_causes : Scene → ℤ → List ℕ → List (Bool × Code)
attach_causes scene k name =
    (not (stands scene name), Name) ∷ (not (slot_is_free (slot_at scene k)), Meter) ∷ []

-- what refuses a command on the reading of a slot: it watches no name
abbrev pub reading_causes : Scene → ℤ → List (Bool × Code)
reading_causes scene k = (not (is_some (reading scene k)), Meter) ∷ []

-- what refuses an edit of an input by a box
abbrev pub box_causes : Scene → List ℕ → List ℤ → List (Bool × Code)
box_causes scene name nums =
    (not (stands scene name), Name)
    ∷ (not (is_input scene name), Kind)
    ∷ (not (length nums == 2 * dim_of scene name), Dim)
    ∷ (not (box_fits (low_of (dim_of scene name) nums) (high_of (dim_of scene name) nums)), Range)
    ∷ []

-- what refuses another figure for an input
abbrev pub figure_causes : Scene → List ℕ → Figure → List (Bool × Code)
figure_causes scene name figure =
    (not (stands scene name), Name)
    ∷ (not (is_input scene name), Kind)
    ∷ (not (figure.dim == dim_of scene name), Dim)
    ∷ []

-- whether some operand of a formula other than the name that is being made does not stand
abbrev pub lacks_operand : Scene → List ℕ → Formula → Bool
lacks_operand scene name formula = list_any (λ o. not (bytes_eq o name) && not (stands scene o)) (operands formula)

-- whether a name would reach itself by this formula
abbrev pub closes_cycle : Scene → List ℕ → Formula → Bool
closes_cycle scene name formula = list_any (λ o. bytes_eq o name || reaches scene o name) (operands formula)

-- whether a formula has no dimension, or another than the name that stands
abbrev pub misses_dim : Scene → List ℕ → Formula → Bool
misses_dim scene name formula = not (formula_fits scene formula)
    || (stands scene name && not (formula_dim scene formula == dim_of scene name))

-- what refuses a definition
abbrev pub def_causes : Scene → List ℕ → Formula → List (Bool × Code)
def_causes scene name formula =
    (lacks_operand scene name formula, Name)
    ∷ (is_input scene name, Kind)
    ∷ (closes_cycle scene name formula, Cycle)
    ∷ (misses_dim scene name formula, Dim)
    ∷ (not (formula_in_range scene formula), Range)
    ∷ []

-- the scene with an input's figure and a box put together
abbrev pub with_box : (Figure → Figure → Figure) → Scene → List ℕ → List ℤ → Scene
with_box op scene name nums = with_figure scene name (op (value scene name) (box_at (dim_of scene name) nums))

-- the scene that an edit leaves, where nothing refuses it
abbrev pub after : Scene → Edit → Scene
after scene (Input name dim) = with_new scene name (nat_abs dim) (Given [])
after scene (Toggle name nums) = with_box xor_of scene name nums
after scene (Add name nums) = with_box or_of scene name nums
after scene (Cut name nums) = with_box sub_of scene name nums
after scene (Replace name figure) = with_figure scene name figure
after scene (Def name formula) = with_formula scene name formula
after scene (Drop name) = without_name scene name

-- what refuses an edit by the scene that it would leave: some formula would make a place out of the limits
abbrev pub value_causes : Scene → List (Bool × Code)
value_causes left = (not (all_stay left), Range) ∷ []

-- what refuses an edit, in order
abbrev pub edit_causes : Scene → Edit → List (Bool × Code)
edit_causes scene (Input name dim) = (stands scene name, Taken) ∷ (not (is_dim dim), Dim) ∷ []
edit_causes scene (Toggle name nums) = box_causes scene name nums ++ value_causes (after scene (Toggle name nums))
edit_causes scene (Add name nums) = box_causes scene name nums ++ value_causes (after scene (Add name nums))
edit_causes scene (Cut name nums) = box_causes scene name nums ++ value_causes (after scene (Cut name nums))
edit_causes scene (Replace name figure) = figure_causes scene name figure
    ++ value_causes (after scene (Replace name figure))
edit_causes scene (Def name formula) = def_causes scene name formula ++ value_causes (after scene (Def name formula))
edit_causes scene (Drop name) =
    (not (stands scene name), Name) ∷ (is_read scene name || is_watched scene name, Used) ∷ []

-- the code that refuses an edit, or none
abbrev pub refusal : Scene → Edit → Option Code
refusal scene edit = first_cause (edit_causes scene edit)

-- how many names stand before and after with different values
abbrev pub changed_names : Scene → Scene → ℕ
changed_names old new =
    count_by (λ (e : Entry). stands new e.name && not (same_figure (value old e.name) (value new e.name)))
    old.entries

-- how many names an edit changes
abbrev pub changed : Scene → Edit → ℕ
changed scene edit = changed_names scene (after scene edit)
