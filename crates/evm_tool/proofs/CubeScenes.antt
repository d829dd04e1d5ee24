-- The scenes of a generated script: its edits are not refused, and keep the cells of the inputs in the cube.
use Rattle.std.proofs.Common.{◌≡◌, ℕ, ◌*◌, ◌==◌, Bool, true, false, not, ◌&&◌, List, [], ◌∷◌, ◌++◌, length, None, ℤ, pos, refl, ap, ◌∙◌, codes, if◌then◌else◌}
use Rattle.std.proofs.lemmas.Bool.{false≢true}
use Rattle.evm_cells.specs.Booleans.{or_cells, sub_cells}
use Rattle.evm_model.specs.Figures.{Figure, shift_stays, or_of, sub_of, box_at, box_fits, low_of, high_of}
use Rattle.evm_script.specs.declared.formula.Formula.TheVariants as formulas
use Rattle.evm_model.specs.Scene.{Scene, Entry, Given, Made, all_stay, stands, is_input, dim_of, with_figure}
use Rattle.evm_model.specs.Edits.{first_cause, box_causes, value_causes, with_box, Name, Kind, Dim, Range}
use Rattle.evm_tool.proofs.CubeCells.{all_in_cube, or_in_cube, sub_in_cube, moved_stay}

-- the cells of the three inputs
pub record Inputs : Type 0 where
  pub a : List (List ℤ)
  pub b : List (List ℤ)
  pub c : List (List ℤ)

-- the cells of each input stand in it
pub record StayInCube (inputs : Inputs) : Type 0 where
  pub a : all_in_cube inputs.a ≡ true
  pub b : all_in_cube inputs.b ≡ true
  pub c : all_in_cube inputs.c ≡ true

-- the names after the first lines
abbrev pub entries_with : Inputs → List Entry
entries_with inputs =
    record { name = codes "a"; dim = 3; what = Given inputs.a }
    ∷ record { name = codes "b"; dim = 3; what = Given inputs.b }
    ∷ record { name = codes "c"; dim = 3; what = Given inputs.c }
    ∷ record { name = codes "u"; dim = 3; what = Made (formulas.Or (codes "a") (codes "b")) }
    ∷ record { name = codes "v"; dim = 3; what = Made (formulas.Sub (codes "u") (codes "c")) }
    ∷ record { name = codes "p"; dim = 2; what = Made (formulas.Proj (codes "v") (pos 3)) }
    ∷ record { name = codes "s"; dim = 3; what = Made (formulas.Shift (codes "v") (pos 1 ∷ pos 2 ∷ pos 3 ∷ [])) }
    ∷ record { name = codes "w"; dim = 3; what = Made (formulas.Xor (codes "u") (codes "s")) }
    ∷ []

-- a scene with these
abbrev pub with_inputs : Scene → Inputs → Scene
with_inputs scene inputs = record scene { entries = entries_with inputs }

-- the input that a draw picks, by whether it is the first and whether it is the second: its name, its cells, and the inputs with
-- other cells for it
abbrev pub picked_name : Bool → Bool → List ℕ
picked_name first second = if first then codes "a" else if second then codes "b" else codes "c"

abbrev pub picked : Bool → Bool → Inputs → List (List ℤ)
picked true second inputs = inputs.a
picked false true inputs = inputs.b
picked false false inputs = inputs.c

abbrev pub with_picked : Bool → Bool → List (List ℤ) → Inputs → Inputs
with_picked true second cells inputs = record inputs { a = cells }
with_picked false true cells inputs = record inputs { b = cells }
with_picked false false cells inputs = record inputs { c = cells }

-- the shift of such a scene stays in the limits
pub all_stay_in_cube : (scene : Scene) (inputs : Inputs) → StayInCube inputs → all_stay (with_inputs scene inputs) ≡ true
unfolding shift_stays or_of sub_of
all_stay_in_cube scene i h =
    ap (λ (b : Bool). b && true)
    (moved_stay (sub_cells 3 (or_cells 3 i.a i.b) i.c) (sub_in_cube (or_cells 3 i.a i.b) i.c (or_in_cube i.a i.b h.a h.b) h.c))

-- where no cause holds, an edit by a box is not refused
no_cause : (a b c d e : Bool) → a ≡ true → b ≡ true → c ≡ true → d ≡ true → e ≡ true
    → first_cause ((not a, Name) ∷ (not b, Kind) ∷ (not c, Dim) ∷ (not d, Range) ∷ (not e, Range) ∷ []) ≡ None
no_cause false b c d e h i j k l = absurd (false≢true h)
no_cause true false c d e h i j k l = absurd (false≢true i)
no_cause true true false d e h i j k l = absurd (false≢true j)
no_cause true true true false e h i j k l = absurd (false≢true k)
no_cause true true true true false h i j k l = absurd (false≢true l)
no_cause true true true true true h i j k l = refl

free_box : (op : Figure → Figure → Figure) (scene : Scene) (name : List ℕ) (nums : List ℤ)
    → stands scene name ≡ true → is_input scene name ≡ true → (length nums == 2 * dim_of scene name) ≡ true
    → box_fits (low_of (dim_of scene name) nums) (high_of (dim_of scene name) nums) ≡ true
    → all_stay (with_box op scene name nums) ≡ true
    → first_cause (box_causes scene name nums ++ value_causes (with_box op scene name nums)) ≡ None
free_box op scene name nums =
    no_cause (stands scene name) (is_input scene name) (length nums == 2 * dim_of scene name)
    (box_fits (low_of (dim_of scene name) nums) (high_of (dim_of scene name) nums)) (all_stay (with_box op scene name nums))

-- a figure of dimension 3
abbrev pub solid : List (List ℤ) → Figure
solid cells = record { dim = 3; cells = cells }

-- other cells for an input
pub with_picked_stays : (p q : Bool) (cells : List (List ℤ)) (inputs : Inputs) → StayInCube inputs → all_in_cube cells ≡ true → StayInCube (with_picked p q cells inputs)
with_picked_stays true q cells inputs h k = record { a = k; b = h.b; c = h.c }
with_picked_stays false true cells inputs h k = record { a = h.a; b = k; c = h.c }
with_picked_stays false false cells inputs h k = record { a = h.a; b = h.b; c = k }

pub picked_stays : (p q : Bool) (inputs : Inputs) → StayInCube inputs → all_in_cube (picked p q inputs) ≡ true
picked_stays true q inputs h = h.a
picked_stays false true inputs h = h.b
picked_stays false false inputs h = h.c

-- what an edit of an input by a box leaves
pub boxed : (op : Figure → Figure → Figure) (p q : Bool) (scene : Scene) (inputs : Inputs) (nums : List ℤ) (cells : List (List ℤ))
    → op (solid (picked p q inputs)) (box_at 3 nums) ≡ solid cells
    → with_box op (with_inputs scene inputs) (picked_name p q) nums ≡ with_inputs scene (with_picked p q cells inputs)
boxed op true q scene inputs nums cells e = ap (with_figure (with_inputs scene inputs) (picked_name true q)) e
boxed op false true scene inputs nums cells e = ap (with_figure (with_inputs scene inputs) (picked_name false true)) e
boxed op false false scene inputs nums cells e = ap (with_figure (with_inputs scene inputs) (picked_name false false)) e

-- and that nothing refuses it
pub box_is_free : (op : Figure → Figure → Figure) (p q : Bool) (scene : Scene) (inputs : Inputs) (nums : List ℤ) (cells : List (List ℤ))
    → op (solid (picked p q inputs)) (box_at 3 nums) ≡ solid cells → StayInCube inputs → all_in_cube cells ≡ true
    → (length nums == 6) ≡ true → box_fits (low_of 3 nums) (high_of 3 nums) ≡ true
    → first_cause (box_causes (with_inputs scene inputs) (picked_name p q) nums ++ value_causes (with_box op (with_inputs scene inputs) (picked_name p q) nums)) ≡ None
box_is_free op p q scene inputs nums cells e h k six fits = by p q left_stays
  where
    left_stays : all_stay (with_box op (with_inputs scene inputs) (picked_name p q) nums) ≡ true
    left_stays =
        ap all_stay (boxed op p q scene inputs nums cells e)
        ∙ all_stay_in_cube scene (with_picked p q cells inputs) (with_picked_stays p q cells inputs h k)

    by : (r s : Bool) → all_stay (with_box op (with_inputs scene inputs) (picked_name r s) nums) ≡ true
        → first_cause (box_causes (with_inputs scene inputs) (picked_name r s) nums ++ value_causes (with_box op (with_inputs scene inputs) (picked_name r s) nums)) ≡ None
    by true s l = free_box op (with_inputs scene inputs) (picked_name true s) nums refl refl six fits l
    by false true l = free_box op (with_inputs scene inputs) (picked_name false true) nums refl refl six fits l
    by false false l = free_box op (with_inputs scene inputs) (picked_name false false) nums refl refl six fits l
