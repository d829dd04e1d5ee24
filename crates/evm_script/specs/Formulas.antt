-- The formula that the words after `def NAME` stand for.
use Rattle.std.specs.Prelude.{ℕ, if◌then◌else◌, List, [], ◌∷◌, Option, None, codes, option_map}
use Rattle.evm_script.specs.Shapes.{same_bytes, two_names, name_number, name_two_numbers, name_three_numbers, name_numbers, number_numbers, of_pair, of_three, of_four}
use Rattle.evm_script.specs.declared.formula.Formula.{Formula}
use Rattle.evm_script.specs.declared.formula.Formula.TheVariants as formulas

-- the forms by their first word: a form is one line
unfoldable pub formula_by : List ℕ → List (List ℕ) → Option Formula
formula_by first rest =
    if same_bytes first (codes "or") then option_map (of_pair formulas.Or) (two_names rest)
    else if same_bytes first (codes "and") then option_map (of_pair formulas.And) (two_names rest)
    else if same_bytes first (codes "sub") then option_map (of_pair formulas.Sub) (two_names rest)
    else if same_bytes first (codes "xor") then option_map (of_pair formulas.Xor) (two_names rest)
    else if same_bytes first (codes "box") then option_map (of_pair formulas.Box) (number_numbers rest)
    else if same_bytes first (codes "shift") then option_map (of_pair formulas.Shift) (name_numbers rest)
    else if same_bytes first (codes "mirror") then option_map (of_pair formulas.Mirror) (name_number rest)
    else if same_bytes first (codes "swap") then option_map (of_three formulas.Swap) (name_two_numbers rest)
    else if same_bytes first (codes "clip") then option_map (of_pair formulas.Clip) (name_numbers rest)
    else if same_bytes first (codes "slice") then option_map (of_three formulas.Slice) (name_two_numbers rest)
    else if same_bytes first (codes "proj") then option_map (of_pair formulas.Proj) (name_number rest)
    else if same_bytes first (codes "lift") then option_map (of_four formulas.Lift) (name_three_numbers rest)
    else None

-- the formula of some words
abbrev pub formula_of : List (List ℕ) → Option Formula
formula_of [] = None
formula_of (first ∷ rest) = formula_by first rest
