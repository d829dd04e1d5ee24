-- What a report says of a name.
use Rattle.std.specs.Prelude.{ℕ, zero, suc, ℤ, pos, int_lt, if◌then◌else◌, List, [], ◌∷◌, ◌++◌, length, get_or, Option, None, Some, codes, decimal}
use Rattle.evm_report.specs.Report.{Facts}
use Rattle.evm_script.specs.Printed.{formula_words}
use Rattle.evm_model.specs.Figures.{Figure, vertices_in, content_of, boundary_of, parts_of}
use Rattle.evm_model.specs.Scene.{Scene, Entry, What, Given, Made, entry_of, operands_of, value}

-- the lesser, and the greater of two numbers
abbrev pub lesser : ℤ → ℤ → ℤ
lesser x y = if int_lt y x then y else x

abbrev pub greater : ℤ → ℤ → ℤ
greater x y = if int_lt x y then y else x

-- of a number and the coordinates of points on an axis, counted from 0, the one that is picked of each two
abbrev pub end_from : (ℤ → ℤ → ℤ) → ℕ → ℤ → List (List ℤ) → ℤ
end_from pick axis x [] = x
end_from pick axis x (point ∷ points) = end_from pick axis (pick x (get_or point axis (pos 0))) points

-- a number for each of the first axes
abbrev pub each_axis : (ℕ → ℤ) → ℕ → List ℤ
each_axis at zero = []
each_axis at (suc axis) = each_axis at axis ++ at axis ∷ []

-- of the coordinates of all points on an axis the one that is picked
abbrev pub axis_end : (ℤ → ℤ → ℤ) → ℕ → List (List ℤ) → ℤ
axis_end pick axis [] = pos 0
axis_end pick axis (point ∷ points) = end_from pick axis (get_or point axis (pos 0)) points

-- that of each axis; none where there is no point
abbrev pub ends_of : (ℤ → ℤ → ℤ) → ℕ → List (List ℤ) → List ℤ
ends_of pick n [] = []
ends_of pick n (point ∷ points) = each_axis (λ axis. axis_end pick axis (point ∷ points)) n

-- the word for what a name stands for: `input`, or that of the operator
abbrev pub what_kind : What → List ℕ
what_kind (Given cells) = codes "input"
what_kind (Made formula) = get_or (formula_words formula) 0 []

abbrev pub entry_kind : Option Entry → List ℕ
entry_kind None = []
entry_kind (Some e) = what_kind e.what

-- what is said of a figure under a name
unfoldable pub facts_by : List ℕ → List ℕ → List (List ℕ) → Figure → Facts
facts_by name kind operands a = record {
  name = name;
  kind = kind;
  operands = operands;
  dim = a.dim;
  vertices = length (vertices_in a);
  content = decimal (content_of a);
  boundary = decimal (boundary_of a);
  parts = length (parts_of a);
  low = ends_of lesser a.dim (vertices_in a);
  high = ends_of greater a.dim (vertices_in a);
}

-- what is said of a name
abbrev pub reported : Scene → List ℕ → Facts
reported scene name =
    facts_by name (entry_kind (entry_of scene.entries name)) (operands_of scene.entries name) (value scene name)
