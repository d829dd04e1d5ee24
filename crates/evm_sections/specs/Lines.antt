-- Vertex lists of dimension 1 as ascending numbers, and what is left of one behind a walk
use Rattle.std.specs.Prelude.{◌≡◌, ℕ, ◌+◌, ◌%◌, ◌≤◌, length, Bool, true, false, Option, Some, None, int_lt, ℤ, List, [], ◌∷◌, map, if◌then◌else◌}
use Rattle.std.specs.Ordering.{int_eq}
use Rattle.evm_cells.specs.Booleans.{xor, and_cells}
use Rattle.evm_cells.specs.Measures.{content}
use Rattle.evm_cells.specs.Vertices.{cells}
use Rattle.evm_rows.specs.Rows.{rows_of, xor_rows}
use Rattle.evm_rows.specs.View.{vertices_of}
use Rattle.evm_rows.specs.declared.solid.Rows.{Rows}

-- the first number of each row
abbrev pub firsts : List (List ℤ) → List ℤ
firsts [] = []
firsts ([] ∷ rs) = firsts rs
firsts ((x ∷ r) ∷ rs) = x ∷ firsts rs

-- a row of each number
abbrev pub ones : List ℤ → List (List ℤ)
ones xs = map (λ x. x ∷ []) xs

-- the first number
abbrev pub head_of : List ℤ → Option ℤ
head_of [] = None
head_of (x ∷ xs) = Some x

-- the numbers after h, at numbers from h on
abbrev pub past : ℤ → List ℤ → List ℤ
past h [] = []
past h (x ∷ xs) = if int_eq x h then xs else x ∷ xs

-- whether h is the first of the numbers
abbrev pub stands : ℤ → List ℤ → Bool
stands h [] = false
stands h (x ∷ xs) = int_eq x h

-- the lower of a number and one that may be there
abbrev pub least : ℤ → Option ℤ → ℤ
least x None = x
least x (Some y) = if int_lt y x then y else x

-- the number, if `yes`
abbrev pub if_any : Bool → ℤ → List ℤ
if_any true x = x ∷ []
if_any false x = []

-- the vertices of a line of numbers after a change
abbrev pub changed_line : List ℤ → Rows → List (List ℤ)
changed_line line change = xor_rows 1 (rows_of line 1 0) (vertices_of change).rows

-- the length of what a line of numbers and a change share
abbrev pub shared_length : List ℤ → Rows → ℕ
shared_length line change = content (and_cells 1 (cells 1 (rows_of line 1 0)) (cells 1 (vertices_of change).rows))

-- what a clause sees of a line that is walked along: the vertices that are left, and whether the place before them is filled
pub record LineRest : Type 0 where
  pub left : List ℤ
  pub on : Bool

-- the line behind the number h
abbrev pub passed : ℤ → LineRest → LineRest
passed h l = record { left = past h l.left; on = xor l.on (stands h l.left) }

-- a flat list of whole rows of at most 6 numbers, of which one is left after the skip
pub record IsLine (flat : List ℤ) (width skip : ℕ) : Type 0 where
  pub narrow : width ≤ 6
  pub one : skip + 1 ≡ width
  pub whole : length flat % width ≡ 0
