-- What follows from the definition of box files.
use Rattle.std.specs.Prelude.{◌≡◌, ℕ, ◌+◌, ◌*◌, true, false, List, [], ◌∷◌, ◌++◌, map, length, Some, Ok, Err, ℤ, pos, codes, All}
use Rattle.evm_cells.specs.Booleans.{or_cells}
use Rattle.evm_cells.specs.Boxes.{box_cells, IsBox}
use Rattle.evm_cells.specs.Examples.{plane}
use Rattle.evm_cells.specs.Unions.{Ends, union_of}
use Rattle.evm_text.specs.Lines.{is_lf, without_cr, text_of}
use Rattle.evm_text.specs.Words.{words}
use Rattle.evm_formats.specs.BoxFile.{head_dim, is_skipped, just_numbers, boxes_of_line, boxes_of_lines, file_cells}
use Rattle.evm_formats.specs.declared.boxes.BoxFileError.{BoxFileError}

-- a line has no line feed
abbrev pub IsLine : List ℕ → Type 0
IsLine line = All (λ b. is_lf b ≡ false) line

-- a line 1 that states this dimension
pub record IsHead (dim : ℕ) (line : List ℕ) : Type 0 where
  pub whole : IsLine line
  pub states : head_dim (words (without_cr line)) ≡ Some (pos dim)

-- a line whose words are the numbers of a box, first those of lo and then those of hi
pub record HasBox (dim : ℕ) (ends : Ends) (line : List ℕ) : Type 0 where
  pub whole : IsLine line
  pub filled : is_skipped (words (without_cr line)) ≡ false
  pub words : just_numbers (2 * dim) (words (without_cr line)) ≡ Some (ends.lo ++ ends.hi)
  pub box : IsBox dim ends.lo ends.hi

-- a blank line, or a comment
pub record IsBlank (line : List ℕ) : Type 0 where
  pub whole : IsLine line
  pub skipped : is_skipped (words (without_cr line)) ≡ true

-- a head and then a line for each of some boxes, however it is written, state the union of these boxes
abbrev pub BoxesStateUnion : Type 0
BoxesStateUnion = (dim : ℕ) (head : List ℕ) (written : Ends → List ℕ) (boxes : List Ends) → IsHead dim head
    → All (λ ends. HasBox dim ends (written ends)) boxes
    → file_cells dim (text_of (head ∷ map written boxes)) ≡ Ok (union_of dim boxes)

-- a file of two pieces states the union of both
abbrev pub PiecesStateUnion : Type 0
PiecesStateUnion = (dim : ℕ) (head : List ℕ) (xs ys : List (List ℕ)) (S T : List (List ℤ))
    → IsLine head → All IsLine xs → All IsLine ys
    → file_cells dim (text_of (head ∷ xs)) ≡ Ok S → file_cells dim (text_of (head ∷ ys)) ≡ Ok T
    → file_cells dim (text_of (head ∷ (xs ++ ys))) ≡ Ok (or_cells dim S T)

-- blank lines and comments state nothing
abbrev pub BlanksStateNothing : Type 0
BlanksStateNothing = (dim : ℕ) (head blank : List ℕ) (xs ys : List (List ℕ)) (S : List (List ℤ))
    → IsLine head → IsBlank blank → All IsLine xs → All IsLine ys
    → file_cells dim (text_of (head ∷ (xs ++ ys))) ≡ Ok S → file_cells dim (text_of (head ∷ (xs ++ blank ∷ ys))) ≡ Ok S

-- the first line that is wrong refuses the file, with its number
abbrev pub FirstWrongLine : Type 0
FirstWrongLine = (dim : ℕ) (head line : List ℕ) (xs ys : List (List ℕ)) (boxes : List Ends) (e : BoxFileError)
    → IsHead dim head → IsLine line → All IsLine xs → All IsLine ys
    → boxes_of_lines dim 2 xs ≡ Ok boxes → boxes_of_line dim (2 + length xs) line ≡ Err e
    → file_cells dim (text_of (head ∷ (xs ++ line ∷ ys))) ≡ Err e

-- the worked file: two rooms that overlap
abbrev pub TwoRooms : Type 0
TwoRooms = file_cells 2 (text_of (codes "evm-boxes 1 2" ∷ codes "# two rooms that overlap" ∷ codes "0 0 2 2" ∷ codes "1 1 3 3" ∷ []))
    ≡ Ok (or_cells 2 (box_cells 2 (plane 0 0) (plane 2 2)) (box_cells 2 (plane 1 1) (plane 3 3)))
