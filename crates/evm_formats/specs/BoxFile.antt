-- The box file, version 1: what its bytes state (this project's own format).
use Rattle.std.specs.Prelude.{ℕ, ◌+◌, ◌*◌, ◌==◌, Bool, true, ◌&&◌, if◌then◌else◌, List, [], ◌∷◌, ◌++◌, length, take, drop, Option, None, Some, Result, Ok, Err, ℤ, pos, codes, bytes_eq}
use Rattle.std.specs.Ordering.{int_eq}
use Rattle.evm_text.specs.Lines.{lines, without_cr}
use Rattle.evm_text.specs.Words.{words, is_comment}
use Rattle.evm_text.specs.Numbers.{number, numbers}
use Rattle.evm_cells.specs.Boxes.{is_box}
use Rattle.evm_cells.specs.Unions.{Ends, union_of}
use Rattle.evm_formats.specs.declared.boxes.BoxFileError.{BoxFileError}
use Rattle.evm_formats.specs.declared.boxes.BoxFileError.TheVariants.{Head, Dim, Line, Range}

-- boxes; or a refusal in their place
abbrev pub Boxes : Type 0
Boxes = Result (List Ends) BoxFileError

-- ---- line 1

-- the dimension that the words of line 1 state: `evm-boxes`, `1`, and a number
abbrev pub head_dim : List (List ℕ) → Option ℤ
head_dim (name ∷ version ∷ dim ∷ []) = if bytes_eq name (codes "evm-boxes") && bytes_eq version (codes "1") then number dim else None
head_dim _ = None

-- ---- a line after it

-- a line is skipped where it has no words or where a comment begins
abbrev pub is_skipped : List (List ℕ) → Bool
is_skipped [] = true
is_skipped (first ∷ more) = is_comment first

-- the numbers of words, of which there are exactly so many, and each is a number
abbrev pub just_numbers : ℕ → List (List ℕ) → Option (List ℤ)
just_numbers count ws = if length ws == count then numbers ws else None

-- the box from the first dim numbers to the others; or the refusal of line k, where they are none
abbrev pub box_of : ℕ → ℕ → List ℤ → Boxes
box_of dim k ns =
    if is_box dim (take dim ns) (drop dim ns) then Ok (record { lo = take dim ns; hi = drop dim ns } ∷ []) else Err (Range k)

-- the box of 2 dim numbers; or the refusal of line k
abbrev pub box_of_numbers : ℕ → ℕ → Option (List ℤ) → Boxes
box_of_numbers dim k None = Err (Line k)
box_of_numbers dim k (Some ns) = box_of dim k ns

-- nothing where the words of line k are skipped, and else the box that they state; or the refusal of the line
abbrev pub boxes_of_words : ℕ → ℕ → List (List ℕ) → Boxes
boxes_of_words dim k ws = if is_skipped ws then Ok [] else box_of_numbers dim k (just_numbers (2 * dim) ws)

-- the same of line k
abbrev pub boxes_of_line : ℕ → ℕ → List ℕ → Boxes
boxes_of_line dim k line = boxes_of_words dim k (words (without_cr line))

-- ---- the file

-- the boxes of a line and of those after it; or the refusal of the first that is wrong
abbrev pub joined : Boxes → Boxes → Boxes
joined (Err e) rest = Err e
joined (Ok boxes) (Err e) = Err e
joined (Ok boxes) (Ok more) = Ok (boxes ++ more)

-- the boxes that lines state, of which the first has the number k; or the refusal of the first line that is wrong
abbrev pub boxes_of_lines : ℕ → ℕ → List (List ℕ) → Boxes
boxes_of_lines dim k [] = Ok []
boxes_of_lines dim k (line ∷ rest) = joined (boxes_of_line dim k line) (boxes_of_lines dim (k + 1) rest)

-- the boxes after a line 1 that states a dimension; or the first refusal
abbrev pub boxes_after : ℕ → Option ℤ → List (List ℕ) → Boxes
boxes_after dim None rest = Err Head
boxes_after dim (Some stated) rest = if int_eq stated (pos dim) then boxes_of_lines dim 2 rest else Err Dim

-- the boxes that the lines of a file state where dimension dim is asked for; or the first refusal
abbrev pub boxes_of_file : ℕ → List (List ℕ) → Boxes
boxes_of_file dim [] = Err Head
boxes_of_file dim (first ∷ rest) = boxes_after dim (head_dim (words (without_cr first))) rest

-- the union of boxes; or the refusal in their place
abbrev pub union_or_refusal : ℕ → Boxes → Result (List (List ℤ)) BoxFileError
union_or_refusal dim (Ok boxes) = Ok (union_of dim boxes)
union_or_refusal dim (Err e) = Err e

-- the cells that bytes state as a box file where dimension dim is asked for: the union of the boxes of its lines; or the
-- first refusal
unfoldable pub file_cells : ℕ → List ℕ → Result (List (List ℤ)) BoxFileError
file_cells dim bytes = union_or_refusal dim (boxes_of_file dim (lines bytes))
