-- What the reader of box files and its parts answer.
use Rattle.std.specs.Prelude.{◌≡◌, ℕ, Bool, ◌&&◌, ℤ, int_lt, List, [], ◌∷◌, ◌++◌, map, Vec, Option, None, Some, Result, Ok, Err, MatchBool}
use Rattle.evm_cells.specs.Limits.{is_point_coord}
use Rattle.evm_cells.specs.Unions.{Ends}
use Rattle.evm_rows.specs.Rows.{Vertices, cells_of}
use Rattle.evm_formats.specs.BoxFile.{Boxes, joined}
use Rattle.evm_formats.specs.declared.boxes.BoxFileError.{BoxFileError}
use Rattle.evm_formats.specs.declared.boxes.BoxFileError.TheVariants.{NoMemory}
use Rattle.evm_boxes.specs.BoxRows.{ends_of, IsBoxRow}
use Rattle.evm_boxes.specs.declared.BoxRow.{BoxRow}

-- a refusal that is meant, or want of memory
abbrev pub Refuses : {T : Type 0} → BoxFileError → Result T BoxFileError → Type 0
Refuses NoMemory meant = Unit {0}
Refuses e meant = meant ≡ Err e

-- what a reader answers: a solid with just the cells that are meant, or just the refusal that is meant; or want of memory
abbrev pub Reads : Result Vertices BoxFileError → Result (List (List ℤ)) BoxFileError → Type 0
Reads (Ok solid) meant = meant ≡ Ok (cells_of solid)
Reads (Err e) meant = Refuses e meant

-- boxes for which memory is asked: the first lines state some, and none of these lines is wrong
pub record HasBoxes (states : List (List ℕ) → Boxes) (ls : List (List ℕ)) : Type 0 where
  pub front : List (List ℕ)
  pub back : List (List ℕ)
  pub first : Ends
  pub more : List Ends
  pub cut : ls ≡ front ++ back
  pub boxes : states front ≡ Ok (first ∷ more)

-- a box of dimension n may go from a up to b on an axis
abbrev pub is_side : ℕ → ℤ → ℤ → Bool
is_side n a b = (is_point_coord n a && is_point_coord n b) && int_lt a b

-- the numbers that are meant were found; or none are meant
abbrev pub FindsNumbers : Bool → List ℤ → Option (List ℤ) → Type 0
FindsNumbers found ns meant = MatchBool found (meant ≡ Some ns) (meant ≡ None)

-- a box that a line states is a row of dimension dim with its ends
abbrev pub StatesBox : ℕ → Result BoxRow BoxFileError → Boxes → Type 0
StatesBox dim (Ok row) meant = IsBoxRow dim row × (meant ≡ Ok (ends_of row ∷ []))
StatesBox dim (Err NoMemory) meant = ⊥
StatesBox dim (Err e) meant = meant ≡ Err e

-- the same where a line may state none
abbrev pub States : ℕ → Result (Option BoxRow) BoxFileError → Boxes → Type 0
States dim (Ok None) meant = meant ≡ Ok []
States dim (Ok (Some row)) meant = IsBoxRow dim row × (meant ≡ Ok (ends_of row ∷ []))
States dim (Err NoMemory) meant = ⊥
States dim (Err e) meant = meant ≡ Err e

-- the rows grow by the boxes that are meant; memory is asked for a box alone
abbrev pub Adds : Result (Unit {0}) BoxFileError → List BoxRow → List BoxRow → Boxes → Type 0
Adds (Ok done) old new meant = joined (Ok (map ends_of old)) meant ≡ Ok (map ends_of new)
Adds (Err NoMemory) old new meant = (box : Ends) × (meant ≡ Ok (box ∷ []))
Adds (Err e) old new meant = meant ≡ Err e

-- the rows are the boxes that are meant
abbrev pub Gathers : {A : Type 0} → Result (Vec BoxRow A) BoxFileError → Boxes → Type 0
Gathers (Ok rows) meant = meant ≡ Ok (map ends_of rows.items)
Gathers (Err e) meant = Refuses e meant
