-- The places that boxes fill, and what is known of them at one height of the first axis.
use Rattle.std.specs.Prelude.{◌≡◌, ℕ, ◌-◌, ◌==◌, Bool, true, false, not, ◌&&◌, ◌||◌, ℤ, pos, ◌-ℤ◌, drop, int_le, int_lt, List, [], ◌∷◌, ◌++◌, length, get_or, set, flat_map, Option, Some, None, MatchBool}
use Rattle.std.specs.Int.{int_max}
use Rattle.std.specs.List.{list_any, All, Contains}
use Rattle.std.specs.List.Sorted.{IsStrictlySortedBy}
use Rattle.std.specs.Option.{option_to_list}
use Rattle.std.specs.Ordering.{int_eq, int_cmp}
use Rattle.evm_cells.specs.Places.{each}
use Rattle.evm_cells.specs.Limits.{is_cell}
use Rattle.evm_cells.specs.Unions.{Ends}
use Rattle.evm_boxes.specs.BoxRows.{ends_of, IsBoxRow}
use Rattle.evm_boxes.specs.declared.BoxRow.{BoxRow}
use Rattle.evm_boxes.specs.declared.cut.Side.{Side}
use Rattle.evm_boxes.specs.declared.cut.Side.TheVariants.{Low, High}

-- a box holds a cell: on each axis the cell is from lo on, and below hi
abbrev pub holds : List ℤ → Ends → Bool
holds c ends = each int_le ends.lo c && each int_lt c ends.hi

-- some row holds the cell
abbrev pub filled : List BoxRow → List ℤ → Bool
filled rows c = list_any (λ row. holds c (ends_of row)) rows

-- where a row begins and ends on an axis, counted from 0
abbrev pub low_of : ℕ → BoxRow → ℤ
low_of axis row = get_or row.lo axis (pos 0)

abbrev pub high_of : ℕ → BoxRow → ℤ
high_of axis row = get_or row.hi axis (pos 0)

-- the two ends of each row on the first axis
abbrev pub events_of : List BoxRow → List ℤ
events_of rows = flat_map (λ row. low_of 0 row ∷ high_of 0 row ∷ []) rows

-- the heights at which rows come or go on the first axis, ascending, each once
pub record AreEvents (rows : List BoxRow) (heights : List ℤ) : Type 0 where
  pub rise : IsStrictlySortedBy int_cmp heights
  pub within : (k : ℤ) → Contains heights k → Contains (events_of rows) k
  pub all : (k : ℤ) → Contains (events_of rows) k → Contains heights k

-- the last of the numbers
abbrev pub last_of : List ℤ → ℤ
last_of line = get_or line (length line - 1) (pos 0)

-- the run from low up to high reaches the last of the runs that the numbers begin and end
abbrev pub reaches : List ℤ → ℤ → Bool
reaches line low = not (length line == 0) && int_le low (last_of line)

-- the line has that run too
abbrev pub IsWithRun : List ℤ → ℤ → ℤ → List ℤ → Type 0
IsWithRun line low high grown = MatchBool (reaches line low)
    (grown ≡ set line (length line - 1) (int_max (last_of line) high))
    (grown ≡ line ++ low ∷ high ∷ [])

-- the line has what the row has at a height: the run on its second axis, where the row is there
abbrev pub IsWithPart : BoxRow → ℤ → List ℤ → List ℤ → Type 0
IsWithPart row k line grown = MatchBool (int_le (low_of 0 row) k && int_lt k (high_of 0 row))
    (IsWithRun line (low_of 1 row) (high_of 1 row) grown)
    (grown ≡ line)

-- the row is at a height of the first axis
abbrev pub spans : ℤ → BoxRow → Bool
spans k row = int_le (low_of 0 row) k && int_lt k (high_of 0 row)

-- the height just below or just above
abbrev pub level_of : Side → ℤ → ℤ
level_of Low h = h -ℤ pos 1
level_of High h = h

-- the ends of a row without its first axis
abbrev pub base_ends : BoxRow → Ends
base_ends row = record { lo = drop 1 (ends_of row).lo; hi = drop 1 (ends_of row).hi }

-- the row `base` is the row, of dimension n, without its first axis
pub record IsBase (n : ℕ) (row base : BoxRow) : Type 0 where
  pub box : IsBoxRow (n - 1) base
  pub ends : ends_of base ≡ base_ends row

-- the row begins or ends at a height of the first axis
abbrev pub is_event : ℤ → BoxRow → Bool
is_event h row = int_eq (low_of 0 row) h || int_eq (high_of 0 row) h

-- the row is a box that holds the bases of all rows that begin or end at the height
pub record IsWindow (n : ℕ) (h : ℤ) (rows : List BoxRow) (window : BoxRow) : Type 0 where
  pub box : IsBoxRow n window
  pub wide : All (λ row. is_event h row ≡ true → (c : List ℤ) → holds c (base_ends row) ≡ true → holds c (ends_of window) ≡ true) rows

-- a window of the rows, or none, where none of them begins or ends at the height
abbrev pub IsFound : ℕ → ℤ → List BoxRow → Option BoxRow → Type 0
IsFound n h rows None = All (λ row. is_event h row ≡ false) rows
IsFound n h rows (Some window) = IsWindow n h rows window

-- the row is the box of all cells of dimension n
pub record IsAll (n : ℕ) (row : BoxRow) : Type 0 where
  pub box : IsBoxRow n row
  pub all : (c : List ℤ) → is_cell n c ≡ true → holds c (ends_of row) ≡ true

-- the kept rows are boxes that fill, inside a window, the section of the rows at the height k
pub record IsSection (n : ℕ) (k : ℤ) (window : BoxRow) (rows kept : List BoxRow) : Type 0 where
  pub boxes : All (IsBoxRow n) kept
  pub filled : (c : List ℤ) → filled kept c ≡ (holds c (ends_of window) && filled rows (k ∷ c))

-- the parts are boxes of the cells that both rows hold
pub record IsMeet (n : ℕ) (left right : BoxRow) (parts : List BoxRow) : Type 0 where
  pub boxes : All (IsBoxRow n) parts
  pub filled : (c : List ℤ) → filled parts c ≡ (holds c (ends_of left) && holds c (ends_of right))

-- each cell that the row holds, the other row holds
abbrev pub IsInside : BoxRow → BoxRow → Type 0
IsInside row other = (c : List ℤ) → holds c (ends_of row) ≡ true → holds c (ends_of other) ≡ true

-- each cell that the row holds, some kept row holds
abbrev pub IsHeld : BoxRow → List BoxRow → Type 0
IsHeld row kept = (c : List ℤ) → holds c (ends_of row) ≡ true → filled kept c ≡ true

-- what is left of the part is the part or none, and with it the kept rows fill the same cells as with the part
pub record IsUnheld (kept : List BoxRow) (part left : Option BoxRow) : Type 0 where
  pub is_part : (row : BoxRow) → left ≡ Some row → part ≡ Some row
  pub filled : (c : List ℤ) → filled (kept ++ option_to_list left) c ≡ filled (kept ++ option_to_list part) c
