-- What the reader of bodies counts and keeps.
use Rattle.std.specs.Prelude.{◌≡◌, ◌⊎◌, ℕ, true, ℤ, List, length, take}
use Rattle.std.specs.List.{list_all}
use Rattle.evm_cells.specs.Limits.{is_point}
use Rattle.evm_rows.specs.Check.{IsFirstOut}
use Rattle.evm_formats.specs.declared.file.FileError.{FileError}
use Rattle.evm_formats.specs.declared.file.FileError.TheVariants.{Range, Order, NoMemory}
use Rattle.evm_formats.specs.Nested.{Reading}
use Rattle.evm_file.specs.declared.nested.Tally.{Tally}
use Rattle.evm_file.specs.declared.nested.Front.{Front}

-- the tally counts what was read, and these bytes are left
pub record IsTally (t : Tally) (rest : List ℕ) (s : Reading) : Type 0 where
  pub rows : length s.rows ≡ t.rows
  pub gap : s.gap ≡ t.gap
  pub fall : s.fall ≡ t.fall
  pub left : s.rest ≡ rest

-- the heights of a front
abbrev pub front_of : Front → List ℤ
front_of f = take f.depth f.places

-- some row is past the limits, and e says which is the first
pub record IsOut (n : ℕ) (V : List (List ℤ)) (e : FileError) : Type 0 where
  pub at : ℕ
  pub first : IsFirstOut n V at
  pub said : e ≡ Range at

-- the refusal of rows with a number at `row` that is not greater than the one before it
abbrev pub RefusesFallen : ℕ → List (List ℤ) → ℕ → FileError → Type 0
RefusesFallen n V row e = (e ≡ NoMemory) ⊎ (IsOut n V e ⊎ ((list_all (is_point n) V ≡ true) × (e ≡ Order row)))
