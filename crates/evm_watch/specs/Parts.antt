-- The parts of a solid round a change.
use Rattle.std.specs.Prelude.{ℕ, ◌≡◌, true, ◌&&◌, ℤ, pos, neg_ℤ, ◌+ℤ◌, ◌≤ℤ◌, ◌<ℤ◌, int_le, int_lt, List}
use Rattle.evm_cells.specs.Places.{each, has}
use Rattle.evm_cells.specs.Limits.{limit, is_cell}
use Rattle.evm_cells.specs.Booleans.{xor_cells}
use Rattle.evm_cells.specs.Boxes.{is_box}
use Rattle.evm_cells.specs.Shapes.{clip}
use Rattle.evm_cells.specs.Vertices.{cells}
use Rattle.evm_cells.specs.Localities.{near}
use Rattle.evm_rows.specs.Rows.{Vertices, cells_of}
use Rattle.evm_meter.specs.Meters.{IsLess}

-- a lower end y that is not above x, and not above what is from x - 1 on
pub record IsLower (n : ℕ) (x y : ℤ) : Type 0 where
  pub least : neg_ℤ (pos (limit n)) ≤ℤ y
  pub below : y ≤ℤ x
  pub near : (z : ℤ) → x ≤ℤ (z +ℤ pos 1) → neg_ℤ (pos (limit n)) ≤ℤ z → y ≤ℤ z

-- an upper end y that is not below x, and above what is up to x
pub record IsHigher (n : ℕ) (x y : ℤ) : Type 0 where
  pub largest : y ≤ℤ pos (limit n)
  pub above : x ≤ℤ y
  pub near : (z : ℤ) → z ≤ℤ x → z <ℤ pos (limit n) → z <ℤ y

-- the box from lo to hi has each cell of dimension n that is within 1 of a cell of S
abbrev pub HoldsNear : ℕ → List ℤ → List ℤ → List (List ℤ) → Type 0
HoldsNear n lo hi S = (c d : List ℤ) → has S c ≡ true → near c d ≡ true → is_cell n d ≡ true → (each int_le lo d && each int_lt d hi) ≡ true

-- a box that has each cell within 1 of a cell of these vertices
pub record IsRound (lo hi : List ℤ) (v : Vertices) : Type 0 where
  pub box : is_box v.dim lo hi ≡ true
  pub holds : HoldsNear v.dim lo hi (cells_of v)

-- a solid and its change: the parts of the solid before and after it inside a box round the change, what comes there and what goes
pub record AreParts (whole delta before gained lost after : Vertices) : Type 0 where
  pub lo : List ℤ
  pub hi : List ℤ
  pub holds : HoldsNear whole.dim lo hi (cells whole.dim delta.rows)
  pub dim : before.dim ≡ whole.dim
  pub dim_changed : after.dim ≡ whole.dim
  pub part : cells_of before ≡ clip whole.dim lo hi (cells_of whole)
  pub part_changed : cells_of after ≡ clip whole.dim lo hi (xor_cells whole.dim (cells_of whole) (cells whole.dim delta.rows))
  pub comes : IsLess after before gained
  pub goes : IsLess before after lost
