-- What the contracts see of a box row.
use Rattle.std.specs.Prelude.{◌≡◌, ℕ, ℤ, List, Bool, true, take, drop}
use Rattle.evm_cells.specs.Boxes.{is_box}
use Rattle.evm_cells.specs.Unions.{Ends}
use Rattle.evm_boxes.specs.declared.BoxRow.{BoxRow}

-- the two ends of a row: what stands past the dimension is left out
abbrev pub ends_of : BoxRow → Ends
ends_of row = record { lo = take row.dim row.lo; hi = take row.dim row.hi }

-- the row is a box of dimension n: its ends are points, and lo is below hi on each axis
pub record IsBoxRow (n : ℕ) (row : BoxRow) : Type 0 where
  pub dim : row.dim ≡ n
  pub box : is_box n (ends_of row).lo (ends_of row).hi ≡ true

-- the first n numbers and the others are the ends of a box of dimension n
abbrev pub are_ends : ℕ → List ℤ → Bool
are_ends n ns = is_box n (take n ns) (drop n ns)

-- the row is a box of dimension n, from the first n numbers to the others
pub record IsBoxOf (n : ℕ) (ns : List ℤ) (row : BoxRow) : Type 0 where
  pub box : IsBoxRow n row
  pub ends : ends_of row ≡ record { lo = take n ns; hi = drop n ns }
