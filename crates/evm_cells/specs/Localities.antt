-- Measures by kind, and the box that holds all that a change can touch.
use Rattle.std.specs.Prelude.{◌≡◌, ℕ, ◌+◌, Bool, true, ◌&&◌, ℤ, pos, ◌+ℤ◌, int_le, int_lt, List}
use Rattle.evm_cells.specs.Places.{each, has}
use Rattle.evm_cells.specs.Limits.{is_cell, IsCellSet}
use Rattle.evm_cells.specs.Booleans.{xor_cells}
use Rattle.evm_cells.specs.Measures.{content, boundary, vertex_count}
use Rattle.evm_cells.specs.Shapes.{clip}

-- what can be measured of a cell set
pub data Measure : Type 0 where
  Content : Measure
  Boundary : Measure
  VertexCount : Measure

-- the measure of a cell set of dimension n
abbrev pub measure : Measure → ℕ → List (List ℤ) → ℕ
measure Content n S = content S
measure Boundary n S = boundary n S
measure VertexCount n S = vertex_count n S

-- the numbers differ by at most 1
unfoldable pub close : ℤ → ℤ → Bool
close x y = int_le x (y +ℤ pos 1) && int_le y (x +ℤ pos 1)

-- the places differ by at most 1 on each axis
unfoldable pub near : List ℤ → List ℤ → Bool
near c d = each close c d

-- the box from lo to hi has each cell of dimension n that is near a place in which S and T differ
abbrev pub HoldsChange : ℕ → List ℤ → List ℤ → List (List ℤ) → List (List ℤ) → Type 0
HoldsChange n lo hi S T = (c d : List ℤ) → has (xor_cells n S T) c ≡ true → near c d ≡ true → is_cell n d ≡ true
    → (each int_le lo d && each int_lt d hi) ≡ true

-- each measure changes by what it changes inside such a box
abbrev pub MeasuresAreLocal : Type 0
MeasuresAreLocal = (kind : Measure) (n : ℕ) (lo hi : List ℤ) (S T : List (List ℤ)) → IsCellSet n S → IsCellSet n T → HoldsChange n lo hi S T
    → measure kind n T + measure kind n (clip n lo hi S) ≡ measure kind n S + measure kind n (clip n lo hi T)
