-- Lists of boxes as flat numbers.
use Rattle.std.specs.Prelude.{◌≡◌, ℕ, ◌*◌, ◌%◌, ◌<◌, ◌≤◌, ℤ, List, [], ◌∷◌, ◌++◌, map, length, take, drop, All}
use Rattle.evm_cells.specs.Boxes.{IsBox}
use Rattle.evm_cells.specs.Unions.{Ends}
use Rattle.evm_rows.specs.Rows.{Vertices, rows_of, cells_of}
use Rattle.evm_partition.specs.Partition.{IsPartition, partition}
use Rattle.evm_partition.specs.declared.boxes.Front.{Front}

-- what a clause sees of a list of boxes: their dimension, and their ends
pub record BoxList : Type 0 where
  pub dim : ℕ
  pub boxes : List Ends

-- the box of 2 n numbers, first those of its lower corner
abbrev pub box_of : ℕ → List ℤ → Ends
box_of n row = record { lo = take n row; hi = drop n row }

-- the boxes of flat numbers, 2 n a box
abbrev pub boxes_of : ℕ → List ℤ → List Ends
boxes_of n flat = map (box_of n) (rows_of flat (2 * n) 0)

-- what a list of boxes keeps: whole boxes of dimension 1 to 6, each with room on each axis and within the limits
pub record AreBoxes (n : ℕ) (flat : List ℤ) : Type 0 where
  pub low : 0 < n
  pub high : n ≤ 6
  pub whole : length flat % (2 * n) ≡ 0
  pub boxes : All (λ b. IsBox n b.lo b.hi) (boxes_of n flat)

-- the numbers of boxes, one box after another
abbrev pub numbers_of : List Ends → List ℤ
numbers_of [] = []
numbers_of (b ∷ bs) = b.lo ++ b.hi ++ numbers_of bs

-- what stands of a box on the axes that were passed
abbrev pub front_of : Front → Ends
front_of f = record { lo = take f.depth f.lo; hi = take f.depth f.hi }

-- boxes on the axes that are left, each with the same ends before
abbrev pub prefixed : Ends → List Ends → List Ends
prefixed f bs = map (λ b. record { lo = f.lo ++ b.lo; hi = f.hi ++ b.hi }) bs

-- the stated partition of the cells that vertices stand for
abbrev pub partition_of : Vertices → List Ends
partition_of v = partition v.dim (cells_of v)

-- the boxes are that partition
abbrev pub IsPartitionOf : Vertices → List Ends → Type 0
IsPartitionOf v boxes = IsPartition v.dim (cells_of v) boxes

-- the numbers of its boxes, each with the same ends before
abbrev pub numbers_after : Ends → Vertices → List ℤ
numbers_after f v = numbers_of (prefixed f (partition_of v))
