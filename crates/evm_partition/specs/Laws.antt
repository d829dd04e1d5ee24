-- The laws of the stated partition.
use Rattle.std.specs.Prelude.{◌≡◌, ℕ, ℤ, List, count_by, if◌then◌else◌, All}
use Rattle.evm_cells.specs.Places.{has}
use Rattle.evm_cells.specs.Limits.{IsCellSet}
use Rattle.evm_cells.specs.Boxes.{IsBox, box_cells}
use Rattle.evm_cells.specs.Unions.{Ends, union_of}
use Rattle.evm_partition.specs.Partition.{IsPartition, partition}

-- the list is the stated partition
abbrev pub ListIsPartition : Type 0
ListIsPartition = (n : ℕ) (S : List (List ℤ)) → IsCellSet n S → IsPartition n S (partition n S)

-- there is one
abbrev pub OnePartition : Type 0
OnePartition = (n : ℕ) (S : List (List ℤ)) (As Bs : List Ends) → IsPartition n S As → IsPartition n S Bs → As ≡ Bs

-- each cell stands in exactly one of the boxes, and no other place in any
abbrev pub CellsStandOnce : Type 0
CellsStandOnce = (n : ℕ) (S : List (List ℤ)) (c : List ℤ) → IsCellSet n S
    → count_by (λ b. has (box_cells n b.lo b.hi) c) (partition n S) ≡ (if has S c then 1 else 0)

-- the boxes have room on each axis, and are within the limits
abbrev pub BoxesHaveRoom : Type 0
BoxesHaveRoom = (n : ℕ) (S : List (List ℤ)) → IsCellSet n S → All (λ b. IsBox n b.lo b.hi) (partition n S)

-- their union is the cell set
abbrev pub UnionOfPartition : Type 0
UnionOfPartition = (n : ℕ) (S : List (List ℤ)) → IsCellSet n S → union_of n (partition n S) ≡ S
