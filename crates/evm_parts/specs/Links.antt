-- The links between the boxes of a list, and lists that stand in nested slabs. Boxes are counted from 0.
use Rattle.std.specs.Prelude.{◌≡◌, ℕ, ◌<◌, ◌⊎◌, ℤ, ◌≤ℤ◌, List, ◌∷◌, length, All}
use Rattle.std.specs.List.{Contains}
use Rattle.evm_cells.specs.Boxes.{IsBox}
use Rattle.evm_cells.specs.Unions.{Ends}
use Rattle.evm_parts.specs.Labels.{box_at, AreLinked}
use Rattle.evm_parts.specs.declared.neighbours.Link.{Link}

-- the link joins two boxes that are neighbours, the earlier one first
pub record IsLink (boxes : List Ends) (link : Link) : Type 0 where
  pub ordered : link.first < link.second
  pub linked : AreLinked boxes link.first link.second

-- the links are those of all pairs of boxes that are neighbours
pub record AreLinks (boxes : List Ends) (links : List Link) : Type 0 where
  pub sound : All (IsLink boxes) links
  pub complete : (i j : ℕ) → i < j → AreLinked boxes i j → Contains links (record { first = i; second = j })

-- on the first axis on which the box from lo to hi is not as the box from low to high, it ends before this begins, or where it begins
abbrev pub Precedes : List ℤ → List ℤ → List ℤ → List ℤ → Type 0
Precedes (a ∷ lo) (b ∷ hi) (c ∷ low) (d ∷ high) = (b ≤ℤ c) ⊎ ((a ≡ c) × (b ≡ d) × Precedes lo hi low high)
Precedes _ _ _ _ = ⊥

-- the boxes, of dimension n, stand in nested slabs, ascending: each precedes those after it
pub record AreNested (n : ℕ) (boxes : List Ends) : Type 0 where
  pub room : All (λ b. IsBox n b.lo b.hi) boxes
  pub ascends : (i j : ℕ) → i < j → j < length boxes
      → Precedes (box_at boxes i).lo (box_at boxes i).hi (box_at boxes j).lo (box_at boxes j).hi
