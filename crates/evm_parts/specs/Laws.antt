-- The laws of parts.
use Rattle.std.specs.Prelude.{◌≡◌, ℕ, true, ℤ, List, [], ◌∷◌, map}
use Rattle.std.specs.List.{Contains}
use Rattle.evm_cells.specs.Places.{has}
use Rattle.evm_cells.specs.Limits.{IsCellSet}
use Rattle.evm_cells.specs.Parts.{share_face, parts}
use Rattle.evm_cells.specs.Unions.{union_of, or_all}
use Rattle.evm_cells.specs.Examples.{plane, space, diagonal, angle}
use Rattle.evm_partition.specs.Partition.{partition}
use Rattle.evm_parts.specs.Chains.{AreParts}
use Rattle.evm_parts.specs.Labels.{AreLabels, roots, labelled}

-- with a label for each box of the stated partition, the parts are the unions of the boxes of one label, ascending by these
abbrev pub PartsByLabels : Type 0
PartsByLabels = (n : ℕ) (S : List (List ℤ)) (labels : List ℕ) → IsCellSet n S → AreLabels (partition n S) labels
    → parts S ≡ map (λ root. union_of n (labelled root labels (partition n S))) (roots labels)

-- the list of floods is that of the parts
abbrev pub FloodsAreParts : Type 0
FloodsAreParts = (n : ℕ) (S : List (List ℤ)) → IsCellSet n S → AreParts n S (parts S)

-- and no other list is
abbrev pub PartsAreOne : Type 0
PartsAreOne = (n : ℕ) (S : List (List ℤ)) (As : List (List (List ℤ))) → IsCellSet n S → AreParts n S As → As ≡ parts S

-- the union of the parts is the cell set
abbrev pub UnionOfParts : Type 0
UnionOfParts = (n : ℕ) (S : List (List ℤ)) → IsCellSet n S → or_all n (parts S) ≡ S

-- parts of which cells share a face are one
abbrev pub PartsStandApart : Type 0
PartsStandApart = (n : ℕ) (S A B : List (List ℤ)) (c d : List ℤ) → IsCellSet n S → Contains (parts S) A → Contains (parts S) B
    → has A c ≡ true → has B d ≡ true → share_face c d ≡ true → A ≡ B

-- a part has itself as its one part
abbrev pub PartIsWhole : Type 0
PartIsWhole = (n : ℕ) (S A : List (List ℤ)) → IsCellSet n S → Contains (parts S) A → parts A ≡ A ∷ []

-- ---- worked examples

-- two squares that share a corner are two parts
abbrev pub CornerJoinsNothing : Type 0
CornerJoinsNothing = parts diagonal ≡ (plane 0 0 ∷ []) ∷ (plane 1 1 ∷ []) ∷ []

-- two cubes that share an edge are two parts
abbrev pub EdgeJoinsNothing : Type 0
EdgeJoinsNothing = parts (space 0 0 0 ∷ space 0 1 1 ∷ []) ≡ (space 0 0 0 ∷ []) ∷ (space 0 1 1 ∷ []) ∷ []

-- three squares in the shape of an L are one part
abbrev pub AngleIsOnePart : Type 0
AngleIsOnePart = parts angle ≡ angle ∷ []
