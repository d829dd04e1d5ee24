-- What hangs together by faces, and lists of the parts of a cell set.
use Rattle.std.specs.Prelude.{◌≡◌, ◌≢◌, ◌↔◌, ℕ, true, ℤ, List, [], ◌∷◌, map, count_by, if◌then◌else◌, All}
use Rattle.std.specs.List.{Contains}
use Rattle.evm_cells.specs.Places.{has, ascending}
use Rattle.evm_cells.specs.Limits.{IsCellSet}
use Rattle.evm_cells.specs.Parts.{share_face}

-- the cells c and d of S hang together: a chain of cells of S, each of which shares a face with the next, leads from c to d
pub data AreJoined (S : List (List ℤ)) : List ℤ → List ℤ → Type 0 where
  here : (c : List ℤ) → has S c ≡ true → AreJoined S c c
  onward : (c d e : List ℤ) → has S c ≡ true → share_face c d ≡ true → AreJoined S d e → AreJoined S c e

-- some set of the list has both cells
abbrev pub StandTogether : List (List (List ℤ)) → List ℤ → List ℤ → Type 0
StandTogether As c d = (A : List (List ℤ)) × Contains As A × (has A c ≡ true) × (has A d ≡ true)

-- the first cell of a cell set, its least
abbrev pub least : List (List ℤ) → List ℤ
least [] = []
least (c ∷ A) = c

-- the sets are the parts of S: cell sets, none of them empty, ascending by their least cells. Each cell of S stands in one of them, and
-- no other place in any; and two cells stand in the same exactly where they hang together (this project's own)
pub record AreParts (n : ℕ) (S : List (List ℤ)) (As : List (List (List ℤ))) : Type 0 where
  pub cell_sets : All (IsCellSet n) As
  pub filled : All (λ A. A ≢ []) As
  pub ascends : ascending (map least As) ≡ true
  pub once : (c : List ℤ) → count_by (λ A. has A c) As ≡ (if has S c then 1 else 0)
  pub joined : (c d : List ℤ) → StandTogether As c d ↔ AreJoined S c d
