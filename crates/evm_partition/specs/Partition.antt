-- The stated partition of a cell set into boxes (this project's own).
use Rattle.std.specs.Prelude.{◌≡◌, ◌≢◌, ℕ, zero, suc, true, ℤ, pos, ◌-ℤ◌, ◌≤ℤ◌, ◌<ℤ◌, List, [], ◌∷◌, ◌++◌, map, All}
use Rattle.std.specs.List.{Contains}
use Rattle.evm_cells.specs.Places.{has, ascending}
use Rattle.evm_cells.specs.Sections.{slice, cuts}
use Rattle.evm_cells.specs.Unions.{Ends}

-- ---- what it is

-- the heights from low up to, but not at, high are the run of k: the longest range of heights round k at which the section of S
-- along the first axis is the one at k. It is the same in between, and another just below and at the end
pub record IsRun (n : ℕ) (S : List (List ℤ)) (k low high : ℤ) : Type 0 where
  pub from : low ≤ℤ k
  pub to : k <ℤ high
  pub alike : (j : ℤ) → low ≤ℤ j → j <ℤ high → slice n 0 j S ≡ slice n 0 k S
  pub begins : slice n 0 (low -ℤ pos 1) S ≢ slice n 0 k S
  pub ends : slice n 0 high S ≢ slice n 0 k S

-- the box from lo to hi is that of the cell c of S: on the first axis the run of c, and on the others the box of the rest of c in
-- the section at c
abbrev pub IsBoxAt : ℕ → List (List ℤ) → List ℤ → List ℤ → List ℤ → Type 0
IsBoxAt zero S [] [] [] = Unit {0}
IsBoxAt (suc n) S (k ∷ c) (low ∷ lo) (high ∷ hi) = IsRun n S k low high × IsBoxAt n (slice n 0 k S) c lo hi
IsBoxAt n S c lo hi = ⊥

-- the box is that of some cell of S
abbrev pub IsBoxOfSome : ℕ → List (List ℤ) → Ends → Type 0
IsBoxOfSome n S b = (c : List ℤ) × (has S c ≡ true) × IsBoxAt n S c b.lo b.hi

-- the boxes are the stated partition of S: those of its cells, each once, ascending by their lower corners
pub record IsPartition (n : ℕ) (S : List (List ℤ)) (boxes : List Ends) : Type 0 where
  pub ascends : ascending (map (λ b. b.lo) boxes) ≡ true
  pub of_cells : All (IsBoxOfSome n S) boxes
  pub all_cells : (c : List ℤ) → has S c ≡ true → (b : Ends) × Contains boxes b × IsBoxAt n S c b.lo b.hi

-- ---- as a list

-- a box of a section, from low up to high on the first axis
abbrev pub raised : ℤ → ℤ → Ends → Ends
raised low high b = record { lo = low ∷ b.lo; hi = high ∷ b.hi }

-- the boxes from the cut `low` up over further cuts, where `at` has the boxes of the section at a height
unfoldable pub boxes_from : (ℤ → List Ends) → ℤ → List ℤ → List Ends
boxes_from at low [] = []
boxes_from at low (high ∷ hs) = map (raised low high) (at low) ++ boxes_from at high hs

-- the boxes over all cuts
unfoldable pub boxes_over : (ℤ → List Ends) → List ℤ → List Ends
boxes_over at [] = []
boxes_over at (low ∷ hs) = boxes_from at low hs

-- the stated partition, slab by slab: between two neighbouring cuts of the first axis the section is cut in the same way
unfoldable pub partition : ℕ → List (List ℤ) → List Ends
partition zero S = map (λ c. record { lo = []; hi = [] }) S
partition (suc n) S = boxes_over (λ low. partition n (slice n 0 low S)) (cuts n 0 S)
