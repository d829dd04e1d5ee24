-- Rows that share their first coordinates, and places that occur an odd number of times.
use Rattle.std.specs.Prelude.{◌≡◌, ℕ, Bool, true, false, not, ◌&&◌, List, [], ◌∷◌, ◌++◌, map, take, length, get_or, count_by, ℤ}
use Rattle.std.specs.List.{list_all}
use Rattle.evm_cells.specs.Places.{same, before, has, ascending}
use Rattle.evm_cells.specs.Vertices.{odd}
use denote.Ref.{Bor}

-- some place occurs an odd number of times
abbrev pub HasOddPlace : List (List ℤ) → Type 0
HasOddPlace K = (q : List ℤ) × (odd (count_by (λ s. same s q) K) ≡ true)

-- no place does
abbrev pub IsPaired : List (List ℤ) → Type 0
IsPaired K = (q : List ℤ) → odd (count_by (λ s. same s q) K) ≡ false

-- x is not above the first of the places, if there is one
abbrev pub reaches : List ℤ → List (List ℤ) → Bool
reaches x [] = true
reaches x (y ∷ ys) = not (before y x)

-- no place is before the place that it follows
unfoldable pub steady : List (List ℤ) → Bool
steady [] = true
steady (x ∷ xs) = reaches x xs && steady xs

-- what the references in a list point to
abbrev pub targets : List (Bor (List ℤ)) → List (List ℤ)
targets bs = map (λ b. b.now) bs

-- O are the places that occur an odd number of times in K, each once, ascending
pub record IsOddPart (K O : List (List ℤ)) : Type 0 where
  pub rises : ascending O ≡ true
  pub members : (q : List ℤ) → has O q ≡ odd (count_by (λ s. same s q) K)

-- the first i numbers of the first row
abbrev pub head_of : ℕ → List (List ℤ) → List ℤ
head_of i V = take i (get_or V 0 [])

-- G are the first rows of V, which share their first i numbers; R are the rows after them, none of which shares these
pub record IsFrontGroup (i : ℕ) (V G R : List (List ℤ)) : Type 0 where
  pub rows : V ≡ G ++ R
  pub deep : length (head_of i V) ≡ i
  pub alike : list_all (λ p. same (take i p) (head_of i V)) G ≡ true
  pub apart : list_all (λ p. not (same (take i p) (head_of i V))) R ≡ true
