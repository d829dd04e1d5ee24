-- Words of 32 columns of a grid: bit k of a word is that of column first + k.
use Rattle.std.specs.Prelude.{ℕ, zero, suc, ◌+◌, Bool, cond, List, [], ◌∷◌, ◌++◌, map, flat_map, take, drop, ℤ, pos}
use Rattle.evm_cells.specs.Limits.{ints}
use Rattle.evm_rows.specs.Rows.{flat_of}
use Rattle.evm_voxels.specs.Parity.{grid}

-- the test at each point of the grid, the last axis fastest
unfoldable pub table : List ℕ → (List ℤ → Bool) → List Bool
table [] f = f [] ∷ []
table (m ∷ ms) f = flat_map (λ y. table ms (λ c. f (y ∷ c))) (ints (pos 0) (suc m))

-- the test at the first n places of a line
abbrev pub line_of : (List ℤ → Bool) → ℕ → List Bool
line_of f n = flat_map (λ y. f (y ∷ []) ∷ []) (ints (pos 0) n)

-- the places from z on whose test is true
unfoldable pub places : List Bool → ℕ → List (List ℤ)
places [] z = []
places (b ∷ bs) z = cond b ((pos z ∷ []) ∷ []) [] ++ places bs (z + 1)

-- the same of n lines of one length, numbered from y on
unfoldable pub planes : ℕ → ℕ → ℕ → List Bool → List (List ℤ)
planes line zero y bs = []
planes line (suc n) y bs = map (λ t. pos y ∷ t) (places (take line bs) 0) ++ planes line n (y + 1) (drop line bs)

-- the numbers of the rows of the first n columns
unfoldable pub columns : List ℕ → (List ℤ → Bool) → ℕ → List ℤ
columns ms f n = flat_of (flat_map (λ x. map (λ t. x ∷ t) (grid ms (λ c. f (x ∷ c)))) (ints (pos 0) n))
