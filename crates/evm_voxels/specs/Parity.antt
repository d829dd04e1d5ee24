-- Parities round the points of a grid, by differences of neighbouring places.
use Rattle.std.specs.Prelude.{ℕ, suc, Bool, List, [], ◌∷◌, map, ℤ, pos, ◌-ℤ◌}
use Rattle.evm_cells.specs.Booleans.{xor}
use Rattle.evm_formats.specs.VoxelLaws.{listed}

-- the exclusive or of a test over the places that a point touches: on each axis its coordinate, or one less
unfoldable pub turns : (List ℤ → Bool) → List ℤ → Bool
turns f [] = f []
turns f (x ∷ p) = xor (turns (λ c. f ((x -ℤ pos 1) ∷ c)) p) (turns (λ c. f (x ∷ c)) p)

-- the points from 0 up to, and at, the sizes that pass a test, ascending
abbrev pub grid : List ℕ → (List ℤ → Bool) → List (List ℤ)
grid ms f = listed (map suc ms) f

-- whether the test differs between column x and the column before
unfoldable pub seam : (List ℤ → Bool) → ℤ → List ℤ → Bool
seam f x c = xor (f ((x -ℤ pos 1) ∷ c)) (f (x ∷ c))

-- whether that differs between row y and the row before: the exclusive or of the four places there
unfoldable pub edge : (List ℤ → Bool) → ℤ → ℤ → List ℤ → Bool
edge f x y c = xor (seam f x ((y -ℤ pos 1) ∷ c)) (seam f x (y ∷ c))
