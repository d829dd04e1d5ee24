-- The Booleans of two cell sets, cell by cell.
use Rattle.std.specs.Prelude.{ℕ, Bool, true, false, not, ◌&&◌, ◌||◌, ℤ, List, [], ◌∷◌}
use Rattle.evm_cells.specs.Places.{has}
use Rattle.evm_cells.specs.Limits.{cells_where}

-- exclusive or of two truth values
unfoldable pub xor : Bool → Bool → Bool
xor true b = not b
xor false b = b

-- the cells at which op holds of being in A and being in B (this project's own)
unfoldable pub combine : (Bool → Bool → Bool) → ℕ → List (List ℤ) → List (List ℤ) → List (List ℤ)
combine op n A B = cells_where n (λ c. op (has A c) (has B c))

-- the union of two cell sets
unfoldable pub or_cells : ℕ → List (List ℤ) → List (List ℤ) → List (List ℤ)
or_cells n A B = combine (λ a b. a || b) n A B

-- the intersection of two cell sets
unfoldable pub and_cells : ℕ → List (List ℤ) → List (List ℤ) → List (List ℤ)
and_cells n A B = combine (λ a b. a && b) n A B

-- the difference of two cell sets: what A has and B has not
unfoldable pub sub_cells : ℕ → List (List ℤ) → List (List ℤ) → List (List ℤ)
sub_cells n A B = combine (λ a b. a && not b) n A B

-- the exclusive or of two cell sets, which is their symmetric difference
unfoldable pub xor_cells : ℕ → List (List ℤ) → List (List ℤ) → List (List ℤ)
xor_cells n A B = combine xor n A B

-- the exclusive or of all the cell sets of a list; of none, the empty set (this project's own)
unfoldable pub xor_all : ℕ → List (List (List ℤ)) → List (List ℤ)
xor_all n [] = []
xor_all n (A ∷ As) = xor_cells n A (xor_all n As)
