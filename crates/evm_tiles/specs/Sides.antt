-- The two sides of a plane.
use Rattle.std.specs.Prelude.{◌≡◌, ℕ, true, ℤ, List}
use Rattle.std.specs.List.{list_all}
use Rattle.evm_cells.specs.Windows.{is_under, is_over}
use Rattle.evm_tiles.specs.declared.solids.Side.{Side}
use Rattle.evm_tiles.specs.declared.solids.Side.TheVariants.{Below, Above, Both}

-- all cells are on the side that is told
abbrev pub HasSide : Side → ℕ → ℤ → List (List ℤ) → Type 0
HasSide Below i at S = list_all (is_under i at) S ≡ true
HasSide Above i at S = list_all (is_over i at) S ≡ true
HasSide Both i at S = Unit {0}
