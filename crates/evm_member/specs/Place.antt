-- The place of a point.
use Rattle.std.specs.Prelude.{ℕ, ℤ, List, if◌then◌else◌}
use Rattle.evm_cells.specs.Measures.{is_inside, is_outside}
use Rattle.evm_member.specs.declared.outcome.Place.{Place}
use Rattle.evm_member.specs.declared.outcome.Place.TheVariants.{Inside, Boundary, Outside}

-- where the point p stands in the cell set S of dimension n
unfoldable pub place_of : ℕ → List (List ℤ) → List ℤ → Place
place_of n S p = if is_inside n S p then Inside else (if is_outside S p then Outside else Boundary)
