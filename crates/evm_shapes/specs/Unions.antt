-- The union of many solids.
use Rattle.std.specs.Prelude.{ℕ, ℤ, List, map}
use Rattle.std.specs.List.{list_any}
use Rattle.evm_cells.specs.Places.{has}
use Rattle.evm_cells.specs.Limits.{cells_where}
use Rattle.evm_cells.specs.Vertices.{evm, cells}

-- the extreme vertices of the cells that at least one of the vertex lists Vs stands for (this project's own)
unfoldable pub united : ℕ → List (List (List ℤ)) → List (List ℤ)
united n Vs = evm n (cells_where n (λ c. list_any (λ V. has (cells n V) c) Vs))

-- the sections of slabs
abbrev pub sections_of : List (ℤ × (ℤ × List (List ℤ))) → List (List (List ℤ))
sections_of slabs = map (λ s. s.1.1) slabs
