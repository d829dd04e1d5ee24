-- The Boolean of two solids.
use Rattle.std.specs.Prelude.{◌≡◌, ℤ, List}
use Rattle.evm_boolean.specs.Tower.{fills}
use Rattle.evm_boolean.specs.declared.boolean.Op2.{Op2}
use Rattle.evm_cells.specs.Booleans.{combine}
use Rattle.evm_cells.specs.Vertices.{cells}
use Rattle.evm_rows.specs.Rows.{Vertices, cells_of, combined_rows}

-- its extreme vertices
abbrev pub combined : Op2 → Vertices → Vertices → List (List ℤ)
combined op v w = combined_rows (fills op) v.dim v.rows w.rows

-- its cells
abbrev pub HasCombined : Op2 → Vertices → Vertices → Vertices → Type 0
HasCombined op v w s = cells_of s ≡ combine (fills op) s.dim (cells s.dim v.rows) (cells s.dim w.rows)
