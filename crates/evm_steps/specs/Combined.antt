-- What a Boolean of two solids answers.
use Rattle.std.specs.Prelude.{◌≡◌, ℤ, List}
use Rattle.evm_cells.specs.Booleans.{combine}
use Rattle.evm_cells.specs.Vertices.{cells}
use Rattle.evm_rows.specs.Rows.{Vertices, cells_of, combined_rows}
use Rattle.evm_boolean.specs.declared.boolean.Op2.{Op2}
use Rattle.evm_boolean.specs.Tower.{fills}

-- the vertices of the Boolean
abbrev pub combined : Op2 → Vertices → Vertices → List (List ℤ)
combined op v w = combined_rows (fills op) v.dim v.rows w.rows

-- s has the cells of the Boolean
abbrev pub HasCombined : Op2 → Vertices → Vertices → Vertices → Type 0
HasCombined op v w s = cells_of s ≡ combine (fills op) s.dim (cells s.dim v.rows) (cells s.dim w.rows)
