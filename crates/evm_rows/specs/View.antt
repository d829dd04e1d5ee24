use Rattle.std.specs.Prelude.{◌-◌, ℤ, List}
use Rattle.evm_rows.specs.Rows.{rows_of, merge_xor, xor_rows, Vertices}
use Rattle.evm_rows.specs.declared.solid.Rows.{Rows}

-- the dimension and the rows that a view shows
abbrev pub vertices_of : Rows → Vertices
vertices_of r = record { dim = r.width - r.skip; rows = rows_of r.flat.now r.width r.skip }

-- the rows that just one of two views shows, by a merge
abbrev pub merge_of : Rows → Rows → List (List ℤ)
merge_of a b = merge_xor (vertices_of a).rows (vertices_of b).rows

-- the vertices of the exclusive or of the cells of two views of one dimension
abbrev pub xor_of : Rows → Rows → List (List ℤ)
xor_of a b = xor_rows (vertices_of a).dim (vertices_of a).rows (vertices_of b).rows
