-- The change of a Boolean where its operands change.
--     A change is the exclusive or of the cells before and after: an operand A that changes by DA becomes A xor DA.
use Rattle.std.specs.Prelude.{◌≡◌, ℕ, ◌&&◌, ℤ, List}
use Rattle.evm_cells.specs.Booleans.{combine, xor_cells}
use Rattle.evm_cells.specs.Vertices.{evm, cells}
use Rattle.evm_rows.specs.Rows.{Vertices, cells_of, xor_rows}
use Rattle.evm_boolean.specs.declared.boolean.Op2.{Op2}
use Rattle.evm_boolean.specs.Tower.{fills}
use Rattle.evm_cutting.specs.Changes.{follows_left, follows_right}

-- a Boolean of two cell sets of dimension n
unfoldable pub op_cells : Op2 → ℕ → List (List ℤ) → List (List ℤ) → List (List ℤ)
op_cells op n A B = combine (fills op) n A B

-- the value of a Boolean before its operands change
abbrev pub value_before : Op2 → Vertices → Vertices → List (List ℤ)
value_before op a b = op_cells op a.dim (cells_of a) (cells_of b)

-- its value after, where a becomes a xor da and b becomes b xor db
abbrev pub value_after : Op2 → Vertices → Vertices → Vertices → Vertices → List (List ℤ)
value_after op a da b db = op_cells op a.dim (xor_cells a.dim (cells_of a) (cells_of da)) (xor_cells a.dim (cells_of b) (cells_of db))

-- an operand after its change
unfoldable pub after_change : Vertices → Vertices → Vertices
after_change b db = record { dim = b.dim; rows = xor_rows b.dim b.rows db.rows }

-- the vertices of the cells of just one of the two values
unfoldable pub change_vertices : Op2 → Vertices → Vertices → Vertices → Vertices → Vertices
change_vertices op a da b db = record { dim = a.dim; rows = evm a.dim (xor_cells a.dim (value_before op a b) (value_after op a da b db)) }

-- where a change of the left operand changes the value
unfoldable pub left_change : Op2 → Vertices → Vertices → Vertices
left_change op da b = record { dim = da.dim; rows = evm da.dim (combine (λ d r. d && follows_left op r) da.dim (cells da.dim da.rows) (cells da.dim b.rows)) }

-- where a change of the right operand changes the value
unfoldable pub right_change : Op2 → Vertices → Vertices → Vertices
right_change op a db = record { dim = db.dim; rows = evm db.dim (combine (λ d l. d && follows_right op l) db.dim (cells db.dim db.rows) (cells db.dim a.rows)) }

-- the solid s is the exclusive or of the value before and after
abbrev pub IsChange : Op2 → Vertices → Vertices → Vertices → Vertices → Vertices → Type 0
IsChange op a da b db s = cells_of s ≡ xor_cells s.dim (value_before op a b) (value_after op a da b db)

-- the value before, changed by s, is the value after
abbrev pub Carries : Op2 → Vertices → Vertices → Vertices → Vertices → Vertices → Type 0
Carries op a da b db s = xor_cells s.dim (value_before op a b) (cells_of s) ≡ value_after op a da b db
