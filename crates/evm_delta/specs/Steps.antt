-- How many steps a change may take. A cut is a height of the first axis at which a solid changes.
use Rattle.std.specs.Prelude.{ℕ, ◌==◌, Bool, false, if◌then◌else◌, [], ◌∷◌}
use Rattle.evm_cells.specs.Heights.{cut_count, spanned_cut_count}
use Rattle.evm_rows.specs.Rows.{Vertices, cells_of}
use Rattle.evm_delta.specs.declared.shapes.Op1.{Op1}
use Rattle.evm_delta.specs.declared.shapes.Op1.TheVariants.{Proj}
use Rattle.evm_delta.specs.Shapes.{changed_cells}

-- how many cuts two operands have, before or after, in the least range that has their changes
abbrev pub near_cuts : Vertices → Vertices → Vertices → Vertices → ℕ
near_cuts a da b db =
    spanned_cut_count a.dim (cells_of a ∷ changed_cells a da ∷ cells_of b ∷ changed_cells b db ∷ [])
    (cells_of da ∷ cells_of db ∷ [])

-- whether a shape is the projection along the first axis, which puts all sections together
abbrev pub joins_sections : Op1 → Bool
joins_sections (Proj axis) = axis == 1
joins_sections _ = false

-- how many cuts an operand has, before or after, in the range of its change; all of them where all sections are put together
abbrev pub shape_cuts : Op1 → Vertices → Vertices → ℕ
shape_cuts op a da =
    if joins_sections op then cut_count a.dim (cells_of a ∷ changed_cells a da ∷ [])
    else spanned_cut_count a.dim (cells_of a ∷ changed_cells a da ∷ []) (cells_of da ∷ [])
