-- How many steps changes of figures may take. A cut is a height of the first axis at which a figure changes.
use Rattle.std.specs.Prelude.{ℕ, if◌then◌else◌, [], ◌∷◌}
use Rattle.evm_cells.specs.Heights.{cut_count, spanned_cut_count}
use Rattle.evm_delta.specs.declared.shapes.Op1.{Op1}
use Rattle.evm_delta.specs.Steps.{joins_sections}
use Rattle.evm_model.specs.Figures.{Figure}
use Rattle.evm_model.specs.Work.{change_between}

-- how many cuts two operands have, at first or as they become, in the least range that has their changes
abbrev pub pair_cuts : Figure → Figure → Figure → Figure → ℕ
pair_cuts a left b right =
    spanned_cut_count a.dim (a.cells ∷ left.cells ∷ b.cells ∷ right.cells ∷ [])
    (change_between a left ∷ change_between b right ∷ [])

-- how many cuts an operand has, at first or as it becomes, in the range of its change; all of them where all sections are put together
abbrev pub shape_cuts : Op1 → Figure → Figure → ℕ
shape_cuts op a left =
    if joins_sections op then cut_count a.dim (a.cells ∷ left.cells ∷ [])
    else spanned_cut_count a.dim (a.cells ∷ left.cells ∷ []) (change_between a left ∷ [])
