-- The bounds of the steps that changes of figures count are those of their vertices.
use Rattle.std.proofs.Common.{◌≡◌, ℕ, ◌+◌, ◌*◌, ◌≤◌, if◌then◌else◌, List, [], ◌∷◌, ℤ, sym, ap, subst}
use Rattle.evm_cells.specs.Heights.{cut_count, spanned_cut_count}
use Rattle.evm_cells.specs.Limits.{IsCellSet}
use Rattle.evm_cells.proofs.Universe.{cell_set-cells}
use Rattle.evm_rows.specs.Rows.{Vertices, cells_of}
use Rattle.evm_delta.specs.declared.shapes.Op1.{Op1}
use Rattle.evm_delta.specs.Shapes.{changed_cells}
use Rattle.evm_delta.specs.Steps.{near_cuts, joins_sections}
use Rattle.evm_delta.specs.Steps as vertices
use Rattle.evm_delta.proofs.Deltas.{carries_over}
use Rattle.evm_model.specs.Figures.{xor_of}
use Rattle.evm_model.specs.Work.{change_between}
use Rattle.evm_formulas.specs.Stated.{figure_of}
use Rattle.evm_formulas.specs.Steps.{pair_cuts, shape_cuts}

-- what changes between a solid and what it becomes is the change
change_is : (a da : Vertices) → da.dim ≡ a.dim → change_between (figure_of a) (xor_of (figure_of a) (figure_of da)) ≡ cells_of da
unfolding xor_of
change_is a da same = carries_over a.dim (cells_of a) (cells_of da) (cell_set-cells a.dim a.rows) (subst (λ (n : ℕ). IsCellSet n (cells_of da)) same (cell_set-cells da.dim da.rows))

-- the cuts near the changes of two operands
pub near_pair : (a da b db : Vertices) → da.dim ≡ a.dim → db.dim ≡ b.dim
    → near_cuts a da b db ≡ pair_cuts (figure_of a) (xor_of (figure_of a) (figure_of da)) (figure_of b) (xor_of (figure_of b) (figure_of db))
unfolding xor_of
near_pair a da b db left right =
    λ i. spanned_cut_count a.dim (cells_of a ∷ changed_cells a da ∷ cells_of b ∷ changed_cells b db ∷ []) (sym (change_is a da left) i ∷ sym (change_is b db right) i ∷ [])

-- the cuts that the change of a shape looks at
pub near_shape : (op : Op1) (a da : Vertices) → da.dim ≡ a.dim → vertices.shape_cuts op a da ≡ shape_cuts op (figure_of a) (xor_of (figure_of a) (figure_of da))
unfolding xor_of
near_shape op a da same =
    ap (λ (D : List (List ℤ)).
    if joins_sections op then cut_count a.dim (cells_of a ∷ changed_cells a da ∷ [])
    else spanned_cut_count a.dim (cells_of a ∷ changed_cells a da ∷ []) (D ∷ []))
    (sym (change_is a da same))

-- steps within a bound are within an equal one
pub at_most : (new old x y : ℕ) → x ≡ y → new ≤ old + 6 * (1 + x) → new ≤ old + 6 * (1 + y)
at_most new old x y e h = subst (λ (k : ℕ). new ≤ old + 6 * (1 + k)) e h
