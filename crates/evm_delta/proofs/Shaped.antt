-- Shapes and their changes, on vertices.
use Rattle.std.proofs.Common.{◌≡◌, sym, ap, ◌∙◌}
use Rattle.evm_cells.specs.Vertices.{evm}
use Rattle.evm_cells.proofs.Universe.{cell_set-cells}
use Rattle.evm_cells.proofs.Core.{cells-evm}
use Rattle.evm_rows.specs.Rows.{Vertices, cells_of}
use Rattle.evm_delta.specs.declared.shapes.Op1.{Op1}
use Rattle.evm_delta.specs.Shapes.{Fits, op1_dim, op1_cells, shape_vertices}
use Rattle.evm_delta.proofs.ShapeLaws.{cell_set-op1}

-- the shape by its name
pub shaped : (op named : Op1) (a s : Vertices) → op ≡ named → s.dim ≡ op1_dim named a.dim → s.rows ≡ evm (op1_dim named a.dim) (op1_cells named a.dim (cells_of a)) → s ≡ shape_vertices op a
unfolding shape_vertices
shaped op named a s e d r =
    let D : s.dim ≡ op1_dim op a.dim = d ∙ ap (λ (o : Op1). op1_dim o a.dim) (sym e) in
    let R : s.rows ≡ evm (op1_dim op a.dim) (op1_cells op a.dim (cells_of a)) = r ∙ ap (λ (o : Op1). evm (op1_dim o a.dim) (op1_cells o a.dim (cells_of a))) (sym e) in
    λ i. record { dim = D i; rows = R i }

-- the cells of the shape's vertices
pub shape_cells : (op : Op1) (a s : Vertices) → Fits op a.dim → s ≡ shape_vertices op a → cells_of s ≡ op1_cells op a.dim (cells_of a)
unfolding shape_vertices
shape_cells op a s f e =
    ap cells_of e ∙ cells-evm (op1_dim op a.dim) (op1_cells op a.dim (cells_of a)) (cell_set-op1 op a.dim (cells_of a) f (cell_set-cells a.dim a.rows))
