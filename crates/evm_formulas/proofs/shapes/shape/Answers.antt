use Rattle.std.proofs.Common.{◌≡◌, ◌∙◌}
use Rattle.evm_rows.specs.Rows.{Vertices, cells_of}
use Rattle.evm_rows.specs.View.{vertices_of}
use Rattle.evm_delta.specs.Shapes.{op1_dim, op1_cells, in_range}
use Rattle.evm_delta.proofs.Deltas.{from_both}
use Rattle.evm_formulas.specs.Stated.{figure_of}
use Rattle.evm_formulas.specs.Operations.{shape_of, shape_stays}
use Rattle.evm_formulas.proofs.ShapeValues.{shape_made, stays_made, stays_by, range_only}
use Rattle.evm_formulas.proofs.shapes.shape.Goals as goal

pub returns-clause-value : goal.returns-clause-value
returns-clause-value g c =
    let v : Vertices = vertices_of c.rows-2.result in
    let e : v ≡ c.args.a.now = c.rows-2.ensures ∙ c.in_ok-whole.ensures in
    from_both c.shape.result (λ s. s.dim ≡ op1_dim c.args.op.now v.dim) (λ s. cells_of s ≡ op1_cells c.args.op.now v.dim (cells_of v)) (λ s. figure_of s ≡ shape_of c.args.op.now (figure_of c.args.a.now))
    (λ s d f. shape_made c.args.op.now c.args.a.now v e s d f) c.shape.ensures.dim c.shape.ensures.cells

pub returns-clause-stays : goal.returns-clause-stays
returns-clause-stays g c =
    let v : Vertices = vertices_of c.rows-2.result in
    let e : v ≡ c.args.a.now = c.rows-2.ensures ∙ c.in_ok-whole.ensures in
    stays_by c.shape.result (in_range c.args.op.now v.dim (cells_of v)) (shape_stays c.args.op.now (figure_of c.args.a.now)) (stays_made c.args.op.now c.args.a.now v e) c.shape.ensures.range

pub returns-clause-range : goal.returns-clause-range
returns-clause-range g c =
    let v : Vertices = vertices_of c.rows-2.result in
    let e : v ≡ c.args.a.now = c.rows-2.ensures ∙ c.in_ok-whole.ensures in
    range_only _ (in_range c.args.op.now v.dim (cells_of v)) (shape_stays c.args.op.now (figure_of c.args.a.now)) (stays_made c.args.op.now c.args.a.now v e) c.shape.ensures.range
