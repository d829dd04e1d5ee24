use Rattle.std.proofs.Common.{◌≡◌, ap, ◌∙◌, refl}
use Rattle.evm_cells.specs.Booleans.{xor_cells}
use Rattle.evm_rows.specs.Rows.{Vertices, cells_of}
use Rattle.evm_rows.specs.View.{vertices_of}
use Rattle.evm_delta.specs.Shapes.{op1_dim, in_range, changed_cells, shape_before, shape_after}
use Rattle.evm_delta.specs.Steps.{shape_cuts}
use Rattle.evm_delta.proofs.Deltas.{from_both}
use Rattle.evm_model.specs.Figures.{xor_of}
use Rattle.evm_formulas.specs.Stated.{figure_of}
use Rattle.evm_formulas.specs.Operations.{shape_of, shape_stays}
use Rattle.evm_formulas.proofs.ShapeValues.{stays_made, stays_after, shape_carries, range_by}
use Rattle.evm_formulas.proofs.StepLaws.{near_shape, at_most}
use Rattle.evm_formulas.proofs.shapes.shape_change.Goals as goal

pub delta1-requires-clause-stands : goal.delta1-requires-clause-stands
delta1-requires-clause-stands g c = stays_made c.args.op.now c.args.a.now c.args.a.now refl ∙ c.requires.stays

pub returns-clause-carries : goal.returns-clause-carries
returns-clause-carries g c =
    let v : Vertices = c.args.a.now in
    let w : Vertices = vertices_of c.rows.result in
    from_both c.delta1.result (λ d. d.dim ≡ op1_dim c.args.op.now v.dim) (λ d. xor_cells d.dim (shape_before c.args.op.now v) (cells_of d) ≡ shape_after c.args.op.now v w)
    (λ d. xor_of (shape_of c.args.op.now (figure_of c.args.a.now)) (figure_of d) ≡ shape_of c.args.op.now (xor_of (figure_of c.args.a.now) (figure_of c.args.da.now)))
    (λ d n e. shape_carries c.args.op.now c.args.a.now v refl c.args.da.now w c.rows.ensures c.requires.same d n e) c.delta1.ensures.dim c.delta1.ensures.carries

pub returns-clause-range : goal.returns-clause-range
returns-clause-range g c =
    let v : Vertices = c.args.a.now in
    let w : Vertices = vertices_of c.rows.result in
    range_by _ (in_range c.args.op.now v.dim (changed_cells v w)) (shape_stays c.args.op.now (xor_of (figure_of c.args.a.now) (figure_of c.args.da.now)))
    (stays_after c.args.op.now c.args.a.now v refl c.args.da.now w c.rows.ensures c.requires.same) c.delta1.ensures.range

pub returns-clause-few : goal.returns-clause-few
returns-clause-few g c =
    at_most c.delta1.new.steps c.args.steps.now _ _
    (ap (shape_cuts c.args.op.now c.args.a.now) c.rows.ensures ∙ near_shape c.args.op.now c.args.a.now c.args.da.now c.requires.same)
    c.delta1.ensures.few
