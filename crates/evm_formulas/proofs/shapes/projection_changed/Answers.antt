use Rattle.std.proofs.Common.{◌≡◌, ℕ, ◌+◌, ◌≤◌, ap, ◌∙◌, refl, subst}
use Rattle.evm_cells.specs.Booleans.{xor_cells}
use Rattle.evm_rows.specs.Rows.{Vertices, cells_of}
use Rattle.evm_rows.specs.View.{vertices_of}
use Rattle.evm_delta.specs.declared.shapes.Op1.{Op1}
use Rattle.evm_delta.specs.declared.shapes.Op1.TheVariants.{Proj}
use Rattle.evm_delta.specs.Shapes.{op1_dim, shape_before, shape_after}
use Rattle.evm_delta.specs.Steps.{shape_cuts}
use Rattle.evm_delta.proofs.Deltas.{from_both}
use Rattle.evm_model.specs.Figures.{xor_of}
use Rattle.evm_formulas.specs.Stated.{figure_of}
use Rattle.evm_formulas.specs.Operations.{shape_of}
use Rattle.evm_formulas.proofs.ShapeValues.{own_dim, own_cells, shape_carries}
use Rattle.evm_formulas.proofs.StepLaws.{near_shape}
use Rattle.evm_formulas.proofs.shapes.projection_changed.Goals as goal

pub projection_change-requires-clause-own_dim : goal.projection_change-requires-clause-own_dim
projection_change-requires-clause-own_dim g c = own_dim (Proj c.args.axis) c.args.own.now c.args.a.now c.requires.value

pub projection_change-requires-clause-own_cells : goal.projection_change-requires-clause-own_cells
projection_change-requires-clause-own_cells g c = own_cells (Proj c.args.axis) c.args.own.now c.args.a.now c.requires.value

pub returns-clause-carries : goal.returns-clause-carries
returns-clause-carries g c =
    let op : Op1 = Proj c.args.axis in
    let v : Vertices = c.args.a.now in
    let w : Vertices = vertices_of c.rows.result in
    from_both c.projection_change.result (λ d. d.dim ≡ op1_dim op v.dim) (λ d. xor_cells d.dim (shape_before op v) (cells_of d) ≡ shape_after op v w)
    (λ d. xor_of (shape_of op (figure_of v)) (figure_of d) ≡ shape_of op (xor_of (figure_of v) (figure_of c.args.da.now)))
    (λ d n e. shape_carries op v v refl c.args.da.now w c.rows.ensures c.requires.same d n e) c.projection_change.ensures.dim c.projection_change.ensures.carries

pub returns-clause-few : goal.returns-clause-few
returns-clause-few g c =
    subst (λ (k : ℕ). c.projection_change.new.steps ≤ c.args.steps.now + k)
    (ap (shape_cuts (Proj c.args.axis) c.args.a.now) c.rows.ensures ∙ near_shape (Proj c.args.axis) c.args.a.now c.args.da.now c.requires.same)
    c.projection_change.ensures.few
