use Rattle.std.proofs.Common.{◌≡◌, ◌↔◌, Bool, true, false, [], sym, ap, ◌∙◌}
use Rattle.std.proofs.lemmas.Result.{IfOk-weaker}
use Rattle.std.proofs.lemmas.Bool.{true≢false}
use Rattle.evm_cells.specs.Booleans.{xor_cells}
use Rattle.evm_rows.specs.Rows.{Vertices, cells_of}
use Rattle.evm_rows.specs.View.{vertices_of}
use Rattle.evm_delta.specs.declared.shapes.Op1.{Op1}
use Rattle.evm_delta.specs.Shapes.{op1_dim, in_range, shape_vertices, shape_before, shape_after, changed_cells, shape_change}
use Rattle.evm_delta.proofs.Deltas.{no_rows}
use Rattle.evm_delta.proofs.Carried.{stays, nothing_is, carried_is, shape_change_dim, shape_change_cells, shape_change_carries, range_is}
use Rattle.evm_delta.proofs.shape_changes.delta1.Goals as goal

-- ---- nothing changes

pub returns-then-len-eq0-clause-vertices : goal.returns-then-len-eq0-clause-vertices
returns-then-len-eq0-clause-vertices g c =
    let a : Vertices = c.args.a.now in
    let da : Vertices = vertices_of c.args.da in
    let none : da.rows ≡ [] = no_rows da (sym c.len.ensures ∙ c.if-len-eq0.true) in
    let dim : c.empty.result.dim ≡ op1_dim c.args.op.now a.dim = c.empty.ensures.dim ∙ c.dim_of.ensures ∙ ap (op1_dim c.args.op.now) (c.dim.ensures ∙ c.requires.same_dim) in
    nothing_is c.args.op.now a da c.empty.result c.requires.fits none dim c.empty.ensures.rows

pub returns-then-len-eq0-clause-cells : goal.returns-then-len-eq0-clause-cells
returns-then-len-eq0-clause-cells g c = shape_change_cells c.args.op.now c.args.a.now (vertices_of c.args.da) c.empty.result (returns-then-len-eq0-clause-vertices g c)

pub returns-then-len-eq0-clause-carries : goal.returns-then-len-eq0-clause-carries
returns-then-len-eq0-clause-carries g c = shape_change_carries c.args.op.now c.args.a.now (vertices_of c.args.da) c.empty.result c.requires.fits (returns-then-len-eq0-clause-vertices g c)

pub returns-then-len-eq0-clause-range : goal.returns-then-len-eq0-clause-range
returns-then-len-eq0-clause-range g c =
    let a : Vertices = c.args.a.now in
    let da : Vertices = vertices_of c.args.da in
    let none : da.rows ≡ [] = no_rows da (sym c.len.ensures ∙ c.if-len-eq0.true) in
    let fits : in_range c.args.op.now a.dim (changed_cells a da) ≡ true = ap (in_range c.args.op.now a.dim) (stays a da none) ∙ c.requires.stands in
    (λ e. cc, λ h. absurd (true≢false (sym fits ∙ h)))

-- ---- a projection

pub returns-in_ok-projection_near-in-Proj-clause-dim : goal.returns-in_ok-projection_near-in-Proj-clause-dim
returns-in_ok-projection_near-in-Proj-clause-dim g c =
    let a : Vertices = c.args.a.now in
    let da : Vertices = vertices_of c.args.da in
    shape_change_dim c.args.op.now a da c.in_ok-projection_near-in-Proj.field-0 (c.in_ok-projection_near-in-Proj.ensures.part ∙ ap (λ (o : Op1). shape_change o a da) (sym c.in-Proj.is))

pub returns-in_ok-projection_near-in-Proj-clause-cells : goal.returns-in_ok-projection_near-in-Proj-clause-cells
returns-in_ok-projection_near-in-Proj-clause-cells g c =
    let a : Vertices = c.args.a.now in
    let da : Vertices = vertices_of c.args.da in
    shape_change_cells c.args.op.now a da c.in_ok-projection_near-in-Proj.field-0 (c.in_ok-projection_near-in-Proj.ensures.part ∙ ap (λ (o : Op1). shape_change o a da) (sym c.in-Proj.is))

pub returns-in_ok-projection_near-in-Proj-clause-carries : goal.returns-in_ok-projection_near-in-Proj-clause-carries
returns-in_ok-projection_near-in-Proj-clause-carries g c =
    let a : Vertices = c.args.a.now in
    let da : Vertices = vertices_of c.args.da in
    shape_change_carries c.args.op.now a da c.in_ok-projection_near-in-Proj.field-0 c.requires.fits (c.in_ok-projection_near-in-Proj.ensures.part ∙ ap (λ (o : Op1). shape_change o a da) (sym c.in-Proj.is))

-- ---- another shape

pub returns-in_default-clause-vertices : goal.returns-in_default-clause-vertices
returns-in_default-clause-vertices g c =
    let a : Vertices = c.args.a.now in
    let da : Vertices = vertices_of c.args.da in
    IfOk-weaker c.shape.result (λ s. s ≡ shape_vertices c.args.op.now da) (λ s. s ≡ shape_change c.args.op.now a da)
    (λ s e. carried_is c.args.op.now a da s c.in_default.not-Proj c.requires.same_dim c.requires.fits e) c.shape.ensures.vertices

pub returns-in_default-clause-dim : goal.returns-in_default-clause-dim
returns-in_default-clause-dim g c =
    let a : Vertices = c.args.a.now in
    let da : Vertices = vertices_of c.args.da in
    IfOk-weaker c.shape.result (λ s. s ≡ shape_change c.args.op.now a da) (λ s. s.dim ≡ op1_dim c.args.op.now a.dim) (λ s e. shape_change_dim c.args.op.now a da s e) (returns-in_default-clause-vertices g c)

pub returns-in_default-clause-cells : goal.returns-in_default-clause-cells
returns-in_default-clause-cells g c =
    let a : Vertices = c.args.a.now in
    let da : Vertices = vertices_of c.args.da in
    IfOk-weaker c.shape.result (λ s. s ≡ shape_change c.args.op.now a da) (λ s. cells_of s ≡ xor_cells s.dim (shape_before c.args.op.now a) (shape_after c.args.op.now a da))
    (λ s e. shape_change_cells c.args.op.now a da s e) (returns-in_default-clause-vertices g c)

pub returns-in_default-clause-carries : goal.returns-in_default-clause-carries
returns-in_default-clause-carries g c =
    let a : Vertices = c.args.a.now in
    let da : Vertices = vertices_of c.args.da in
    IfOk-weaker c.shape.result (λ s. s ≡ shape_change c.args.op.now a da) (λ s. xor_cells s.dim (shape_before c.args.op.now a) (cells_of s) ≡ shape_after c.args.op.now a da)
    (λ s e. shape_change_carries c.args.op.now a da s c.requires.fits e) (returns-in_default-clause-vertices g c)

range_follows : (P : Type 0) (x y : Bool) → x ≡ y → P ↔ (x ≡ false) → P ↔ (y ≡ false)
range_follows P x y e h = (λ p. sym e ∙ h.0 p, λ q. h.1 (e ∙ q))

pub returns-in_default-clause-range : goal.returns-in_default-clause-range
returns-in_default-clause-range g c =
    let a : Vertices = c.args.a.now in
    let da : Vertices = vertices_of c.args.da in
    range_follows _ (in_range c.args.op.now da.dim (cells_of da)) (in_range c.args.op.now a.dim (changed_cells a da)) (range_is c.args.op.now a da c.requires.same_dim c.requires.stands) c.shape.ensures.range
