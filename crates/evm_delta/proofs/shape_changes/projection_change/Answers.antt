use Rattle.std.proofs.Common.{◌≡◌, ◌-◌, ℕ, [], sym, ap, ◌∙◌}
use Rattle.evm_rows.specs.Rows.{Vertices}
use Rattle.evm_rows.specs.View.{vertices_of}
use Rattle.evm_delta.specs.declared.shapes.Op1.TheVariants.{Proj}
use Rattle.evm_delta.proofs.Deltas.{no_rows}
use Rattle.evm_delta.proofs.Carried.{nothing_is, shape_change_dim, shape_change_carries}
use Rattle.evm_delta.proofs.shape_changes.projection_change.Goals as goal

pub returns-then-len-eq0-clause-vertices : goal.returns-then-len-eq0-clause-vertices
returns-then-len-eq0-clause-vertices g c =
    let a : Vertices = c.args.a.now in
    let da : Vertices = vertices_of c.args.da in
    let none : da.rows ≡ [] = no_rows da (sym c.len.ensures ∙ c.if-len-eq0.true) in
    let dim : c.empty.result.dim ≡ a.dim - 1 = c.empty.ensures.dim ∙ ap (λ (n : ℕ). n - 1) (c.dim.ensures ∙ c.requires.same_dim) in
    nothing_is (Proj c.args.axis) a da c.empty.result c.requires.fits none dim c.empty.ensures.rows

pub returns-then-len-eq0-clause-carries : goal.returns-then-len-eq0-clause-carries
returns-then-len-eq0-clause-carries g c =
    shape_change_carries (Proj c.args.axis) c.args.a.now (vertices_of c.args.da) c.empty.result c.requires.fits (returns-then-len-eq0-clause-vertices g c)

pub returns-clause-dim : goal.returns-clause-dim
returns-clause-dim g c = shape_change_dim (Proj c.args.axis) c.args.a.now (vertices_of c.args.da) c.in_ok-made.made c.in_ok-made.ensures.part

pub returns-clause-carries : goal.returns-clause-carries
returns-clause-carries g c = shape_change_carries (Proj c.args.axis) c.args.a.now (vertices_of c.args.da) c.in_ok-made.made c.requires.fits c.in_ok-made.ensures.part
