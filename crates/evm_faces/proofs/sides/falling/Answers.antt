use Rattle.std.proofs.Common.{◌-◌, ℤ, ap₂, ◌∙◌}
use Rattle.evm_cells.specs.Vertices.{evm}
use Rattle.evm_rows.specs.View.{vertices_of}
use Rattle.evm_faces.specs.Faces.{only_cells}
use Rattle.evm_rows.proofs.BoxTests.{same32}
use Rattle.evm_faces.proofs.Beyond.{same_below, below_fits}
use Rattle.evm_faces.proofs.sides.falling.Goals as goal

pub overflow_sub-at : goal.overflow_sub-at
overflow_sub-at c = below_fits (c.args.a.width - c.args.a.skip) c.args.at c.requires.height c.ranges.at

pub returns-clause-rows : goal.returns-clause-rows
returns-clause-rows c =
    let a = c.args.a in
    c.in_ok-face.ensures.rows ∙ ap₂ (λ (h k : ℤ). evm (a.width - a.skip - 1) (only_cells c.args.axis h k (vertices_of a))) (same_below (a.width - a.skip) c.args.at c.requires.height c.ranges.at) (same32 c.args.at c.ranges.at)

pub returns-clause-cells : goal.returns-clause-cells
returns-clause-cells c =
    let a = c.args.a in
    c.in_ok-face.ensures.cells ∙ ap₂ (λ (h k : ℤ). only_cells c.args.axis h k (vertices_of a)) (same_below (a.width - a.skip) c.args.at c.requires.height c.ranges.at) (same32 c.args.at c.ranges.at)
