use Rattle.std.proofs.Common.{◌-◌, ◌∙◌, arith}
use Rattle.evm_cells.proofs.Universe.{cell_set-cells}
use Rattle.evm_cutting.proofs.Planes.{under_box_at, under_part}
use Rattle.evm_cutting.proofs.sides.under.Goals as goal

pub clip-requires : goal.clip-requires
clip-requires c =
    let a = c.args.a in
    let r = c.requires in
    under_box_at (a.width - a.skip) _ c.args.axis c.args.at c.limit-limit.result c.dim-dim.ensures (omega (arith, a.narrow)) (record { axis = r.axis; low = r.low; high = r.high }) c.limit-limit.ensures c.ranges.at

pub returns-clause-cells : goal.returns-clause-cells
returns-clause-cells c =
    let a = c.args.a in
    let r = c.requires in
    c.in_ok-part.ensures.cells ∙ under_part _ _ c.args.axis c.args.at c.limit-limit.result _ c.dim-dim.ensures (omega (arith, a.narrow)) (record { axis = r.axis; low = r.low; high = r.high }) c.limit-limit.ensures c.ranges.at (cell_set-cells _ _)
