use Rattle.std.proofs.Common.{ℤ, ap, ◌∙◌}
use Rattle.evm_rows.proofs.BoxTests.{same32}
use Rattle.evm_tiles.specs.declared.node.Node.TheVariants.{Cut}
use Rattle.evm_tiles.proofs.Trees.{cut_well, cut_cells, cut_count}
use Rattle.evm_tiles.proofs.node.cut.Goals as goal

pub returns-clause-well : goal.returns-clause-well
returns-clause-well c =
    cut_well c.args._dim c.args.axis c.args.at c.args.low c.args.high _
    (c.in_ok-node.ensures.ok ∙ ap (λ (z : ℤ). Cut c.args.axis z c.args.low c.args.high) (same32 c.args.at c.ranges.at)) c.requires.between c.requires.under c.requires.over c.requires.low c.requires.high

pub returns-clause-cells : goal.returns-clause-cells
returns-clause-cells c =
    cut_cells c.args._dim _ c.args.axis c.args.at c.args.low c.args.high
    (c.in_ok-node.ensures.ok ∙ ap (λ (z : ℤ). Cut c.args.axis z c.args.low c.args.high) (same32 c.args.at c.ranges.at))

pub returns-clause-count : goal.returns-clause-count
returns-clause-count c =
    cut_count c.args.axis c.args.at c.args.low c.args.high _
    (c.in_ok-node.ensures.ok ∙ ap (λ (z : ℤ). Cut c.args.axis z c.args.low c.args.high) (same32 c.args.at c.ranges.at))
