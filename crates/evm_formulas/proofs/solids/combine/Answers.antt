use Rattle.std.proofs.Common.{◌∙◌}
use Rattle.evm_rows.specs.View.{vertices_of}
use Rattle.evm_formulas.proofs.Figures.{combine_made}
use Rattle.evm_formulas.proofs.solids.combine.Goals as goal

pub returns-clause-value : goal.returns-clause-value
returns-clause-value g c =
    combine_made c.args.a.now c.args.b.now (vertices_of c.rows-in_default-2.result) (vertices_of c.rows-in_default-3.result) c.in_ok-made-in_default.made
    (c.rows-in_default-2.ensures ∙ c.in_ok-left.ensures) (c.rows-in_default-3.ensures ∙ c.in_ok-right.ensures) c.requires
    c.args.op c.in_ok-made-in_default.ensures.dim c.in_ok-made-in_default.ensures.cells
