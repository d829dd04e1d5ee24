use Rattle.std.proofs.Common.{ap, ◌∙◌}
use Rattle.evm_rows.specs.View.{vertices_of}
use Rattle.evm_model.specs.Figures.{xor_of}
use Rattle.evm_formulas.specs.Stated.{figure_of}
use Rattle.evm_formulas.proofs.Figures.{figure_set, xor_made, xor_back}
use Rattle.evm_formulas.proofs.solids.exclusive_or.Goals as goal

pub returns-clause-value : goal.returns-clause-value
returns-clause-value c =
    xor_made c.args.a.now c.args.b.now (vertices_of c.rows.result) (vertices_of c.rows-2.result) c.in_ok-made.made c.rows.ensures c.rows-2.ensures c.requires
    c.in_ok-made.ensures.dim c.in_ok-made.ensures.cells

pub returns-clause-back : goal.returns-clause-back
returns-clause-back c =
    ap (xor_of (figure_of c.args.a.now)) (returns-clause-value c)
    ∙ xor_back (figure_of c.args.a.now) (figure_of c.args.b.now) c.requires (figure_set c.args.a.now) (figure_set c.args.b.now)
