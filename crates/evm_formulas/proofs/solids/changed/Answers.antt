use Rattle.std.proofs.Common.{refl, ap, ◌∙◌}
use Rattle.evm_model.specs.Figures.{same_figure}
use Rattle.evm_formulas.specs.Stated.{figure_of}
use Rattle.evm_formulas.proofs.Figures.{figure_set, changed_made, xor_same, xor_moves}
use Rattle.evm_formulas.proofs.solids.changed.Goals as goal

pub returns-clause-value : goal.returns-clause-value
returns-clause-value c =
    changed_made c.args.own.now c.args.delta.now c.args.delta.now c.in_ok-made.made refl c.in_ok-made.ensures.dim c.in_ok-made.ensures.cells

pub returns-clause-same : goal.returns-clause-same
returns-clause-same c none = returns-clause-value c ∙ xor_same (figure_of c.args.own.now) (figure_of c.args.delta.now) none (figure_set c.args.own.now)

pub returns-clause-moves : goal.returns-clause-moves
returns-clause-moves c some =
    ap (same_figure (figure_of c.args.own.now)) (returns-clause-value c)
    ∙ xor_moves (figure_of c.args.own.now) (figure_of c.args.delta.now) c.requires (figure_set c.args.own.now) (figure_set c.args.delta.now) some
