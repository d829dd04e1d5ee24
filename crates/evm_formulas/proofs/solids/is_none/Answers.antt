use Rattle.std.proofs.Common.{eqb-true, eq-eqb, ◌∙◌, sym}
use Rattle.evm_formulas.proofs.Figures.{no_vertices}
use Rattle.evm_formulas.proofs.solids.is_none.Goals as goal

pub returns : goal.returns
returns c =
    let both = no_vertices c.args.solid.now c.facts.ensures.solid.vertices in
    (λ h. both.0 (sym c.len.ensures ∙ eqb-true c.len.result 0 h), λ e. eq-eqb c.len.result 0 (c.len.ensures ∙ both.1 e))
