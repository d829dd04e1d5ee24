use Rattle.std.proofs.Common.{◌∙◌, sym}
use Rattle.evm_scene.proofs.Installed.{cycle_is}
use Rattle.evm_scene.proofs.defined.free_parts.Goals as goal

pub returns-then-reads_reach : goal.returns-then-reads_reach
returns-then-reads_reach c =
    sym (cycle_is _ _ _ _ _ c.args.formula.now c.requires.kept c.in_ok-parts.ensures c.requires.present) ∙ sym c.reads_reach.ensures ∙ c.if-reads_reach.true

pub returns : goal.returns
returns c =
    (sym (cycle_is _ _ _ _ _ c.args.formula.now c.requires.kept c.in_ok-parts.ensures c.requires.present) ∙ sym c.reads_reach.ensures ∙ c.if-reads_reach.false, c.in_ok-parts.ensures)
