use Rattle.std.proofs.Common.{sym, subst, ◌∙◌, true≢false}
use Rattle.evm_formulas.specs.Changes.{IsStill}
use Rattle.evm_formulas.proofs.Figures.{still_change}
use Rattle.evm_scene.specs.Works.{IsMoving}
use Rattle.evm_scene.proofs.Costs.{moving_change}
use Rattle.evm_scene.proofs.carry.is_still.Goals as goal

pub returns-in-Some-clause-still : goal.returns-in-Some-clause-still
returns-in-Some-clause-still c none = subst IsStill c.in-Some.ensures.value (still_change c.in-Some.change.now (c.is_none.ensures.0 none))

pub returns-in-Some-clause-moves : goal.returns-in-Some-clause-moves
returns-in-Some-clause-moves c some =
    subst IsMoving c.in-Some.ensures.value (moving_change c.in-Some.change.now (λ e. true≢false (sym (c.is_none.ensures.1 e) ∙ some)))
