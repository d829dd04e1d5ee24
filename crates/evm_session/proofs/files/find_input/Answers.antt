use Rattle.std.proofs.Common.{◌≤◌, ℕ, sym, subst}
use Rattle.evm_session.proofs.Slicing.{deep_enough, shallow_enough}
use Rattle.evm_session.proofs.files.find_input.Goals as goal

pub returns-clause-low : goal.returns-clause-low
returns-clause-low g c =
    subst (λ (n : ℕ). 2 ≤ n) (sym c.in-Some.ensures.1) (deep_enough c.args.scene.now c.args.name.now c.facts.ensures c.in-Some.ensures.0)

pub returns-clause-high : goal.returns-clause-high
returns-clause-high g c =
    subst (λ (n : ℕ). n ≤ 6) (sym c.in-Some.ensures.1) (shallow_enough c.args.scene.now c.args.name.now c.facts.ensures c.in-Some.ensures.0)
