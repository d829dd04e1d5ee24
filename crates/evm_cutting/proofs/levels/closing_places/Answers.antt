use Rattle.std.proofs.lemmas.Result.{IfOk-weaker}
use Rattle.evm_cutting.proofs.levels.closing_places.Goals as goal

pub returns-then-width-skip-le4-clause-odd : goal.returns-then-width-skip-le4-clause-odd
returns-then-width-skip-le4-clause-odd c = IfOk-weaker c.reduced_by_keys.result _ _ (λ v r. record { rises = r.ascends; members = r.odd_times }) c.reduced_by_keys.ensures.rows
