use Rattle.std.proofs.Common.{◌≡◌, ℕ, ◌+◌, ◌<◌, ℤ, drop, subst, to_z, of_z, w32, ap, ◌∙◌, rules}
use Rattle.evm_model.specs.Reports.{end_from}
use Rattle.evm_session.specs.Reported.{pick_of}
use Rattle.evm_session.proofs.Reporting.{next_end}
use Rattle.evm_session.proofs.reports.end_on.Goals as goal

pub loop-row-preserved : goal.loop-row-preserved
loop-row-preserved c =
    let pick = pick_of c.args.end in
    let rows = c.args.solid.now.rows in
    let found = to_z w32 c.loop-row.found-bits in
    let read : to_z w32 (of_z w32 c.pick-found.result) ≡ c.pick-found.result = search rules in
    let next : to_z w32 (of_z w32 c.coord.result) ≡ c.coord.result = search rules in
    ap (λ (x : ℤ). end_from pick c.args.axis x (drop (c.loop-row.row + 1) rows)) (read ∙ c.pick-found.ensures ∙ ap (λ (y : ℤ). pick found y) next)
    ∙ next_end pick c.args.axis rows c.loop-row.row found c.coord.result (subst (λ (n : ℕ). c.loop-row.row < n) c.len-row-end.ensures c.loop-row-test.true) c.coord.ensures
    ∙ c.loop-row.invariant
