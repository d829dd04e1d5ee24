use Rattle.std.proofs.Common.{◌≡◌, ℕ, length, Some, refl, ap, ◌∙◌, arith}
use Rattle.evm_rows.specs.View.{vertices_of}
use Rattle.evm_meter.proofs.Readings.{rows_counted}
use Rattle.evm_tool.proofs.tests.meters.RowCounterMeter.begin.Goals as goal

pub returns-clause-ok : goal.returns-clause-ok
returns-clause-ok c =
    let solid = vertices_of c.args.solid in
    let all : c.loop-count.count ≡ length solid.rows = omega (arith, c.loop-count.invariant, c.len.ensures, c.loop-count-test.false) in
    (ap (λ (n : ℕ). Some n) (all ∙ rows_counted solid c.args.solid.vertices), refl)
