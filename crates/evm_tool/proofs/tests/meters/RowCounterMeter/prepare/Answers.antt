use Rattle.std.proofs.Common.{◌≡◌, ℕ, ◌+◌, ◌-◌, Some, sym, ap, ◌∙◌, arith}
use Rattle.evm_cells.specs.Localities.{VertexCount}
use Rattle.evm_rows.specs.View.{vertices_of}
use Rattle.evm_meter.specs.Meters.{moved_by, measured}
use Rattle.evm_meter.proofs.Readings.{rows_counted}
use Rattle.evm_tool.proofs.tests.meters.RowCounterMeter.prepare.Goals as goal

pub returns-clause-ok : goal.returns-clause-ok
returns-clause-ok c =
    let before = vertices_of c.args.before in
    let after = vertices_of c.args.after in
    let was = rows_counted before c.args.before.vertices in
    let now = rows_counted after c.args.after.vertices in
    let sum : c.saturating_sub.result ≡ c.in-Some.reading + measured VertexCount after - measured VertexCount before =
    omega (arith, was, now, c.len.ensures, c.len-2.ensures, c.in-Some-checked_add.ensures, c.saturating_sub.ensures) in
    ap (λ (n : ℕ). Some n) sum ∙ ap (moved_by VertexCount before after) (sym c.in-Some.is)
