-- Content and boundary content are small, and the rows are the extreme vertices of their cells.
use Rattle.std.proofs.Common.{◌≡◌, ℕ, ◌<◌, ◌≤◌, ◌^◌, ap, sym, ◌∙◌, arith, Result, Ok, Err}
use Rattle.std.specs.Result.{IfOk}
use Rattle.evm_cells.specs.Localities.{Content, Boundary}
use Rattle.evm_rows.specs.View.{vertices_of}
use Rattle.evm_rows.specs.declared.solid.Rows.{Rows}
use Rattle.evm_meter.specs.Meters.{measure_named, measured}
use Rattle.evm_meter.proofs.Readings.{measured_fits, rows_counted}
use Rattle.evm_meter.proofs.stock.reading_of.Goals as goal

few_where : {E : Type 0} (r : Result ℕ E) (m : ℕ) → m < 2 ^ 127 → IfOk r (λ n. n ≡ m) → IfOk r (λ n. n < 2 ^ 127)
few_where (Ok n) m l e = omega (arith, l, e)
few_where (Err x) m l e = tt

narrow_view : (r : Rows) → (vertices_of r).dim ≤ 6
narrow_view r = let n = r.narrow in omega (arith, n)

pub returns-in-Content-clause-few : goal.returns-in-Content-clause-few
returns-in-Content-clause-few c =
    few_where c.content.result (measured Content (vertices_of c.args.solid)) (measured_fits Content (vertices_of c.args.solid) (narrow_view c.args.solid)) c.content.ensures

pub returns-in-Boundary-clause-few : goal.returns-in-Boundary-clause-few
returns-in-Boundary-clause-few c =
    few_where c.boundary.result (measured Boundary (vertices_of c.args.solid)) (measured_fits Boundary (vertices_of c.args.solid) (narrow_view c.args.solid)) c.boundary.ensures

pub returns-in-Vertices-clause-measure : goal.returns-in-Vertices-clause-measure
returns-in-Vertices-clause-measure c =
    c.len.ensures
    ∙ rows_counted (vertices_of c.args.solid) c.args.solid.vertices
    ∙ ap (λ k. measured (measure_named k) (vertices_of c.args.solid)) (sym c.in-Vertices.is)
