use Rattle.std.proofs.Common.{IfSome, subst, arith, ◌≤◌, ◌^◌, ◌≡◌, ◌+◌, ◌-◌, ◌∙◌, ap, ap₂, length}
use Rattle.evm_measure.proofs.Sums.{content-fits}
use Rattle.evm_rows.specs.Rows.{Vertices, cells_of}
use Rattle.evm_cutting.specs.Splits.{IsSplit}
use Rattle.evm_cutting.proofs.Measured.{content_split}
use Rattle.evm_cutting.proofs.measures.+content_of.Goals as goal

pub overflow_add-result : goal.overflow_add-result
overflow_add-result t c =
    let i : IsSplit c.args.solid c.in-Some.made = subst (λ o. IfSome o (IsSplit c.args.solid)) c.in-Some.is c.in_ok-halves.ensures in
    let e = content_split c.args.solid c.in-Some.made i in
    let d : c.rows.result.width - c.rows.result.skip ≡ c.args.solid.dim = ap (λ (v : Vertices). v.dim) c.rows.ensures in
    let fits : length (cells_of c.args.solid) ≤ 2 ^ 120 = content-fits c.args.solid.dim c.args.solid.rows (omega (arith, c.rows.result.narrow, d)) in
    let a = c.in_ok-low-in-Some.ensures in
    let b = c.in_ok-high-in-Some.ensures in
    omega (arith, e, fits, a, b)

pub returns-in_ok-high-in-Some : goal.returns-in_ok-high-in-Some
returns-in_ok-high-in-Some t c =
    let i : IsSplit c.args.solid c.in-Some.made = subst (λ o. IfSome o (IsSplit c.args.solid)) c.in-Some.is c.in_ok-halves.ensures in
    ap₂ (λ x y. x + y) c.in_ok-low-in-Some.ensures c.in_ok-high-in-Some.ensures ∙ content_split c.args.solid c.in-Some.made i
