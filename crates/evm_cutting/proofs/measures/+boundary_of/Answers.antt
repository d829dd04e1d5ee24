use Rattle.std.proofs.Common.{IfSome, subst, arith, ◌≤◌, ◌≡◌, ◌+◌, ◌*◌, ◌-◌, ap, refl, w32, SFits, rules, ℕ}
use Rattle.evm_cells.specs.Measures.{boundary, content}
use Rattle.evm_measure.proofs.Sums.{boundary-fits}
use Rattle.evm_sections.proofs.Bits.{same32}
use Rattle.evm_rows.specs.Rows.{Vertices, cells_of}
use Rattle.evm_cutting.specs.Seams.{shared_cells}
use Rattle.evm_cutting.specs.Splits.{IsSplit}
use Rattle.evm_cutting.proofs.Measured.{boundary_split}
use Rattle.evm_cutting.proofs.measures.+boundary_of.Goals as goal

pub faces_between-requires-clause-deep : goal.faces_between-requires-clause-deep
faces_between-requires-clause-deep t c =
    let i : IsSplit c.args.solid c.in-Some.made = subst (λ o. IfSome o (IsSplit c.args.solid)) c.in-Some.is c.in_ok-halves.ensures in
    let e : 3 ≤ c.rows.result.width - c.rows.result.skip = c.if-is_swept.ensures refl in
    let d : c.rows.result.width - c.rows.result.skip ≡ c.args.solid.dim = ap (λ (v : Vertices). v.dim) c.rows.ensures in
    omega (arith, e, d, i.low_dim)

pub overflow_add-result : goal.overflow_add-result
overflow_add-result t c =
    let l = c.in-Some.made.low in
    let h = c.in-Some.made.high in
    let i : IsSplit c.args.solid c.in-Some.made = subst (λ o. IfSome o (IsSplit c.args.solid)) c.in-Some.is c.in_ok-halves.ensures in
    let d : c.rows.result.width - c.rows.result.skip ≡ c.args.solid.dim = ap (λ (v : Vertices). v.dim) c.rows.ensures in
    let n = c.rows.result.narrow in
    omega (
      arith,
      c.in_ok-low-in-Some.ensures,
      c.in_ok-high-in-Some.ensures,
      boundary-fits l.dim l.rows (omega (arith, n, d, i.low_dim)),
      boundary-fits h.dim h.rows (omega (arith, n, d, i.high_dim)),
    )

-- the two sides have together the faces of the whole, and those in the plane
parts : (t : ℕ) (c : goal.In_ok-high-in-Some t) → c.in_ok-low-in-Some.low + c.in_ok-high-in-Some.high ≡ boundary c.args.solid.dim (cells_of c.args.solid) + c.in_ok-hidden-in-Some.hidden
parts t c =
    let s = c.in-Some.made in
    let fits : SFits w32 s.at = search rules in
    let i : IsSplit c.args.solid s = subst (λ o. IfSome o (IsSplit c.args.solid)) c.in-Some.is c.in_ok-halves.ensures in
    let e : 3 ≤ c.rows.result.width - c.rows.result.skip = c.if-is_swept.ensures refl in
    let d : c.rows.result.width - c.rows.result.skip ≡ c.args.solid.dim = ap (λ (v : Vertices). v.dim) c.rows.ensures in
    let k : c.in_ok-hidden-in-Some.hidden ≡ 2 * content (shared_cells s.axis s.at s.low s.high) = rw (same32 s.at fits) at c.in_ok-hidden-in-Some.ensures in
    omega (arith, k, c.in_ok-low-in-Some.ensures, c.in_ok-high-in-Some.ensures, boundary_split c.args.solid s i (omega (arith, e, d)))

pub overflow_sub-result : goal.overflow_sub-result
overflow_sub-result t c = omega (arith, parts t c)

pub returns-in_ok-high-in-Some : goal.returns-in_ok-high-in-Some
returns-in_ok-high-in-Some t c = omega (arith, parts t c)
