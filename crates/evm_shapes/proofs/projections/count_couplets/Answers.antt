use Rattle.std.proofs.Common.{◌≡◌, ◌+◌, ◌≤◌, ℤ, List, length, ap, arith, rules}
use Rattle.evm_rows.specs.Rows.{rows_of}
use Rattle.evm_rows.specs.View.{vertices_of}
use Rattle.evm_rows.specs.declared.solid.Rows.{Rows}
use Rattle.evm_sections.specs.Couplets.{couplets_of}
use Rattle.evm_shapes.proofs.United.{popped, given_none, couplets-few, rows-few}
use Rattle.evm_shapes.proofs.projections.count_couplets.Goals as goal

pub loop-walk-init : goal.loop-walk-init
loop-walk-init c =
    let a = c.args.a in
    let V : List (List ℤ) = rows_of a.flat.now a.width a.skip in
    let e : length c.of-walk.result.left ≡ length (couplets_of V) = ap length c.of-walk.ensures.left in
    let f = couplets-few V in
    let g = rows-few a.flat.now a.width a.skip a.left a.whole in
    record { so_far = omega arith; few = omega arith }

pub overflow_add-count : goal.overflow_add-count
overflow_add-count c =
    let l = popped c.next_couplet.result (λ (p : ℤ × Rows). (p.0, (vertices_of p.1).rows)) c.loop-walk.walk.left c.next_couplet.new.self.left c.next_couplet.ensures.some c.loop-walk-test.ensures in
    let b = c.loop-walk.invariant.few in
    let m : c.loop-walk.count + 1 ≤ length c.args.a.flat.now = omega arith in
    search rules

pub loop-walk-preserved : goal.loop-walk-preserved
loop-walk-preserved c =
    let l = popped c.next_couplet.result (λ (p : ℤ × Rows). (p.0, (vertices_of p.1).rows)) c.loop-walk.walk.left c.next_couplet.new.self.left c.next_couplet.ensures.some c.loop-walk-test.ensures in
    let a = c.loop-walk.invariant.so_far in
    let b = c.loop-walk.invariant.few in
    record { so_far = omega arith; few = omega arith }

pub loop-walk-smaller : goal.loop-walk-smaller
loop-walk-smaller c =
    let l = popped c.next_couplet.result (λ (p : ℤ × Rows). (p.0, (vertices_of p.1).rows)) c.loop-walk.walk.left c.next_couplet.new.self.left c.next_couplet.ensures.some c.loop-walk-test.ensures in
    omega arith

pub returns : goal.returns
returns c =
    let e : length c.loop-walk.walk.left ≡ 0 = ap length (given_none c.next_couplet.result c.loop-walk.walk.left c.next_couplet.ensures.none c.loop-walk-test.ensures) in
    let a = c.loop-walk.invariant.so_far in
    omega arith
