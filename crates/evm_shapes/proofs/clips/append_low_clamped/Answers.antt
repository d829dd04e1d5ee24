use Rattle.std.proofs.Common.{arith, rules, ◌≡◌, ℤ, get_or, pos, int_le, false, true, w32, SFits}
use Rattle.evm_cells.specs.Windows.{clamped}
use Rattle.evm_cells.proofs.Clamping.{not_most}
use Rattle.evm_cells.proofs.Coords.{le_is, lt_no, lt_yes}
use Rattle.evm_rows.proofs.BoxTests.{same32}
use Rattle.evm_rows.proofs.RowsLaws.{rows_of-none}
use Rattle.evm_shapes.proofs.Closing.{low_end, low_stop, low_more}
use Rattle.evm_shapes.proofs.clips.append_low_clamped.Goals as goal

pub returns-then-hi-row : goal.returns-then-hi-row
returns-then-hi-row c =
    let row = c.split_row.result.0.now in
    let x : ℤ = get_or row 0 (pos 0) in
    let y : ℤ = get_or c.args.hi.now 0 (pos 0) in
    let fx : SFits w32 x = search rules in
    let fy : SFits w32 y = search rules in
    let h : int_le y x ≡ true = rw (same32 y fy, same32 x fx) at c.if-hi-row.true in
    low_stop y (clamped c.args.lo.now c.args.hi.now) c.loop-left.out.items _ row _ _ c.split_row.ensures.first (lt_no x y (le_is y x h)) c.loop-left.invariant.so_far

pub loop-left-preserved : goal.loop-left-preserved
loop-left-preserved c =
    let row = c.split_row.result.0.now in
    let x : ℤ = get_or row 0 (pos 0) in
    let y : ℤ = get_or c.args.hi.now 0 (pos 0) in
    let fx : SFits w32 x = search rules in
    let fy : SFits w32 y = search rules in
    let h : int_le y x ≡ false = rw (same32 y fy, same32 x fx) at c.if-hi-row.false in
    record {
      whole = c.split_row.ensures.whole;
      so_far = low_more y (clamped c.args.lo.now c.args.hi.now) c.loop-left.out.items _ _ row _ _ c.split_row.ensures.first (lt_yes x y (not_most y x h)) c.in_ok-append_clamped.ensures c.loop-left.invariant.so_far;
    }

pub returns : goal.returns
returns c =
    low_end (get_or c.args.hi.now 0 (pos 0)) (clamped c.args.lo.now c.args.hi.now) _ _ _ (rows_of-none c.loop-left.left.now c.args.a.width c.args.a.skip (let l = c.loop-left-test.false in omega arith)) c.loop-left.invariant.so_far
