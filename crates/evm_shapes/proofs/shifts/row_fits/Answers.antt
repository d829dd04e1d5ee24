use Rattle.std.proofs.Common.{arith, rules, get_or, pos, ℕ, ℤ, ◌+ℤ◌, ◌≡◌, ◌<◌, length, sym, true, false}
use Rattle.evm_cells.specs.Limits.{is_point_coord}
use Rattle.evm_shapes.proofs.Shifted.{test_more, test_fails, test_passes, point-added, shift_parts, same64}
use Rattle.evm_shapes.proofs.shifts.row_fits.Goals as goal

pub loop-k-init : goal.loop-k-init
loop-k-init c = point-added (length c.args.row.now) c.args.by.now c.args.row.now (shift_parts (length c.args.row.now) c.args.by.now c.requires.shift) (search rules)

pub returns-then-not-is_within : goal.returns-then-not-is_within
returns-then-not-is_within c =
    let n : ℕ = length c.args.row.now in
    let x : ℤ = get_or c.args.row.now c.loop-k.k (pos 0) +ℤ get_or c.args.by.now c.loop-k.k (pos 0) in
    let t : false ≡ is_point_coord n x = rw (same64 c.sum.result (search rules), c.sum.ensures) at c.if-not-is_within.ensures in
    let e : length c.args.by.now ≡ n = shift_parts n c.args.by.now c.requires.shift in
    let l : c.loop-k.k < length c.args.by.now = let m = c.loop-k-test.true in omega arith in
    test_fails n c.args.by.now c.args.row.now c.loop-k.k _ l c.loop-k-test.true (sym t) c.loop-k.invariant

pub loop-k-preserved : goal.loop-k-preserved
loop-k-preserved c =
    let n : ℕ = length c.args.row.now in
    let x : ℤ = get_or c.args.row.now c.loop-k.k (pos 0) +ℤ get_or c.args.by.now c.loop-k.k (pos 0) in
    let t : true ≡ is_point_coord n x = rw (same64 c.sum.result (search rules), c.sum.ensures) at c.if-not-is_within.ensures in
    let e : length c.args.by.now ≡ n = shift_parts n c.args.by.now c.requires.shift in
    let l : c.loop-k.k < length c.args.by.now = let m = c.loop-k-test.true in omega arith in
    test_more n c.args.by.now c.args.row.now c.loop-k.k _ l c.loop-k-test.true (sym t) c.loop-k.invariant

pub returns : goal.returns
returns c = test_passes (length c.args.row.now) c.args.by.now c.args.row.now c.loop-k.k _ (let l = c.loop-k-test.false in omega arith) c.loop-k.invariant
