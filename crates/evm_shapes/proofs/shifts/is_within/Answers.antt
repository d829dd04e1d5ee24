use Rattle.std.proofs.Common.{◌≡◌, ◌∙◌, ℤ, pos, ◌-ℤ◌, int_le, true, false}
use Rattle.evm_shapes.proofs.Shifted.{within_low, within_no, limit_fits, same64}
use Rattle.evm_shapes.proofs.shifts.is_within.Goals as goal

pub returns-then-limit-x : goal.returns-then-limit-x
returns-then-limit-x c =
    let l : ℤ = c.limit_of-limit.result in
    let f = limit_fits c.args.dim l c.limit_of-limit.ensures in
    let h : int_le (pos 0 -ℤ l) c.args.x ≡ true = rw (same64 c.args.x c.ranges.x, same64 l f.0, same64 (pos 0 -ℤ l) f.1) at c.if-limit-x.true in
    rw (same64 c.args.x c.ranges.x, same64 l f.0) (within_low c.args.dim c.args.x l c.limit_of-limit.ensures h)

pub returns-else-limit-x : goal.returns-else-limit-x
returns-else-limit-x c =
    let l : ℤ = c.limit_of-limit.result in
    let f = limit_fits c.args.dim l c.limit_of-limit.ensures in
    let h : int_le (pos 0 -ℤ l) c.args.x ≡ false = rw (same64 c.args.x c.ranges.x, same64 l f.0, same64 (pos 0 -ℤ l) f.1) at c.if-limit-x.false in
    rw (same64 c.args.x c.ranges.x, same64 l f.0, same64 (pos 0 -ℤ l) f.1) (h ∙ within_no c.args.dim c.args.x l c.limit_of-limit.ensures h)
