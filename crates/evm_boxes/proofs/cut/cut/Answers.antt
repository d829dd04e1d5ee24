use Rattle.std.proofs.Common.{◌<◌, length, arith}
use Rattle.evm_boxes.proofs.Cuts.{sides_of}
use Rattle.evm_boxes.proofs.cut.cut.Goals as goal

pub returns-then-len-most-2 : goal.returns-then-len-most-2
returns-then-len-most-2 c =
    let fewer_low : length c.in_ok-low.low.items < length c.args.rows.now = omega arith in
    let fewer_high : length c.in_ok-high.high.items < length c.args.rows.now = omega arith in
    sides_of c.args.dim c.args.plane.axis c.args.plane.at c.args.rows.now c.in_ok-low.low.items c.in_ok-high.high.items fewer_low fewer_high c.in_ok-low.ensures c.in_ok-high.ensures
