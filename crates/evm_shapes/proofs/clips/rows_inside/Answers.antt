use Rattle.std.proofs.Common.{◌-◌, arith}
use Rattle.evm_cells.proofs.Insides.{box_lengths}
use Rattle.evm_shapes.proofs.clips.rows_inside.Goals as goal

pub bounds-hi-0 : goal.bounds-hi-0
bounds-hi-0 c =
    let e = (box_lengths (c.args.a.width - c.args.a.skip) c.args.lo.now c.args.hi.now c.requires).1 in
    omega (arith, c.args.a.left, e)
