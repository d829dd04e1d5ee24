use Rattle.std.proofs.Common.{◌≡◌, Ok, false, arith, rules}
use Rattle.evm_cells.specs.Limits.{limit}
use Rattle.evm_formats.specs.Images.{Taken}
use Rattle.evm_formats.specs.Y4m.{planes_at, frame_at}
use Rattle.evm_formats.proofs.Lengths.{frame_takes}
use Rattle.evm_voxels.proofs.y4m.read_frame.Goals as goal

pub returns-clause-shorter : goal.returns-clause-shorter
unfolding planes_at frame_at limit
returns-clause-shorter c =
    let t : Taken = record { picture = record { bytes = c.split_at.result.0.now; wide = false }; rest = c.split_at-2.result.1.now } in
    let there : frame_at c.args.dim c.args.number c.args.size.width c.args.size.height c.args.extra c.args.bytes.now ≡ Ok t = search rules in
    omega (arith, frame_takes c.args.dim c.args.number c.args.size.width c.args.size.height c.args.extra c.args.bytes.now t there)
