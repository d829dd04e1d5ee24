use Rattle.std.proofs.Common.{pos, ◌+◌, ◌-◌, arith, rules}
use Rattle.evm_voxels.proofs.Layers.{heads_are}
use Rattle.evm_voxels.proofs.BlockLaws.{plane_step, plane_ends, one_less_line}
use Rattle.evm_voxels.proofs.blocks.append_plane.Goals as goal

pub loop-left-preserved : goal.loop-left-preserved
loop-left-preserved c = record {
  lines = omega arith;
  whole = one_less_line c.loop-left.left c.args.line _ _ (omega arith) c.loop-left.invariant.whole c.split_at.ensures.back_len;
  so_far = plane_step c.args.x c.loop-left.y (c.loop-left.y + 1) c.args.column c.args.line c.loop-left.left (c.loop-left.left - 1) c.loop-left.rest.now _ _ _ c.loop-left.out.items _ _ (omega arith) (omega arith) c.split_at.ensures.front c.split_at.ensures.back c.loop-left.invariant.so_far c.in_ok-append_bits.ensures (heads_are (pos c.args.x) (pos c.loop-left.y) (search rules) (search rules));
}

pub returns : goal.returns
returns c = plane_ends c.args.x c.loop-left.y c.args.column c.args.line c.loop-left.left c.loop-left.rest.now c.loop-left.out.items _ (omega arith) c.loop-left.invariant.so_far
