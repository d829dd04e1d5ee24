use Rattle.std.proofs.Common.{arith, refl}
use Rattle.evm_voxels.proofs.BlockLaws.{line_push, line_ends}
use Rattle.evm_voxels.proofs.blocks.append_bits.Goals as goal

pub loop-z-preserved : goal.loop-z-preserved
loop-z-preserved c = record {
  within = omega arith;
  so_far = line_push _ _ _ _ _ _ _ c.loop-z.z (omega arith) refl c.loop-z.invariant.so_far c.in_ok-append_if.ensures;
}

pub returns : goal.returns
returns c = line_ends _ _ _ c.args.column c.args.words.now c.loop-z.z c.loop-z.invariant.within (omega arith) c.loop-z.invariant.so_far
