use Rattle.std.proofs.Common.{arith}
use Rattle.evm_shapes.specs.Keys.{unpacked}
use Rattle.evm_shapes.proofs.Sorted.{pair_out, one_out, all_out}
use Rattle.evm_shapes.proofs.keys.append_unpaired_of.Goals as goal

pub loop-i-preserved-then-is_paired : goal.loop-i-preserved-then-is_paired
loop-i-preserved-then-is_paired c =
    let h = pair_out (unpacked c.args.width) 0 c.args.keys.now c.loop-i.i c.loop-i.out.items _ c.loop-i-test.true c.if-is_paired.ensures c.loop-i.invariant.so_far in
    record { within = h.0; so_far = h.1 }

pub loop-i-preserved : goal.loop-i-preserved
loop-i-preserved c = record {
  within = let l = c.loop-i-test.true in omega arith;
  so_far = one_out (unpacked c.args.width) c.args.keys.now c.loop-i.i 0 _ _ _ c.loop-i-test.true c.if-is_paired.ensures c.in_ok-append_row.ensures c.loop-i.invariant.so_far;
}

pub returns : goal.returns
returns c = all_out (unpacked c.args.width) c.args.keys.now c.loop-i.i _ _ (let l = c.loop-i-test.false in omega arith) c.loop-i.invariant.so_far
