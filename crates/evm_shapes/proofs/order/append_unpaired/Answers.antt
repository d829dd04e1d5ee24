use Rattle.std.proofs.Common.{arith}
use Rattle.evm_shapes.proofs.Sorted.{out_pair, out_one, out_done}
use Rattle.evm_shapes.proofs.order.append_unpaired.Goals as goal

pub loop-i-preserved-then-is_paired : goal.loop-i-preserved-then-is_paired
loop-i-preserved-then-is_paired c =
    let h = out_pair c.args.rows.now c.loop-i.i c.loop-i.out.items _ c.loop-i-test.true c.if-is_paired.ensures c.loop-i.invariant.so_far in
    record { within = h.0; so_far = h.1 }

pub loop-i-preserved : goal.loop-i-preserved
loop-i-preserved c = record {
  within = let l = c.loop-i-test.true in omega arith;
  so_far = out_one c.args.rows.now c.loop-i.i _ _ _ _ c.loop-i-test.true c.if-is_paired.ensures c.in_ok-extend_from_slice.ensures.items c.loop-i.invariant.so_far;
}

pub returns : goal.returns
returns c = out_done c.args.rows.now c.loop-i.i _ _ (let l = c.loop-i-test.false in omega arith) c.loop-i.invariant.so_far
