use Rattle.std.proofs.Common.{arith, ◌∙◌, ap, drop}
use Rattle.std.proofs.lemmas.Bool.Decides.{nat_tests}
use Rattle.evm_voxels.proofs.Params.{cut_first, cut_found, cut_more, cut_none}
use Rattle.evm_voxels.proofs.y4m.cut_at.Goals as goal

pub loop-i-init : goal.loop-i-init
loop-i-init c = cut_first c.args.stop c.args.bytes.now

pub returns-then-b-stop : goal.returns-then-b-stop
returns-then-b-stop c = cut_found c.args.stop c.loop-i.i c.args.bytes.now _ _ c.loop-i-test.true c.if-b-stop.true c.loop-i.invariant c.split_at.ensures.front (c.split_at-then-b-stop.ensures.back ∙ ap (drop 1) c.split_at.ensures.back)

pub loop-i-preserved : goal.loop-i-preserved
loop-i-preserved c = cut_more c.args.stop c.loop-i.i c.args.bytes.now c.loop-i-test.true (grind (arith, nat_tests)) c.loop-i.invariant

pub returns : goal.returns
returns c = cut_none c.args.stop c.loop-i.i c.args.bytes.now (omega arith) c.loop-i.invariant
