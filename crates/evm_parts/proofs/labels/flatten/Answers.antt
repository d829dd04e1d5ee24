use Rattle.std.proofs.Common.{refl, arith}
use Rattle.evm_parts.proofs.Parents.{flat_start, flat_more}
use Rattle.evm_parts.proofs.labels.flatten.Goals as goal

pub loop-index-init : goal.loop-index-init
loop-index-init c = flat_start c.args.parents.now

pub loop-index-preserved : goal.loop-index-preserved
loop-index-preserved c = flat_more c.args.parents.now c.loop-index.parents _ c.loop-index.index c.requires c.loop-index.invariant (omega arith) refl
