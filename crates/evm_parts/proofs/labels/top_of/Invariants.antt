use Rattle.std.proofs.Common.{◌<◌, length}
use Rattle.evm_parts.specs.Parents.{AreHigher, IsAbove}
use Rattle.evm_parts.proofs.labels.top_of.Given as goal

abbrev pub invariant-loop-parents : goal.invariant-loop-parents
invariant-loop-parents l = record {
  within : l.at < length l.parents;
  higher : AreHigher l.fn.parents l.parents;
  above : IsAbove l.fn.parents l.from l.at;
}

abbrev pub decreases-loop-parents : goal.decreases-loop-parents
decreases-loop-parents l = l.at
