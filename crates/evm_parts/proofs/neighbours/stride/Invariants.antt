use Rattle.std.proofs.Common.{◌-◌, ◌<◌}
use Rattle.evm_parts.proofs.neighbours.stride.Given as goal

abbrev pub invariant-loop-ahead : goal.invariant-loop-ahead
invariant-loop-ahead l = 0 < l.ahead

abbrev pub decreases-loop-ahead : goal.decreases-loop-ahead
decreases-loop-ahead l = (l.fn.stretch.end - l.fn.stretch.start) - l.ahead
