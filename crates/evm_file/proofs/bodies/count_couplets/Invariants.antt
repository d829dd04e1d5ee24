use Rattle.std.proofs.Common.{◌≡◌, ◌+◌, length}
use Rattle.evm_file.proofs.bodies.count_couplets.Given as goal

abbrev pub invariant-loop-count : goal.invariant-loop-count
invariant-loop-count l = l.count + length l.ahead.left ≡ length l.fn.walk.left

abbrev pub decreases-loop-count : goal.decreases-loop-count
decreases-loop-count l = length l.ahead.left
