use Rattle.std.proofs.Common.{◌≡◌, ◌+◌, length}
use Rattle.evm_rows.specs.View.{vertices_of}
use Rattle.evm_steps.specs.Cuts.{cuts_of}
use Rattle.evm_steps.proofs.slabs.pass_slabs.Given as goal

abbrev pub invariant-loop-couplet : goal.invariant-loop-couplet
invariant-loop-couplet g l = l.steps + length l.walk.left ≡ l.initial.steps + length (cuts_of (vertices_of l.fn.a))

abbrev pub decreases-loop-couplet : goal.decreases-loop-couplet
decreases-loop-couplet g l = length l.walk.left
