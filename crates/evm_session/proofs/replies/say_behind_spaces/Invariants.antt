use Rattle.std.proofs.Common.{◌≡◌, ◌++◌, take}
use Rattle.evm_session.specs.Says.{behind_spaces}
use Rattle.evm_session.proofs.replies.say_behind_spaces.Given as goal

abbrev pub invariant-loop-x : goal.invariant-loop-x
invariant-loop-x l = l.out.items ≡ l.fn.out.items ++ behind_spaces (take l.x-index l.coordinates)
