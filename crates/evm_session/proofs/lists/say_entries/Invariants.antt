use Rattle.std.proofs.Common.{◌≡◌, ◌++◌, take}
use Rattle.evm_model.specs.Replies.{entries_text}
use Rattle.evm_session.proofs.lists.say_entries.Given as goal

abbrev pub invariant-loop-k : goal.invariant-loop-k
invariant-loop-k g l = l.out.items ≡ l.fn.out.items ++ entries_text (take l.k l.scene.entries)
