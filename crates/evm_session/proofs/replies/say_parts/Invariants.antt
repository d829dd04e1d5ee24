use Rattle.std.proofs.Common.{◌≡◌, ◌++◌, take, length, codes, decimal}
use Rattle.evm_model.specs.Replies.{line_of}
use Rattle.evm_session.specs.Counted.{parts_lines}
use Rattle.evm_session.proofs.replies.say_parts.Given as goal

abbrev pub invariant-loop-index : goal.invariant-loop-index
invariant-loop-index l = l.out.items ≡ (l.fn.out.items ++ line_of (codes "ok " ++ decimal (length l.parts.parts))) ++ parts_lines l.parts.dim (take l.index l.parts.parts)
