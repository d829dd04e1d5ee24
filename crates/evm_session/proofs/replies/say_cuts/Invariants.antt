use Rattle.std.proofs.Common.{◌≡◌, ◌++◌, take, length, codes, decimal}
use Rattle.evm_model.specs.Replies.{line_of}
use Rattle.evm_session.specs.Counted.{cut_lines}
use Rattle.evm_session.proofs.replies.say_cuts.Given as goal

abbrev pub invariant-loop-cut : goal.invariant-loop-cut
invariant-loop-cut l = l.out.items ≡ (l.fn.out.items ++ line_of (codes "ok " ++ decimal (length l.cuts))) ++ cut_lines (take l.cut-index l.cuts)
