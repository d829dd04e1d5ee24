use Rattle.std.proofs.Common.{◌++◌, take, length, codes, decimal}
use Rattle.evm_model.specs.Replies.{line_of}
use Rattle.evm_session.specs.Counted.{cut_lines, cuts_reply}
use Rattle.evm_session.proofs.Rows.{says_failed}
use Rattle.evm_session.proofs.Counting.{extends_headed}
use Rattle.evm_session.proofs.replies.say_cuts.Goals as goal

pub returns-in_err-say_cut : goal.returns-in_err-say_cut
returns-in_err-say_cut c =
    says_failed c.from_residual-in_err-say_cut.result c.args.out.now.items c.say_cut.new.out.items (cuts_reply c.args.cuts.now) c.from_residual-in_err-say_cut.ensures.0
    (extends_headed c.args.out.now.items (line_of (codes "ok " ++ decimal (length c.args.cuts.now))) (cut_lines (take c.loop-cut.cut-index c.args.cuts.now)) c.loop-cut.out.items c.say_cut.new.out.items c.loop-cut.invariant c.in_err-say_cut.ensures)
