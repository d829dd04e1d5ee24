use Rattle.std.proofs.Common.{◌++◌, take, length, codes, decimal}
use Rattle.evm_model.specs.Replies.{line_of}
use Rattle.evm_session.specs.Counted.{parts_lines, parts_reply}
use Rattle.evm_session.proofs.Rows.{says_failed}
use Rattle.evm_session.proofs.Counting.{extends_headed}
use Rattle.evm_session.proofs.replies.say_parts.Goals as goal

pub returns-in_err-say_part : goal.returns-in_err-say_part
returns-in_err-say_part c =
    let found = c.args.parts.now in
    says_failed c.from_residual-in_err-say_part.result c.args.out.now.items c.say_part.new.out.items (parts_reply found.dim found.parts) c.from_residual-in_err-say_part.ensures.0
    (extends_headed c.args.out.now.items (line_of (codes "ok " ++ decimal (length found.parts))) (parts_lines found.dim (take c.loop-index.index found.parts)) c.loop-index.out.items c.say_part.new.out.items c.loop-index.invariant c.in_err-say_part.ensures)
