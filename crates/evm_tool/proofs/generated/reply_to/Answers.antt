use Rattle.evm_tool.proofs.Summaries.{lacked}
use Rattle.evm_tool.proofs.generated.reply_to.Goals as goal

pub returns-in_ok-extend_from_slice-in-Err : goal.returns-in_ok-extend_from_slice-in-Err
returns-in_ok-extend_from_slice-in-Err g c =
    lacked c.args.line.now c.clear.new.self.items c.answer.new.out.items c.extend_from_slice.new.self.items c.args.session.now c.answer.new.self _ _
    c.clear.ensures.items c.in-Err.ensures c.in_ok-extend_from_slice-in-Err.ensures.items
