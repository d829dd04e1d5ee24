use Rattle.std.proofs.Common.{subst}
use Rattle.evm_rows.specs.Rows.{Vertices}
use Rattle.evm_model.specs.Replies.{rows_text}
use Rattle.evm_session.specs.Says.{Says}
use Rattle.evm_session.proofs.Rows.{says_shown}
use Rattle.evm_session.proofs.replies.say_solid.Goals as goal

pub returns : goal.returns
returns c =
    says_shown c.args.solid.now c.say_rows.result c.dim.result c.len.result c.args.out.now.items
    c.say.new.out.items c.say_count.new.out.items c.say-2.new.out.items c.say_count-2.new.out.items c.say-3.new.out.items c.say_rows.new.out.items
    c.facts.ensures.vertices c.dim.ensures c.len.ensures
    c.in_ok-say.ensures c.in_ok-say_count.ensures c.in_ok-say-2.ensures c.in_ok-say_count-2.ensures c.in_ok-say-3.ensures
    (subst (λ (v : Vertices). Says c.say_rows.result c.say-3.new.out.items c.say_rows.new.out.items (rows_text v.rows)) c.rows.ensures c.say_rows.ensures)
