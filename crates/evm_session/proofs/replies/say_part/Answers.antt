use Rattle.evm_rows.specs.View.{vertices_of}
use Rattle.evm_session.proofs.Counting.{says_part}
use Rattle.evm_session.proofs.replies.say_part.Goals as goal

pub returns : goal.returns
returns c =
    says_part (vertices_of c.args.part) c.say_rows.result c.len.result c.in_ok-cells.cells c.args.out.now.items
    c.say.new.out.items c.say_count.new.out.items c.say-2.new.out.items c.say_count-2.new.out.items c.say-3.new.out.items c.say_rows.new.out.items
    c.args.part.vertices c.len.ensures c.in_ok-cells.ensures
    c.in_ok-say.ensures c.in_ok-say_count.ensures c.in_ok-say-2.ensures c.in_ok-say_count-2.ensures c.in_ok-say-3.ensures c.say_rows.ensures
