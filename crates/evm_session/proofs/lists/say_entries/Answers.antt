use Rattle.std.proofs.Common.{take}
use Rattle.evm_model.specs.Replies.{entries_text}
use Rattle.evm_session.proofs.Rows.{says_failed, extends_more}
use Rattle.evm_session.proofs.Listing.{entries_more}
use Rattle.evm_session.proofs.lists.say_entries.Goals as goal

pub returns-in_err-say_entry : goal.returns-in_err-say_entry
returns-in_err-say_entry g c =
    says_failed c.from_residual.result c.args.out.now.items c.say_entry.new.out.items (entries_text c.args.scene.now.entries) c.from_residual.ensures.0
    (extends_more c.args.out.now.items c.loop-k.out.items c.say_entry.new.out.items (entries_text (take c.loop-k.k c.args.scene.now.entries)) c.loop-k.invariant c.in_err-say_entry.ensures)

pub loop-k-preserved : goal.loop-k-preserved
loop-k-preserved g c =
    entries_more c.args.scene.now.entries c.loop-k.k c.name_at.result.now c.args.out.now.items c.loop-k.out.items c.say_entry.new.out.items c.facts.ensures.names c.name_at.ensures c.loop-k.invariant c.in_ok-say_entry.ensures
