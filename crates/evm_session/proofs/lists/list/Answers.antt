use Rattle.std.proofs.Common.{refl}
use Rattle.evm_model.specs.Replies.{Listed}
use Rattle.evm_model.specs.Steps.{stays}
use Rattle.evm_session.proofs.Turns.{carried}
use Rattle.evm_session.proofs.Listing.{list_text}
use Rattle.evm_session.proofs.lists.list.Goals as goal

pub returns : goal.returns
returns g c =
    let scene = c.args.scene.now in
    carried scene scene c.args.out.now.items c.say_entries.new.out.items (Listed scene.entries) (stays scene (Listed scene.entries)) refl
    (list_text scene.entries c.count.result c.args.out.now.items c.say_number.new.out.items c.say_entries.new.out.items c.count.ensures c.in_ok-say_number.ensures c.in_ok-say_entries.ensures) refl
