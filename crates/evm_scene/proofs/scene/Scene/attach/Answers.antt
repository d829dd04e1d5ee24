use Rattle.std.proofs.Common.{subst}
use Rattle.evm_model.specs.Scene.{Scene}
use Rattle.evm_scene.specs.Watched.{watched_scene, Attaches}
use Rattle.evm_scene.proofs.Views.{kept_is_value}
use Rattle.evm_scene.proofs.scene.Scene.attach.Goals as goal

pub attach-requires-clause-values : goal.attach-requires-clause-values
attach-requires-clause-values g c = kept_is_value c.self.inside.table.entries c.self.inside.order.items c.self.invariant.0

pub returns : goal.returns
returns g c =
    subst (λ (s : Scene). Attaches c.attach.result s (watched_scene c.self.inside.table.entries c.attach.new.slots) c.args.slot c.args.name.now) c.self.view_is c.attach.ensures.attaches
