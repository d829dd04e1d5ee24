use Rattle.std.proofs.Common.{subst}
use Rattle.evm_model.specs.Scene.{IsWell}
use Rattle.evm_scene.proofs.Slotted.{well_watched}
use Rattle.evm_scene.proofs.scene.Scene.facts.Goals as goal

pub returns : goal.returns
returns g c =
    subst IsWell c.self.view_is
    (well_watched c.self.inside.table.entries c.self.inside.order.items c.self.inside.slots c.self.invariant.0 c.self.invariant.1 c.len-count.ensures.unique)
