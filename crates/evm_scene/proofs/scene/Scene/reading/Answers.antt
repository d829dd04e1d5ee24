use Rattle.std.proofs.Common.{◌≡◌, ℕ, Option, pos, ap, ◌∙◌, subst}
use Rattle.std.specs.Prelude.{option_map}
use Rattle.evm_model.specs.Scene.{Scene, reading}
use Rattle.evm_scene.proofs.Views.{kept_is_value}
use Rattle.evm_scene.proofs.Slotted.{reads_value}
use Rattle.evm_scene.proofs.scene.Scene.reading.Goals as goal

pub returns : goal.returns
returns g c =
    let t = c.self.inside.table.entries in
    subst (λ (s : Scene). c.reading.result ≡ option_map pos (reading s (pos c.args.slot))) c.self.view_is
    (c.reading.ensures
    ∙ ap (λ (o : Option ℕ). option_map pos o) (reads_value t c.self.inside.slots c.args.slot (kept_is_value t c.self.inside.order.items c.self.invariant.0) c.self.invariant.1))
