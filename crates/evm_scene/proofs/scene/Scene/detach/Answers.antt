use Rattle.std.proofs.Common.{◌≡◌, ℕ, Option, pos, ap, ◌∙◌, subst}
use Rattle.std.specs.Prelude.{option_map, MatchOption}
use Rattle.evm_model.specs.Scene.{Scene, reading, detached}
use Rattle.evm_scene.specs.Watched.{watched_scene}
use Rattle.evm_scene.proofs.Views.{kept_is_value}
use Rattle.evm_scene.proofs.Slotted.{reads_value}
use Rattle.evm_scene.proofs.Handed.{watched_gone, scene_gone}
use Rattle.evm_scene.proofs.scene.Scene.detach.Goals as goal

pub invariant_of-self : goal.invariant_of-self
invariant_of-self g c = (
  c.self.invariant.0,
  watched_gone c.detach.result c.self.inside.table.entries c.self.inside.slots c.detach.new.self c.args.slot c.self.invariant.1 c.detach.ensures.gone,
)

pub returns-clause-value : goal.returns-clause-value
returns-clause-value g c =
    let t = c.self.inside.table.entries in
    subst (λ (s : Scene). c.detach.result ≡ option_map pos (reading s (pos c.args.slot))) c.self.view_is
    (c.detach.ensures.value
    ∙ ap (λ (o : Option ℕ). option_map pos o) (reads_value t c.self.inside.slots c.args.slot (kept_is_value t c.self.inside.order.items c.self.invariant.0) c.self.invariant.1))

pub returns-clause-gone : goal.returns-clause-gone
returns-clause-gone g c =
    let t = c.self.inside.table.entries in
    subst (λ (s : Scene). MatchOption c.detach.result (watched_scene t c.detach.new.self ≡ s) (λ n. watched_scene t c.detach.new.self ≡ detached s (pos c.args.slot))) c.self.view_is
    (scene_gone c.detach.result t c.self.inside.slots c.detach.new.self c.args.slot c.detach.ensures.gone)
