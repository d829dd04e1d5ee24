use Rattle.evm_scene.proofs.Slotted.{watched_free, scene_free, kept_empty}
use Rattle.evm_scene.proofs.scene.Scene.new.Goals as goal

pub invariant_of-result : goal.invariant_of-result
invariant_of-result g c = (
  kept_empty _ _ c.new.ensures.empty c.new-2.ensures.items,
  watched_free g.M.Meter.kind c.args.meters.items _ _ c.in_ok-new.ensures,
)

pub returns : goal.returns
returns g c = scene_free g.M.Meter.kind c.args.meters.items _ _ c.new.ensures.empty c.in_ok-new.ensures
