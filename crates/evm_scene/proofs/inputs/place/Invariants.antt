use Rattle.std.specs.Prelude.{◌≡◌, false, take}
use Rattle.evm_model.specs.Orders.{is_among}
use Rattle.evm_scene.proofs.inputs.place.Given as goal

abbrev pub invariant-loop-at : goal.invariant-loop-at
invariant-loop-at l = is_among l.name (take l.at l.order) ≡ false
