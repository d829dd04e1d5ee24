use Rattle.std.proofs.Common.{◌≡◌, map, take}
use Rattle.evm_scene.specs.Watched.{prepared_by}
use Rattle.evm_scene.proofs.watched.prepare.Given as goal

abbrev pub invariant-loop-at : goal.invariant-loop-at
invariant-loop-at g l = l.slots ≡ map (prepared_by (take l.at l.pending.entries)) l.fn.slots
