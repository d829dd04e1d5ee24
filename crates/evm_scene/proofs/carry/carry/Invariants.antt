use Rattle.std.specs.Prelude.{drop, take}
use Rattle.evm_scene.proofs.Walks.{Walk}
use Rattle.evm_scene.proofs.Steps.{Within}
use Rattle.evm_scene.proofs.carry.carry.Given as goal

abbrev pub invariant-loop-x : goal.invariant-loop-x
invariant-loop-x g l =
    Walk l.table.entries l.front l.name l.initial.pending.entries l.pending.entries (drop l.x-index l.later)
    × Within l.table.entries l.name l.initial.pending.entries l.initial.steps l.steps (take l.x-index l.later)
