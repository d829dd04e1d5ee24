use Rattle.std.specs.Prelude.{drop}
use Rattle.evm_scene.specs.Tables.{reads_at}
use Rattle.evm_scene.specs.Orders.{Parted}
use Rattle.evm_scene.proofs.reorder.part.Given as goal

abbrev pub invariant-loop-x : goal.invariant-loop-x
invariant-loop-x l = Parted (reads_at l.table.entries) l.order l.name l.front.items l.reach.keys (drop l.x-index l.later)
