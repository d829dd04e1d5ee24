use Rattle.std.proofs.Common.{◌+◌, ◌*◌}
use Rattle.evm_tiles.specs.Trees.{node_count}
use Rattle.evm_tiles.proofs.node.+changed.Given as goal

abbrev pub decreases-changed : goal.decreases-changed
decreases-changed l = node_count l.tree.now.value + 3 * l.fuel
