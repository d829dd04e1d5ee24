use Rattle.evm_tiles.specs.Trees.{node_count}
use Rattle.evm_tiles.proofs.node.Node.+content.Given as goal

abbrev pub decreases-content : goal.decreases-content
decreases-content l = node_count l.self.now
