-- The figures of nodes.
use Rattle.std.proofs.Common.{Option, None, Some}
use Rattle.evm_cells.specs.Limits.{IsCellSet}
use Rattle.evm_scene.specs.declared.node.Node.{Node}
use Rattle.evm_scene.specs.Tables.{node_figure}
use Rattle.evm_formulas.proofs.Figures.{figure_set, nothing_set}

-- the figure of a node, or of none, is a cell set
pub node_set : (n : Option Node) → IsCellSet (node_figure n).dim (node_figure n).cells
node_set None = nothing_set 0
node_set (Some n) = figure_set n.solid
