-- The dimensions that nodes have.
use Rattle.std.proofs.Common.{◌≡◌, ℕ, ◌≤◌, true, List, Option, None, Some, is_some, true≢false, lit≤, sym}
use Rattle.evm_scene.specs.declared.node.Node.{Node}
use Rattle.evm_scene.specs.Tables.{node_dim, NodeSized}
use Rattle.evm_formulas.proofs.Stated.{dim_low, dim_high}

pub node_low : (n : Option Node) (dims : List ℕ → ℕ) → NodeSized n dims → is_some n ≡ true → 2 ≤ node_dim n
node_low None dims h s = absurd (true≢false (sym s))
node_low (Some n) dims h s = dim_low n.dim h.0

pub node_high : (n : Option Node) (dims : List ℕ → ℕ) → NodeSized n dims → node_dim n ≤ 6
node_high None dims h = lit≤ tt
node_high (Some n) dims h = dim_high n.dim h.0
