use Rattle.std.proofs.Common.{◌≡◌, ◌∙◌, ℕ, ap, ap₂, sym, subst}
use Rattle.evm_cells.specs.Booleans.{xor_cells}
use Rattle.evm_cells.proofs.Universe.{cell_set-cells}
use Rattle.evm_rows.specs.Rows.{Vertices, cells_of}
use Rattle.evm_tiles.specs.Trees.{node_cells}
use Rattle.evm_tiles.proofs.Parts.{xor_other}
use Rattle.evm_tiles.proofs.Trees.{cell_set-node}
use Rattle.evm_tiles.proofs.node.leaf_changed.Goals as goal

pub returns-in-Some-plane_between-clause-cells : goal.returns-in-Some-plane_between-clause-cells
returns-in-Some-plane_between-clause-cells c =
    let n : ℕ = c.args.d.now.dim in
    let m = c.dim-in-Some-plane_between.ensures in
    let other : node_cells n c.in_ok-other-2.other.value ≡ cells_of c.args.d.now =
    subst (λ (v : Vertices). node_cells v.dim c.in_ok-other-2.other.value ≡ cells_of v) c.in_ok-copy-2.ensures c.in_ok-other-2.ensures.cells in
    sym (ap (λ (k : ℕ). node_cells k c.in_ok-node-2.node.value) m) ∙ c.in_ok-node-2.ensures.cells
    ∙ ap (λ (k : ℕ). xor_cells k (node_cells k c.in_ok-other-2.other.value) (node_cells k c.in_ok-own-2.own.value)) m
    ∙ ap₂ (λ X Y. xor_cells n X Y) other (ap (node_cells n) c.in_ok-own-2.ensures.cases)
    ∙ xor_other n (cells_of c.args.d.now) (node_cells n c.args.tree.now.value) (cell_set-cells n c.args.d.now.rows) (cell_set-node n c.args.tree.now.value)
