use Rattle.std.proofs.Common.{arith, ℕ, ap, ap₂, sym, ◌∙◌}
use Rattle.evm_cells.specs.Booleans.{xor_cells}
use Rattle.evm_rows.specs.Rows.{Vertices, cells_of}
use Rattle.evm_tiles.specs.Trees.{node_cells, is_well}
use Rattle.evm_tiles.proofs.Trees.{halves, cut_cells, leaf_dim, leaf_cells, low_smaller, high_smaller}
use Rattle.evm_tiles.proofs.node.Node.+whole.Goals as goal

pub whole-requires : goal.whole-requires
whole-requires t c =
    let h = halves c.args._dim c.args.self.now c.in-Cut.axis c.in-Cut.at c.in-Cut.low c.in-Cut.high c.in-Cut.is c.requires in
    (let f = low_smaller c.args.self.now c.deref.result.now c.in-Cut.axis c.in-Cut.at c.in-Cut.low c.in-Cut.high c.in-Cut.is c.deref.ensures in let d = c.decreases in omega (arith, f, d), ap (is_well c.args._dim) c.deref.ensures ∙ h.first)

pub whole-requires-in-Cut : goal.whole-requires-in-Cut
whole-requires-in-Cut t c =
    let h = halves c.args._dim c.args.self.now c.in-Cut.axis c.in-Cut.at c.in-Cut.low c.in-Cut.high c.in-Cut.is c.requires in
    (let f = high_smaller c.args.self.now c.deref-in-Cut.result.now c.in-Cut.axis c.in-Cut.at c.in-Cut.low c.in-Cut.high c.in-Cut.is c.deref-in-Cut.ensures in let d = c.decreases in omega (arith, f, d), ap (is_well c.args._dim) c.deref-in-Cut.ensures ∙ h.second)

pub returns-in_ok-made-in-Leaf-clause-dim : goal.returns-in_ok-made-in-Leaf-clause-dim
returns-in_ok-made-in-Leaf-clause-dim t c = ap (λ (v : Vertices). v.dim) c.in_ok-made-in-Leaf.ensures ∙ leaf_dim c.args._dim c.args.self.now c.in-Leaf.solid c.in-Leaf.most c.in-Leaf.is c.requires

pub returns-in_ok-made-in-Leaf-clause-cells : goal.returns-in_ok-made-in-Leaf-clause-cells
returns-in_ok-made-in-Leaf-clause-cells t c = ap cells_of c.in_ok-made-in-Leaf.ensures ∙ sym (leaf_cells c.args._dim c.args.self.now c.in-Leaf.solid c.in-Leaf.most c.in-Leaf.is c.requires)

pub returns-in_ok-made-in-Cut-clause-cells : goal.returns-in_ok-made-in-Cut-clause-cells
returns-in_ok-made-in-Cut-clause-cells t c =
    c.in_ok-made-in-Cut.ensures.cells
    ∙ ap (λ (m : ℕ). xor_cells m (cells_of c.in_ok-below-in-Cut.below) (cells_of c.in_ok-above-in-Cut.above)) c.in_ok-below-in-Cut.ensures.dim
    ∙ ap₂ (λ A B. xor_cells c.args._dim A B) (c.in_ok-below-in-Cut.ensures.cells ∙ ap (node_cells c.args._dim) c.deref.ensures) (c.in_ok-above-in-Cut.ensures.cells ∙ ap (node_cells c.args._dim) c.deref-in-Cut.ensures)
    ∙ sym (cut_cells c.args._dim c.args.self.now c.in-Cut.axis c.in-Cut.at c.in-Cut.low c.in-Cut.high c.in-Cut.is)
