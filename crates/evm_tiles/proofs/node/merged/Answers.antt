use Rattle.std.proofs.Common.{ℕ, ap, ap₂, sym, ◌∙◌}
use Rattle.evm_cells.specs.Booleans.{xor_cells}
use Rattle.evm_rows.specs.Rows.{cells_of}
use Rattle.evm_tiles.proofs.Trees.{leaf_dim, leaf_cells}
use Rattle.evm_tiles.proofs.node.merged.Goals as goal

pub both-requires : goal.both-requires
both-requires c =
    leaf_dim c.args._dim c.args.high.now c.in-Leaf-high.b c.in-Leaf-high.most c.in-Leaf-high.is c.requires.high
    ∙ sym (leaf_dim c.args._dim c.args.low.now c.in-Leaf.a c.in-Leaf.most c.in-Leaf.is c.requires.low)

pub returns-clause-dim : goal.returns-clause-dim
returns-clause-dim c = c.in_ok-all.ensures.dim ∙ leaf_dim c.args._dim c.args.low.now c.in-Leaf.a c.in-Leaf.most c.in-Leaf.is c.requires.low

pub returns-clause-cells : goal.returns-clause-cells
returns-clause-cells c =
    c.in_ok-all.ensures.cells
    ∙ ap (λ (m : ℕ). xor_cells m (cells_of c.in-Leaf.a) (cells_of c.in-Leaf-high.b)) (leaf_dim c.args._dim c.args.low.now c.in-Leaf.a c.in-Leaf.most c.in-Leaf.is c.requires.low)
    ∙ ap₂ (λ A B. xor_cells c.args._dim A B)
    (sym (leaf_cells c.args._dim c.args.low.now c.in-Leaf.a c.in-Leaf.most c.in-Leaf.is c.requires.low))
    (sym (leaf_cells c.args._dim c.args.high.now c.in-Leaf-high.b c.in-Leaf-high.most c.in-Leaf-high.is c.requires.high))
