use Rattle.std.proofs.Common.{◌≡◌, ◌+◌, List, ℤ, IfOk, ap, ap₂, sym, subst, ◌∙◌, arith}
use Rattle.evm_cells.specs.Measures.{content}
use Rattle.evm_cells.specs.Vertices.{cells}
use Rattle.evm_rows.specs.Rows.{Vertices}
use Rattle.evm_tiles.specs.Trees.{node_cells, is_well}
use Rattle.evm_tiles.proofs.Contents.{content_of_cut, content_of_node}
use Rattle.evm_tiles.proofs.Trees.{halves, leaf_cells, low_smaller, high_smaller}
use Rattle.evm_tiles.proofs.node.Node.+content.Goals as goal

pub content-requires-in-Cut : goal.content-requires-in-Cut
content-requires-in-Cut t c =
    let h = halves c.args._dim c.args.self.now c.in-Cut.axis c.in-Cut.at c.in-Cut.low c.in-Cut.high c.in-Cut.is c.requires.well in (
      let f = low_smaller c.args.self.now c.deref.result.now c.in-Cut.axis c.in-Cut.at c.in-Cut.low c.in-Cut.high c.in-Cut.is c.deref.ensures in let d = c.decreases in omega (arith, f, d),
      (c.requires.high, ap (is_well c.args._dim) c.deref.ensures ∙ h.first),
    )

pub content-requires-in-Cut-2 : goal.content-requires-in-Cut-2
content-requires-in-Cut-2 t c =
    let h = halves c.args._dim c.args.self.now c.in-Cut.axis c.in-Cut.at c.in-Cut.low c.in-Cut.high c.in-Cut.is c.requires.well in (
      let f = high_smaller c.args.self.now c.deref-in-Cut.result.now c.in-Cut.axis c.in-Cut.at c.in-Cut.low c.in-Cut.high c.in-Cut.is c.deref-in-Cut.ensures in let d = c.decreases in omega (arith, f, d),
      (c.requires.high, ap (is_well c.args._dim) c.deref-in-Cut.ensures ∙ h.second),
    )

pub overflow_add-result : goal.overflow_add-result
overflow_add-result t c =
    let a : c.in_ok-below-in-Cut.below ≡ content (node_cells c.args._dim c.in-Cut.low.value) = c.in_ok-below-in-Cut.ensures ∙ ap (λ x. content (node_cells c.args._dim x)) c.deref.ensures in
    let b : c.in_ok-above-in-Cut.above ≡ content (node_cells c.args._dim c.in-Cut.high.value) = c.in_ok-above-in-Cut.ensures ∙ ap (λ x. content (node_cells c.args._dim x)) c.deref-in-Cut.ensures in
    let s = content_of_cut c.args._dim c.args.self.now c.in-Cut.axis c.in-Cut.at c.in-Cut.low c.in-Cut.high c.in-Cut.is c.requires.well in
    let few = content_of_node c.args._dim c.args.self.now c.requires.high in
    omega (arith, a, b, s, few)

pub returns-in-Leaf : goal.returns-in-Leaf
returns-in-Leaf t c =
    let own = subst (λ (v : Vertices). IfOk c.content.result (λ n. n ≡ content (cells v.dim v.rows))) c.rows.ensures c.content.ensures in
    subst (λ (S : List (List ℤ)). IfOk c.content.result (λ n. n ≡ content S)) (sym (leaf_cells c.args._dim c.args.self.now c.in-Leaf.solid c.in-Leaf.most c.in-Leaf.is c.requires.well)) own

pub returns-in_ok-above-in-Cut : goal.returns-in_ok-above-in-Cut
returns-in_ok-above-in-Cut t c =
    ap₂ (λ x y. x + y)
    (c.in_ok-below-in-Cut.ensures ∙ ap (λ x. content (node_cells c.args._dim x)) c.deref.ensures)
    (c.in_ok-above-in-Cut.ensures ∙ ap (λ x. content (node_cells c.args._dim x)) c.deref-in-Cut.ensures)
    ∙ content_of_cut c.args._dim c.args.self.now c.in-Cut.axis c.in-Cut.at c.in-Cut.low c.in-Cut.high c.in-Cut.is c.requires.well
