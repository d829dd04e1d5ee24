use Rattle.std.proofs.Common.{◌≡◌, List, ℤ, IfOk, ap, subst, ◌∙◌}
use Rattle.evm_cells.specs.Measures.{content}
use Rattle.evm_tiles.specs.Trees.{node_cells}
use Rattle.evm_tiles.proofs.Showing.{cells_shown}
use Rattle.evm_tiles.proofs.tiles.Tiles.content.Goals as goal

pub returns : goal.returns
returns c =
    subst (λ (S : List (List ℤ)). IfOk c.content.result (λ n. n ≡ content S))
    (ap (node_cells c.self.inside.dim) c.deref.ensures ∙ cells_shown c.self.inside.dim c.self.inside.root.value c.args.self.now c.self.view_is) c.content.ensures
