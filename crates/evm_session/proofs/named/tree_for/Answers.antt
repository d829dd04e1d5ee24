use Rattle.evm_session.proofs.Slicing.{tree_found}
use Rattle.evm_session.proofs.named.tree_for.Goals as goal

pub returns-clause-tree : goal.returns-clause-tree
returns-clause-tree g c =
    tree_found c.args.scene.now c.args.name.now c.in-Some.tree.now c.facts.ensures c.in-Some.ensures.value.0 c.in-Some.ensures.value.1 c.in-Some.ensures.dim
