use Rattle.std.proofs.Common.{◌≡◌, Option, Some, sym, ap, ◌∙◌, subst}
use Rattle.evm_scene.specs.declared.node.Node.{Node}
use Rattle.evm_scene.specs.Tables.{node_at, node_dim, dim_at, NodeSized}
use Rattle.evm_scene.proofs.Views.{dim_is}
use Rattle.evm_scene.proofs.formulas.solid_of.Goals as goal

pub returns-clause-dim : goal.returns-clause-dim
returns-clause-dim c =
    let at : node_at c.args.table.now.entries c.args.name.now ≡ Some c.in-Some.node.now = sym c.in-Some.ensures.value in
    (subst (λ (o : Option Node). NodeSized o (dim_at c.args.table.now.entries)) at (c.requires.sized c.args.name.now)).1
    ∙ sym (dim_is c.args.table.now.entries c.args.name.now ∙ ap node_dim at)
